use Rattle.std.proofs.Common.{rules, set, length-set}
use Rattle.smallvec.proofs.SmallVecLemmas.{items-with_items}
use Rattle.tdl_control.specs.Setting.{IsSettingOf}
use Rattle.tdl_control.specs.Value.{setting_of}
use Rattle.tdl_control.proofs.PutLemmas.{IsMap-put}
use Rattle.tdl_control.proofs.PlaceLemmas.{entries-set}
use Rattle.tdl_control.proofs.maps.Map.write.Goals as goal

-- the entries are those of a put
pub invariant_of-self : goal.invariant_of-self
invariant_of-self c =
    let items = c.self.inside.entries.items in
    let fits : IsSettingOf c.args.entry.key (setting_of c.args.entry.value) = search rules in
    rw (
      c.deref_mut.ensures.value,
      items-with_items c.self.inside.entries (set items c.args.at c.args.entry) (length-set items c.args.at c.args.entry),
      entries-set items c.args.entry c.args.at c.self.invariant.ordered (rw c.self.view_is c.requires.here),
    ) (IsMap-put _ c.args.entry.key (setting_of c.args.entry.value) fits c.self.invariant)

pub returns : goal.returns
returns c =
    let items = c.self.inside.entries.items in
    rw (
      c.deref_mut.ensures.value,
      items-with_items c.self.inside.entries (set items c.args.at c.args.entry) (length-set items c.args.at c.args.entry),
      ← c.self.view_is,
    ) (entries-set items c.args.entry c.args.at c.self.invariant.ordered (rw c.self.view_is c.requires.here))
