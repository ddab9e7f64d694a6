use Rattle.std.proofs.Common.{rules}
use Rattle.tdl_control.specs.Setting.{IsSettingOf}
use Rattle.tdl_control.specs.Value.{setting_of}
use Rattle.tdl_control.proofs.PutLemmas.{IsMap-put}
use Rattle.tdl_control.proofs.PlaceLemmas.{entries-insert}
use Rattle.tdl_control.proofs.maps.Map.insert.Goals as goal

-- the entries are those of a put
pub invariant_of-self-2 : goal.invariant_of-self-2
invariant_of-self-2 c =
    let fits : IsSettingOf c.args.entry.key (setting_of c.args.entry.value) = search rules in
    rw (
      c.in_ok-insert.ensures.ok,
      entries-insert c.self.inside.entries.items c.args.entry c.args.at (rw c.self.view_is c.requires.gap),
    ) (IsMap-put _ c.args.entry.key (setting_of c.args.entry.value) fits c.self.invariant)

pub returns-clause-ok : goal.returns-clause-ok
returns-clause-ok c =
    rw (c.in_ok-insert.ensures.ok, ← c.self.view_is)
    (entries-insert c.self.inside.entries.items c.args.entry c.args.at (rw c.self.view_is c.requires.gap))
