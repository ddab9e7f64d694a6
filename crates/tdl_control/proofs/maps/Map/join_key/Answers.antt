use Rattle.std.proofs.Common.{◌≡◌, ◌∙◌, sym, ap, subst, rules, IfSome, Some, map}
use Rattle.tdl_control.specs.Setting.{IsSettingOf}
use Rattle.tdl_control.specs.Map.{lookup, put}
use Rattle.tdl_control.specs.Combine.{combined, onto}
use Rattle.tdl_control.specs.declared.maps.KeyValue.{KeyValue}
use Rattle.tdl_control.specs.KeyValue.{key_value_of}
use Rattle.tdl_control.specs.Value.{setting_of}
use Rattle.tdl_control.proofs.CombineLemmas.{IsSettingOf-onto, is_spelling_of}
use Rattle.tdl_control.proofs.PlaceLemmas.{lookup_read, lookup_in_gap}
use Rattle.tdl_control.proofs.PutLemmas.{IfSome-lookup}
use Rattle.tdl_control.proofs.maps.Map.join_key.Goals as goal

-- what the two values of the key make may be had by the key
pub write-requires-clause-fits : goal.write-requires-clause-fits
write-requires-clause-fits c =
    let read = lookup_read c.self.inside.entries.items c.args.key c.in-Ok.at c.index-deref-at.result c.self.invariant.ordered
    (rw c.self.view_is c.in-Ok.ensures.found) (rw c.deref.ensures at c.index-deref-at.is) in
    let left = subst (λ u. IfSome u (IsSettingOf c.args.key)) (sym read) (IfSome-lookup (map key_value_of c.self.inside.entries.items) c.args.key c.self.invariant.typed) in
    let right : IsSettingOf c.args.key (setting_of c.args.value) = search rules in
    let by = λ (e : KeyValue). combined c.args.op (setting_of e.value) (setting_of c.args.value) in
    let made : setting_of c.combined-value.result ≡ by c.index-deref-at.result = c.combined-value.ensures ∙ ap by (sym c.index-deref-at.is) in
    let old = Some (setting_of c.index-deref-at.result.value) in
    rw made (is_spelling_of c.args.key (by c.index-deref-at.result)
    (IsSettingOf-onto c.args.op c.args.key old (setting_of c.args.value) left right))

-- the key was there, and its entry is written over
pub returns-in-Ok : goal.returns-in-Ok
returns-in-Ok c =
    let read = lookup_read c.self.inside.entries.items c.args.key c.in-Ok.at c.index-deref-at.result c.self.invariant.ordered
    (rw c.self.view_is c.in-Ok.ensures.found) (rw c.deref.ensures at c.index-deref-at.is) in
    let here : Some (setting_of c.index-deref-at.result.value) ≡ lookup c.args.self.now c.args.key = rw (← c.self.view_is) read in
    let by = λ (e : KeyValue). combined c.args.op (setting_of e.value) (setting_of c.args.value) in
    c.write.ensures
    ∙ ap (put c.args.self.now c.args.key)
    (c.combined-value.ensures ∙ ap by (sym c.index-deref-at.is) ∙ ap (λ u. onto c.args.op u (setting_of c.args.value)) here)

-- the key had nothing, and the value stays
pub returns-in_ok-make_room-in-Err : goal.returns-in_ok-make_room-in-Err
returns-in_ok-make_room-in-Err c =
    rw (lookup_in_gap _ _ _ c.in-Err.ensures.absent) (rw c.make_room.ensures at c.insert.ensures.ok)
