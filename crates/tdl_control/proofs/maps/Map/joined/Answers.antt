use Rattle.std.proofs.Common.{◌≡◌, ◌∙◌, ◌-◌, suc, sym, ap, arith, drop}
use Rattle.tdl_control.specs.Map.{lookup, put}
use Rattle.tdl_control.specs.Combine.{onto, combine}
use Rattle.tdl_control.specs.Value.{setting_of}
use Rattle.tdl_control.proofs.CombineLemmas.{IsSettingOf-entry, is_spelling_of, combine_step, lookup_before}
use Rattle.tdl_control.proofs.maps.Map.joined.Goals as goal

-- a key takes a word where the right map has one for it
pub join_key-requires : goal.join_key-requires
join_key-requires c =
    let key = c.entry-key.result.0 in
    is_spelling_of key _ (IsSettingOf-entry _ _ key (setting_of c.entry-key.result.1) c.entry-key.ensures.valid.typed c.entry-key.ensures.found)

-- the entry before those joined so far
pub loop-i-preserved : goal.loop-i-preserved
loop-i-preserved c =
    let op = c.args.op in
    let left = c.args.self in
    let right = c.args.right.now in
    let i = c.loop-i.i - 1 in
    let key = c.entry-key.result.0 in
    let value = setting_of c.entry-key.result.1 in
    let next : suc i ≡ c.loop-i.i = omega (arith, c.loop-i-test.true) in
    let before = c.loop-i.invariant ∙ ap (λ j. combine op left (drop j right)) (sym next) in
    let later = combine op left (drop (suc i) right) in
    c.in_ok-join_key.ensures
    ∙ ap (λ m. put m key (onto op (lookup m key) value)) before
    ∙ ap (λ u. put later key (onto op u value)) (lookup_before op left right i key value c.entry-key.ensures.valid.ordered c.entry-key.ensures.found)
    ∙ sym (combine_step op left right i key value c.entry-key.ensures.found)
