use Rattle.std.proofs.Common.{◌≡◌, ℕ, List, ◌-◌, length, get_or, sym, ap, ◌∙◌}
use Rattle.std.specs.Option.{unwrap_or}
use Rattle.std.proofs.lemmas.Option.{unwrap_or-slice_get}
use Rattle.tdl_expr.specs.Passed.{AreEnds, ends_after}
use Rattle.tdl_expr.proofs.PassedLemmas.{ends_push}
use Rattle.tdl_expr.proofs.steps.StepList.push.Goals as goal
use Rattle.tdl_expr.proofs.steps.StepList.push.Goals.{in-Even+in_ok-sums_of+in-At-1, in-Even+in_ok-sums_of+in-Even-1, in_default}

pub invariant_of-self-in-At : goal.invariant_of-self-in-At
invariant_of-self-in-At c =
    let steps = c.match-self.self-inside.steps.items in
    let kept : AreEnds c.match-self.self-inside.ends steps = elim c.match-self.branch [
      | in-Even+in_ok-sums_of+in-At-1 w ↦ rw (w.self-inside-is, ← w.deref.ensures.value) w.in_ok-sums_of.ensures
      | in-Even+in_ok-sums_of+in-Even-1 w ↦ rw (w.self-inside-is, ← w.deref.ensures.value) w.in_ok-sums_of.ensures
      | in_default w ↦ rw w.self-inside-is c.self.invariant
    ] in
    let ends = c.in-At.ends.items in
    let of_steps : ends ≡ ends_after 0 steps = rw c.in-At.is at kept in
    let before : c.unwrap_or-before.result ≡ get_or ends (length ends - 1) 0 =
    c.unwrap_or-before.ensures ∙ ap (λ o. unwrap_or o 0) (c.copied.ensures ∙ c.last.ensures.value)
    ∙ unwrap_or-slice_get c.deref-in-At.result.now (length c.deref-in-At.result.now - 1) 0
    ∙ ap (λ (xs : List ℕ). get_or xs (length xs - 1) 0) c.deref-in-At.ensures.value in
    rw (c.push_reserved.ensures.items, c.in_ok-push.ensures.items, c.in_ok-reserve.ensures.items, c.saturating_add.ensures, before, of_steps)
    (sym (ends_push 0 steps c.args.step))
