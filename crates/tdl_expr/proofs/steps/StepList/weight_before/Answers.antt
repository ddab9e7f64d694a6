use Rattle.std.proofs.Common.{◌≡◌, ℕ, List, ◌-◌, ◌<◌, ◌≤◌, ◌^◌, suc, length, get_or, ap, ◌∙◌, refl, arith}
use Rattle.tdl_expr.specs.Passed.{weight_sum, ends_after}
use Rattle.tdl_expr.proofs.PassedLemmas.{end_of, even_sum, length-ends}
use Rattle.tdl_expr.proofs.steps.StepList.weight_before.Goals as goal

pub index-requires : goal.index-requires
index-requires c =
    let steps = c.self.inside.steps.items in
    let ends : c.in-At.ends.items ≡ ends_after 0 steps = rw c.in-At.is at c.self.invariant in
    let count : length c.in-At.ends.items ≡ length steps = ap length ends ∙ length-ends 0 steps in
    let within : c.args.count ≤ length steps = rw (← c.self.view_is) at c.requires.within in
    omega (arith, count, within, c.in-At.ends.ok, c.if-count-eq0.false)

pub returns-in-Even : goal.returns-in-Even
returns-in-Even c =
    let within : c.args.count ≤ length c.self.inside.steps.items = rw (← c.self.view_is) at c.requires.within in
    rw (← c.self.view_is, even_sum c.self.inside.steps.items c.args.count (rw c.in-Even.is at c.self.invariant) within) refl

pub returns-in-At : goal.returns-in-At
returns-in-At c =
    let steps = c.self.inside.steps.items in
    let ends : c.in-At.ends.items ≡ ends_after 0 steps = rw c.in-At.is at c.self.invariant in
    let within : c.args.count ≤ length steps = rw (← c.self.view_is) at c.requires.within in
    let fits : weight_sum steps < 2 ^ 64 = omega (arith, rw (← c.self.view_is) at c.requires.sum) in
    let whole : suc (c.args.count - 1) ≡ c.args.count = omega (arith, c.if-count-eq0.false) in
    rw (← c.self.view_is, ← whole)
    (c.index.ensures ∙ ap (λ (ends : List ℕ). get_or ends (c.args.count - 1) c.index.result.now) ends
    ∙ end_of steps (c.args.count - 1) c.index.result.now fits (omega (arith, within)))
