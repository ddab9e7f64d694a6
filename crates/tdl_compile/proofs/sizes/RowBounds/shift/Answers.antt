use Rattle.std.proofs.Common.{◌*◌, ℕ, ap, ◌∙◌}
use Rattle.tdl_fraction.specs.Divisor.{lcm}
use Rattle.tdl_expr.specs.Tree.{Shift}
use Rattle.tdl_compile.specs.Compiled.{capped}
use Rattle.tdl_compile.proofs.Growing.{shift_below}
use Rattle.tdl_compile.proofs.OtherKinds.{shift_stands}
use Rattle.tdl_compile.proofs.sizes.RowBounds.shift.Goals as goal

pub returns : goal.returns
returns c = λ e valid s.
    let times = c.shift_touches-times.ensures in
    c.with_own.ensures (Shift c.args.by e)
    (shift_stands c.args.by e c.args.self _ c.saturating_mul-visits.result valid s.bounds
    (c.saturating_mul.ensures ∙ ap (λ (n : ℕ). capped (n * c.args.self.count)) times)
    (c.saturating_mul-visits.ensures ∙ ap (λ (n : ℕ). capped (n * c.args.self.load)) times)
    c.saturating_add.ensures c.shift_hang.ensures
    (c.least_multiple.ensures.value ∙ ap (λ (n : ℕ). capped (lcm c.args.self.grid n)) c.denominator.ensures.value))
    (shift_below c.args.by e c.args.self.growth _ s.grows c.shift.ensures.finer c.shift.ensures.further)
