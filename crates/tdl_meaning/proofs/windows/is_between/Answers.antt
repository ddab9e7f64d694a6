use Rattle.std.proofs.Common.{◌&&◌, not, sym, ap, ◌∙◌}
use Rattle.tdl_fraction.specs.Rational.{lt_ℚ}
use Rattle.tdl_meaning.proofs.kinds.Gate.{not_before}
use Rattle.tdl_meaning.proofs.windows.is_between.Goals as goal

pub returns-then-not-is_less : goal.returns-then-not-is_less
returns-then-not-is_less c =
    let later = lt_ℚ c.args.time c.args.to in
    c.is_less-then-not-is_less.ensures.value
    ∙ ap (λ b. not b && later) (sym c.if-not-is_less.true ∙ c.is_less.ensures.value)
    ∙ ap (λ b. b && later) (not_before c.args.from c.args.time)

pub returns-else-not-is_less : goal.returns-else-not-is_less
returns-else-not-is_less c =
    let later = lt_ℚ c.args.time c.args.to in
    ap not c.if-not-is_less.false
    ∙ ap (λ b. not b && later) (sym c.if-not-is_less.false ∙ c.is_less.ensures.value)
    ∙ ap (λ b. b && later) (not_before c.args.from c.args.time)
