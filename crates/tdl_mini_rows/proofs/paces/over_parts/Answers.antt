use Rattle.std.proofs.Common.{ℕ, ◌*◌, ap}
use Rattle.tdl_mini_rows.proofs.PaceRates.{over_parts_fits, scaled_is}
use Rattle.tdl_mini_rows.proofs.paces.over_parts.Goals as goal

pub fraction-requires-clause-in_range : goal.fraction-requires-clause-in_range
fraction-requires-clause-in_range c =
    over_parts_fits c.args.rate _ _ c.args.parts c.requires.rate (scaled_is c.args.rate _ _ c.requires.rate c.numerator.ensures.value c.from.ensures)
    (ap (λ (d : ℕ). d * c.args.parts) c.denominator.ensures.value) c.requires.positive c.requires.short
