use Rattle.tdl_grid.proofs.Starts.{rest_read}
use Rattle.tdl_grid.proofs.counts.rest_of.Goals as goal

pub returns-clause-value : goal.returns-clause-value
returns-clause-value c =
    rest_read c.args.time _ _ _ _ c.numerator.ensures.in_range c.numerator.ensures.value c.denominator.ensures.value c.rem_euclid.ensures.value
    c.unsigned_abs.ensures.value
