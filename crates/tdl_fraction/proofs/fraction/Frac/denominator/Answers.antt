use Rattle.tdl_fraction.proofs.Parts.{den-seen}
use Rattle.tdl_fraction.proofs.fraction.Frac.denominator.Goals as goal

pub returns-clause-value : goal.returns-clause-value
returns-clause-value c = den-seen _ _ _ c.self.view_is c.self.invariant.lowest
