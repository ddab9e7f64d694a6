use Rattle.tdl_euclid.proofs.WordLemmas.{length-values}
use Rattle.tdl_euclid.proofs.bits.Bits.len.Goals as goal

pub returns-clause-value : goal.returns-clause-value
returns-clause-value c = length-values _ _ _ c.self.view_is
