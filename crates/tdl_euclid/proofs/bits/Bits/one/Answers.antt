use Rattle.tdl_euclid.proofs.WordLemmas.{bits-from_bool}
use Rattle.tdl_euclid.proofs.bits.Bits.one.Goals as goal

pub returns : goal.returns
returns c = bits-from_bool _ _ c.from.ensures
