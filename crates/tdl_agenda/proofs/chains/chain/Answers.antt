use Rattle.std.proofs.Common.{arith}
use Rattle.std.proofs.lemmas.Int.{ints, to_z-of_z}
use Rattle.tdl_agenda.specs.Slots.{chain_of}
use Rattle.tdl_agenda.proofs.chains.chain.Goals as goal

pub returns-clause-value : goal.returns-clause-value
unfolding chain_of
returns-clause-value c = search (arith, ints, to_z-of_z, c.floor.ensures)
