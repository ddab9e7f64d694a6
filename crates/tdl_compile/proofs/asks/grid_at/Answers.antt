use Rattle.tdl_compile.proofs.Words.{coprime}
use Rattle.tdl_compile.proofs.asks.grid_at.Goals as goal

pub shared_out-requires-clause-lowest : goal.shared_out-requires-clause-lowest
shared_out-requires-clause-lowest c = rw (c.parts_of-upper.ensures.lower, c.parts_of-upper.ensures.upper) (coprime c.args.rate)
