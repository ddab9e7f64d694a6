use Rattle.tdl_compile.proofs.Words.{coprime_turned}
use Rattle.tdl_compile.proofs.asks.fast_ask.Goals as goal

pub shared_out-requires-clause-lowest : goal.shared_out-requires-clause-lowest
shared_out-requires-clause-lowest c = rw (c.parts_of-upper.ensures.lower, c.parts_of-upper.ensures.upper) (coprime_turned c.args.rate)
