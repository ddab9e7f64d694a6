use Rattle.tdl_core.proofs.Ticking.{is_fresh}
use Rattle.tdl_core.proofs.passes.looks_are_fresh.Goals as goal

pub returns : goal.returns
returns c = is_fresh
