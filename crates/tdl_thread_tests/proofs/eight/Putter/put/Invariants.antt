use Rattle.tdl_session.specs.Passes.{SamePass}
use Rattle.tdl_thread_tests.proofs.eight.Putter.put.Given as goal

abbrev pub invariant-loop-number : goal.invariant-loop-number
invariant-loop-number g l = SamePass l.fn.pass l.pass
