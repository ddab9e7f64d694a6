use Rattle.tdl_session.specs.Passes.{SamePass}
use Rattle.tdl_thread_tests.proofs.shared_core.PerformerCallerCore.make_calls.Given as goal

abbrev pub invariant-loop-line : goal.invariant-loop-line
invariant-loop-line g l = SamePass l.fn.pass l.pass
