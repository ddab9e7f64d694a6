use Rattle.tdl_session.specs.Passes.{SamePass}
use Rattle.tdl_tape_speed.proofs.RepeaterCallerTape.make_calls.Given as goal

abbrev pub invariant-loop-call : goal.invariant-loop-call
invariant-loop-call g l = SamePass l.fn.pass l.pass
