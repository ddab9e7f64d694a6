use Rattle.tdl_osc.proofs.Sizes.{SizedSoFar}
use Rattle.tdl_osc.proofs.bundles.controls_size.Given as goal

abbrev pub invariant-loop-i : goal.invariant-loop-i
invariant-loop-i l = SizedSoFar l.controls l.i l.size
