use Rattle.tdl_tempo.proofs.Tempo.of.Goals as goal

pub invariant_of-result : goal.invariant_of-result
invariant_of-result c = c.is_cps.ensures.0 c.if-is_cps.true
