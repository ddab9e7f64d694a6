use Rattle.tdl_value_tests.proofs.tempo.length.Goals as goal

pub micros-requires : goal.micros-requires
micros-requires c = rw (← c.whole.ensures) (c.is_less.ensures.less.0 c.if-is_less.true)
