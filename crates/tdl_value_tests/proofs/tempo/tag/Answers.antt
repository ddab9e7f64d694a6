use Rattle.tdl_value_tests.proofs.tempo.tag.Goals as goal

pub timetag-requires-clause-from_zero : goal.timetag-requires-clause-from_zero
timetag-requires-clause-from_zero c = rw (← c.whole.ensures) (c.is_less.ensures.not_less.0 c.if-is_less.false)

pub timetag-requires-clause-to_last : goal.timetag-requires-clause-to_last
timetag-requires-clause-to_last c =
    rw (← c.whole-else-is_less.ensures) (c.is_less-else-is_less.ensures.not_less.0 c.if-is_less-2.false)
