use Rattle.tdl_play_tests.proofs.osc.made.Goals as goal

pub packet-requires-clause-from_zero : goal.packet-requires-clause-from_zero
packet-requires-clause-from_zero c = rw (← c.whole-zero.ensures) (c.is_less.ensures.not_less.0 c.if-is_less.false)

pub packet-requires-clause-below_end : goal.packet-requires-clause-below_end
packet-requires-clause-below_end c =
    rw (← c.whole.ensures) (c.is_less-else-is_less.ensures.less.0 c.if-not-is_less.false)

pub packet-requires-clause-has_length : goal.packet-requires-clause-has_length
packet-requires-clause-has_length c = rw (← c.whole-zero.ensures) (c.is_less-2.ensures.less.0 c.if-not-is_less-2.false)
