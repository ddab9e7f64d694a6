use Rattle.tdl_meaning.proofs.Moves.{turn_arc_is}
use Rattle.tdl_meaning.proofs.turns.turned.Goals as goal

pub unwrap-requires : goal.unwrap-requires
unwrap-requires c = c.of.ensures.found.1 (rw (c.turned_time-start.ensures, c.turned_time-stop.ensures, c.start.ensures.value, c.stop.ensures.value)
    (turn_arc_is c.args.cycle c.args.arc c.stop.ensures.arc))
