use Rattle.tdl_meaning.proofs.Moves.{motion_arc}
use Rattle.tdl_meaning.proofs.motions.Motion.arc_knowing.Goals as goal

pub unwrap-requires : goal.unwrap-requires
unwrap-requires c = c.of.ensures.found.1 (rw (c.at_knowing-start.ensures, c.at_knowing-stop.ensures, c.start.ensures.value, c.stop.ensures.value)
    (motion_arc c.args.self.now c.requires.forward c.args.arc c.start.ensures.arc))
