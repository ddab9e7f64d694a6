use Rattle.std.proofs.Common.{arith}
use Rattle.tdl_meaning.proofs.kinds.Pieces.{piece_is_arc}
use Rattle.tdl_meaning.proofs.plies.piece.Goals as goal

pub unwrap-requires : goal.unwrap-requires
unwrap-requires c =
    c.of.ensures.found.1
    (rw (c.along.ensures, c.along-2.ensures)
    (piece_is_arc c.args.times c.args.arc c.args.j c.requires.can.is_arc (omega (arith, c.requires.below))))
