use Rattle.std.proofs.Common.{refl}
use Rattle.tdl_line_reader.proofs.Answering.{answers_by}
use Rattle.tdl_line_reader.proofs.reader.LineTokenReader.take_bounding.Goals as goal

pub returns-in-Mark-OpenRound : goal.returns-in-Mark-OpenRound
returns-in-Mark-OpenRound g c = λ readings are. answers_by _ _ _ _ _ (c.open.ensures _) (rw c.in-Mark-OpenRound.is (rw (rw c.in-Mark-OpenRound.is at
    c.in-Mark-OpenRound.field-0-is) refl))
