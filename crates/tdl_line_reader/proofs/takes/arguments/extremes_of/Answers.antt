use Rattle.tdl_line_reader.proofs.CountSpans.{whole_span}
use Rattle.tdl_line_reader.proofs.takes.arguments.extremes_of.Goals as goal

pub returns-in-Whole : goal.returns-in-Whole
returns-in-Whole c = rw c.in-Whole.is (whole_span _ _ _ c.of_number.ensures c.whole_number.ensures)

pub returns-in-Text : goal.returns-in-Text
returns-in-Text c = rw (c.in-Text.is, ← c.deref.ensures) c.span.ensures
