use Rattle.tdl_line_reader.proofs.reader.LineTokenReader.take_number.Goals as goal

pub returns-in-Bounding : goal.returns-in-Bounding
returns-in-Bounding g c = rw c.in-Bounding.is c.take_bounding.ensures

pub returns-in-Bounded : goal.returns-in-Bounded
returns-in-Bounded g c = rw c.in-Bounded.is c.take_bounded.ensures

pub returns-in-Fraction : goal.returns-in-Fraction
returns-in-Fraction g c = rw c.in-Fraction.is c.take_fraction.ensures

pub returns-in-Minus : goal.returns-in-Minus
returns-in-Minus g c = rw c.in-Minus.is c.take_minus.ensures

pub returns-in-Above : goal.returns-in-Above
returns-in-Above g c = rw c.in-Above.is c.take_above.ensures

pub returns-in-Slash : goal.returns-in-Slash
returns-in-Slash g c = rw c.in-Slash.is c.take_below.ensures

pub returns-in-Closing : goal.returns-in-Closing
returns-in-Closing g c = rw c.in-Closing.is c.take_closing.ensures
