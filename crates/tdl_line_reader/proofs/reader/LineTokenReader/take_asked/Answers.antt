use Rattle.tdl_line_reader.proofs.reader.LineTokenReader.take_asked.Goals as goal

pub returns-in-Ratio : goal.returns-in-Ratio
returns-in-Ratio g c = rw c.in-Ratio.is c.take_ratio.ensures

pub returns-in-Count : goal.returns-in-Count
returns-in-Count g c = rw c.in-Count.is c.take_count.ensures

pub returns-in-Bools : goal.returns-in-Bools
returns-in-Bools g c = rw c.in-Bools.is c.take_bools.ensures

pub returns-in-Fun : goal.returns-in-Fun
returns-in-Fun g c = rw c.in-Fun.is c.take_argument.ensures

pub returns-in-Bounds : goal.returns-in-Bounds
returns-in-Bounds g c = rw c.in-Bounds.is c.take_bounds.ensures
