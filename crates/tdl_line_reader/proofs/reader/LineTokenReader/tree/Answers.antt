use Rattle.std.proofs.Common.{refl, arith}
use Rattle.tdl_line_reader.specs.ReaderView.{here}
use Rattle.tdl_line_reader.proofs.TextsKept.{near_offset, unread_as}
use Rattle.tdl_line_reader.proofs.reader.LineTokenReader.tree.Goals as goal

pub overflow_cast-result : goal.overflow_cast-result
overflow_cast-result g c =
    omega (arith, near_offset c.in-Err-At.field-0 c.in-Err-At.kind c.in-Err-At.at c.in-Err-At.field-0-is c.in-Err-At.ensures.near)

pub overflow_add-result : goal.overflow_add-result
overflow_add-result g c =
    omega (arith, near_offset c.in-Err-At.field-0 c.in-Err-At.kind c.in-Err-At.at c.in-Err-At.field-0-is c.in-Err-At.ensures.near)

pub returns-in-Err-At-clause-err : goal.returns-in-Err-At-clause-err
returns-in-Err-At-clause-err g c = λ reading reads. unread_as (here c.args.self.now 0) c.in-Err-At.field-0 c.in-Err-At.kind c.in-Err-At.at _
    c.in-Err-At.field-0-is refl refl reading (c.in-Err-At.ensures.refused reading reads)
