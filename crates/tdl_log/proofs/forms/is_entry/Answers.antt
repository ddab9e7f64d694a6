use Rattle.tdl_log.specs.LineKinds.{is_called, is_decimal}
use Rattle.tdl_log.proofs.LineForms.{split_else, split_then}
use Rattle.tdl_log.proofs.forms.is_entry.Goals as goal

pub returns-then-is_decimal : goal.returns-then-is_decimal
returns-then-is_decimal c =
    split_then is_decimal is_called c.args.line.now c.in-Some.place.now c.in-Some.called.now c.is_decimal.result c.is_called.result
    c.in-Some.ensures.some c.if-is_decimal.true c.is_decimal.ensures c.is_called.ensures

pub returns-else-is_decimal : goal.returns-else-is_decimal
returns-else-is_decimal c =
    split_else is_decimal is_called c.args.line.now c.in-Some.place.now c.in-Some.called.now c.is_decimal.result c.in-Some.ensures.some c.if-is_decimal.false
    c.is_decimal.ensures
