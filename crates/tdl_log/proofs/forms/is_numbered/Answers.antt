use Rattle.std.proofs.Common.{◌∙◌}
use Rattle.tdl_log.specs.LineKinds.{is_decimal}
use Rattle.tdl_log.proofs.LineForms.{split_field}
use Rattle.tdl_log.proofs.forms.is_numbered.Goals as goal

pub returns-in-Some : goal.returns-in-Some
returns-in-Some c =
    c.is_decimal.ensures ∙ split_field is_decimal c.args.said.now c.in-Some.number.now c.in-Some.field-0-1.now c.in-Some.ensures.some
