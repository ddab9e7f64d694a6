use Rattle.std.proofs.Common.{Bool, ◌&&◌, ◌∙◌, ap, sym}
use Rattle.tdl_log.specs.LineKinds.{is_unpadded}
use Rattle.tdl_log.proofs.LineForms.{digits_as}
use Rattle.tdl_log.proofs.forms.is_decimal.Goals as goal

pub returns-then-are_digits : goal.returns-then-are_digits
returns-then-are_digits c =
    c.is_unpadded.ensures
    ∙ ap (λ (t : Bool). t && is_unpadded c.args.text.now) (sym c.if-are_digits.true ∙ c.are_digits.ensures ∙ digits_as c.args.text.now)

pub returns-else-are_digits : goal.returns-else-are_digits
returns-else-are_digits c =
    c.if-are_digits.false
    ∙ ap (λ (t : Bool). t && is_unpadded c.args.text.now) (sym c.if-are_digits.false ∙ c.are_digits.ensures ∙ digits_as c.args.text.now)
