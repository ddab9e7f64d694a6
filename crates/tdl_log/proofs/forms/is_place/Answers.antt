use Rattle.std.proofs.Common.{Bool, ◌&&◌, ◌∙◌, ap, sym}
use Rattle.tdl_log.specs.LineKinds.{is_over}
use Rattle.tdl_log.proofs.LineForms.{decimal_parts, place_in}
use Rattle.tdl_log.proofs.forms.is_place.Goals as goal

pub is_over-requires : goal.is_over-requires
is_over-requires c = (decimal_parts c.in-Some.above.now (sym c.is_decimal.ensures ∙ c.if-is_decimal.true)).each

pub returns-then-is_decimal : goal.returns-then-is_decimal
returns-then-is_decimal c =
    c.is_over.ensures
    ∙ ap (λ (t : Bool). t && is_over c.in-Some.above.now c.in-Some.below.now) (sym c.if-is_decimal.true ∙ c.is_decimal.ensures)
    ∙ place_in c.args.text.now c.in-Some.above.now c.in-Some.below.now c.in-Some.ensures.some

pub returns-else-is_decimal : goal.returns-else-is_decimal
returns-else-is_decimal c =
    c.if-is_decimal.false
    ∙ ap (λ (t : Bool). t && is_over c.in-Some.above.now c.in-Some.below.now) (sym c.if-is_decimal.false ∙ c.is_decimal.ensures)
    ∙ place_in c.args.text.now c.in-Some.above.now c.in-Some.below.now c.in-Some.ensures.some
