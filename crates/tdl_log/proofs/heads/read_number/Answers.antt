use Rattle.std.proofs.Common.{◌≡◌, ◌∙◌, sym}
use Rattle.tdl_log.proofs.ReadFronts.{if_none_always}
use Rattle.tdl_log.proofs.ReadNumbers.{if_none-then_some, no_parse_no_number, no_text_no_number, other_text_no_number, said_of_err, said_of_ok}
use Rattle.tdl_log.proofs.heads.read_number.Goals as goal

-- the bytes are no text
pub returns-in_err-ok-clause-none : goal.returns-in_err-ok-clause-none
returns-in_err-ok-clause-none c =
    if_none_always c.from_residual.result
    (no_text_no_number c.args.text.now (said_of_err c.from_utf8.result _ _ c.from_utf8.ensures.cases (sym c.in_err-ok.ensures.variant)).1.0)

-- the text is no number
pub returns-in_err-number-clause-none : goal.returns-in_err-number-clause-none
returns-in_err-number-clause-none c =
    let text : c.in_ok-ok.field-0.now ≡ c.args.text.now =
    (said_of_ok c.from_utf8.result _ _ c.in_ok-ok.field-0 c.from_utf8.ensures.cases c.in_ok-ok.ensures.value).0 in
    if_none_always c.from_residual-in_err-number.result
    (no_parse_no_number c.args.text.now c.parse.result (rw text at c.parse.ensures.value.0) (sym c.in_err-number.ensures.variant))

-- the number is written otherwise
pub returns-clause-none : goal.returns-clause-none
returns-clause-none c =
    let text : c.in_ok-ok.field-0.now ≡ c.args.text.now =
    (said_of_ok c.from_utf8.result _ _ c.in_ok-ok.field-0 c.from_utf8.ensures.cases c.in_ok-ok.ensures.value).0 in
    rw c.then_some.ensures
    (if_none-then_some c.eq-is_decimal.result _ (λ differs.
    other_text_no_number c.args.text.now c.as_bytes.result.now c.parse.result c.in_ok-number.number (rw text at c.parse.ensures.value.0)
    c.in_ok-number.ensures.value (c.as_bytes.ensures.value ∙ c.format.ensures.text) (sym c.eq-is_decimal.ensures ∙ differs)))
