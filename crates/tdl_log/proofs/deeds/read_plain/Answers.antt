use Rattle.std.proofs.Common.{◌∙◌, sym, ap}
use Rattle.std.specs.Prelude.{codes}
use Rattle.std.specs.Str.{bytes_eq}
use Rattle.tdl_log.specs.LogText.{place_text}
use Rattle.tdl_log.proofs.ReadDeeds.{no_plain}
use Rattle.tdl_log.proofs.ReadFronts.{behind_front, if_none_always}
use Rattle.tdl_log.proofs.ReadNumbers.{not_equal}
use Rattle.tdl_log.proofs.deeds.read_plain.Goals as goal

pub returns-in_err-after-clause-none : goal.returns-in_err-after-clause-none
returns-in_err-after-clause-none c =
    if_none_always c.from_residual.result
    (no_plain c.args.text.now
    (not_equal c.args.text.now (codes "look") (sym (c.eq.ensures ∙ ap (bytes_eq c.args.text.now) c.as_slice.ensures) ∙ c.if-eq.false))
    (not_equal c.args.text.now (codes "finish") (sym (c.eq-2.ensures ∙ ap (bytes_eq c.args.text.now) c.as_slice-2.ensures) ∙ c.if-eq-2.false))
    (λ to near e. c.in_err-after.ensures.none (place_text to) e))

pub returns-in_err-to-clause-none : goal.returns-in_err-to-clause-none
returns-in_err-to-clause-none c =
    if_none_always c.from_residual-in_err-to.result
    (no_plain c.args.text.now
    (not_equal c.args.text.now (codes "look") (sym (c.eq.ensures ∙ ap (bytes_eq c.args.text.now) c.as_slice.ensures) ∙ c.if-eq.false))
    (not_equal c.args.text.now (codes "finish") (sym (c.eq-2.ensures ∙ ap (bytes_eq c.args.text.now) c.as_slice-2.ensures) ∙ c.if-eq-2.false))
    (λ to near e.
    c.in_err-to.ensures.none to near
    (behind_front (codes "tick ") c.args.text.now c.in_ok-after.field-0.now (place_text to) c.in_ok-after.ensures.some e)))
