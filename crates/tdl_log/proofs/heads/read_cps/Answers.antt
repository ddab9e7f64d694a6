use Rattle.std.proofs.Common.{◌≡◌, ◌∙◌, sym, ap, subst}
use Rattle.std.specs.Prelude.{codes}
use Rattle.tdl_fraction.specs.Printing.{print_of}
use Rattle.tdl_fraction.proofs.Printed.{reads_printed}
use Rattle.tdl_tempo.specs.Tempo.{IsCps}
use Rattle.tdl_log.proofs.OneLog.{cps_in_range}
use Rattle.tdl_log.proofs.ReadFronts.{behind_front, if_none_always}
use Rattle.tdl_log.proofs.ReadNumbers.{not_equal}
use Rattle.tdl_log.proofs.heads.read_cps.Goals as goal

pub returns-in_err-read-clause-none : goal.returns-in_err-read-clause-none
returns-in_err-read-clause-none c =
    if_none_always c.from_residual-in_err-read.result
    (λ cps is e.
    let same = behind_front (codes "cps ") c.args.line.now c.in_ok-text.text.now (print_of cps) c.in_ok-text.ensures.some e in
    c.in_err-read.ensures.none cps (reads_printed c.in_ok-text.text.now cps same (cps_in_range cps is)) (cps_in_range cps is))

pub returns-in_err-of-clause-none : goal.returns-in_err-of-clause-none
returns-in_err-of-clause-none c =
    if_none_always c.from_residual-in_err-of.result
    (λ cps is e.
    let same = behind_front (codes "cps ") c.args.line.now c.in_ok-text.text.now (print_of cps) c.in_ok-text.ensures.some e in
    let read : cps ≡ c.in_ok-read.field-0 = c.in_ok-read.ensures.only cps (reads_printed c.in_ok-text.text.now cps same (cps_in_range cps is)) in
    absurd (cc (c.in_err-of.ensures.found.1 (subst IsCps read is))))

pub returns-else-eq-clause-none : goal.returns-else-eq-clause-none
returns-else-eq-clause-none c = λ cps is e.
    let same = behind_front (codes "cps ") c.args.line.now c.in_ok-text.text.now (print_of cps) c.in_ok-text.ensures.some e in
    let read : cps ≡ c.in_ok-read.field-0 = c.in_ok-read.ensures.only cps (reads_printed c.in_ok-text.text.now cps same (cps_in_range cps is)) in
    not_equal c.bytes.result.now c.in_ok-text.text.now (sym c.eq.ensures ∙ c.if-eq.false)
    (c.bytes.ensures.value ∙ c.print.ensures.text ∙ ap print_of (c.cps-cps.ensures.value ∙ c.in_ok-of.ensures.value.0 ∙ sym read) ∙ sym same)
