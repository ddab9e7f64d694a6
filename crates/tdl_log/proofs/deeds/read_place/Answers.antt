use Rattle.std.proofs.Common.{◌≡◌, ◌∙◌, sym, ap, arith}
use Rattle.tdl_fraction.specs.Units.{time_of}
use Rattle.tdl_fraction.proofs.Printed.{reads_printed}
use Rattle.tdl_log.specs.LogText.{place_text}
use Rattle.tdl_log.proofs.PlainBytes.{place_in_range}
use Rattle.tdl_log.proofs.ReadDeeds.{units_once}
use Rattle.tdl_log.proofs.ReadFronts.{if_none_always}
use Rattle.tdl_log.proofs.ReadNumbers.{not_equal}
use Rattle.tdl_log.proofs.deeds.read_place.Goals as goal

pub returns-in_err-read-clause-none : goal.returns-in_err-read-clause-none
returns-in_err-read-clause-none c =
    if_none_always c.from_residual.result
    (λ units near e.
    c.in_err-read.ensures.none (time_of units) (reads_printed c.args.text.now (time_of units) e (place_in_range units near)) (place_in_range units near))

pub returns-in_err-units-clause-none : goal.returns-in_err-units-clause-none
returns-in_err-units-clause-none c =
    if_none_always c.from_residual-in_err-units.result
    (λ units near e.
    c.in_err-units.ensures.none units
    (sym (c.in_ok-read.ensures.only (time_of units) (reads_printed c.args.text.now (time_of units) e (place_in_range units near)))))

pub returns-then-units-gt-LAST_UNITS-clause-none : goal.returns-then-units-gt-LAST_UNITS-clause-none
returns-then-units-gt-LAST_UNITS-clause-none c = λ units near e.
    let read : time_of units ≡ c.in_ok-read.field-0 =
    c.in_ok-read.ensures.only (time_of units) (reads_printed c.args.text.now (time_of units) e (place_in_range units near)) in
    let same : units ≡ c.in_ok-units.units = units_once units c.in_ok-units.units (read ∙ c.in_ok-units.ensures.some) in
    omega (arith, c.if-units-gt-LAST_UNITS.true)

pub returns-else-eq-clause-none : goal.returns-else-eq-clause-none
returns-else-eq-clause-none c = λ units near e.
    let read : time_of units ≡ c.in_ok-read.field-0 =
    c.in_ok-read.ensures.only (time_of units) (reads_printed c.args.text.now (time_of units) e (place_in_range units near)) in
    let same : units ≡ c.in_ok-units.units = units_once units c.in_ok-units.units (read ∙ c.in_ok-units.ensures.some) in
    not_equal c.bytes.result.now c.args.text.now (sym c.eq.ensures ∙ c.if-eq.false)
    (c.bytes.ensures.value ∙ c.print_units.ensures ∙ ap place_text (sym same) ∙ sym e)
