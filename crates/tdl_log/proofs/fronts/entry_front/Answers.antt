use Rattle.tdl_log.proofs.ReadFronts.{if_none_always, no_called, no_time}
use Rattle.tdl_log.proofs.fronts.entry_front.Goals as goal

pub returns-in_err-who-clause-none : goal.returns-in_err-who-clause-none
returns-in_err-who-clause-none c =
    if_none_always c.from_residual-in_err-who.result
    (no_called c.args.place.now c.args.line.now c.in_ok-field.field-0.now c.in_ok-field.ensures.some c.in_err-who.ensures.none c.args.frontier.now)

pub returns-in_err-field-2-clause-none : goal.returns-in_err-field-2-clause-none
returns-in_err-field-2-clause-none c =
    if_none_always c.from_residual-in_err-field-2.result
    (no_time c.args.place.now c.args.line.now c.in_ok-field.field-0.now c.in_ok-who.called.now c.in_ok-who.who c.in_ok-field.ensures.some
    c.in_ok-who.ensures.few c.in_ok-who.ensures.some c.args.frontier.now c.in_err-field-2.ensures.none)
