use Rattle.tdl_log.specs.LineKinds.{is_deed, is_place}
use Rattle.tdl_log.proofs.LineForms.{split_else, split_then}
use Rattle.tdl_log.proofs.forms.is_timed.Goals as goal

pub returns-then-is_place : goal.returns-then-is_place
returns-then-is_place c =
    split_then is_place is_deed c.args.text.now c.in-Some.frontier.now c.in-Some.deed.now c.is_place.result c.is_deed.result
    c.in-Some.ensures.some c.if-is_place.true c.is_place.ensures c.is_deed.ensures

pub returns-else-is_place : goal.returns-else-is_place
returns-else-is_place c =
    split_else is_place is_deed c.args.text.now c.in-Some.frontier.now c.in-Some.deed.now c.is_place.result c.in-Some.ensures.some c.if-is_place.false
    c.is_place.ensures
