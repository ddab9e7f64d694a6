use Rattle.tdl_words.specs.View.{query_of}
use Rattle.tdl_app.proofs.QueryEnds.{answers_plan, queried_from_all, queried_from_front}
use Rattle.tdl_app.proofs.top_call.query.Goals as goal

pub put_events-requires : goal.put_events-requires
put_events-requires g c = c.in-Ok.ensures.ok.asks.names.allowed

pub returns-in-Ok-put_events : goal.returns-in-Ok-put_events
returns-in-Ok-put_events g c =
    let q = query_of c.args.words.now in
    let plan = c.in-Ok.plan in
    queried_from_all q _ _ (answers_plan q plan.program plan.arc c.in-Ok.ensures.ok) c.in-Ok-put_events.ensures.ok

pub returns-in-Ok : goal.returns-in-Ok
returns-in-Ok g c =
    let q = query_of c.args.words.now in
    let plan = c.in-Ok.plan in
    rw c.status_of_stop.ensures (queried_from_front q _ c.in-Err.stop _ (answers_plan q plan.program plan.arc c.in-Ok.ensures.ok) c.in-Err.ensures.err)

pub returns-in-Err-Refused : goal.returns-in-Err-Refused
returns-in-Err-Refused g c = c.put_refusal.ensures (query_of c.args.words.now) (rw c.in-Err-Refused.field-0-is at c.in-Err-Refused.ensures.err)
