use Rattle.std.proofs.Common.{refl, arith}
use Rattle.std.proofs.lemmas.Result.{err_from_is_err_and}
use Rattle.tdl_event.specs.Event.{line_of}
use Rattle.tdl_app.proofs.Streams.{streams_more, breaks_within}
use Rattle.tdl_app.proofs.event_lines.add_lines.Goals as goal

pub returns-in_err-add_line-clause-err : goal.returns-in_err-add_line-clause-err
returns-in_err-add_line-clause-err g c =
    let p = err_from_is_err_and c.from_residual.result c.from_residual.ensures.1 in
    rw (p.1, p.2) (breaks_within line_of c.args.events.now c.loop-i.i c.get.result.now (omega arith) (c.get.ensures c.get.result.now)
    (record { told = refl; faults = refl }) c.loop-i.invariant c.in_err-add_line.ensures.err)

pub loop-i-preserved : goal.loop-i-preserved
loop-i-preserved g c =
    streams_more line_of c.args.events.now c.loop-i.i c.get.result.now (omega arith) (c.get.ensures c.get.result.now)
    (record { told = refl; faults = refl }) c.loop-i.invariant c.in_ok-add_line.ensures.ok
