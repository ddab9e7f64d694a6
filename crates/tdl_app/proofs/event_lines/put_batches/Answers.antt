use Rattle.std.proofs.Common.{◌≡◌, ◌+◌, ◌-◌, ◌<◌, [], inl, inr, refl, ap, ◌∙◌, arith}
use Rattle.std.proofs.lemmas.Result.{err_from_is_err_and}
use Rattle.tdl_expr.specs.Rows.{tree_at}
use Rattle.tdl_meaning.specs.Meaning.{cyc}
use Rattle.tdl_app.specs.inside.Batches.{batch_events}
use Rattle.tdl_app.proofs.ArcLines.{batch_streams, batch_breaks, batches_streamed}
use Rattle.tdl_app.proofs.BatchEvents.{no_front}
use Rattle.tdl_app.proofs.Streams.{breaks_before, rest_breaks, rest_streamed, streams_none}
use Rattle.tdl_app.proofs.event_lines.put_batches.Goals as goal

pub loop-k-init : goal.loop-k-init
loop-k-init g c =
    let none = no_front (cyc (tree_at c.args.program.now.nodes c.args.program.now.root)) c.of-batches.result in
    record { lines = rw (none, c.new-waiting.ensures) (streams_none [] (g.K.Sink.held c.args.out.now) (g.K.Sink.faults c.args.out.now)); before = inl refl }

pub returns-in_err-next_events-clause-err : goal.returns-in_err-next_events-clause-err
returns-in_err-next_events-clause-err g c =
    let p = err_from_is_err_and c.from_residual.result c.from_residual.ensures.1 in
    let e = tree_at c.args.program.now.nodes c.args.program.now.root in
    let within : c.loop-k.k < c.of-batches.result.count = omega (arith, c.count-k-end.ensures) in
    rw (p.1, p.2) (batch_breaks e c.of-batches.result c.of-batches.ensures.batches c.args.arc c.of-batches.ensures.arc c.loop-k.k within
    (record { told = refl; faults = refl }) c.loop-k.invariant.lines (breaks_before _ _ _ _))

pub returns-in_err-add_lines-clause-err : goal.returns-in_err-add_lines-clause-err
returns-in_err-add_lines-clause-err g c =
    let p = err_from_is_err_and c.from_residual-in_err-add_lines.result c.from_residual-in_err-add_lines.ensures.1 in
    let e = tree_at c.args.program.now.nodes c.args.program.now.root in
    let within : c.loop-k.k < c.of-batches.result.count = omega (arith, c.count-k-end.ensures) in
    rw (p.1, p.2) (batch_breaks e c.of-batches.result c.of-batches.ensures.batches c.args.arc c.of-batches.ensures.arc c.loop-k.k within
    (record { told = refl; faults = refl }) c.loop-k.invariant.lines (rw c.in_ok-next_events.ensures at c.in_err-add_lines.ensures.err))

pub loop-k-preserved : goal.loop-k-preserved
loop-k-preserved g c =
    let e = tree_at c.args.program.now.nodes c.args.program.now.root in
    let back : c.loop-k.k ≡ c.loop-k.k + 1 - 1 = omega arith in
    record {
      lines = batch_streams e c.of-batches.result c.of-batches.ensures.batches c.loop-k.k (record { told = refl; faults = refl }) c.loop-k.invariant.lines
          (rw c.in_ok-next_events.ensures at c.in_ok-add_lines.ensures.ok);
      before = inr (c.in_ok-next_events.ensures ∙ ap (batch_events (cyc e) c.of-batches.result) back);
    }

pub returns-clause-ok : goal.returns-clause-ok
returns-clause-ok g c =
    let e = tree_at c.args.program.now.nodes c.args.program.now.root in
    let all = batches_streamed e c.of-batches.result c.of-batches.ensures.batches c.args.arc c.of-batches.ensures.arc c.loop-k.k
    (omega (arith, c.count-k-end.ensures)) c.loop-k.invariant.lines in
    rest_streamed c.put_waiting.result _ (record { told = refl; faults = refl }) all c.put_waiting.ensures.ok c.put_waiting.ensures.none_left

pub returns-clause-err : goal.returns-clause-err
returns-clause-err g c =
    let e = tree_at c.args.program.now.nodes c.args.program.now.root in
    let all = batches_streamed e c.of-batches.result c.of-batches.ensures.batches c.args.arc c.of-batches.ensures.arc c.loop-k.k
    (omega (arith, c.count-k-end.ensures)) c.loop-k.invariant.lines in
    rest_breaks c.put_waiting.result (record { told = refl; faults = refl }) all c.put_waiting.ensures.err
