use Rattle.std.proofs.Common.{refl, inl}
use Rattle.tdl_app.specs.declared.devices.Outside.{Outside}
use Rattle.tdl_app.specs.Accounts.{Accounts, Telling, accounts}
use Rattle.tdl_app.specs.Served.{ServedThrough}
use Rattle.tdl_app.proofs.ServedRuns.{served_logged, served_through}
use Rattle.tdl_app.proofs.served.serve_logged.Goals as goal

pub returns-in-Ok : goal.returns-in-Ok
returns-in-Ok g c =
    let before : Outside g.row.S.Denot g.row.K.Denot g.row.W.Denot g.row.C.Denot = c.args.outside.now in
    let after : Outside g.row.S.Denot g.row.K.Denot g.row.W.Denot g.row.C.Denot = record {
      input = c.args.outside.now.input;
      out = c.end_run-playing.new.out;
      log = c.put_logged.new.log;
      osc = c.serve-served.new.osc;
      midi = c.serve-served.new.midi;
      clock = c.serve-served.new.clock;
      ports = c.serve-served.new.ports;
    } in
    let tells : Telling g.row.S.Denot g.row.K.Denot g.row.W.Denot g.row.C.Denot = record {
      left = g.S.Source.left;
      source_faults = g.S.Source.faults;
      held = g.K.Sink.held;
      sink_faults = g.K.Sink.faults;
      sent = g.W.Wire.sent;
      wire_faults = g.W.Wire.faults;
      beats = g.C.Clock.beats;
    } in
    let told : Accounts = accounts tells before after in
    let served = c.in-Ok.field-0 in
    let history = c.into_history-history.result.entries in
    let through : ServedThrough c.args.words.tempo c.args.words.cycles c.end_run-playing.result history served.ends told =
    served_through served.core served.beat told c.in-Ok.ensures.tempo c.into_history-history.ensures.value c.in-Ok.ensures.legal c.in-Ok.ensures.ports
    c.in-Ok.ensures.beaten c.end_run-playing.ensures.ended c.end_run-playing.ensures.kept in
    served_logged tells before after c.put_logged.result c.put_logged.ensures.history c.put_logged.ensures.ends (inl through)
    (c.put_logged.ensures.logged, c.put_logged.ensures.kept) c.in-Ok.ensures.as_many refl
