use Rattle.std.proofs.Common.{rules, [], ◌∷◌, subst}
use Rattle.tdl_answer.specs.Account.{account, wires}
use Rattle.tdl_drill.specs.Drill.{drill_lines}
use Rattle.tdl_log.specs.LogText.{log_text}
use Rattle.tdl_answer.specs.Ends.{Logs}
use Rattle.tdl_tempo.specs.Tempo.{Pace}
use Rattle.tdl_words.specs.Modes.{usual_pace}
use Rattle.tdl_app.specs.Drilled.{Drilled, PlayedThrough}
use Rattle.tdl_app.specs.inside.Stops.{status_of}
use Rattle.tdl_app.proofs.LoggedRuns.{of_outcome}
use Rattle.tdl_app.proofs.SameDevices.{held_to_the_end}
use Rattle.tdl_app.proofs.top_call.drill_logged.Goals as goal

pub returns-clause-drilled : goal.returns-clause-drilled
returns-clause-drilled g c =
    let played = c.drill-performance.result in
    let outcome = c.log_script.result in
    let out = account g.K.Sink.held g.K.Sink.faults c.args.outside.now.out c.drill-performance.new.out in
    let log = account g.K.Sink.held g.K.Sink.faults c.args.outside.now.log c.log_script.new.log in
    let script = drill_lines c.args.words.start c.args.words.lines in
    let both = wires g.W.Wire.sent g.W.Wire.faults c.args.outside.now.osc c.drill-performance.new.wires.osc.now
    c.args.outside.now.midi c.drill-performance.new.wires.midi.now in
    held_to_the_end (λ osc midi. Drilled c.args.words.start c.args.words.lines outcome.status outcome.history.entries outcome.ends out log
    (wires g.W.Wire.sent g.W.Wire.faults c.args.outside.now.osc osc c.args.outside.now.midi midi)) {osc = c.drill-performance.new.wires.osc.now}
    {midi = c.drill-performance.new.wires.midi.now} (search rules) (search rules) (record {
      playing = status_of played.result;
      performed = of_outcome (λ history ends. PlayedThrough usual_pace script (status_of played.result) history ends out both)
          c.log_script.ensures.history c.log_script.ensures.ends
          (subst (λ (tempo : Pace). PlayedThrough tempo script (status_of played.result) played.history.entries
          (record { port = 0; end = played.port } ∷ []) out both) c.usual_tempo-tempo.ensures
          c.drill-performance.ensures.played);
      logged = subst (λ (tempo : Pace). Logs (log_text (record { tempo = tempo; history = outcome.history.entries; ends = outcome.ends }))
          (status_of played.result) outcome.status log) c.usual_tempo-tempo.ensures c.log_script.ensures.logged;
      log_count = c.log_script.ensures.kept;
    })
