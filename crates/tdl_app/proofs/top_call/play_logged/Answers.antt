use Rattle.std.proofs.Common.{rules, sym}
use Rattle.tdl_answer.specs.Account.{account, wires}
use Rattle.tdl_app.specs.Played.{Performed, Played}
use Rattle.tdl_app.specs.inside.Stops.{status_of}
use Rattle.tdl_app.proofs.Consoles.{console_talks, same_input, same_out}
use Rattle.tdl_app.proofs.LoggedRuns.{of_outcome}
use Rattle.tdl_app.proofs.SameDevices.{held_to_the_end}
use Rattle.tdl_app.proofs.top_call.play_logged.Goals as goal

-- the console still has the output and the input that were lent
pub shape_of-outside-3 : goal.shape_of-outside-3
shape_of-outside-3 g c = sym (same_out g.S.Source.gave g.S.Source.lost g.K.Sink.took g.K.Sink.broke c.play-performance.ensures.prompt)

pub shape_of-outside-4 : goal.shape_of-outside-4
shape_of-outside-4 g c = sym (same_input g.S.Source.gave g.S.Source.lost g.K.Sink.took g.K.Sink.broke c.play-performance.ensures.prompt)

pub returns-clause-played : goal.returns-clause-played
returns-clause-played g c =
    let played = c.play-performance.result in
    let outcome = c.log_script.result in
    let input = account g.S.Source.left g.S.Source.faults c.args.outside.now.input c.play-performance.new.talk.input.now in
    let out = account g.K.Sink.held g.K.Sink.faults c.args.outside.now.out c.play-performance.new.talk.out.now in
    let both = wires g.W.Wire.sent g.W.Wire.faults c.args.outside.now.osc c.play-performance.new.wires.osc.now
    c.args.outside.now.midi c.play-performance.new.wires.midi.now in
    held_to_the_end (λ osc midi. Played c.args.tempo outcome.status outcome.history.entries outcome.ends input out
    (account g.K.Sink.held g.K.Sink.faults c.args.outside.now.log c.log_script.new.log)
    (wires g.W.Wire.sent g.W.Wire.faults c.args.outside.now.osc osc c.args.outside.now.midi midi)) {osc = c.play-performance.new.wires.osc.now}
    {midi = c.play-performance.new.wires.midi.now} (search rules) (search rules) (record {
      playing = status_of played.result;
      performed = of_outcome (λ history ends. Performed c.args.tempo (status_of played.result) history ends input out both)
          c.log_script.ensures.history c.log_script.ensures.ends c.play-performance.ensures.played;
      logged = c.log_script.ensures.logged;
      log_count = c.log_script.ensures.kept;
    })

pub returns-clause-prompt : goal.returns-clause-prompt
returns-clause-prompt g c =
    let talks = c.play-performance.ensures.prompt in
    console_talks g.S.Source.gave g.S.Source.lost g.K.Sink.took g.K.Sink.broke talks
