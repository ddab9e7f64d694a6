use Rattle.std.proofs.Common.{[], ◌∷◌}
use Rattle.tdl_core.specs.Replies.{deed_of}
use Rattle.tdl_core.specs.Sessions.{Refuses}
use Rattle.tdl_answer.specs.Account.{wires}
use Rattle.tdl_beats.proofs.Making.{call_failed, call_played, call_refused}
use Rattle.tdl_beats.proofs.calls.make_call.Goals as goal

pub returns-in_default-clause-broke : goal.returns-in_default-clause-broke
returns-in_default-clause-broke g c =
    call_refused c.args.shared.now.1 c.args.pass.now c.call.new.pass (λ entries. Refuses entries c.args.call c.in_default.field-0)
    (deed_of [] c.args.call ∷ []) (g.W.Wire.sent c.args.osc.now) (g.W.Wire.faults c.args.osc.now) (g.W.Wire.sent c.args.midi.now)
    (g.W.Wire.faults c.args.midi.now) c.replies_are_sent.ensures.others c.requires.sits.may.ticker c.call.ensures.legal c.call.ensures.own
    c.in_default.ensures.err

pub returns-in_default-send_with-clause-broke : goal.returns-in_default-send_with-clause-broke
returns-in_default-send_with-clause-broke g c =
    call_failed c.args.shared.now.1 c.args.pass.now c.call.new.pass c.args.call c.in-Ok.reply
    (wires g.W.Wire.sent g.W.Wire.faults c.args.osc.now c.send_with.new.osc c.args.midi.now c.send_with.new.midi)
    c.requires.plays c.requires.sits.may.ticker c.call.ensures.pass c.call.ensures.legal c.call.ensures.own c.in-Ok.ensures.ok
    (record { osc_count = c.send_with.ensures.osc_count; midi_count = c.send_with.ensures.midi_count })
    (c.replies_are_sent.ensures.osc_on c.args.shared.now.1) (c.replies_are_sent.ensures.midi_on c.args.shared.now.1)
    c.replies_are_sent.ensures.others c.last_plays_send_last.ensures.plays
    c.in_default-send_with.ensures.err c.in_default-send_with.ensures.cause

pub returns-clause-played : goal.returns-clause-played
returns-clause-played g c =
    call_played c.args.shared.now.1 c.args.pass.now c.call.new.pass c.args.call c.in-Ok.reply
    (wires g.W.Wire.sent g.W.Wire.faults c.args.osc.now c.send_with.new.osc c.args.midi.now c.send_with.new.midi)
    c.requires.plays c.requires.sits.may.ticker c.call.ensures.pass c.call.ensures.legal c.call.ensures.own c.in-Ok.ensures.ok
    (record { osc_count = c.send_with.ensures.osc_count; midi_count = c.send_with.ensures.midi_count })
    (c.replies_are_sent.ensures.osc_on c.args.shared.now.1) (c.replies_are_sent.ensures.midi_on c.args.shared.now.1)
    c.in-Ok-send_with.ensures.ok
