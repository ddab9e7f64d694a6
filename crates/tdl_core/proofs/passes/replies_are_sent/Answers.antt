use Rattle.std.proofs.Common.{[]}
use Rattle.tdl_score.specs.Wires.{midi, osc}
use Rattle.tdl_core.specs.Replies.{midi_with, osc_with}
use Rattle.tdl_core.proofs.Kept.{sends_none}
use Rattle.tdl_core.proofs.Ticking.{others_read, replies_send, reply_sends}
use Rattle.tdl_core.proofs.passes.replies_are_sent.Goals as goal

pub returns-clause-osc : goal.returns-clause-osc
returns-clause-osc c = λ tempo history told legal says.
    replies_send c.lines_make_histories.ensures.growth (osc tempo) tempo osc_with (λ before who call e reply adds. adds.accepted.packets) [] history told
    legal says [] (sends_none (osc tempo))

pub returns-clause-midi : goal.returns-clause-midi
returns-clause-midi c = λ tempo history told legal says.
    replies_send c.lines_make_histories.ensures.growth midi tempo midi_with (λ before who call e reply adds. adds.accepted.messages) [] history told
    legal says [] (sends_none midi)

pub returns-clause-osc_on : goal.returns-clause-osc_on
returns-clause-osc_on c = λ tempo.
    reply_sends c.lines_make_histories.ensures.growth (osc tempo) tempo osc_with (λ before who call e reply adds. adds.accepted.packets)

pub returns-clause-midi_on : goal.returns-clause-midi_on
returns-clause-midi_on c = λ tempo.
    reply_sends c.lines_make_histories.ensures.growth midi tempo midi_with (λ before who call e reply adds. adds.accepted.messages)

pub returns-clause-others : goal.returns-clause-others
returns-clause-others c = others_read c.lines_make_histories.ensures.growth
