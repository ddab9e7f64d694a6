use Rattle.std.proofs.Common.{[]}
use Rattle.tdl_score.specs.Wires.{midi, osc}
use Rattle.tdl_core.proofs.Kept.{sends_none}
use Rattle.tdl_core.proofs.Runs.{legal_after, midi_after, osc_after}
use Rattle.tdl_core.proofs.laws.replies_carry_what_is_sent.Goals as goal

pub returns-clause-legal : goal.returns-clause-legal
returns-clause-legal c =
    let laws = c.lines_make_histories.ensures in
    λ tempo calls core takes. legal_after laws.growth _ calls core takes laws.growth.nothing

pub returns-clause-osc : goal.returns-clause-osc
returns-clause-osc c = λ tempo calls core takes. osc_after _ core calls takes [] (sends_none (osc tempo))

pub returns-clause-midi : goal.returns-clause-midi
returns-clause-midi c = λ tempo calls core takes. midi_after _ core calls takes [] (sends_none midi)

pub returns-clause-osc_on : goal.returns-clause-osc_on
returns-clause-osc_on c = osc_after

pub returns-clause-midi_on : goal.returns-clause-midi_on
returns-clause-midi_on c = midi_after
