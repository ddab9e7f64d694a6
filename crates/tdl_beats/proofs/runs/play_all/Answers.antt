use Rattle.std.proofs.Common.{refl}
use Rattle.tdl_answer.specs.Account.{wires}
use Rattle.tdl_beats.proofs.Loops.{finish_broke, finish_played}
use Rattle.tdl_beats.proofs.Own.{sits_on}
use Rattle.tdl_beats.proofs.runs.play_all.Goals as goal

pub make_call-requires-clause-sits : goal.make_call-requires-clause-sits
make_call-requires-clause-sits g c =
    sits_on c.args.shared.now c.args.pass.now c.play_beats.new.pass c.in_default.ensures.played.made c.requires.sits c.in_default.ensures.pass
    c.in_default.ensures.played.on.own

pub returns-clause-done : goal.returns-clause-done
returns-clause-done g c =
    finish_played c.make_call.new.pass.seen
    (wires g.W.Wire.sent g.W.Wire.faults c.play_beats.new.osc c.make_call.new.osc c.play_beats.new.midi c.make_call.new.midi)
    (record { osc = record { told = refl; faults = refl }; midi = record { told = refl; faults = refl } })
    c.in_default.ensures.played c.make_call.result c.make_call.ensures.legal c.make_call.ensures.played

pub returns-clause-broke : goal.returns-clause-broke
returns-clause-broke g c =
    finish_broke c.make_call.new.pass.seen
    (wires g.W.Wire.sent g.W.Wire.faults c.play_beats.new.osc c.make_call.new.osc c.play_beats.new.midi c.make_call.new.midi)
    (record { osc = record { told = refl; faults = refl }; midi = record { told = refl; faults = refl } })
    c.in_default.ensures.played c.make_call.result c.make_call.ensures.broke
