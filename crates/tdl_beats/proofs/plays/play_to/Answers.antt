use Rattle.std.proofs.Common.{refl}
use Rattle.tdl_beats.proofs.Loops.{stepping_on_broke, stepping_on_more, stepping_on_none}
use Rattle.tdl_beats.proofs.Own.{same_on, sits_on}
use Rattle.tdl_beats.proofs.plays.play_to.Goals as goal

pub loop-place-init : goal.loop-place-init
loop-place-init g c = record {
  same = (refl, refl, refl, refl, refl);
  on = stepping_on_none c.args.shared.now.1 c.args.from c.args.target c.args.pass.now.seen (g.W.Wire.sent c.args.osc.now)
      (g.W.Wire.faults c.args.osc.now) (g.W.Wire.sent c.args.midi.now) (g.W.Wire.faults c.args.midi.now);
}

pub make_call-requires-clause-sits : goal.make_call-requires-clause-sits
make_call-requires-clause-sits g c =
    sits_on c.args.shared.now c.args.pass.now c.loop-place.pass c.loop-place.invariant.on.made c.requires.sits c.loop-place.invariant.same
    c.loop-place.invariant.on.on.own

pub returns-in-Err-clause-broke : goal.returns-in-Err-clause-broke
returns-in-Err-clause-broke g c =
    stepping_on_broke c.min-next.result
    (record { osc = record { told = refl; faults = refl }; midi = record { told = refl; faults = refl } })
    c.loop-place.invariant.on c.loop-place-test.true c.min-next.ensures c.in-Err.ensures.broke

pub loop-place-preserved : goal.loop-place-preserved
loop-place-preserved g c = record {
  same = same_on c.args.pass.now c.loop-place.pass c.make_call.new.pass c.loop-place.invariant.same c.make_call.ensures.pass;
  on = stepping_on_more c.min-next.result
      (record { osc = record { told = refl; faults = refl }; midi = record { told = refl; faults = refl } })
      c.loop-place.invariant.on c.loop-place-test.true c.min-next.ensures c.in_default.ensures.played;
}
