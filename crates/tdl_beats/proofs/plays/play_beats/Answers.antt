use Rattle.std.proofs.Common.{◌≡◌, ◌⊎◌, ◌+◌, ◌*◌, ◌≤◌, inl, inr, refl, arith}
use Rattle.tdl_answer.specs.Account.{wires}
use Rattle.tdl_beats.proofs.Loops.{beating_on_due, beating_on_none, beating_on_over, due_broke, ended_broke, ended_played}
use Rattle.tdl_beats.proofs.Own.{same_on, sits_on}
use Rattle.tdl_beats.proofs.plays.play_beats.Goals.{then-target-goal-via-then-target-goal, then-target-goal-via-else-target-goal+then-target-place}
use Rattle.tdl_beats.proofs.plays.play_beats.Goals as goal

pub loop-place-init : goal.loop-place-init
loop-place-init g c = record {
  same = (refl, refl, refl, refl, refl);
  on = beating_on_none c.args.shared.now.1 (46080 * c.from-goal.result) c.args.cycles (g.C.Clock.last c.args.clock.now)
      (g.C.Clock.beats c.args.clock.now) c.args.pass.now.seen (g.W.Wire.sent c.args.osc.now) (g.W.Wire.faults c.args.osc.now)
      (g.W.Wire.sent c.args.midi.now) (g.W.Wire.faults c.args.midi.now) (omega (arith, c.from-goal.ensures));
}

pub play_to-requires-clause-sits : goal.play_to-requires-clause-sits
play_to-requires-clause-sits g c =
    sits_on c.args.shared.now c.args.pass.now c.loop-place.pass c.loop-place.invariant.on.made c.requires.sits c.loop-place.invariant.same
    c.loop-place.invariant.on.on.own

pub returns-in_default-clause-played : goal.returns-in_default-clause-played
returns-in_default-clause-played g c =
    ended_played c.play_to.new.pass.seen
    (wires g.W.Wire.sent g.W.Wire.faults c.loop-place.osc c.play_to.new.osc c.loop-place.midi c.play_to.new.midi) c.min.result
    (record { osc = record { told = refl; faults = refl }; midi = record { told = refl; faults = refl } })
    c.loop-place.invariant.on c.in_default.ensures.none_left c.min.ensures c.play_to.result c.play_to.ensures.played

pub returns-in_default-clause-broke : goal.returns-in_default-clause-broke
returns-in_default-clause-broke g c =
    ended_broke c.play_to.new.pass.seen
    (wires g.W.Wire.sent g.W.Wire.faults c.loop-place.osc c.play_to.new.osc c.loop-place.midi c.play_to.new.midi) c.min.result
    (record { osc = record { told = refl; faults = refl }; midi = record { told = refl; faults = refl } })
    c.loop-place.invariant.on c.in_default.ensures.none_left c.min.ensures c.play_to.result c.play_to.ensures.broke

pub play_to-requires-then-target-goal-clause-sits :
    goal.play_to-requires-then-target-goal-clause-sits
play_to-requires-then-target-goal-clause-sits g c =
    sits_on c.args.shared.now c.args.pass.now c.loop-place.pass c.loop-place.invariant.on.made c.requires.sits c.loop-place.invariant.same
    c.loop-place.invariant.on.on.own

pub returns-in-Err-clause-broke : goal.returns-in-Err-clause-broke
returns-in-Err-clause-broke g c =
    let due : (c.min-target.result ≡ 46080 * c.from-goal.result) ⊎ (c.loop-place.place + 1440 ≤ c.min-target.result) =
    elim c.then-target-goal.branch [
      | then-target-goal-via-then-target-goal w ↦ inl w.if-target-goal.true
      | then-target-goal-via-else-target-goal+then-target-place w ↦ inr (omega (arith, w.if-target-place.true))
    ] in
    due_broke {wires = wires g.W.Wire.sent g.W.Wire.faults c.args.osc.now c.loop-place.osc c.args.midi.now c.loop-place.midi}
    c.play_to-then-target-goal.new.pass.seen
    (wires g.W.Wire.sent g.W.Wire.faults c.loop-place.osc c.play_to-then-target-goal.new.osc c.loop-place.midi c.play_to-then-target-goal.new.midi)
    c.min-target.result
    (record { osc = record { told = refl; faults = refl }; midi = record { told = refl; faults = refl } })
    c.loop-place.invariant.on (g.C.Clock.beats c.beat.new.self) c.in-Some.beat (g.C.Clock.last c.beat.new.self) c.loop-place-test.true
    c.in-Some.ensures.next c.in-Some.ensures.given c.min-target.ensures due c.in-Err.ensures.broke

pub loop-place-preserved-in-loop-place : goal.loop-place-preserved-in-loop-place
loop-place-preserved-in-loop-place g c =
    let due : (c.min-target.result ≡ 46080 * c.from-goal.result) ⊎ (c.loop-place.place + 1440 ≤ c.min-target.result) =
    elim c.then-target-goal.branch [
      | then-target-goal-via-then-target-goal w ↦ inl w.if-target-goal.true
      | then-target-goal-via-else-target-goal+then-target-place w ↦ inr (omega (arith, w.if-target-place.true))
    ] in record {
      same = same_on c.args.pass.now c.loop-place.pass c.play_to-then-target-goal.new.pass c.loop-place.invariant.same
          c.play_to-then-target-goal.ensures.pass;
      on = beating_on_due {wires = wires g.W.Wire.sent g.W.Wire.faults c.args.osc.now c.loop-place.osc c.args.midi.now c.loop-place.midi}
          c.play_to-then-target-goal.new.pass.seen
          (wires g.W.Wire.sent g.W.Wire.faults c.loop-place.osc c.play_to-then-target-goal.new.osc c.loop-place.midi c.play_to-then-target-goal.new.midi)
          c.min-target.result
          (record { osc = record { told = refl; faults = refl }; midi = record { told = refl; faults = refl } })
          c.loop-place.invariant.on (g.C.Clock.beats c.beat.new.self) c.in-Some.beat (g.C.Clock.last c.beat.new.self) c.loop-place-test.true
          c.in-Some.ensures.next c.in-Some.ensures.given c.min-target.ensures due c.in_default-play_to.ensures.played;
    }

pub returns-clause-played : goal.returns-clause-played
returns-clause-played g c = beating_on_over c.loop-place.invariant.on (omega (arith, c.loop-place-test.false))
