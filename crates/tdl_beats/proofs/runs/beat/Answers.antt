use Rattle.std.proofs.Common.{◌≡◌, ℕ, [], subst}
use Rattle.tdl_score.specs.History.{entries_of}
use Rattle.tdl_answer.specs.Account.{wires}
use Rattle.tdl_beats.proofs.Ending.{ended_done, ended_fault, ended_memory}
use Rattle.tdl_beats.proofs.runs.beat.Goals as goal

pub returns-in-Ok-clause-beaten : goal.returns-in-Ok-clause-beaten
returns-in-Ok-clause-beaten g c =
    ended_done c.replies_are_sent.ensures.others c.args.shared.now.1 c.args.cycles c.args.pass.now.seen c.play_all.new.pass.seen
    (g.C.Clock.beats c.args.clock.now)
    (wires g.W.Wire.sent g.W.Wire.faults c.args.osc.now c.play_all.new.osc c.args.midi.now c.play_all.new.midi)
    (subst (λ (n : ℕ). entries_of n c.args.pass.now.seen ≡ []) c.requires.number c.requires.new) c.in-Ok.ensures.done

pub returns-in-Err-Fault-clause-beaten : goal.returns-in-Err-Fault-clause-beaten
returns-in-Err-Fault-clause-beaten g c =
    ended_fault c.replies_are_sent.ensures.others c.args.shared.now.1 c.args.cycles c.args.pass.now.seen c.play_all.new.pass.seen
    (g.C.Clock.beats c.args.clock.now)
    (wires g.W.Wire.sent g.W.Wire.faults c.args.osc.now c.play_all.new.osc c.args.midi.now c.play_all.new.midi)
    (subst (λ (n : ℕ). entries_of n c.args.pass.now.seen ≡ []) c.requires.number c.requires.new)
    c.in-Err-Fault.field-0 c.in-Err-Fault.field-0-is c.in-Err-Fault.ensures.broke

pub returns-in-Err-Memory-clause-beaten : goal.returns-in-Err-Memory-clause-beaten
returns-in-Err-Memory-clause-beaten g c =
    ended_memory c.replies_are_sent.ensures.others c.args.shared.now.1 c.args.cycles c.args.pass.now.seen c.play_all.new.pass.seen
    (g.C.Clock.beats c.args.clock.now)
    (wires g.W.Wire.sent g.W.Wire.faults c.args.osc.now c.play_all.new.osc c.args.midi.now c.play_all.new.midi)
    (subst (λ (n : ℕ). entries_of n c.args.pass.now.seen ≡ []) c.requires.number c.requires.new)
    c.in-Err-Memory.field-0 c.in-Err-Memory.field-0-is c.in-Err-Memory.ensures.broke
