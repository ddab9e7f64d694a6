-- What the calls of a run beside a clock did, from one history to a longer one.
--     Sits            the pass of such a run, before its finish
--     SendsOn         what the history sends to a wire goes on by what was sent to it
--     SendsOnFrom     it goes on by more than was sent, which has at least what went before the last tick or finish
--     Played          the number 0 did these deeds, and all that goes with them was sent
--     Broke           it did some deeds, up to a fault or out of memory
--     BeatsPlayed     the deeds are the ticks of the beats
--     BeatDone        and the finish
--     SteppingOn      on the way to a target
--     BeatingOn       between two beats
use Rattle.std.specs.Prelude.{◌≡◌, ℕ, ◌⊎◌, List, [], ◌∷◌, ◌++◌, map, Option, None, IfSome}
use Rattle.atomic_table.specs.Seated.{TableId}
use Rattle.tdl_io.specs.Faults.{CountRose}
use Rattle.tdl_io.specs.Told.{GainedExactly}
use Rattle.tdl_tempo.specs.Tempo.{Pace}
use Rattle.tdl_session.specs.Passes.{PassView, IsPassOf, mine}
use Rattle.tdl_score.specs.declared.histories.Entry.{Entry}
use Rattle.tdl_score.specs.declared.histories.Deed.{Deed}
use Rattle.tdl_score.specs.declared.histories.Deed.TheVariants.{Tick, Finish}
use Rattle.tdl_score.specs.History.{before_last_play}
use Rattle.tdl_score.specs.Wires.{Protocol, osc, midi}
use Rattle.tdl_core.specs.Replies.{MayPlay}
use Rattle.tdl_core.specs.Said.{HasSent, IsLegal}
use Rattle.tdl_answer.specs.Account.{Account, KeepsWires, WireAccounts}
use Rattle.tdl_beats.specs.declared.calls.Stop.{Stop}
use Rattle.tdl_beats.specs.declared.calls.Stop.TheVariants.{Fault, Memory}
use Rattle.tdl_beats.specs.Beaten.{deeds_of}
use Rattle.tdl_beats.specs.Beats.{steps_to, ticks}
use Rattle.tdl_beats.specs.Fronts.{IsFront}
use Rattle.tdl_beats.specs.inside.Beating.{Beating, Stepping}

pub record Sits (shared : TableId × Pace) (p : PassView Entry Pace) : Type 0 where
  pub of : IsPassOf shared p
  pub may : MayPlay (mine (λ (e : Entry). e.who) p) p.number

pub record SendsOn (wire : Protocol) (old new : List Entry) (account : Account (List ℕ)) : Type 0 where
  pub more : List (List ℕ)
  pub goes : (all : List (List ℕ)) → HasSent wire old all → HasSent wire new (all ++ more)
  pub gained : GainedExactly account.told_before account.told_after more

-- a wire that failed may tell nothing afterwards
pub record SendsOnFrom (wire : Protocol) (old new : List Entry) (account : Account (List ℕ)) : Type 0 where
  pub first : List (List ℕ)
  pub more : List (List ℕ)
  pub missing : List (List ℕ)
  pub goes_first : (all : List (List ℕ)) → HasSent wire old all → HasSent wire (before_last_play new) (all ++ first)
  pub goes : (all : List (List ℕ)) → HasSent wire old all → HasSent wire new (all ++ (first ++ (more ++ missing)))
  pub gained : GainedExactly account.told_before account.told_after (first ++ more)
      ⊎ ((account.told_after ≡ None) × CountRose account.faults_before account.faults_after)

-- so to both wires
pub record SendsBothOn (tempo : Pace) (old new : List Entry) (wires : WireAccounts) : Type 0 where
  pub packets : SendsOn (osc tempo) old new wires.osc
  pub messages : SendsOn midi old new wires.midi

-- and one of them failed
pub record SendsBothOnFrom (tempo : Pace) (old new : List Entry) (wires : WireAccounts) : Type 0 where
  pub packets : SendsOnFrom (osc tempo) old new wires.osc
  pub messages : SendsOnFrom midi old new wires.midi
  pub cause : CountRose wires.osc.faults_before wires.osc.faults_after ⊎ CountRose wires.midi.faults_before wires.midi.faults_after

pub record Played (tempo : Pace) (old new : List Entry) (done : List Deed) (wires : WireAccounts) : Type 0 where
  pub own : deeds_of 0 new ≡ deeds_of 0 old ++ done
  pub grows : IsFront old new
  pub sends : SendsBothOn tempo old new wires
  pub counts : KeepsWires wires

-- out of memory, all was sent that goes with what was done
abbrev pub BrokeBy : Stop → Pace → List Entry → List Entry → WireAccounts → Type 0
BrokeBy Fault tempo old new wires = SendsBothOnFrom tempo old new wires
BrokeBy Memory tempo old new wires = SendsBothOn tempo old new wires

-- of the deeds that were done a fact holds, as that they are the first of some
pub record Broke (Fact : List Deed → Type 0) (tempo : Pace) (old new : List Entry) (stop : Stop) (wires : WireAccounts) : Type 0 where
  pub done : List Deed
  pub fact : Fact done
  pub own : deeds_of 0 new ≡ deeds_of 0 old ++ done
  pub grows : IsFront old new
  pub legal : IsLegal new
  pub how : BrokeBy stop tempo old new wires
  pub counts : KeepsWires wires

pub record BeatsPlayed (tempo : Pace) (cycles : ℕ) (old new : List Entry) (beats : Option (List ℕ)) (wires : WireAccounts) : Type 0 where
  pub made : List ℕ
  pub all : IfSome beats (λ told. made ≡ ticks told cycles)
  pub on : Played tempo old new (map Tick made) wires

pub record BeatDone (tempo : Pace) (cycles : ℕ) (old new : List Entry) (beats : Option (List ℕ)) (wires : WireAccounts) : Type 0 where
  pub made : List ℕ
  pub all : IfSome beats (λ told. made ≡ ticks told cycles)
  pub on : Played tempo old new (map Tick made ++ Finish ∷ []) wires
  pub legal : IsLegal new

-- from a place on, and now at another
pub record SteppingOn (tempo : Pace) (from place target : ℕ) (old new : List Entry) (wires : WireAccounts) : Type 0 where
  pub made : List ℕ
  pub stepping : Stepping place target made (steps_to from target)
  pub on : Played tempo old new (map Tick made) wires

pub record BeatingOn (tempo : Pace) (goal cycles : ℕ) (beats left : Option (List ℕ)) (place last given : ℕ)
    (old new : List Entry) (wires : WireAccounts) : Type 0 where
  pub made : List ℕ
  pub beating : Beating goal cycles beats left made place last given
  pub on : Played tempo old new (map Tick made) wires
