-- What a run beside a clock came to.
--     deeds     the ticks of the beats, and then the finish
--     Beaten    these are what the number 0 did, or after a fault or out of memory the first of them, and what goes
--               with them was sent
use Rattle.std.specs.Prelude.{◌≡◌, ℕ, ◌⊎◌, Bool, true, false, IfSome, List, [], ◌∷◌, ◌++◌, map, Option}
use Rattle.tdl_io.specs.Faults.{CountRose}
use Rattle.tdl_tempo.specs.Tempo.{Pace}
use Rattle.tdl_score.specs.declared.histories.Entry.{Entry}
use Rattle.tdl_score.specs.declared.histories.Deed.{Deed}
use Rattle.tdl_score.specs.declared.histories.Deed.TheVariants.{Tick, Finish}
use Rattle.tdl_score.specs.History.{entries_of, is_finished}
use Rattle.tdl_answer.specs.Account.{KeepsWires, WireAccounts}
use Rattle.tdl_answer.specs.Sent.{Sends}
use Rattle.tdl_beats.specs.declared.runs.BeatEnd.{BeatEnd}
use Rattle.tdl_beats.specs.declared.runs.BeatEnd.TheVariants.{Done, Fault, Memory}
use Rattle.tdl_beats.specs.Beats.{ticks}
use Rattle.tdl_beats.specs.Fronts.{IsFront}

-- by the beats of a clock, in a run of so many cycles
abbrev pub deeds : List ℕ → ℕ → List Deed
deeds beats cycles = map Tick (ticks beats cycles) ++ Finish ∷ []

abbrev pub is_broken : BeatEnd → Bool
is_broken Done = false
is_broken Fault = true
is_broken Memory = false

abbrev pub deeds_of : ℕ → List Entry → List Deed
deeds_of who history = map (λ e. e.deed) (entries_of who history)

-- where the clock told its beats
pub record Beaten (tempo : Pace) (cycles : ℕ) (history : List Entry) (beats : Option (List ℕ)) (wires : WireAccounts) (end : BeatEnd) : Type 0 where
  -- all of them were done, and the run has its finish
  pub done : end ≡ Done → IfSome beats (λ told. deeds_of 0 history ≡ deeds told cycles)
  pub finished : end ≡ Done → is_finished history ≡ true
  -- else the first of them
  pub front : IfSome beats (λ told. IsFront (deeds_of 0 history) (deeds told cycles))
  -- the packets sent to each wire are the history's, or after a fault a front of them that has at least those before its last tick or finish
  pub sends : Sends (is_broken end) tempo history wires
  -- a send failed
  pub cause : end ≡ Fault → CountRose wires.osc.faults_before wires.osc.faults_after ⊎ CountRose wires.midi.faults_before wires.midi.faults_after
  pub counts : KeepsWires wires
