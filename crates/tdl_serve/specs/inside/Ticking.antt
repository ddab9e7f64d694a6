-- What the ticker of a run did.
use Rattle.std.specs.Prelude.{◌≡◌, ℕ, List, Option}
use Rattle.tdl_tempo.specs.Tempo.{Pace}
use Rattle.tdl_score.specs.declared.histories.Entry.{Entry}
use Rattle.tdl_answer.specs.Account.{wires}
use Rattle.tdl_beats.specs.declared.runs.BeatEnd.{BeatEnd}
use Rattle.tdl_beats.specs.Beaten.{Beaten}
use Rattle.tdl_serve.specs.declared.ticker.Ticker.{Ticker}

pub record Ticked {C W : Type 0} (beats : C → Option (List ℕ)) (sent : W → Option (List (List ℕ))) (faults : W → ℕ) (tempo : Pace) (history : List Entry)
    (old new : Ticker C W) (end : BeatEnd) : Type 0 where
  pub beaten : Beaten tempo old.length history (beats old.clock.now) (wires sent faults old.osc.now new.osc.now old.midi.now new.midi.now) end
  -- what is held is still the same clock and the same wires
  pub clock : new.clock.ghost_name ≡ old.clock.ghost_name
  pub osc : new.osc.ghost_name ≡ old.osc.ghost_name
  pub midi : new.midi.ghost_name ≡ old.midi.ghost_name
