-- What was sent of what a history calls for.
--     SentUpTo      a front of some packets
--     SentWith      what goes with a reply; SentWithUpTo, a front of it
--     SendsAll      exactly the packets of a history, to one wire
--     SendsFrom     a front of them that has at least those of an earlier history
--     Sends         so to both wires in a run, which broke or not
use Rattle.std.specs.Prelude.{ℕ, ◌≡◌, ◌⊎◌, Bool, true, false, IsTrue, List, ◌++◌, None}
use Rattle.tdl_io.specs.Told.{GainedExactly}
use Rattle.tdl_io.specs.Faults.{CountRose}
use Rattle.tdl_tempo.specs.Tempo.{Pace}
use Rattle.tdl_score.specs.declared.histories.Entry.{Entry}
use Rattle.tdl_score.specs.History.{before_last_play}
use Rattle.tdl_score.specs.Wires.{Protocol, osc, midi}
use Rattle.tdl_core.specs.declared.replies.Reply.{Reply}
use Rattle.tdl_core.specs.declared.replies.Reply.TheVariants.{Swapped, Looked, Ticked, Finished}
use Rattle.tdl_core.specs.Replies.{midi_with, osc_with}
use Rattle.tdl_core.specs.Said.{HasSent}
use Rattle.tdl_answer.specs.Account.{Account, WireAccounts}

-- a front of some packets was sent; a wire that failed may tell nothing afterwards
pub record SentUpTo (packets : List (List ℕ)) (wire : Account (List ℕ)) : Type 0 where
  pub sent : List (List ℕ)
  pub missing : List (List ℕ)
  pub parts : packets ≡ sent ++ missing
  pub gained : GainedExactly wire.told_before wire.told_after sent ⊎ ((wire.told_after ≡ None) × CountRose wire.faults_before wire.faults_after)

abbrev pub is_play_reply : Reply → Bool
is_play_reply (Swapped place boundary) = false
is_play_reply (Looked place text) = false
is_play_reply (Ticked place packets messages) = true
is_play_reply (Finished place messages) = true

-- what goes with a reply was sent to the wires, or a front of it to each
pub record SentWith (reply : Reply) (wires : WireAccounts) : Type 0 where
  pub packets : GainedExactly wires.osc.told_before wires.osc.told_after (osc_with reply)
  pub messages : GainedExactly wires.midi.told_before wires.midi.told_after (midi_with reply)

pub record SentWithUpTo (reply : Reply) (wires : WireAccounts) : Type 0 where
  pub plays : IsTrue (is_play_reply reply)
  pub packets : SentUpTo (osc_with reply) wires.osc
  pub messages : SentUpTo (midi_with reply) wires.midi

-- exactly the history's packets were sent to a wire
pub record SendsAll (wire : Protocol) (history : List Entry) (account : Account (List ℕ)) : Type 0 where
  pub packets : List (List ℕ)
  pub sends : HasSent wire history packets
  pub gained : GainedExactly account.told_before account.told_after packets

-- a front of them that has at least those of an earlier history; a wire that failed may tell nothing
-- afterwards
pub record SendsFrom (wire : Protocol) (earlier history : List Entry) (account : Account (List ℕ)) : Type 0 where
  pub first : List (List ℕ)
  pub more : List (List ℕ)
  pub missing : List (List ℕ)
  pub sends_first : HasSent wire earlier first
  pub sends_all : HasSent wire history (first ++ (more ++ missing))
  pub gained : GainedExactly account.told_before account.told_after (first ++ more)
      ⊎ ((account.told_after ≡ None) × CountRose account.faults_before account.faults_after)

-- so to each of the two wires
pub record SendsBoth (tempo : Pace) (history : List Entry) (wires : WireAccounts) : Type 0 where
  pub packets : SendsAll (osc tempo) history wires.osc
  pub messages : SendsAll midi history wires.midi

pub record SendsBothFrom (tempo : Pace) (earlier history : List Entry) (wires : WireAccounts) : Type 0 where
  pub packets : SendsFrom (osc tempo) earlier history wires.osc
  pub messages : SendsFrom midi earlier history wires.midi

-- so in a run; one that broke may have sent less, but at least what was sent before its last tick or finish
abbrev pub Sends : Bool → Pace → List Entry → WireAccounts → Type 0
Sends broke tempo history wires =
    SendsBoth tempo history wires ⊎ (IsTrue broke × SendsBothFrom tempo (before_last_play history) history wires)
