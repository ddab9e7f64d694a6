-- What was sent to a wire, while a history goes on.
--     sends_none      nothing, at the start
--     GoesOn          what a history sends to a wire goes on by more packets
--     sends_more      these were sent
--     sends_front     a front of them was sent
--     sends_still     nothing was
use Rattle.std.proofs.Common.{◌≡◌, ℕ, ◌≤◌, inl, inr, List, [], ◌++◌, Option, refl, subst, append-nil}
use Rattle.tdl_io.specs.Told.{GainedExactly}
use Rattle.tdl_io.proofs.Told.{gained_nothing}
use Rattle.tdl_tempo.specs.Tempo.{Pace}
use Rattle.tdl_score.specs.declared.histories.Entry.{Entry}
use Rattle.tdl_notes.specs.Notes.{marks, midi as midi_before}
use Rattle.tdl_score.specs.Score.{score}
use Rattle.tdl_score.specs.Wires.{Protocol, osc, midi}
use Rattle.tdl_core.specs.Said.{HasSent}
use Rattle.tdl_answer.specs.Account.{Account}
use Rattle.tdl_answer.specs.Sent.{SendsAll, SendsBoth, SendsFrom, SentUpTo}
use Rattle.tdl_answer.proofs.DeviceCalls.{Meets, over, still_both, gained_on, rose_on}

pub sends_nothing : (wire : Protocol) → HasSent wire [] []
unfolding score marks midi_before
sends_nothing (osc tempo) = record { changes = []; has = refl; sent = refl }
sends_nothing midi = record { changes = []; has = refl; sent = refl }

pub sends_none : (tempo : Pace) (to_osc : Option (List (List ℕ))) (osc_faults : ℕ) (to_midi : Option (List (List ℕ))) (midi_faults : ℕ)
    → SendsBoth tempo [] (still_both to_osc osc_faults to_midi midi_faults)
sends_none tempo to_osc osc_faults to_midi midi_faults = record {
  packets = record { packets = []; sends = sends_nothing (osc tempo); gained = gained_nothing to_osc };
  messages = record { packets = []; sends = sends_nothing midi; gained = gained_nothing to_midi };
}

-- to one wire, while a history goes on by more packets
abbrev pub GoesOn : Protocol → List Entry → List Entry → List (List ℕ) → Type 0
GoesOn wire old new more = (all : List (List ℕ)) → HasSent wire old all → HasSent wire new (all ++ more)

pub sends_more : {wire : Protocol} {old new : List Entry} {more : List (List ℕ)} {account account' : Account (List ℕ)} → Meets account account'
    → GoesOn wire old new more → SendsAll wire old account → GainedExactly account'.told_before account'.told_after more
    → SendsAll wire new (over account account')
sends_more {wire} {old} {new} {more} {account} {account'} meets goes before gained = record {
  packets = before.packets ++ more;
  sends = goes before.packets before.sends;
  gained = gained_on meets before.gained gained;
}

pub sends_front : {wire : Protocol} {old new : List Entry} {more : List (List ℕ)} {account account' : Account (List ℕ)} → Meets account account'
    → GoesOn wire old new more → SendsAll wire old account → account.faults_before ≤ account.faults_after → SentUpTo more account'
    → SendsFrom wire old new (over account account')
sends_front {wire} {old} {new} {more} {account} {account'} meets goes before kept some = record {
  first = before.packets;
  more = some.sent;
  missing = some.missing;
  sends_first = before.sends;
  sends_all = subst (λ (packets : List (List ℕ)). HasSent wire new (before.packets ++ packets)) some.parts (goes before.packets before.sends);
  gained = elim some.gained [
    | inl gained ↦ inl (gained_on meets before.gained gained)
    | inr lost ↦ inr (lost.0, rose_on meets kept lost.1)
  ];
}

pub sends_still : {wire : Protocol} {entries : List Entry} {account account' : Account (List ℕ)} → Meets account account' → SendsAll wire entries account
    → GainedExactly account'.told_before account'.told_after [] → SendsAll wire entries (over account account')
sends_still {wire} {entries} {account} {account'} meets before none = record {
  packets = before.packets;
  sends = before.sends;
  gained = subst (λ (xs : List (List ℕ)). GainedExactly account.told_before account'.told_after xs) (append-nil before.packets)
      (gained_on meets before.gained none);
}
