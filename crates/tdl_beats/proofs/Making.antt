-- What one call of the number 0 does, as the others' entries send nothing.
--     ReplyGoesOn, OthersSendNothing, CutsAtPlay    laws of what is sent
--     call_played     it was accepted, and what goes with its reply was sent
--     call_failed     it was accepted, and a send failed
--     call_refused    there was no memory for it
use Rattle.std.proofs.Common.{◌≡◌, ℕ, true, List, [], ◌∷◌, ◌++◌, Option, IsTrue, refl, sym, ap, ◌∙◌, subst, append_assoc, append-nil, arith}
use Rattle.std.specs.Prelude.{◌⊎◌}
use Rattle.std.proofs.lemmas.Bool.{false≢true}
use Rattle.tdl_io.specs.Faults.{CountRose}
use Rattle.tdl_tempo.specs.Tempo.{Pace}
use Rattle.tdl_turn.specs.Numbers.{Among, Reads}
use Rattle.tdl_session.specs.Passes.{PassView, SamePass, Called, Refused}
use Rattle.tdl_score.specs.declared.histories.Entry.{Entry}
use Rattle.tdl_score.specs.declared.histories.Deed.{Deed}
use Rattle.tdl_score.specs.History.{before_last_play, plays}
use Rattle.tdl_score.specs.Wires.{Protocol, osc, midi}
use Rattle.tdl_score.proofs.Entries.{IsLegal-front}
use Rattle.tdl_core.specs.declared.calls.Call.{Call}
use Rattle.tdl_core.specs.declared.calls.Call.TheVariants as call
use Rattle.tdl_core.specs.declared.replies.Reply.{Reply}
use Rattle.tdl_core.specs.Replies.{deed_of, midi_with, osc_with}
use Rattle.tdl_core.specs.Said.{HasSent, IsLegal, Says}
use Rattle.tdl_core.specs.Sessions.{Adds}
use Rattle.tdl_answer.specs.Account.{Account, KeepsWires, WireAccounts}
use Rattle.tdl_answer.specs.Sent.{SentUpTo, SentWith, SentWithUpTo}
use Rattle.tdl_answer.proofs.DeviceCalls.{still_both}
use Rattle.tdl_beats.specs.declared.calls.Stop.TheVariants.{Fault, Memory}
use Rattle.tdl_beats.specs.Beaten.{deeds_of}
use Rattle.tdl_beats.specs.Fronts.{IsFront}
use Rattle.tdl_beats.specs.inside.Playing.{Broke, Played, SendsOnFrom}
use Rattle.tdl_beats.proofs.Fronts.{front_all, front_none}
use Rattle.tdl_beats.proofs.Own.{caller, deed_in, deeds_called, deeds_stay}
use Rattle.tdl_beats.proofs.Sending.{sends_quietly}

-- what goes to a wire with a reply is what the history sends more
abbrev pub ReplyGoesOn : Protocol → Pace → (Reply → List (List ℕ)) → Type 0
ReplyGoesOn wire tempo with_reply = (p q : PassView Entry Pace) (call : Call) (reply : Reply) → IsLegal q.seen → Among 0 p.made
    → Called caller (λ h e. Adds tempo h p.number call e reply) p q
    → (packets : List (List ℕ)) → HasSent wire p.seen packets → HasSent wire q.seen (packets ++ with_reply reply)

abbrev pub OthersSendNothing : Type 0
OthersSendNothing = (wire : Protocol) (history seen : List Entry) (numbers : List ℕ) → IsLegal history → Among 0 numbers → Reads caller history seen numbers
    → (packets : List (List ℕ)) → HasSent wire seen packets → HasSent wire history packets

abbrev pub CutsAtPlay : Type 0
CutsAtPlay = (entries : List Entry) (e : Entry) → plays e.deed ≡ true → before_last_play (entries ++ e ∷ []) ≡ entries

-- the deed of a call that plays is told by the call alone
play_deed : (entries : List Entry) (call : Call) → IsTrue (plays (deed_of [] call)) → deed_of entries call ≡ deed_of [] call
play_deed entries (call.Swap text every change) play = absurd (false≢true play)
play_deed entries call.Look play = absurd (false≢true play)
play_deed entries (call.Tick to) play = refl
play_deed entries call.Finish play = refl

-- ---- an accepted call
module _ (tempo : Pace) (p q : PassView Entry Pace) (call : Call) (reply : Reply) (wires : WireAccounts) (play : IsTrue (plays (deed_of [] call)))
    (ticker : p.number ≡ 0) (same : SamePass p q) (legal : IsLegal q.seen) (own : Among p.number p.made)
    (called : Called caller (λ h e. Adds tempo h p.number call e reply) p q) (counts : KeepsWires wires)
    (packets_go_on : ReplyGoesOn (osc tempo) tempo osc_with) (messages_go_on : ReplyGoesOn midi tempo midi_with) where
  among : Among 0 p.made
  among = subst (λ (n : ℕ). Among n p.made) ticker own

  the_deed : called.1.deed ≡ deed_of [] call
  the_deed = ap deed_in called.5.entry ∙ play_deed (p.seen ++ called.0) call play

  deeds : deeds_of 0 q.seen ≡ deeds_of 0 p.seen ++ deed_of [] call ∷ []
  deeds = deeds_called p q called.1 (deed_of [] call) ticker same.2 called.6 the_deed

  longer : IsFront p.seen q.seen
  longer = record { rest = called.0 ++ called.1 ∷ []; parts = called.2 ∙ append_assoc p.seen called.0 (called.1 ∷ []) }

  pub call_played : SentWith reply wires → Played tempo p.seen q.seen (deed_of [] call ∷ []) wires
  call_played sent = record {
    own = deeds;
    grows = longer;
    sends = record {
      packets = record { more = osc_with reply; goes = packets_go_on p q call reply legal among called; gained = sent.packets };
      messages = record { more = midi_with reply; goes = messages_go_on p q call reply legal among called; gained = sent.messages };
    };
    counts = counts;
  }

  -- what others did before the call sends nothing
  before_call : OthersSendNothing → (wire : Protocol) → (all : List (List ℕ)) → HasSent wire p.seen all → HasSent wire (p.seen ++ called.0) all
  before_call others wire all sent =
      others wire (p.seen ++ called.0) p.seen p.made (IsLegal-front Says (p.seen ++ called.0) (called.1 ∷ []) (subst IsLegal called.2 legal)) among
      (called.0, refl, called.4) all sent

  sends_up_to : OthersSendNothing → CutsAtPlay → (wire : Protocol) (with_reply : Reply → List (List ℕ)) (account : Account (List ℕ))
      → ReplyGoesOn wire tempo with_reply → SentUpTo (with_reply reply) account → SendsOnFrom wire p.seen q.seen account
  sends_up_to others cuts wire with_reply account goes_on some =
      let cut : before_last_play q.seen ≡ p.seen ++ called.0 =
      ap before_last_play called.2 ∙ cuts (p.seen ++ called.0) called.1 (ap plays the_deed ∙ play) in record {
        first = [];
        more = some.sent;
        missing = some.missing;
        goes_first = λ all sent.
            subst (λ (packets : List (List ℕ)). HasSent wire (before_last_play q.seen) packets) (sym (append-nil all))
            (subst (λ (entries : List Entry). HasSent wire entries all) (sym cut) (before_call others wire all sent));
        goes = λ all sent. subst (λ (packets : List (List ℕ)). HasSent wire q.seen (all ++ packets)) some.parts
            (goes_on p q call reply legal among called all sent);
        gained = some.gained;
      }

  pub call_failed : OthersSendNothing → CutsAtPlay → SentWithUpTo reply wires
      → CountRose wires.osc.faults_before wires.osc.faults_after ⊎ CountRose wires.midi.faults_before wires.midi.faults_after
      → Broke (λ (done : List Deed). IsFront done (deed_of [] call ∷ [])) tempo p.seen q.seen Fault wires
  call_failed others cuts some rose = record {
    done = deed_of [] call ∷ [];
    fact = front_all (deed_of [] call ∷ []);
    own = deeds;
    grows = longer;
    legal = legal;
    how = record {
      packets = sends_up_to others cuts (osc tempo) osc_with wires.osc packets_go_on some.packets;
      messages = sends_up_to others cuts midi midi_with wires.midi messages_go_on some.messages;
      cause = rose;
    };
    counts = counts;
  }

-- ---- a call that was refused
pub call_refused : (tempo : Pace) (p q : PassView Entry Pace) (refuses : List Entry → Type 0) (all : List Deed) (told_osc : Option (List (List ℕ)))
    (osc_faults : ℕ) (told_midi : Option (List (List ℕ))) (midi_faults : ℕ) → OthersSendNothing → p.number ≡ 0 → IsLegal q.seen → Among p.number p.made
    → Refused caller refuses p q
    → Broke (λ (done : List Deed). IsFront done all) tempo p.seen q.seen Memory (still_both told_osc osc_faults told_midi midi_faults)
call_refused tempo p q refuses all told_osc osc_faults told_midi midi_faults others ticker legal own refused =
    let among : Among 0 p.made = subst (λ (n : ℕ). Among n p.made) ticker own in
    let reads : Reads caller q.seen p.seen p.made = (refused.0, refused.1, refused.2) in record {
      done = [];
      fact = front_none all;
      own = deeds_stay p.made among q.seen p.seen reads ∙ sym (append-nil (deeds_of 0 p.seen));
      grows = record { rest = refused.0; parts = refused.1 };
      legal = legal;
      how = record {
        packets = sends_quietly told_osc osc_faults (others (osc tempo) q.seen p.seen p.made legal among reads);
        messages = sends_quietly told_midi midi_faults (others midi q.seen p.seen p.made legal among reads);
      };
      counts = record { osc_count = omega arith; midi_count = omega arith };
    }
