-- What a run beside a clock came to stays true while others go on.
--     OthersMoveNothing    a law of what is sent before the last entry that plays
--     run_stays            all that is said of the run
use Rattle.std.proofs.Common.{◌≡◌, ◌≢◌, ℕ, inl, inr, true, false, List, [], ◌∷◌, ◌++◌, refl, sym, ◌∙◌, subst, append_assoc, append-nil}
use Rattle.std.specs.Prelude.{Option}
use Rattle.std.proofs.lemmas.Bool.{or_left}
use Rattle.std.proofs.lemmas.List.Folds.{list_any-append}
use Rattle.tdl_tempo.specs.Tempo.{Pace}
use Rattle.tdl_turn.specs.Numbers.{Among, NoneOf, Reads}
use Rattle.tdl_score.specs.declared.histories.Entry.{Entry}
use Rattle.tdl_score.specs.declared.histories.Deed.{Deed}
use Rattle.tdl_score.specs.declared.histories.Deed.TheVariants.{Swap, Look, Tick, Finish}
use Rattle.tdl_score.specs.History.{MayBeDone, before_last_play, is_finish_deed, is_finished, plays}
use Rattle.tdl_score.specs.Wires.{Protocol}
use Rattle.tdl_score.proofs.Entries.{IsLegal-front}
use Rattle.tdl_core.specs.Said.{HasSent, IsLegal, Says}
use Rattle.tdl_answer.specs.Account.{Account, WireAccounts}
use Rattle.tdl_answer.specs.Sent.{SendsAll, SendsFrom}
use Rattle.tdl_beats.specs.declared.runs.BeatEnd.{BeatEnd}
use Rattle.tdl_beats.specs.Beaten.{Beaten, deeds, deeds_of}
use Rattle.tdl_beats.specs.Fronts.{IsFront}
use Rattle.tdl_beats.proofs.Beating.{told_weaker}
use Rattle.tdl_beats.proofs.Making.{OthersSendNothing}
use Rattle.tdl_beats.proofs.Own.{caller, deeds_stay}

abbrev pub OthersMoveNothing : Type 0
OthersMoveNothing = (wire : Protocol) (entries : List Entry) (e : Entry) → plays e.deed ≡ false → (all sent : List (List ℕ))
    → HasSent wire (entries ++ e ∷ []) all → HasSent wire (before_last_play entries) sent → HasSent wire (before_last_play (entries ++ e ∷ [])) sent

-- who has another number than 0 plays nothing
quiet : (before : List Entry) (who : ℕ) (deed : Deed) → MayBeDone Says before who deed → who ≢ 0 → plays deed ≡ false
quiet before who (Swap boundary text) may not = refl
quiet before who Look may not = refl
quiet before who (Tick to) may not = absurd (not may.ticker)
quiet before who Finish may not = absurd (not may.ticker)

module _ (others : OthersSendNothing) (unmoved : OthersMoveNothing) (numbers : List ℕ) (own : Among 0 numbers) where
  module _ (wire : Protocol) (first all : List (List ℕ)) where
    first_stays : (before more : List Entry) → IsLegal (before ++ more) → NoneOf caller numbers more → HasSent wire before all
        → HasSent wire (before_last_play before) first → HasSent wire (before_last_play (before ++ more)) first
    first_stays before [] legal none sent cut =
        subst (λ (entries : List Entry). HasSent wire (before_last_play entries) first) (sym (append-nil before)) cut
    first_stays before (e ∷ more) legal none sent cut =
        let each : (before ++ e ∷ []) ++ more ≡ before ++ e ∷ more = append_assoc before (e ∷ []) more in
        let longer : IsLegal ((before ++ e ∷ []) ++ more) = subst IsLegal (sym each) legal in
        let other : e.who ≢ 0 = λ is. none.0 (subst (λ (n : ℕ). Among n numbers) (sym is) own) in
        let next : HasSent wire (before ++ e ∷ []) all =
        others wire (before ++ e ∷ []) before numbers (IsLegal-front Says (before ++ e ∷ []) more longer) own (e ∷ [], refl, (none.0, tt)) all sent in
        subst (λ (entries : List Entry). HasSent wire (before_last_play entries) first) each
        (first_stays (before ++ e ∷ []) more longer none.1 next
        (unmoved wire before e (quiet before e.who e.deed (legal.each before e more refl).deed other) all first next cut))

  module _ (history seen : List Entry) (legal : IsLegal history) (reads : Reads caller history seen numbers) where
    all_stay : {wire : Protocol} {account : Account (List ℕ)} → SendsAll wire seen account → SendsAll wire history account
    all_stay {wire} {account} sends = record {
      packets = sends.packets;
      sends = others wire history seen numbers legal own reads sends.packets sends.sends;
      gained = sends.gained;
    }

    front_stays : {wire : Protocol} {account : Account (List ℕ)} → SendsFrom wire (before_last_play seen) seen account
        → SendsFrom wire (before_last_play history) history account
    front_stays {wire} {account} sends = record {
      first = sends.first;
      more = sends.more;
      missing = sends.missing;
      sends_first = subst (λ (entries : List Entry). HasSent wire (before_last_play entries) sends.first) (sym reads.1)
          (first_stays wire sends.first (sends.first ++ (sends.more ++ sends.missing)) seen reads.0 (subst IsLegal reads.1 legal) reads.2
          sends.sends_all sends.sends_first);
      sends_all = others wire history seen numbers legal own reads (sends.first ++ (sends.more ++ sends.missing)) sends.sends_all;
      gained = sends.gained;
    }

    still_finished : is_finished seen ≡ true → is_finished history ≡ true
    still_finished finished =
        subst (λ (entries : List Entry). is_finished entries ≡ true) (sym reads.1)
        (list_any-append (λ (e : Entry). is_finish_deed e.deed) seen reads.0 ∙ or_left (is_finished seen) (is_finished reads.0) finished)

    pub run_stays : (tempo : Pace) (cycles : ℕ) (beats : Option (List ℕ)) (wires : WireAccounts) (end : BeatEnd) → Beaten tempo cycles seen beats wires end
        → Beaten tempo cycles history beats wires end
    run_stays tempo cycles beats wires end run =
        let same : deeds_of 0 history ≡ deeds_of 0 seen = deeds_stay numbers own history seen reads in record {
          done = λ is. told_weaker beats (λ told. deeds_of 0 seen ≡ deeds told cycles) (λ told. deeds_of 0 history ≡ deeds told cycles)
              (λ told all. same ∙ all) (run.done is);
          finished = λ is. still_finished (run.finished is);
          front = told_weaker beats (λ told. IsFront (deeds_of 0 seen) (deeds told cycles)) (λ told. IsFront (deeds_of 0 history) (deeds told cycles))
              (λ told front. subst (λ (done : List Deed). IsFront done (deeds told cycles)) (sym same) front) run.front;
          sends = elim run.sends [
            | inl all ↦ inl (record { packets = all_stay all.packets; messages = all_stay all.messages })
            | inr part ↦ inr (part.0, record { packets = front_stays part.1.packets; messages = front_stays part.1.messages })
          ];
          cause = run.cause;
          counts = run.counts;
        }
