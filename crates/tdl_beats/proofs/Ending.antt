-- What a run beside a clock came to, by what its calls did.
--     ended_done      all of them were made
--     ended_fault     a send failed
--     ended_memory    out of memory
use Rattle.std.proofs.Common.{◌≡◌, ℕ, inl, inr, List, [], ◌∷◌, ◌++◌, map, refl, sym, ap, ◌∙◌, subst}
use Rattle.std.specs.Prelude.{◌⊎◌, Option, IfSome}
use Rattle.tdl_io.specs.Faults.{CountRose}
use Rattle.tdl_tempo.specs.Tempo.{Pace}
use Rattle.tdl_score.specs.declared.histories.Entry.{Entry}
use Rattle.tdl_score.specs.declared.histories.Deed.{Deed}
use Rattle.tdl_score.specs.declared.histories.Deed.TheVariants.{Tick, Finish}
use Rattle.tdl_score.specs.History.{before_last_play, entries_of}
use Rattle.tdl_score.specs.Wires.{Protocol, osc, midi}
use Rattle.tdl_score.proofs.Entries.{IsLegal-front}
use Rattle.tdl_core.specs.Said.{HasSent, IsLegal, Says}
use Rattle.tdl_answer.specs.Account.{Account, WireAccounts}
use Rattle.tdl_answer.specs.Sent.{Sends, SendsAll, SendsBoth, SendsBothFrom, SendsFrom}
use Rattle.tdl_answer.proofs.WireSends.{sends_nothing}
use Rattle.tdl_beats.specs.declared.runs.BeatEnd.{BeatEnd}
use Rattle.tdl_beats.specs.declared.runs.BeatEnd.TheVariants as end
use Rattle.tdl_beats.specs.declared.calls.Stop.{Stop}
use Rattle.tdl_beats.specs.declared.calls.Stop.TheVariants.{Fault, Memory}
use Rattle.tdl_beats.specs.Beaten.{Beaten, deeds, deeds_of, is_broken}
use Rattle.tdl_beats.specs.Beats.{ticks}
use Rattle.tdl_beats.specs.Fronts.{IsFront}
use Rattle.tdl_beats.specs.inside.Playing.{BeatDone, Broke, SendsBothOn, SendsBothOnFrom, SendsOn, SendsOnFrom}
use Rattle.tdl_beats.proofs.Beating.{told_weaker}
use Rattle.tdl_beats.proofs.Fronts.{front_all}
use Rattle.tdl_beats.proofs.Making.{OthersSendNothing}
use Rattle.tdl_beats.proofs.Own.{deed_in, finished, none_own}

-- ---- to one wire, from a history that sends nothing
all_sent : {wire : Protocol} {old new : List Entry} {account : Account (List ℕ)} → HasSent wire old [] → SendsOn wire old new account
    → SendsAll wire new account
all_sent nothing sends = record { packets = sends.more; sends = sends.goes [] nothing; gained = sends.gained }

front_sent : {wire : Protocol} {old new : List Entry} {account : Account (List ℕ)} → HasSent wire old [] → SendsOnFrom wire old new account
    → SendsFrom wire (before_last_play new) new account
front_sent nothing sends = record {
  first = sends.first;
  more = sends.more;
  missing = sends.missing;
  sends_first = sends.goes_first [] nothing;
  sends_all = sends.goes [] nothing;
  gained = sends.gained;
}

fault_is_not_done : end.Fault ≡ end.Done → ⊥
fault_is_not_done e = cc

memory_is_not_done : end.Memory ≡ end.Done → ⊥
memory_is_not_done e = cc

memory_is_no_fault : end.Memory ≡ end.Fault → ⊥
memory_is_no_fault e = cc

memory_is_not_fault : Memory ≡ Fault → ⊥
memory_is_not_fault e = cc

fault_is_not_memory : Fault ≡ Memory → ⊥
fault_is_not_memory e = cc

done_is_no_fault : end.Done ≡ end.Fault → ⊥
done_is_no_fault e = cc

-- ---- to both, from one without entries of the number 0
module _ (others : OthersSendNothing) (tempo : Pace) (cycles : ℕ) (old new : List Entry) (beats : Option (List ℕ)) (wires : WireAccounts)
    (none : entries_of 0 old ≡ []) where
  nothing_yet : (wire : Protocol) → IsFront old new → IsLegal new → HasSent wire old []
  nothing_yet wire front legal =
      others wire old [] (0 ∷ []) (IsLegal-front Says old front.rest (subst IsLegal front.parts legal)) (inl refl) (old, refl, none_own old none) []
      (sends_nothing wire)

  all_to_both : IsFront old new → IsLegal new → SendsBothOn tempo old new wires → SendsBoth tempo new wires
  all_to_both front legal sends = record {
    packets = all_sent (nothing_yet (osc tempo) front legal) sends.packets;
    messages = all_sent (nothing_yet midi front legal) sends.messages;
  }

  front_to_both : IsFront old new → IsLegal new → SendsBothOnFrom tempo old new wires → SendsBothFrom tempo (before_last_play new) new wires
  front_to_both front legal sends = record {
    packets = front_sent (nothing_yet (osc tempo) front legal) sends.packets;
    messages = front_sent (nothing_yet midi front legal) sends.messages;
  }

  deeds_are : (done : List Deed) → deeds_of 0 new ≡ deeds_of 0 old ++ done → deeds_of 0 new ≡ done
  deeds_are done own = own ∙ ap (λ (entries : List Entry). map deed_in entries ++ done) none

  pub ended_done : BeatDone tempo cycles old new beats wires → Beaten tempo cycles new beats wires end.Done
  ended_done run =
      let own : deeds_of 0 new ≡ map Tick run.made ++ Finish ∷ [] = deeds_are (map Tick run.made ++ Finish ∷ []) run.on.own in
      let all : IfSome beats (λ told. deeds_of 0 new ≡ deeds told cycles) =
      told_weaker beats (λ told. run.made ≡ ticks told cycles) (λ told. deeds_of 0 new ≡ deeds told cycles)
      (λ told is. own ∙ ap (λ (places : List ℕ). map Tick places ++ Finish ∷ []) is) run.all in record {
        done = λ is. all;
        finished = λ is. finished new (map Tick run.made) own;
        front = told_weaker beats (λ told. deeds_of 0 new ≡ deeds told cycles) (λ told. IsFront (deeds_of 0 new) (deeds told cycles))
            (λ told is. subst (λ (xs : List Deed). IsFront (deeds_of 0 new) xs) is (front_all (deeds_of 0 new))) all;
        sends = inl (all_to_both run.on.grows run.legal run.on.sends);
        cause = λ is. absurd (done_is_no_fault is);
        counts = run.on.counts;
      }

  -- what was done by then is the front of all
  broke_to : {stop : Stop} (ended : BeatEnd) → (ended ≡ end.Done → ⊥)
      → Broke (λ (done : List Deed). IfSome beats (λ told. IsFront done (deeds told cycles))) tempo old new stop wires
      → Sends (is_broken ended) tempo new wires
      → (ended ≡ end.Fault → CountRose wires.osc.faults_before wires.osc.faults_after ⊎ CountRose wires.midi.faults_before wires.midi.faults_after)
      → Beaten tempo cycles new beats wires ended
  broke_to ended not_done broke sends cause = record {
    done = λ is. absurd (not_done is);
    finished = λ is. absurd (not_done is);
    front = told_weaker beats (λ told. IsFront broke.done (deeds told cycles)) (λ told. IsFront (deeds_of 0 new) (deeds told cycles))
        (λ told front. subst (λ (done : List Deed). IsFront done (deeds told cycles)) (sym (deeds_are broke.done broke.own)) front) broke.fact;
    sends = sends;
    cause = cause;
    counts = broke.counts;
  }

  pub ended_fault : (stop : Stop) → stop ≡ Fault
      → Broke (λ (done : List Deed). IfSome beats (λ told. IsFront done (deeds told cycles))) tempo old new stop wires
      → Beaten tempo cycles new beats wires end.Fault
  ended_fault Fault is broke = broke_to end.Fault fault_is_not_done broke (inr (refl, front_to_both broke.grows broke.legal broke.how)) (λ _. broke.how.cause)
  ended_fault Memory is broke = absurd (memory_is_not_fault is)

  pub ended_memory : (stop : Stop) → stop ≡ Memory
      → Broke (λ (done : List Deed). IfSome beats (λ told. IsFront done (deeds told cycles))) tempo old new stop wires
      → Beaten tempo cycles new beats wires end.Memory
  ended_memory Fault is broke = absurd (fault_is_not_memory is)
  ended_memory Memory is broke =
      broke_to end.Memory memory_is_not_done broke (inl (all_to_both broke.grows broke.legal broke.how)) (λ is. absurd (memory_is_no_fault is))
