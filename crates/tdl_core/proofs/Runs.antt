-- Calls that one core takes, one after another.
--     follows                 the entry of a call that may be made, and that nothing refuses, may follow
--     legal_after             so the history stays legal
--     osc_after, midi_after   what was sent goes on by what the answers carry
use Rattle.std.proofs.Common.{◌≡◌, ℕ, None, List, [], ◌∷◌, ◌++◌, false, refl, sym, ◌∙◌, subst, append_assoc, append-nil}
use Rattle.std.specs.Prelude.{Result, Ok, Err}
use Rattle.std.specs.List.{flat_map}
use Rattle.tdl_tempo.specs.Tempo.{Pace}
use Rattle.tdl_desk.specs.Changes.{map_change}
use Rattle.tdl_score.specs.declared.histories.Entry.{Entry}
use Rattle.tdl_score.specs.Growth.{GrowthLaws}
use Rattle.tdl_score.specs.History.{entries_of, frontier, is_finished, performed_count, tick_count}
use Rattle.tdl_score.specs.Programs.{program_tree}
use Rattle.tdl_core.specs.declared.calls.Call.{Call}
use Rattle.tdl_core.specs.declared.calls.Call.TheVariants.{Swap, Look, Tick, Finish}
use Rattle.tdl_core.specs.declared.replies.Reply.{Reply}
use Rattle.tdl_core.specs.declared.replies.Refusal.{Refusal}
use Rattle.tdl_core.specs.Replies.{Answers, CoreState, MayCall, MayPlay, entry_of, osc_with, refusal_of}
use Rattle.tdl_core.specs.Runs.{AnsweredCall, TakesCalls, joined_midi, joined_osc, midi_of, osc_of}
use Rattle.tdl_core.specs.Said.{HasMidi, HasOsc, IsLegal, MayFollow, Says}
use Rattle.tdl_core.proofs.OwnFinish.{own_finish}
use Rattle.tdl_core.proofs.Refusals.{has_room, tick_bounds}

still_going : (entries : List Entry) (who : ℕ) → IsLegal entries → MayPlay (entries_of who entries) who → is_finished entries ≡ false
still_going entries who legal may =
    sym (own_finish entries legal) ∙ subst (λ (w : ℕ). is_finished (entries_of w entries) ≡ false) may.ticker may.going

pub follows : (entries : List Entry) (who : ℕ) (call : Call) → IsLegal entries → MayCall (entries_of who entries) who call → refusal_of entries call ≡ None
    → MayFollow entries (entry_of entries who call)
follows entries who (Swap text every change) legal may allowed = record {
  frontier = refl;
  deed = record {
    performed = record { from_one = may.0.0; to_eight = may.0.1; room = has_room (performed_count entries) (sym allowed) };
    every = every;
    change = map_change program_tree change;
    reads = may.1;
    on_cycle = refl;
  };
}
follows entries who Look legal may allowed = record {
  frontier = refl;
  deed = record { from_one = may.0; to_eight = may.1; room = has_room (performed_count entries) (sym allowed) };
}
follows entries who (Tick to) legal may allowed =
    let bounds = tick_bounds (frontier entries) (tick_count entries) to (sym allowed) in
    record {
      frontier = refl;
      deed = record {
        ticker = may.ticker;
        going = still_going entries who legal may;
        forward = bounds.0;
        short = bounds.1;
        to_last = bounds.2;
        room = bounds.3;
      };
    }
follows entries who Finish legal may allowed = record {
  frontier = refl;
  deed = record { ticker = may.ticker; going = still_going entries who legal may };
}

module _ (laws : GrowthLaws Says) where
  step_legal : (old new : CoreState) (who : ℕ) (call : Call) (result : Result Reply Refusal) → MayCall (entries_of who old.history) who call
      → Answers old new who call result → IsLegal old.history → IsLegal new.history
  step_legal old new who call (Ok reply) may answers legal =
      subst IsLegal (sym answers.ok.gained)
      (laws.legal old.history (entry_of old.history who call) legal (follows old.history who call legal may answers.ok.allowed))
  step_legal old new who call (Err refusal) may answers legal = subst (λ (core : CoreState). IsLegal core.history) (sym answers.err) legal

  pub legal_after : (old : CoreState) (calls : List AnsweredCall) (new : CoreState) → TakesCalls old calls new → IsLegal old.history → IsLegal new.history
  legal_after old [] new same legal = subst (λ (core : CoreState). IsLegal core.history) (sym same) legal
  legal_after old (c ∷ calls) new takes legal =
      legal_after takes.0 calls new takes.3 (step_legal old takes.0 c.who c.call c.result takes.1 takes.2 legal)

-- ---- what is sent, at a core and by an answer
module _ (Sent : CoreState → List (List ℕ) → Type 0) (carried : Result Reply Refusal → List (List ℕ))
    (step : (old new : CoreState) (who : ℕ) (call : Call) (result : Result Reply Refusal) → Answers old new who call result → (p : List (List ℕ))
    → Sent old p → Sent new (p ++ carried result)) where
  goes_on : (old : CoreState) (calls : List AnsweredCall) (new : CoreState) → TakesCalls old calls new → (p : List (List ℕ)) → Sent old p
      → Sent new (p ++ flat_map (λ (c : AnsweredCall). carried c.result) calls)
  goes_on old [] new same p h = subst (λ (core : CoreState). Sent core (p ++ [])) (sym same) (subst (Sent old) (sym (append-nil p)) h)
  goes_on old (c ∷ calls) new takes p h =
      subst (Sent new) (append_assoc p (carried c.result) (flat_map (λ (c : AnsweredCall). carried c.result) calls))
      (goes_on takes.0 calls new takes.3 (p ++ carried c.result) (step old takes.0 c.who c.call c.result takes.2 p h))

-- a core keeps its tempo
abbrev SentOsc : Pace → CoreState → List (List ℕ) → Type 0
SentOsc tempo core packets = (core.tempo ≡ tempo) × HasOsc tempo core.history packets

step_osc : (tempo : Pace) (old new : CoreState) (who : ℕ) (call : Call) (result : Result Reply Refusal) → Answers old new who call result
    → (p : List (List ℕ)) → SentOsc tempo old p → SentOsc tempo new (p ++ osc_of result)
step_osc tempo old new who call (Ok reply) answers p h = (
  answers.ok.tempo ∙ h.0,
  subst (λ (t : Pace). HasOsc t new.history (p ++ osc_with reply)) h.0
      (answers.ok.packets p (subst (λ (t : Pace). HasOsc t old.history p) (sym h.0) h.1)),
)
step_osc tempo old new who call (Err refusal) answers p h =
    subst (λ (core : CoreState). SentOsc tempo core (p ++ [])) (sym answers.err) (subst (SentOsc tempo old) (sym (append-nil p)) h)

step_midi : (old new : CoreState) (who : ℕ) (call : Call) (result : Result Reply Refusal) → Answers old new who call result
    → (p : List (List ℕ)) → HasMidi old.history p → HasMidi new.history (p ++ midi_of result)
step_midi old new who call (Ok reply) answers p h = answers.ok.messages p h
step_midi old new who call (Err refusal) answers p h =
    subst (λ (core : CoreState). HasMidi core.history (p ++ [])) (sym answers.err) (subst (HasMidi old.history) (sym (append-nil p)) h)

pub osc_after : (old new : CoreState) (calls : List AnsweredCall) → TakesCalls old calls new → (packets : List (List ℕ))
    → HasOsc old.tempo old.history packets → HasOsc old.tempo new.history (packets ++ joined_osc calls)
osc_after old new calls takes packets h = (goes_on (SentOsc old.tempo) osc_of (step_osc old.tempo) old calls new takes packets (refl, h)).1

pub midi_after : (old new : CoreState) (calls : List AnsweredCall) → TakesCalls old calls new → (messages : List (List ℕ))
    → HasMidi old.history messages → HasMidi new.history (messages ++ joined_midi calls)
midi_after old new calls takes messages h = goes_on (λ core p. HasMidi core.history p) midi_of step_midi old calls new takes messages h
