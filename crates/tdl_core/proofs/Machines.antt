-- A core as the machine of a session.
--     machine_fixed    a call leaves the tempo
--     machine_ok       and adds its entry where it is accepted
--     machine_err      a refusal changes nothing, and has its reason
use Rattle.std.proofs.Common.{◌≡◌, ℕ, List, ◌++◌, Result, Ok, Err, IfOk, IfErr, refl, ap, subst}
use Rattle.std.proofs.lemmas.Bool.{false≢true}
use Rattle.tdl_score.specs.declared.histories.Entry.{Entry}
use Rattle.tdl_session.specs.Passes.{Gains}
use Rattle.tdl_core.specs.declared.calls.Call.{Call}
use Rattle.tdl_core.specs.declared.replies.Reply.{Reply}
use Rattle.tdl_core.specs.declared.replies.Refusal.{Refusal}
use Rattle.tdl_core.specs.Replies.{CoreState, Accepts, Answers, entry_of, midi_with, osc_with}
use Rattle.tdl_core.specs.Said.{HasMidi, HasOsc}
use Rattle.tdl_core.specs.Sessions.{Adds, Refuses}

module _ (old new : CoreState) (who : ℕ) (call : Call) where
  adds_of : (reply : Reply) → Accepts old new who call reply → Adds old.tempo old.history who call (entry_of old.history who call) reply
  adds_of reply a = record {
    entry = refl;
    accepted = record {
      allowed = a.allowed;
      gained = refl;
      answer = a.answer;
      packets = λ p h. subst (λ (es : List Entry). HasOsc old.tempo es (p ++ osc_with reply)) a.gained (a.packets p h);
      messages = λ p h. subst (λ (es : List Entry). HasMidi es (p ++ midi_with reply)) a.gained (a.messages p h);
      tempo = refl;
    };
  }

  pub machine_fixed : (result : Result Reply Refusal) → Answers old new who call result → new.tempo ≡ old.tempo
  machine_fixed (Ok reply) a = a.ok.tempo
  machine_fixed (Err refusal) a = ap (λ (core : CoreState). core.tempo) a.err

  pub machine_ok : (result : Result Reply Refusal) → Answers old new who call result
      → IfOk result (λ r. Gains (λ (e : Entry). e.who) (λ h e. Adds old.tempo h who call e r) who old.history new.history)
  machine_ok (Ok reply) a = (entry_of old.history who call, a.ok.gained, refl, adds_of reply a.ok)
  machine_ok (Err refusal) a = tt

  pub machine_err : (result : Result Reply Refusal) → Answers old new who call result → IfErr result (λ x. (new ≡ old) × Refuses old.history call x)
  machine_err (Ok reply) a = tt
  machine_err (Err refusal) a =
      (a.err, record { reason = a.only; frontier = a.frontier; finish = λ is. false≢true (a.finish is) })
