-- Calls that one core takes, one after another.
--     AnsweredCall        a call by a caller, and what it was answered
--     TakesCalls          each may be made and is answered in its turn, and the core is such then
--     osc_of, midi_of     what each wire is to get with an answer: nothing with a refusal
--     joined_osc, joined_midi    and with the answers of calls, in their order
use Rattle.std.specs.Prelude.{◌≡◌, ℕ, List, [], ◌∷◌, Result, Ok, Err}
use Rattle.std.specs.List.{flat_map}
use Rattle.tdl_score.specs.History.{entries_of}
use Rattle.tdl_core.specs.declared.calls.Call.{Call}
use Rattle.tdl_core.specs.declared.replies.Reply.{Reply}
use Rattle.tdl_core.specs.declared.replies.Refusal.{Refusal}
use Rattle.tdl_core.specs.Replies.{Answers, CoreState, MayCall, midi_with, osc_with}

pub record AnsweredCall : Type 0 where
  pub who : ℕ
  pub call : Call
  pub result : Result Reply Refusal

abbrev pub TakesCalls : CoreState → List AnsweredCall → CoreState → Type 0
TakesCalls old [] new = new ≡ old
TakesCalls old (c ∷ calls) new =
    (next : CoreState) × MayCall (entries_of c.who old.history) c.who c.call × Answers old next c.who c.call c.result × TakesCalls next calls new

abbrev pub osc_of : Result Reply Refusal → List (List ℕ)
osc_of (Ok reply) = osc_with reply
osc_of (Err refusal) = []

abbrev pub midi_of : Result Reply Refusal → List (List ℕ)
midi_of (Ok reply) = midi_with reply
midi_of (Err refusal) = []

abbrev pub joined_osc : List AnsweredCall → List (List ℕ)
joined_osc calls = flat_map (λ c. osc_of c.result) calls

abbrev pub joined_midi : List AnsweredCall → List (List ℕ)
joined_midi calls = flat_map (λ c. midi_of c.result) calls
