-- The calls on the input and the output of a run, in the order in which they were made.
--     input_gave, input_lost     a pull of the input, which leaves the output as it is
--     out_took, out_broke        a put into the output, which leaves the input as it is
--     AnswersPromptly            each line that had ended was answered before more of the input was asked for
--     PlaysPromptly              the same, where the words ask for a script
use Rattle.std.specs.Prelude.{◌≡◌, ℕ, List}
use Rattle.tdl_lines.specs.Prompt.{TalksPromptly}
use Rattle.tdl_tempo.specs.Tempo.{Pace}
use Rattle.tdl_words.specs.Modes.{AskPlay, Asks}
use Rattle.tdl_app.specs.declared.devices.Outside.{Outside}

abbrev pub input_gave : {S K : Type 0} → (S → List ℕ → S → Type 0) → S × K → List ℕ → S × K → Type 0
input_gave gave old bytes new = gave old.0 bytes new.0 × (new.1 ≡ old.1)

abbrev pub input_lost : {S K : Type 0} → (S → S → Type 0) → S × K → S × K → Type 0
input_lost lost old new = lost old.0 new.0 × (new.1 ≡ old.1)

abbrev pub out_took : {S K : Type 0} → (K → List ℕ → K → Type 0) → S × K → List ℕ → S × K → Type 0
out_took took old piece new = took old.1 piece new.1 × (new.0 ≡ old.0)

abbrev pub out_broke : {S K : Type 0} → (K → List ℕ → K → Type 0) → S × K → List ℕ → S × K → Type 0
out_broke broke old piece new = broke old.1 piece new.1 × (new.0 ≡ old.0)

-- so the calls went on the input and the output of these devices
abbrev pub AnswersPromptly : {S K W C : Type 0} → (S → List ℕ → S → Type 0) → (S → S → Type 0) → (K → List ℕ → K → Type 0) → (K → List ℕ → K → Type 0)
    → Outside S K W C → Outside S K W C → Type 0
AnswersPromptly {S} {K} gave lost took broke before after =
    TalksPromptly {T = S × K} (input_gave gave) (input_lost lost) (out_took took) (out_broke broke) (before.input, before.out) (after.input, after.out)

-- where the words ask for a script
abbrev pub PlaysPromptly : {S K W C : Type 0} → (S → List ℕ → S → Type 0) → (S → S → Type 0) → (K → List ℕ → K → Type 0) → (K → List ℕ → K → Type 0)
    → List (List ℕ) → Outside S K W C → Outside S K W C → Type 0
PlaysPromptly gave lost took broke words before after = (pace : Pace) → Asks words (AskPlay pace) → AnswersPromptly gave lost took broke before after
