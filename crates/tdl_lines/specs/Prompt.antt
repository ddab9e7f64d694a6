-- Calls of a source and a sink in one, where each line that has ended is answered before more is asked for.
--     ended_lines     the lines that have ended in these bytes, of those that count
--     IsPrompt        before each pull as many replies were put as lines had ended in what was given until then
--     LastCall        how the calls ended: with no fault, with a pull that failed, or with a put that failed
--     GoesPromptly    so the calls on a device went, from its old state to its new one
--     TalksPromptly   the same, and perhaps one that failed
use Rattle.std.specs.Prelude.{◌≡◌, ℕ, ◌+◌, List, [], ◌∷◌, ◌++◌, take, length}
use Rattle.tdl_io.specs.Talk.{Call, Gave, Put, Calls}
use Rattle.tdl_lines.specs.Lines.{pieces_from, max_input}

abbrev pub ended_lines : List ℕ → List (List ℕ)
ended_lines bytes = pieces_from [] (take max_input bytes)

abbrev pub given_in : List Call → List ℕ
given_in [] = []
given_in (Gave bytes ∷ calls) = bytes ++ given_in calls
given_in (Put piece ∷ calls) = given_in calls

abbrev pub puts_in : List Call → ℕ
puts_in [] = 0
puts_in (Gave bytes ∷ calls) = puts_in calls
puts_in (Put piece ∷ calls) = puts_in calls + 1

-- where these bytes were given and so many replies put before
abbrev pub IsPrompt : List ℕ → ℕ → List Call → Type 0
IsPrompt given puts [] = Unit {0}
IsPrompt given puts (Gave bytes ∷ calls) = (length (ended_lines given) ≡ puts) × IsPrompt (given ++ bytes) puts calls
IsPrompt given puts (Put piece ∷ calls) = IsPrompt given (puts + 1) calls

-- a pull fails only where every line that had ended is answered
pub data LastCall {T : Type 0} (lost : T → T → Type 0) (broke : T → List ℕ → T → Type 0) (calls : List Call) (old new : T) : Type 0 where
  none : new ≡ old → LastCall lost broke calls old new
  pull : length (ended_lines (given_in calls)) ≡ puts_in calls → lost old new → LastCall lost broke calls old new
  put : (piece : List ℕ) → broke old piece new → LastCall lost broke calls old new

-- the calls on a device went so, from its old state to its new one
pub record GoesPromptly {T : Type 0} (gave took : T → List ℕ → T → Type 0) (old new : T) : Type 0 where
  pub calls : List Call
  pub made : Calls gave took calls old new
  pub prompt : IsPrompt [] 0 calls

pub record TalksPromptly {T : Type 0} (gave : T → List ℕ → T → Type 0) (lost : T → T → Type 0) (took broke : T → List ℕ → T → Type 0) (old new : T)
    : Type 0 where
  pub between : T
  pub so_far : GoesPromptly gave took old between
  pub last : LastCall lost broke so_far.calls between new
