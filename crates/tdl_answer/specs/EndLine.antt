-- The last line of a run.
--     IsEndLine     it tells where a history ends, and how much it has
--     PrintsEnd     the whole line was put, a part of it, or nothing
--     one_after_another  texts that were put one after another
use Rattle.std.specs.Prelude.{◌≡◌, ℕ, List, [], ◌++◌, length, codes}
use Rattle.std.specs.Fmt.{decimal}
use Rattle.std.specs.List.{flat_map}
use Rattle.tdl_tempo.specs.Tempo.{Pace}
use Rattle.tdl_score.specs.declared.histories.Entry.{Entry}
use Rattle.tdl_score.specs.History.{frontier}
use Rattle.tdl_core.specs.Looks.{units_text}
use Rattle.tdl_core.specs.Said.{HasMidi, HasOsc}

abbrev pub end_line : ℕ → ℕ → ℕ → ℕ → List ℕ
end_line frontier entries packets messages =
    codes "end " ++ units_text frontier ++ codes " entries " ++ decimal entries ++ codes " osc " ++ decimal packets ++ codes " midi " ++ decimal messages
    ++ codes "\n"

-- the last line of a run with this history
pub record IsEndLine (tempo : Pace) (history : List Entry) (line : List ℕ) : Type 0 where
  pub packets : List (List ℕ)
  pub sends : HasOsc tempo history packets
  pub messages : List (List ℕ)
  pub notes : HasMidi history messages
  pub is : line ≡ end_line (frontier history) (length history) (length packets) (length messages)

-- how much of the line was put
pub data EndPart : Type 0 where
  whole : EndPart
  part : EndPart
  nothing : EndPart

-- this was put of the end line of a run with this history
abbrev pub PrintsEnd : EndPart → Pace → List Entry → List ℕ → Type 0
PrintsEnd whole tempo history text = IsEndLine tempo history text
PrintsEnd part tempo history text = (missing : List ℕ) × IsEndLine tempo history (text ++ missing)
PrintsEnd nothing tempo history text = text ≡ []

abbrev pub one_after_another : List (List ℕ) → List ℕ
one_after_another texts = flat_map (λ text. text) texts
