-- Which texts are words.
use Rattle.std.specs.Prelude.{ℕ, Bool, not, ◌||◌, ◌==◌, ◌≤◌, List, length, IsTrue}
use Rattle.std.specs.List.{list_all, list_any}
use Rattle.std.specs.Char.{is_ascii_alphanumeric}
use Rattle.tdl_control.specs.Limits.{max_word}

-- an ASCII letter, a digit or `_`
abbrev pub is_word_byte : ℕ → Bool
is_word_byte byte = is_ascii_alphanumeric byte || (byte == 95)

-- 1 to 32 letters, digits and `_`, of which one is no `_`
pub record IsWord (bytes : List ℕ) : Type 0 where
  pub short : length bytes ≤ max_word
  pub plain : IsTrue (list_all is_word_byte bytes)
  pub named : IsTrue (list_any (λ byte. not (byte == 95)) bytes)
