-- The values of controls, as contracts see them in a map.
use Rattle.std.specs.Prelude.{◌≡◌, ℕ, ℤ, Bool, true, false, List, FitsSigned}
use Rattle.std.specs.Int.{w32}
use Rattle.std.specs.Fmt.{signed_decimal}
use Rattle.tdl_control.specs.declared.keys.Key.{Key}
use Rattle.tdl_control.specs.Key.{takes_word}
use Rattle.tdl_control.specs.WordForm.{IsWord}

-- a whole number, or the bytes of a word
pub data Setting : Type 0 where
  Number : ℤ → Setting
  Spelling : List ℕ → Setting

abbrev pub is_spelling : Setting → Bool
is_spelling (Number number) = false
is_spelling (Spelling bytes) = true

-- the decimal, or the word itself
abbrev pub setting_text : Setting → List ℕ
setting_text (Number number) = signed_decimal number
setting_text (Spelling bytes) = bytes

-- the key may have this setting: a word where it takes one, and else a number of 32 bits
abbrev pub IsSettingOf : Key → Setting → Type 0
IsSettingOf key (Number number) = (takes_word key ≡ false) × FitsSigned w32 number
IsSettingOf key (Spelling bytes) = (takes_word key ≡ true) × IsWord bytes
