-- Strings of OSC and their sizes.
use Rattle.std.proofs.Common.{◌≡◌, ℕ, ◌+◌, ℤ, List, ◌++◌, length, refl, length-append}
use Rattle.tdl_osc.specs.Encoding.{int32_bytes, osc_string, string_end}

-- a text and its end
pub osc_string-parts : (text : List ℕ) → osc_string text ≡ text ++ string_end (length text)
unfolding osc_string
osc_string-parts text = refl

pub length-osc_string : (text : List ℕ) → length (osc_string text) ≡ length text + length (string_end (length text))
unfolding osc_string
length-osc_string text = length-append text (string_end (length text))

pub length-int32_bytes : (number : ℤ) → length (int32_bytes number) ≡ 4
unfolding int32_bytes
length-int32_bytes number = refl
