-- The atoms of OSC 1.0. Each takes a multiple of 4 bytes, highest byte first.
--     int32_bytes    a number of 32 bits in two's complement
--     time_bytes     a time tag
--     osc_string     the bytes of a text, a zero byte, and zeros up to a multiple of 4
use Rattle.std.specs.Prelude.{ℕ, ◌+◌, ◌-◌, ◌%◌, ℤ, nat_abs, List, ◌∷◌, ◌++◌, length, replicate}
use Rattle.std.specs.Int.{w32, cast_unsigned}
use Rattle.byteorder.specs.Endian.{big_bytes}

unfoldable pub int32_bytes : ℤ → List ℕ
int32_bytes number = big_bytes 4 (cast_unsigned w32 number)

unfoldable pub time_bytes : ℤ → List ℕ
time_bytes tag = big_bytes 8 (nat_abs tag)

-- the zeros that bring so many bytes up to a multiple of 4
abbrev pub padding : ℕ → List ℕ
padding size = replicate ((4 - size % 4) % 4) 0

-- what ends a text of so many bytes
abbrev pub string_end : ℕ → List ℕ
string_end size = 0 ∷ padding (size + 1)

unfoldable pub osc_string : List ℕ → List ℕ
osc_string text = text ++ string_end (length text)
