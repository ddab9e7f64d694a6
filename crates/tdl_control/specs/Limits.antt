-- Limits that crates share of which neither stands on the other.
--     max_word           the bytes of a word
--     max_whole          what the number of a text is before its `.` or `%`
--     max_decimals       the digits after a `.`
--     max_denominator    what follows a `%`
--     max_orbit          orbits
--     max_every          cycles, of which a multiple is the boundary of a change
use Rattle.std.specs.Prelude.{ℕ}

abbrev pub max_word : ℕ
max_word = 32

abbrev pub max_whole : ℕ
max_whole = 2147483647

abbrev pub max_decimals : ℕ
max_decimals = 4

abbrev pub max_denominator : ℕ
max_denominator = 65535

abbrev pub max_orbit : ℕ
max_orbit = 16

abbrev pub max_every : ℕ
max_every = 4096
