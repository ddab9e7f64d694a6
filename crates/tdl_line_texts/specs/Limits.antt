-- The limits of lines.
--     max_line        bytes of a line
use Rattle.std.specs.Prelude.{ℕ}

abbrev pub max_line : ℕ
max_line = 2048
