-- The bytes of a short text.
use Rattle.std.specs.Prelude.{ℕ, List, take}
use Rattle.tdl_fraction.specs.declared.digits.Digits.{Digits}

abbrev pub digits_bytes : Digits → List ℕ
digits_bytes d = take d.len d.buffer
