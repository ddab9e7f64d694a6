-- Lists of truth values as the bits of a word.
use Rattle.std.specs.Prelude.{ℕ, ◌/◌, ◌%◌, ◌^◌, ◌<◌, ◌≤◌, Bool, List, [], ◌∷◌, ◌==◌}
use Rattle.std.proofs.Common.{zero, suc}

abbrev pub is_odd : ℕ → Bool
is_odd word = word % 2 == 1

-- the lowest bits of a word, so many, the lowest first
unfoldable pub bits : ℕ → ℕ → List Bool
bits zero word = []
bits (suc len) word = is_odd word ∷ bits len (word / 2)

abbrev pub max_len : ℕ
max_len = 128

-- a word has 1 to 128 bits, and none is set above them
pub record IsBitWord (word len : ℕ) : Type 0 where
  pub some : 0 < len
  pub short : len ≤ max_len
  pub within : word < 2 ^ len
