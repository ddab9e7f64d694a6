-- Where a key stands among entries, or would stand.
use Rattle.std.specs.Prelude.{◌≡◌, ℕ, ◌<◌, ◌≤◌, length, slice_index_or, pos}
use Rattle.tdl_control.specs.declared.keys.Key.{Key}
use Rattle.tdl_control.specs.declared.keys.Key.TheVariants.{Accelerate}
use Rattle.tdl_control.specs.Key.{rank}
use Rattle.tdl_control.specs.Setting.{Number}
use Rattle.tdl_control.specs.Map.{KeyValues}

-- the rank of the key at index i
abbrev pub rank_at : KeyValues → ℕ → ℕ
rank_at entries i = let entry = slice_index_or entries i (Accelerate, Number (pos 0)) in rank entry.0

-- the entry at index i is the key's
pub record IsAt (entries : KeyValues) (key : Key) (i : ℕ) : Type 0 where
  pub in_range : i < length entries
  pub has_key : rank_at entries i ≡ rank key

-- the key would go at index i: lower keys before it, and higher keys from it on
pub record IsGapFor (entries : KeyValues) (key : Key) (i : ℕ) : Type 0 where
  pub in_range : i ≤ length entries
  pub lower_before : (j : ℕ) → j < i → rank_at entries j < rank key
  pub higher_after : (j : ℕ) → i ≤ j → j < length entries → rank key < rank_at entries j
