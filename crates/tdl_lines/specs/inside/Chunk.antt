-- Bytes that were taken from a source, and the front of them that was read last.
use Rattle.std.specs.Prelude.{◌≡◌, ℕ, ◌-◌, ◌≤◌, Bool, true, false, List, [], ◌∷◌, ◌++◌, take, length, Option, IfSome}
use Rattle.tdl_io.specs.Told.{GaveExactly}
use Rattle.tdl_lines.specs.Lines.{HasNoFeed, line_feed}
use Rattle.tdl_lines.specs.inside.ChunkState.{ChunkState}

-- what stands behind the front: a line feed and the bytes that are not read yet, or nothing where there is no line feed
abbrev pub Follows : Bool → ChunkState → List ℕ → Type 0
Follows true chunk bytes = bytes ≡ chunk.front ++ line_feed ∷ chunk.unread
Follows false chunk bytes = (bytes ≡ chunk.front) × (chunk.unread ≡ [])

-- the bytes before the first line feed were read, or all of them where there is none
pub record ReadsFront (found : Bool) (bytes : List ℕ) (chunk : ChunkState) : Type 0 where
  pub no_feed : HasNoFeed chunk.front
  pub parts : Follows found chunk bytes

-- a source gave so many bytes, of which this is known, and all may be read but the one past those that count
pub record Fills (Known : List ℕ → Type 0) (left count : ℕ) (told_before told_after : Option (List ℕ)) (chunk : ChunkState) : Type 0 where
  pub bytes : List ℕ
  pub count_is : length bytes ≡ count
  pub most : count ≤ left
  pub gave : GaveExactly told_before told_after bytes
  pub known : Known bytes
  pub unread : chunk.unread ≡ take (left - 1) bytes
  pub none_left : count ≡ 0 → IfSome told_after (λ rest. rest ≡ [])
