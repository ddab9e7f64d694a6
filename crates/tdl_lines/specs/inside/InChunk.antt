-- How a reader goes on in a chunk.
use Rattle.std.specs.Prelude.{◌≡◌, ℕ, List, [], ◌∷◌, ◌++◌, Option, None, Some}
use Rattle.tdl_lines.specs.declared.reader.Given.{Given}
use Rattle.tdl_lines.specs.declared.reader.Given.TheVariants.{Whole, Joined}
use Rattle.tdl_lines.specs.inside.ChunkState.{ChunkState}
use Rattle.tdl_lines.specs.Lines.{HasNoFeed, line_feed}

-- the front goes behind the piece, and a line feed is behind the front
pub record Joins (bytes : List ℕ) (chunk : ChunkState) (piece piece' : List ℕ) : Type 0 where
  pub no_feed : HasNoFeed chunk.front
  pub parts : bytes ≡ chunk.front ++ line_feed ∷ chunk.unread
  pub piece_is : piece' ≡ piece ++ chunk.front

-- all bytes go behind the piece, and none of them is a line feed
pub record JoinsAll (bytes : List ℕ) (chunk : ChunkState) (piece piece' : List ℕ) : Type 0 where
  pub no_feed : HasNoFeed bytes
  pub none_left : chunk.unread ≡ []
  pub piece_is : piece' ≡ piece ++ bytes

-- the front is the line
pub record IsWhole (bytes : List ℕ) (chunk : ChunkState) (piece piece' : List ℕ) : Type 0 where
  pub no_feed : HasNoFeed chunk.front
  pub parts : bytes ≡ chunk.front ++ line_feed ∷ chunk.unread
  pub was_empty : piece ≡ []
  pub is_empty : piece' ≡ []

abbrev pub ReadsPiece : Option Given → List ℕ → ChunkState → List ℕ → List ℕ → Type 0
ReadsPiece None bytes chunk piece piece' = JoinsAll bytes chunk piece piece'
ReadsPiece (Some Whole) bytes chunk piece piece' = IsWhole bytes chunk piece piece'
ReadsPiece (Some Joined) bytes chunk piece piece' = Joins bytes chunk piece piece'
