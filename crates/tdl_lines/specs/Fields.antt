-- What the fields of a reader hold.
use Rattle.std.specs.Prelude.{◌≡◌, ℕ, Bool, IsTrue, List, [], ◌++◌, Option, None, Some}
use Rattle.tdl_lines.specs.declared.reader.Given.{Given}
use Rattle.tdl_lines.specs.declared.reader.Given.TheVariants.{Whole, Joined}
use Rattle.tdl_lines.specs.declared.reader.LineReader.TheInside.{Inside}
use Rattle.tdl_lines.specs.Lines.{HasNoFeed, trimmed}

-- the line that was given
abbrev pub line_where : Option Given → List ℕ → List ℕ → List ℕ
line_where None front piece = []
line_where (Some Whole) front piece = trimmed front
line_where (Some Joined) front piece = trimmed piece

-- what the piece holds of a line that was not given
abbrev pub rest_where : Option Given → List ℕ → List ℕ
rest_where None piece = piece
rest_where (Some Whole) piece = []
rest_where (Some Joined) piece = []

-- a line that stands whole in the chunk leaves the piece empty
abbrev pub IsEmptyWhere : Option Given → List ℕ → Type 0
IsEmptyWhere None piece = Unit {0}
IsEmptyWhere (Some Whole) piece = piece ≡ []
IsEmptyWhere (Some Joined) piece = Unit {0}

-- once the source was seen to have ended, the chunk is read to its end
abbrev pub IsReadAtEnd : Bool → List ℕ → Type 0
IsReadAtEnd ended unread = IsTrue ended → unread ≡ []

-- the line that the last call gave, where it gave one
abbrev pub line_of : Inside → List ℕ
line_of reader = line_where reader.given reader.chunk.value.front reader.piece.items

-- what was taken and belongs to no line that was given
abbrev pub pending_of : Inside → List ℕ
pending_of reader = rest_where reader.given reader.piece.items ++ reader.chunk.value.unread

-- what holds of the fields between two calls
pub record IsInOrder (reader : Inside) : Type 0 where
  pub no_feed : HasNoFeed reader.piece.items
  pub empty : IsEmptyWhere reader.given reader.piece.items
  pub at_end : IsReadAtEnd reader.ended reader.chunk.value.unread
