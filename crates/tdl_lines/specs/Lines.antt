-- The lines of a text of bytes.
--     pieces_from    what stands before each line feed of some bytes, where a piece stands before them
--     rest_from      what follows the last line feed
--     lines_of       the lines of the bytes that count: the pieces without a carriage return at their end, and the last piece too where the text ended with it
use Rattle.std.specs.Prelude.{ℕ, ◌^◌, ◌≢◌, ◌==◌, Bool, List, [], ◌∷◌, ◌++◌, map, take, All, if◌then◌else◌}
use Rattle.std.specs.List.{flat_map}

abbrev pub line_feed : ℕ
line_feed = 10

abbrev pub carriage_return : ℕ
carriage_return = 13

abbrev pub pieces_from : List ℕ → List ℕ → List (List ℕ)
pieces_from piece [] = []
pieces_from piece (byte ∷ bytes) = if byte == line_feed then piece ∷ pieces_from [] bytes else pieces_from (piece ++ byte ∷ []) bytes

abbrev pub rest_from : List ℕ → List ℕ → List ℕ
rest_from piece [] = piece
rest_from piece (byte ∷ bytes) = if byte == line_feed then rest_from [] bytes else rest_from (piece ++ byte ∷ []) bytes

-- no byte is a line feed
abbrev pub HasNoFeed : List ℕ → Type 0
HasNoFeed bytes = All (λ byte. byte ≢ line_feed) bytes

-- pieces one after another, each with its line feed
abbrev pub with_feeds : List (List ℕ) → List ℕ
with_feeds pieces = flat_map (λ piece. piece ++ line_feed ∷ []) pieces

-- a piece without one carriage return at its end
abbrev pub trimmed : List ℕ → List ℕ
trimmed [] = []
trimmed (byte ∷ []) = if byte == carriage_return then [] else byte ∷ []
trimmed (byte ∷ next ∷ bytes) = byte ∷ trimmed (next ∷ bytes)

-- a last piece is a line where the text ended with it, unless it is empty
abbrev pub last_line : Bool → List ℕ → List (List ℕ)
last_line ended [] = []
last_line ended (byte ∷ piece) = if ended then trimmed (byte ∷ piece) ∷ [] else []

-- the lines of these bytes, all of which count
abbrev pub lines_in : Bool → List ℕ → List (List ℕ)
lines_in ended bytes = map trimmed (pieces_from [] bytes) ++ last_line ended (rest_from [] bytes)

-- so many bytes of a text count
abbrev pub max_input : ℕ
max_input = 2 ^ 24

abbrev pub lines_of : Bool → List ℕ → List (List ℕ)
lines_of ended bytes = lines_in ended (take max_input bytes)
