-- Texts cut at their line feeds.
--     Piece       a line with its line feed, or what stands after the last one
--     bytes_of    the bytes of a piece
--     cut         the pieces of a text
--     size        how many bytes pieces have
use Rattle.std.specs.Prelude.{ℕ, true, false, ◌==◌, List, [], ◌∷◌, ◌++◌, length}
use Rattle.std.specs.List.{flat_map}

pub data Piece : Type 0 where
  line : List ℕ → Piece
  rest : List ℕ → Piece

abbrev pub bytes_of : Piece → List ℕ
bytes_of (line bytes) = bytes ++ 10 ∷ []
bytes_of (rest bytes) = bytes

-- a byte before pieces, which is no line feed
abbrev pub onto : ℕ → List Piece → List Piece
onto byte [] = rest (byte ∷ []) ∷ []
onto byte (line bytes ∷ pieces) = line (byte ∷ bytes) ∷ pieces
onto byte (rest bytes ∷ pieces) = rest (byte ∷ bytes) ∷ pieces

abbrev pub cut : List ℕ → List Piece
cut [] = rest [] ∷ []
cut (byte ∷ bytes) =
    elim (byte == 10) [
      | true ↦ line [] ∷ cut bytes
      | false ↦ onto byte (cut bytes)
    ]

abbrev pub size : List Piece → ℕ
size pieces = length (flat_map bytes_of pieces)
