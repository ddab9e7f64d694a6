-- The definitions at worked rows, each closed term by computing alone.
use Rattle.std.proofs.Common.{◌≡◌, [], ◌∷◌, true, false, codes, refl}
use Rattle.tdl_lines.specs.Lines.{lines_of}

-- lines that end with a line feed, one with a carriage return before it, and a piece without an end
three_lines : lines_of true (97 ∷ 13 ∷ 10 ∷ 10 ∷ 98 ∷ []) ≡ codes "a" ∷ [] ∷ codes "b" ∷ []
three_lines = refl

-- the piece is no line where the input goes on
two_lines : lines_of false (97 ∷ 13 ∷ 10 ∷ 10 ∷ 98 ∷ []) ≡ codes "a" ∷ [] ∷ []
two_lines = refl

-- a carriage return stays where another byte, or one more, follows it; the end of the input adds no empty line
kept_returns : lines_of true (13 ∷ 97 ∷ 13 ∷ 13 ∷ 10 ∷ []) ≡ (13 ∷ 97 ∷ 13 ∷ []) ∷ []
kept_returns = refl

-- a piece that is a carriage return alone is an empty line at the end of the input
return_alone : lines_of true (13 ∷ []) ≡ [] ∷ []
return_alone = refl

no_bytes : lines_of true [] ≡ []
no_bytes = refl
