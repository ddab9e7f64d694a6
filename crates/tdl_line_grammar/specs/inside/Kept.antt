-- What is known of the pieces of a text that was read.
--     Fits, Kept           of a terminal, and of a piece
--     AllKept              of each of several pieces
use Rattle.std.specs.Prelude.{◌≡◌, Some, List, [], ◌∷◌, IsTrue}
use Rattle.tdl_mini_tree.specs.Valid.{is_small, fits_key, is_valid}
use Rattle.tdl_mini_tree.specs.Reading.{read, unread}
use Rattle.tdl_command.specs.Rules.{is_orbit}
use Rattle.tdl_line_machine.specs.declared.names.Name.TheVariants as name
use Rattle.tdl_line_machine.specs.Tokens as token
use Rattle.tdl_line_machine.specs.Pieces.{Terminal, fixed, text, Piece, spells, obeys}

-- a number is one that a token can be, an orbit is one, and a text is of the kind of its place and valid in it
abbrev pub Fits : Terminal → Type 0
Fits (fixed (token.number n)) = IsTrue (is_small n)
Fits (fixed (token.name (name.Orbit (Some n)))) = IsTrue (is_orbit n)
Fits (fixed t) = Unit {0}
Fits (text kind (read k ls)) = (k ≡ kind) × (IsTrue (fits_key kind) → IsTrue (is_valid kind ls))
Fits (text kind (unread fault at)) = Unit {0}

abbrev pub Kept : Piece → Type 0
Kept (spells t) = Fits t
Kept (obeys r) = IsTrue r.holds

abbrev pub AllKept : List Piece → Type 0
AllKept [] = Unit {0}
AllKept (p ∷ ps) = Kept p × AllKept ps
