-- Texts that are told by their fronts.
--     IsCutAt      cut in two at the first byte of a kind
--     front_of     an entry's line with these texts of its place and its time, and what was done
--     ShowsFront   how far a log was read, as these pieces tell it
use Rattle.std.specs.Prelude.{◌≡◌, ℕ, false, nat_lt, List, ◌∷◌, ◌++◌, length, codes}
use Rattle.std.specs.List.{list_any}
use Rattle.std.specs.Fmt.{decimal}
use Rattle.tdl_log.specs.declared.kinds.Front.{Front}
use Rattle.tdl_log.specs.Pieces.{Piece}
use Rattle.tdl_log.specs.LineKinds.{has, is_last, is_line_of, is_port}

pub record IsCutAt (mark : ℕ) (text front left : List ℕ) : Type 0 where
  pub joined : text ≡ front ++ mark ∷ left
  pub first : has mark front ≡ false

abbrev pub front_of : List ℕ → ℕ → List ℕ → List ℕ → List ℕ
front_of place who frontier said = place ++ (codes " " ++ (decimal who ++ (codes " " ++ (frontier ++ (codes " " ++ said)))))

pub record ShowsFront (front : Front) (pieces : List Piece) : Type 0 where
  pub lines : nat_lt (length pieces) 3 ≡ nat_lt front.lines 3
  pub ports : list_any (is_line_of is_port) pieces ≡ front.ports
  pub ended : list_any (is_line_of is_last) pieces ≡ front.ended
