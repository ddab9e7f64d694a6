-- Euclidean rhythms: hits that are spread over steps by grouping.
--     first_lists    [1] for each hit on the left, and [0] for each other step on the right
--     regrouped      a step of the grouping
--     grouped        the lists after the last step
--     spread         so many hits over so many steps
--     euclid         the rhythm: the hits or the rests spread, and turned
use Rattle.std.specs.Prelude.{ℕ, ◌-◌, min, nat_lt, ℤ, pos, negsuc, Bool, true, false, not, List, [], ◌∷◌, ◌++◌, length, take, drop, map, replicate}
use Rattle.std.specs.Prelude.{unsigned_abs, if◌then◌else◌}
use Rattle.std.specs.List.{flat_map}
use Rattle.std.specs.Int.{int_rem_euclid}
use Rattle.std.proofs.Common.{zero, suc}

-- the lists of a side are lists of truth values, of which true is a hit
pub record Lists : Type 0 where
  pub left : List (List Bool)
  pub right : List (List Bool)

abbrev pub first_lists : ℕ → ℕ → Lists
first_lists hits steps = record { left = replicate hits (true ∷ []); right = replicate (steps - hits) (false ∷ []) }

-- each list with the list at its place on the other side appended, as far as both sides go
unfoldable pub pairs : List (List Bool) → List (List Bool) → List (List Bool)
pairs (x ∷ xs) (y ∷ ys) = (x ++ y) ∷ pairs xs ys
pairs (x ∷ xs) [] = []
pairs [] ys = []

-- The pairs are the new left lists. The lists of the longer side that found no partner are the new
-- right ones.
abbrev pub regrouped : Lists → Lists
regrouped lists = record {
  left = pairs lists.left lists.right;
  right = if nat_lt (length lists.right) (length lists.left) then drop (length lists.right) lists.left else drop (length lists.left) lists.right;
}

-- a step is left to do while both sides have more than one list
abbrev pub can_regroup : Lists → Bool
can_regroup lists = nat_lt 1 (min (length lists.left) (length lists.right))

-- At most so many steps. Each leaves two lists fewer at least, so as many as there are lists are enough
-- (grouping_ends).
unfoldable pub grouped : ℕ → Lists → Lists
grouped zero lists = lists
grouped (suc fuel) lists = if can_regroup lists then grouped fuel (regrouped lists) else lists

-- all lists of a side, one after the other
abbrev pub flat : List (List Bool) → List Bool
flat lists = flat_map (λ list. list) lists

abbrev pub laid_out : Lists → List Bool
laid_out lists = flat lists.left ++ flat lists.right

abbrev pub spread : ℕ → ℕ → List Bool
spread hits steps = laid_out (grouped steps (first_lists hits steps))

-- for a number below 0 so many rests are spread
abbrev pub unrotated : ℤ → ℕ → List Bool
unrotated (pos hits) steps = spread hits steps
unrotated (negsuc rests) steps = map not (spread (suc rests) steps)

-- the list from a place on, and then what stood before
abbrev pub rotated : ℕ → List Bool → List Bool
rotated by list = drop by list ++ take by list

abbrev pub euclid : ℤ → ℕ → ℤ → List Bool
euclid k n r = rotated (unsigned_abs (int_rem_euclid r (pos n))) (unrotated k n)
