-- Rhythms at worked rows, each closed term by computing alone.
use Rattle.std.proofs.Common.{◌≡◌, ◌*◌, ◌/◌, ◌==◌, pos, negsuc, Bool, true, false, List, [], ◌∷◌, map, refl}
use Rattle.std.specs.List.{list_any}
use Rattle.tdl_euclid.specs.Euclid.{pairs, grouped, euclid}

-- a hit, and a rest
abbrev x : Bool
x = true

abbrev o : Bool
o = false

three_in_eight : euclid (pos 3) 8 (pos 0) ≡ x ∷ o ∷ o ∷ x ∷ o ∷ o ∷ x ∷ o ∷ []
unfolding pairs grouped
three_in_eight = refl

five_in_eight : euclid (pos 5) 8 (pos 0) ≡ x ∷ o ∷ x ∷ x ∷ o ∷ x ∷ x ∷ o ∷ []
unfolding pairs grouped
five_in_eight = refl

five_in_thirteen : euclid (pos 5) 13 (pos 0) ≡ x ∷ o ∷ o ∷ x ∷ o ∷ x ∷ o ∷ o ∷ x ∷ o ∷ x ∷ o ∷ o ∷ []
unfolding pairs grouped
five_in_thirteen = refl

-- three rests in place of three hits
rests_of_three_in_eight : euclid (negsuc 2) 8 (pos 0) ≡ o ∷ x ∷ x ∷ o ∷ x ∷ x ∷ o ∷ x ∷ []
unfolding pairs grouped
rests_of_three_in_eight = refl

-- from the third step on
three_in_eight_from_two : euclid (pos 3) 8 (pos 2) ≡ o ∷ x ∷ o ∷ o ∷ x ∷ o ∷ x ∷ o ∷ []
unfolding pairs grouped
three_in_eight_from_two = refl

-- from the last step on
three_in_eight_from_one_before : euclid (pos 3) 8 (negsuc 0) ≡ o ∷ x ∷ o ∷ o ∷ x ∷ o ∷ o ∷ x ∷ []
unfolding pairs grouped
three_in_eight_from_one_before = refl

once_around : euclid (pos 3) 8 (pos 8) ≡ x ∷ o ∷ o ∷ x ∷ o ∷ o ∷ x ∷ o ∷ []
unfolding pairs grouped
once_around = refl

-- one step
one_step_hit : euclid (pos 1) 1 (pos 0) ≡ x ∷ []
unfolding pairs grouped
one_step_hit = refl

one_step_rest : euclid (pos 0) 1 (pos 5) ≡ o ∷ []
unfolding pairs grouped
one_step_rest = refl

-- no hits, no rests, and none of either left
no_hits : euclid (pos 0) 4 (pos 1) ≡ o ∷ o ∷ o ∷ o ∷ []
unfolding pairs grouped
no_hits = refl

no_rests : euclid (negsuc 3) 4 (pos 0) ≡ o ∷ o ∷ o ∷ o ∷ []
unfolding pairs grouped
no_rests = refl

all_hits : euclid (pos 4) 4 (pos 3) ≡ x ∷ x ∷ x ∷ x ∷ []
unfolding pairs grouped
all_hits = refl

-- where the hits i * 8 / 5 stand, for i below 5
abbrev spaced : List Bool
spaced = map (λ step. list_any (λ i. i * 8 / 5 == step) (0 ∷ 1 ∷ 2 ∷ 3 ∷ 4 ∷ [])) (0 ∷ 1 ∷ 2 ∷ 3 ∷ 4 ∷ 5 ∷ 6 ∷ 7 ∷ [])

even_spacing : spaced ≡ x ∷ x ∷ o ∷ x ∷ x ∷ o ∷ x ∷ o ∷ []
even_spacing = refl

-- the grouping spreads them otherwise
grouping_is_no_even_spacing : euclid (pos 5) 8 (pos 0) ≡ spaced → ⊥
unfolding pairs grouped
grouping_is_no_even_spacing h = cc
