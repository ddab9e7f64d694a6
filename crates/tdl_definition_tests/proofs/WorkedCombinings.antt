-- How settings and maps are joined, at worked cases.
-- The values are what another program, which was written apart from this one, plays for the texts beside the rows.
use Rattle.std.proofs.Common.{◌≡◌, [], ◌∷◌, codes, pos, Some, None, true, false, refl}
use Rattle.std.specs.Prelude.{neg_ℤ}
use Rattle.tdl_control.specs.declared.keys.Key.TheVariants.{Cut, N, Pan, S}
use Rattle.tdl_control.specs.declared.leaves.Leaf.{Leaf}
use Rattle.tdl_control.specs.declared.leaves.Leaf.TheVariants as leaf
use Rattle.tdl_control.specs.declared.ops.MapOp.TheVariants.{Union, Add, Sub, Mul}
use Rattle.tdl_control.specs.Setting.{Number, Spelling}
use Rattle.tdl_control.specs.Combine.{combined, combine}
use Rattle.tdl_expr.specs.declared.joinings.Op.TheVariants.{Controls, Struct, Mask}
use Rattle.tdl_meaning.specs.Values.{value_of}

-- ---- numbers: the left one, the operator, the right one
-- `n "3" # n "4"`
right_number : combined Union (Number (pos 3)) (Number (pos 4)) ≡ Number (pos 4)
right_number = refl

-- `n "3" |+ n "4"`
sum : combined Add (Number (pos 3)) (Number (pos 4)) ≡ Number (pos 7)
sum = refl

-- `n "3" |- n "4"` and `n "3" -| n "4"`
difference : combined Sub (Number (pos 3)) (Number (pos 4)) ≡ Number (neg_ℤ (pos 1))
difference = refl

-- `n "3" |* n "4"`
product : combined Mul (Number (pos 3)) (Number (pos 4)) ≡ Number (pos 12)
product = refl

-- `n "3" *| n "-4"`
product_below_zero : combined Mul (Number (pos 3)) (Number (neg_ℤ (pos 4))) ≡ Number (neg_ℤ (pos 12))
product_below_zero = refl

-- `n "-3" |* n "-4"`
product_of_two_below_zero : combined Mul (Number (neg_ℤ (pos 3))) (Number (neg_ℤ (pos 4))) ≡ Number (pos 12)
product_of_two_below_zero = refl

-- `n "0" |* n "7"`
product_with_nothing : combined Mul (Number (pos 0)) (Number (pos 7)) ≡ Number (pos 0)
product_with_nothing = refl

-- `n "2147483647" |+ n "1"`
sum_past_the_most : combined Add (Number (pos 2147483647)) (Number (pos 1)) ≡ Number (pos 2147483647)
sum_past_the_most = refl

-- `n "-2147483647" |- n "2"`
difference_past_the_least : combined Sub (Number (neg_ℤ (pos 2147483647))) (Number (pos 2)) ≡ Number (neg_ℤ (pos 2147483648))
difference_past_the_least = refl

-- `n "65536" |* n "65536"`
product_past_the_most : combined Mul (Number (pos 65536)) (Number (pos 65536)) ≡ Number (pos 2147483647)
product_past_the_most = refl

-- `n "-65536" |* n "65536"`
product_past_the_least : combined Mul (Number (neg_ℤ (pos 65536))) (Number (pos 65536)) ≡ Number (neg_ℤ (pos 2147483648))
product_past_the_least = refl

-- ---- words
-- `s "bd" # s "sn"`
right_word : combined Union (Spelling (codes "bd")) (Spelling (codes "sn")) ≡ Spelling (codes "sn")
right_word = refl

-- `s "bd" |+ s "sn"`
left_word_of_a_sum : combined Add (Spelling (codes "bd")) (Spelling (codes "sn")) ≡ Spelling (codes "bd")
left_word_of_a_sum = refl

-- `s "bd" |- s "sn"`
left_word_of_a_difference : combined Sub (Spelling (codes "bd")) (Spelling (codes "sn")) ≡ Spelling (codes "bd")
left_word_of_a_difference = refl

-- `s "bd" |* s "sn"`
left_word_of_a_product : combined Mul (Spelling (codes "bd")) (Spelling (codes "sn")) ≡ Spelling (codes "bd")
left_word_of_a_product = refl

-- ---- maps: the keys of both
-- `s "bd" # n "3"`
keys_of_both : combine Union ((S, Spelling (codes "bd")) ∷ []) ((N, Number (pos 3)) ∷ []) ≡ (N, Number (pos 3)) ∷ (S, Spelling (codes "bd")) ∷ []
keys_of_both = refl

-- `(s "bd" # n "3") # (s "sn" # pan "1")`
union_of_maps : combine Union ((N, Number (pos 3)) ∷ (S, Spelling (codes "bd")) ∷ []) ((Pan, Number (pos 1)) ∷ (S, Spelling (codes "sn")) ∷ [])
    ≡ (N, Number (pos 3)) ∷ (Pan, Number (pos 1)) ∷ (S, Spelling (codes "sn")) ∷ []
union_of_maps = refl

-- `(n "3" # s "bd" # cut "2") |- (n "5" # s "sn" # pan "1")`: a number that the right alone has is not taken off
difference_of_maps : combine Sub ((Cut, Number (pos 2)) ∷ (N, Number (pos 3)) ∷ (S, Spelling (codes "bd")) ∷ [])
    ((N, Number (pos 5)) ∷ (Pan, Number (pos 1)) ∷ (S, Spelling (codes "sn")) ∷ [])
    ≡ (Cut, Number (pos 2)) ∷ (N, Number (neg_ℤ (pos 2))) ∷ (Pan, Number (pos 1)) ∷ (S, Spelling (codes "bd")) ∷ []
difference_of_maps = refl

-- `(n "3" # s "bd") *| (n "4" # s "sn" # cut "2")`
product_of_maps : combine Mul ((N, Number (pos 3)) ∷ (S, Spelling (codes "bd")) ∷ [])
    ((Cut, Number (pos 2)) ∷ (N, Number (pos 4)) ∷ (S, Spelling (codes "sn")) ∷ [])
    ≡ (Cut, Number (pos 2)) ∷ (N, Number (pos 12)) ∷ (S, Spelling (codes "bd")) ∷ []
product_of_maps = refl

-- ---- values of joins
abbrev three : Leaf
three = leaf.Controls ((N, Number (pos 3)) ∷ [])

abbrev four : Leaf
four = leaf.Controls ((N, Number (pos 4)) ∷ [])

-- `n "3" |* n "4"`
value_of_a_product : value_of (Controls Mul) three four ≡ Some (leaf.Controls ((N, Number (pos 12)) ∷ []))
value_of_a_product = refl

-- `n "3" -| n "4"`: also where the right has the wholes, the right is taken off the left
value_of_a_difference : value_of (Controls Sub) three four ≡ Some (leaf.Controls ((N, Number (neg_ℤ (pos 1))) ∷ []))
value_of_a_difference = refl

-- `struct "t" $ n "3"`
structured : value_of Struct (leaf.Truth true) three ≡ Some three
structured = refl

-- `struct "f" $ n "3"`
not_structured : value_of Struct (leaf.Truth false) three ≡ None
not_structured = refl

-- `mask "t" $ n "3"`
masked : value_of Mask three (leaf.Truth true) ≡ Some three
masked = refl

-- `mask "f" $ n "3"`
masked_out : value_of Mask three (leaf.Truth false) ≡ None
masked_out = refl
