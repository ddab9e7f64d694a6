-- The sizes of groups as their elements are gone through, and why they stay small in a valid group.
use Rattle.std.proofs.Common.{◌≡◌, ℕ, suc, ◌+◌, ◌*◌, ◌<◌, ◌≤◌, ◌^◌, not, ◌&&◌, nat_lt, List, [], ◌∷◌, length, take, get_or, Option, Some, None}
use Rattle.std.proofs.Common.{IsTrue, refl, sym, ap, ◌∙◌, subst, arith, take_all}
use Rattle.std.specs.List.{fold}
use Rattle.std.proofs.Math.Nat.{mul-le-mul_left}
use Rattle.std.proofs.lemmas.Bool.{ltb-true, and_parts}
use Rattle.std.proofs.lemmas.List.{length-take}
use Rattle.std.proofs.lemmas.List.Sums.{fold_more}
use Rattle.tdl_mini_tree.specs.declared.leaves.Kind.{Kind}
use Rattle.tdl_mini_tree.specs.declared.leaves.Number.{Number}
use Rattle.tdl_mini_tree.specs.declared.sizes.Size.{Size as Kept}
use Rattle.tdl_mini_tree.specs.declared.tree.Element.{Element}
use Rattle.tdl_mini_tree.specs.declared.tree.Element.TheVariants.{Played, Range, Hold, Repeat}
use Rattle.tdl_mini_tree.specs.Tree as tree
use Rattle.tdl_mini_tree.specs.Numbers.{weight_parts, is_whole, is_weight, is_decimal_tail}
use Rattle.tdl_mini_tree.specs.Sizes.{Size, size_of, size_with, weight_of, times_of}
use Rattle.tdl_mini_tree.specs.Valid.{is_small, is_weight_or_none, is_count_or_none, is_valid_group, is_valid_step}
use Rattle.tdl_mini_tree.specs.ValidNests.{IsValidGroup}
use Rattle.tdl_mini_tree.specs.View.{group_of, element_of}
use Rattle.tdl_mini_tree.specs.SizeView.{size_value, SizeFits}
use Rattle.tdl_mini_tree.proofs.ValidParts.{and_three, element_parts, elements_prefix, group_light}

-- ---- one more element
-- the trees of the layers that it names do not matter
same_element : (trees others : List tree.Layers) (size : Size) (e : Element) → size_with size (element_of trees e) ≡ size_with size (element_of others e)
same_element trees others size (Played s weight count) = refl
same_element trees others size (Range a b) = refl
same_element trees others size Hold = refl
same_element trees others size Repeat = refl

-- what fits with an element of this form
pub fits_as : (size : Kept) (e form : Element) → e ≡ form → ((trees : List tree.Layers) → SizeFits (size_with (size_value size) (element_of trees e)))
    → SizeFits (size_with (size_value size) (element_of [] form))
fits_as size e form is fits = subst (λ (x : Element). SizeFits (size_with (size_value size) (element_of [] x))) is (fits [])

weight_positive : (weight : Option Number) → IsTrue (is_weight_or_none weight) → 1 ≤ weight_of weight
weight_positive None h = omega arith
weight_positive (Some n) h =
    let weight = (and_parts (is_weight n) (is_small n) h).0 in
    let above = (and_parts (not n.is_negative && is_decimal_tail n.tail && nat_lt 0 (weight_parts n)) _ weight).0 in
    ltb-true 0 (weight_parts n) (and_three (not n.is_negative) (is_decimal_tail n.tail) (nat_lt 0 (weight_parts n)) above).2

times_positive : (count : Option Number) → IsTrue (is_count_or_none count) → 1 ≤ times_of count
times_positive None h = omega arith
times_positive (Some n) h =
    let above = (and_parts (not n.is_negative && is_whole n && nat_lt 0 n.whole) _ h).0 in
    ltb-true 0 n.whole (and_three (not n.is_negative) (is_whole n) (nat_lt 0 n.whole) above).2

-- ---- valid groups
abbrev elements_in : tree.Group → ℕ
elements_in tree.no_element = 0
elements_in (tree.element g e) = suc (elements_in g)

-- each step but a `!` at the front has a weight: so there are no more than the sum and the elements
record IsNear (elements : ℕ) (size : Size) : Type 0 where
  steps : size.steps ≤ size.sum + elements
  last : size.last ≤ size.sum

near_with : (elements times weight : ℕ) (size : Size) → IsNear elements size → 1 ≤ times → 1 ≤ weight
    → IsNear (suc elements) (record { steps = size.steps + times; sum = size.sum + times * weight; last = weight })
near_with elements times weight size near some heavy =
    let each : times * 1 ≤ times * weight = mul-le-mul_left times heavy in
    let one : weight * 1 ≤ weight * times = mul-le-mul_left weight some in
    record { steps = omega (arith, near.steps); last = omega arith }

near : (kind : Kind) (g : tree.Group) → IsTrue (is_valid_group kind g) → IsNear (elements_in g) (size_of g)
near kind tree.no_element h = record { steps = omega arith; last = omega arith }
near kind (tree.element g (tree.played s weight count)) h =
    let (before, item) = element_parts kind g (tree.played s weight count) h in
    let (step, heavy, some) = and_three (is_valid_step kind s) (is_weight_or_none weight) (is_count_or_none count) item in
    near_with (elements_in g) (times_of count) (weight_of weight) (size_of g) (near kind g before) (times_positive count some) (weight_positive weight heavy)
near kind (tree.element g (tree.range a b)) h =
    near_with (elements_in g) _ 10000 (size_of g) (near kind g (element_parts kind g (tree.range a b) h).0) (omega arith) (omega arith)
near kind (tree.element g tree.hold) h =
    let before = near kind g (element_parts kind g tree.hold h).0 in
    record { steps = omega (arith, before.steps); last = omega (arith, before.last) }
near kind (tree.element g tree.repeat) h =
    let before = near kind g (element_parts kind g tree.repeat h).0 in
    record { steps = omega (arith, before.steps); last = omega arith }

size_fits : (kind : Kind) (g : tree.Group) → IsTrue (is_valid_group kind g) → elements_in g < 2 ^ 63 → SizeFits (size_of g)
size_fits kind g h few =
    let light = group_light kind g h in
    let all = near kind g h in
    record { steps = omega (arith, light, all.steps); sum = omega (arith, light); last = omega (arith, light, all.last) }

module _ (trees : List tree.Layers) where
  elements_from : (g : tree.Group) (elements : List Element)
      → elements_in (fold (λ h e. tree.element h (element_of trees e)) g elements) ≡ elements_in g + length elements
  elements_from g [] = omega arith
  elements_from g (e ∷ elements) = elements_from (tree.element g (element_of trees e)) elements ∙ omega arith

  elements_length : (elements : List Element) → elements_in (group_of trees elements) ≡ length elements
  elements_length elements = elements_from tree.no_element elements ∙ omega arith

  one_more : (read : List Element) (i : ℕ) (x : Element) → i < length read → x ≡ get_or read i x
      → group_of trees (take (i + 1) read) ≡ tree.element (group_of trees (take i read)) (element_of trees x)
  one_more read i x h is =
      fold_more (λ (g : tree.Group) (y : Element). tree.element g (element_of trees y)) tree.no_element read i x h
      ∙ ap (λ (y : Element). tree.element (group_of trees (take i read)) (element_of trees y)) (sym is)

-- the size of the group of so many elements
abbrev pub SizeSoFar : Kept → List Element → Type 0
SizeSoFar size elements = (trees : List tree.Layers) → size_value size ≡ size_of (group_of trees elements)

module _ (elements read : List Element) (e : read ≡ elements) (valid : IsValidGroup elements) where
  prefix_valid : (i : ℕ) → IsTrue (is_valid_group valid.0 (group_of valid.1.0 (take i read)))
  prefix_valid i =
      let P : List Element → Type 0 = λ xs. IsTrue (is_valid_group valid.0 (group_of valid.1.0 xs)) in
      elements_prefix valid.0 valid.1.0 read i (subst P (sym e) valid.1.1)

  -- with the next element it fits
  pub next_fits : (i : ℕ) (x : Element) (size : Kept) → length read < 2 ^ 63 → i < length read → x ≡ get_or read i x → SizeSoFar size (take i read)
      → (trees : List tree.Layers) → SizeFits (size_with (size_value size) (element_of trees x))
  next_fits i x size few h is so_far trees =
      let here = valid.1.0 in
      let next = group_of here (take (i + 1) read) in
      let same : size_with (size_value size) (element_of trees x) ≡ size_of next =
      same_element trees here (size_value size) x
      ∙ (ap (λ (z : Size). size_with z (element_of here x)) (so_far here) ∙ ap size_of (sym (one_more here read i x h is))) in
      let count = elements_length here (take (i + 1) read) in
      subst SizeFits (sym same) (size_fits valid.0 next (prefix_valid (i + 1)) (omega (arith, count, length-take (i + 1) read)))

  -- all elements together have the group's size
  pub whole_sum : (i : ℕ) (size : Kept) → length read ≤ i → SizeSoFar size (take i read) → (trees : List tree.Layers)
      → size.sum ≡ (size_of (group_of trees elements)).sum
  whole_sum i size h so_far trees =
      ap (λ (z : Size). z.sum) (so_far trees ∙ ap (λ (xs : List Element). size_of (group_of trees xs)) (take_all i read h ∙ e))

  -- and are light
  pub whole_light : (i : ℕ) (size : Kept) → SizeSoFar size (take i read) → size.sum ≤ 16384 * 10000
  whole_light i size so_far =
      rw (ap (λ (z : Size). z.sum) (so_far valid.1.0)) (group_light valid.0 (group_of valid.1.0 (take i read)) (prefix_valid i))
