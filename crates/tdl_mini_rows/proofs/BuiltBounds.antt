-- How large what is built is: the weights of the steps of groups, and how long sequences last.
use Rattle.std.proofs.Common.{◌≡◌, ℕ, zero, suc, ◌+◌, ◌*◌, ◌^◌, ◌<◌, ◌≤◌, Bool, not, nat_le, nat_lt, ℤ, pos, ◌+ℤ◌, ◌-ℤ◌, if◌then◌else◌, Option, Some, None}
use Rattle.std.proofs.Common.{List, [], ◌∷◌, ◌++◌, length, replicate, IsTrue, refl, sym, ap, ◌∙◌, subst, arith}
use Rattle.std.specs.List.{All, fold, sum}
use Rattle.std.proofs.lemmas.Bool.{and_parts, ltb-true}
use Rattle.std.proofs.lemmas.List.Elements.{All-cons, All-nil}
use Rattle.std.proofs.lemmas.List.Sums.{sum_by-cons}
use Rattle.tdl_expr.specs.declared.nodes.Node.{Node}
use Rattle.tdl_expr.specs.Tree.{Pure}
use Rattle.tdl_mini_tree.specs.declared.leaves.Kind.{Kind}
use Rattle.tdl_mini_tree.specs.declared.leaves.Number.{Number}
use Rattle.tdl_mini_tree.specs.Numbers.{is_decimal_tail, is_whole, is_weight, weight_parts}
use Rattle.tdl_mini_tree.specs.Sizes.{Size, unit, size_of, size_with, weight_of, times_of, range_length, groups_of}
use Rattle.tdl_mini_tree.specs.Tree as tree
use Rattle.tdl_mini_tree.specs.Valid.{is_small, is_valid, is_valid_sequence, is_valid_group, is_valid_element, is_valid_step, is_weight_or_none}
use Rattle.tdl_mini_tree.specs.Valid.{is_count_or_none}
use Rattle.tdl_mini_tree.specs.Values.{counted, integer_of, range_of}
use lib.Signed.{le_z}
use Rattle.tdl_mini_rows.specs.declared.joins.WeightedRow.{WeightedRow}
use Rattle.tdl_rows.specs.Built.{Built, kept}
use Rattle.tdl_rows.specs.Joined.{Weighted, timecat_of}
use Rattle.tdl_mini_rows.specs.Leaves.{Play, integer_value}
use Rattle.tdl_mini_rows.specs.Lowered.{Finish, laid, parts_of, longer_last, and_last, and_number, layers_built, sequence_built, groups_built, group_built}
use Rattle.tdl_mini_rows.specs.Lowered.{element_built, step_built}
use Rattle.tdl_mini_rows.specs.inside.Views.{steps_at, counts_of}
use Rattle.tdl_mini_rows.specs.inside.Bounds.{AreShares, AreShort}
use Rattle.tdl_mini_tree.proofs.ValidParts.{and_three, and_four, layer_parts, group_parts, element_parts, group_light, groups_few}

abbrev pub sum_parts : List Weighted → ℕ
sum_parts [] = 0
sum_parts (w ∷ ws) = w.parts + sum_parts ws

-- the last weight; without steps 0
abbrev pub end_parts : List Weighted → ℕ
end_parts [] = 0
end_parts (w ∷ []) = w.parts
end_parts (w ∷ v ∷ ws) = end_parts (v ∷ ws)

abbrev pub Positive : List Weighted → Type 0
Positive [] = Unit {0}
Positive (w ∷ ws) = (0 < w.parts) × Positive ws

-- weights above 0 whose sum, and whose last, are no greater than those of a size
pub record IsSized (ws : List Weighted) (size : Size) : Type 0 where
  pub positive : Positive ws
  pub sum : sum_parts ws ≤ size.sum
  pub last : end_parts ws ≤ size.last

sum-append : (a b : List Weighted) → sum_parts (a ++ b) ≡ sum_parts a + sum_parts b
sum-append [] b = omega arith
sum-append (w ∷ a) b = omega (arith, sum-append a b)

end-append : (a b : List Weighted) (w : Weighted) → end_parts (a ++ w ∷ b) ≡ end_parts (w ∷ b)
end-append [] b w = refl
end-append (v ∷ []) b w = refl
end-append (v ∷ u ∷ a) b w = end-append (u ∷ a) b w

Positive-append : (a b : List Weighted) → Positive a → Positive b → Positive (a ++ b)
Positive-append [] b p q = q
Positive-append (w ∷ a) b p q = (p.0, Positive-append a b p.1 q)

sum-copies : (n : ℕ) (w : Weighted) → sum_parts (replicate n w) ≡ n * w.parts
sum-copies zero w = omega arith
sum-copies (suc n) w = omega (arith, sum-copies n w)

end-copies : (n : ℕ) (w : Weighted) → end_parts (replicate (suc n) w) ≡ w.parts
end-copies zero w = refl
end-copies (suc n) w = end-copies n w

Positive-copies : (n : ℕ) (w : Weighted) → 0 < w.parts → Positive (replicate n w)
Positive-copies zero w p = tt
Positive-copies (suc n) w p = (p, Positive-copies n w p)

-- the last step longer by one
sum-longer : (ws : List Weighted) → sum_parts (longer_last ws) ≤ sum_parts ws + unit
sum-longer [] = omega arith
sum-longer (w ∷ []) = omega arith
sum-longer (w ∷ v ∷ ws) = omega (arith, sum-longer (v ∷ ws))

end-longer : (ws : List Weighted) → end_parts (longer_last ws) ≤ end_parts ws + unit
end-longer [] = omega arith
end-longer (w ∷ []) = omega arith
end-longer (w ∷ v ∷ []) = omega arith
end-longer (w ∷ v ∷ u ∷ ws) = end-longer (v ∷ u ∷ ws)

Positive-longer : (ws : List Weighted) → Positive ws → Positive (longer_last ws)
Positive-longer [] p = tt
Positive-longer (w ∷ []) p = (omega (arith, p.0), tt)
Positive-longer (w ∷ v ∷ ws) p = (p.0, Positive-longer (v ∷ ws) p.1)

-- the last step once more
sum-last : (ws : List Weighted) → sum_parts (and_last ws) ≡ sum_parts ws + end_parts ws
sum-last [] = refl
sum-last (w ∷ []) = omega arith
sum-last (w ∷ v ∷ ws) = omega (arith, sum-last (v ∷ ws))

end-last : (ws : List Weighted) → end_parts (and_last ws) ≡ end_parts ws
end-last [] = refl
end-last (w ∷ []) = refl
end-last (w ∷ v ∷ []) = refl
end-last (w ∷ v ∷ u ∷ ws) = end-last (v ∷ u ∷ ws)

Positive-last : (ws : List Weighted) → Positive ws → Positive (and_last ws)
Positive-last [] p = tt
Positive-last (w ∷ []) p = (p.0, p)
Positive-last (w ∷ v ∷ ws) p = (p.0, Positive-last (v ∷ ws) p.1)

-- further steps for numbers, each of weight 1
module _ (play : Play) where
  sum-numbers : (b : Built (List Weighted)) (ns : List ℤ) → sum_parts (fold (and_number play) b ns).value ≡ sum_parts b.value + length ns * unit
  sum-numbers b [] = omega arith
  sum-numbers b (n ∷ ns) = omega (arith, sum-numbers (and_number play b n) ns, sum-append b.value (laid unit (Pure (play (integer_value n))) ∷ []))

  end-numbers : (b : Built (List Weighted)) (ns : List ℤ) → end_parts b.value ≡ unit → end_parts (fold (and_number play) b ns).value ≡ unit
  end-numbers b [] e = e
  end-numbers b (n ∷ ns) e = end-numbers (and_number play b n) ns (end-append b.value [] _)

  end-some : (b : Built (List Weighted)) (ns : List ℤ) → 0 < length ns → end_parts (fold (and_number play) b ns).value ≡ unit
  end-some b [] h = absurd (omega arith)
  end-some b (n ∷ ns) h = end-numbers (and_number play b n) ns (end-append b.value [] _)

  Positive-numbers : (b : Built (List Weighted)) (ns : List ℤ) → Positive b.value → Positive (fold (and_number play) b ns).value
  Positive-numbers b [] p = p
  Positive-numbers b (n ∷ ns) p = Positive-numbers (and_number play b n) ns (Positive-append b.value _ p (omega arith, tt))

-- what a written weight and a written count are at least
weight-positive : (weight : Option Number) → IsTrue (is_weight_or_none weight) → 0 < weight_of weight
weight-positive None v = omega arith
weight-positive (Some n) v =
    let (kept, small) = and_parts (is_weight n) (is_small n) v in
    let (sign, tail, above, below) = and_four (not n.is_negative) (is_decimal_tail n.tail) (nat_lt 0 (weight_parts n)) (nat_le n.whole 16383) kept in
    ltb-true _ _ above

times-positive : (times : Option Number) → IsTrue (is_count_or_none times) → 0 < times_of times
times-positive None v = omega arith
times-positive (Some n) v =
    let (sign, tail, above, below) = and_four (not n.is_negative) (is_whole n) (nat_lt 0 n.whole) (nat_le n.whole 1024) v in
    ltb-true _ _ above

length-counted : (rising : Bool) (n : ℕ) (from : ℤ) → length (counted rising n from) ≡ n
length-counted rising zero from = refl
length-counted rising (suc n) from = omega (arith, length-counted rising n (if rising then from +ℤ pos 1 else from -ℤ pos 1))

-- further steps of one weight
copies-sized : (ws : List Weighted) (size : Size) (n : ℕ) (w : Weighted) → IsSized ws size → 0 < n → 0 < w.parts
    → IsSized (ws ++ replicate n w) (record { steps = size.steps + n; sum = size.sum + n * w.parts; last = w.parts })
copies-sized ws size zero w h some above = absurd (omega arith)
copies-sized ws size (suc n) w h some above = record {
  positive = Positive-append ws (replicate (suc n) w) h.positive (Positive-copies (suc n) w above);
  sum = omega (arith, h.sum, sum-append ws (replicate (suc n) w), sum-copies (suc n) w);
  last = omega (arith, end-append ws (replicate n w) w, end-copies n w);
}

length-range : (a b : Number) → length (range_of a b) ≡ range_length a b
length-range a b = length-counted (le_z (integer_of a) (integer_of b)) (range_length a b) (integer_of a)

module _ (kind : Kind) (play : Play) where
  end-range : (ws : List Weighted) (a b : Number) → end_parts (fold (and_number play) (kept ws) (range_of a b)).value ≤ unit
  end-range ws a b = omega (arith, end-some play (kept ws) (range_of a b) (omega (arith, length-range a b)))

  -- one element more
  element-sized : (ws : List Weighted) (size : Size) (e : tree.Element) → IsSized ws size → IsTrue (is_valid_element kind e)
      → IsSized (element_built play ws e).value (size_with size e)
  unfolding layers_built
  element-sized ws size (tree.played s weight times) h v =
      let (step, some, count) = and_three (is_valid_step kind s) (is_weight_or_none weight) (is_count_or_none times) v in
      copies-sized ws size (times_of times) (laid (weight_of weight) (step_built play s).value) h (times-positive times count) (weight-positive weight some)
  element-sized ws size (tree.range a b) h v = record {
    positive = Positive-numbers play (kept ws) (range_of a b) h.positive;
    sum = omega (arith, h.sum, sum-numbers play (kept ws) (range_of a b), length-range a b);
    last = end-range ws a b;
  }
  element-sized ws size tree.hold h v = record {
    positive = Positive-longer ws h.positive;
    sum = omega (arith, h.sum, sum-longer ws);
    last = omega (arith, h.last, end-longer ws);
  }
  element-sized ws size tree.repeat h v = record {
    positive = Positive-last ws h.positive;
    sum = omega (arith, h.sum, h.last, sum-last ws);
    last = omega (arith, h.last, end-last ws);
  }

  -- the steps of a valid group are of its size
  pub group-sized : (g : tree.Group) → IsTrue (is_valid_group kind g) → IsSized (group_built play g).value (size_of g)
  unfolding layers_built
  group-sized tree.no_element v = record { positive = tt; sum = omega arith; last = omega arith }
  group-sized (tree.element g e) v =
      let (before, item) = element_parts kind g e v in
      element-sized (group_built play g).value (size_of g) e (group-sized g before) item

-- a valid sequence does not last too long
pub parts-within : (kind : Kind) (s : tree.Sequence) → IsTrue (is_valid_sequence kind s) → parts_of s ≤ 16384 * 10000
parts-within kind tree.no_group v = omega arith
parts-within kind (tree.group tree.no_group g) v =
    let (before, item) = group_parts kind tree.no_group g v in
    group_light kind g item
parts-within kind (tree.group (tree.group s h) g) v = omega (arith, groups_few kind (tree.group (tree.group s h) g) v)

-- weights above 0 whose sum is within the limits
pub record IsWithin (ws : List Weighted) : Type 0 where
  pub positive : Positive ws
  pub sum : sum_parts ws ≤ 16384 * 10000

module _ (kind : Kind) (play : Play) where
  pub group-shares : (g : tree.Group) → IsTrue (is_valid_group kind g) → IsWithin (group_built play g).value
  group-shares g v =
      let sized = group-sized kind play g v in
      record { positive = sized.positive; sum = omega (arith, sized.sum, group_light kind g v) }

  groups-positive : (s : tree.Sequence) → Positive (groups_built play s).value
  unfolding layers_built
  groups-positive tree.no_group = tt
  groups-positive (tree.group s g) = Positive-append (groups_built play s).value _ (groups-positive s) (omega arith, tt)

  groups-sum : (s : tree.Sequence) → sum_parts (groups_built play s).value ≡ groups_of s * unit
  unfolding layers_built
  groups-sum tree.no_group = omega arith
  groups-sum (tree.group s g) =
      omega (arith, groups-sum s, sum-append (groups_built play s).value (laid unit (timecat_of (group_built play g).value).value ∷ []))

  -- the steps of a valid sequence
  pub sequence-shares : (s : tree.Sequence) → IsTrue (is_valid_sequence kind s) → IsWithin (sequence_built play s).value
  unfolding layers_built
  sequence-shares tree.no_group v = record { positive = tt; sum = omega arith }
  sequence-shares (tree.group tree.no_group g) v =
      let (before, item) = group_parts kind tree.no_group g v in
      group-shares g item
  sequence-shares (tree.group (tree.group s h) g) v =
      let several = tree.group (tree.group s h) g in
      record { positive = groups-positive several; sum = omega (arith, groups-sum several, groups_few kind several v) }

abbrev pub AreLittle : List Weighted → Type 0
AreLittle [] = Unit {0}
AreLittle (w ∷ ws) = (w.parts ≤ 2 ^ 28) × AreLittle ws

AreLittle-append : (a b : List Weighted) → AreLittle a → AreLittle b → AreLittle (a ++ b)
AreLittle-append [] b p q = q
AreLittle-append (w ∷ a) b p q = (p.0, AreLittle-append a b p.1 q)

-- the sequences of valid layers, however they are joined
pub layers-little : (kind : Kind) (play : Play) (finish : Finish) (ls : tree.Layers) → IsTrue (is_valid kind ls) → AreLittle (layers_built play finish ls).value
unfolding layers_built
layers-little kind play finish tree.no_layer v = tt
layers-little kind play finish (tree.layer ls s) v =
    let (before, item) = layer_parts kind ls s v in
    AreLittle-append (layers_built play finish ls).value _ (layers-little kind play finish ls before) (omega (arith, parts-within kind s item), tt)

-- weights that add up to so much are each no more
sum-little : (ws : List Weighted) → sum_parts ws ≤ 2 ^ 28 → AreLittle ws
sum-little [] h = tt
sum-little (w ∷ ws) h = (omega arith, sum-little ws (omega arith))

-- the steps of the program have the weights that they stand for
module _ (nodes : List Node) where
  sum-at : (steps : List WeightedRow) → sum (counts_of steps) ≡ sum_parts (steps_at nodes steps)
  sum-at [] = refl
  sum-at (s ∷ steps) = sum_by-cons (λ (n : ℕ). n) s.parts (counts_of steps) ∙ ap (λ (n : ℕ). s.parts + n) (sum-at steps)

  positive-at : (steps : List WeightedRow) → Positive (steps_at nodes steps) → All (λ s. 0 < s.parts) steps
  positive-at [] p = All-nil (λ (s : WeightedRow). 0 < s.parts)
  positive-at (s ∷ steps) p = All-cons (λ (s : WeightedRow). 0 < s.parts) s steps p.0 (positive-at steps p.1)

  pub little-at : (steps : List WeightedRow) → AreLittle (steps_at nodes steps) → AreShort steps
  little-at [] p = All-nil (λ (s : WeightedRow). s.parts ≤ 2 ^ 28)
  little-at (s ∷ steps) p = All-cons (λ (s : WeightedRow). s.parts ≤ 2 ^ 28) s steps p.0 (little-at steps p.1)

  pub shares-at : (steps : List WeightedRow) (ws : List Weighted) → steps_at nodes steps ≡ ws → IsWithin ws → AreShares steps
  shares-at steps ws e h =
      let here = subst IsWithin (sym e) h in
      record { positive = positive-at steps here.positive; sum = omega (arith, here.sum, sum-at steps) }

  pub short-at : (steps : List WeightedRow) (ws : List Weighted) → steps_at nodes steps ≡ ws → IsWithin ws → AreShort steps
  short-at steps ws e h =
      let here = subst IsWithin (sym e) h in
      little-at steps (sum-little (steps_at nodes steps) (omega (arith, here.sum)))

  pub sequences-short : (steps : List WeightedRow) (ws : List Weighted) → steps_at nodes steps ≡ ws → AreLittle ws → AreShort steps
  sequences-short steps ws e h = little-at steps (subst AreLittle (sym e) h)
