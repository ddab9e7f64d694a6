-- The weights of parts, and the rows of parts one after another.
use Rattle.std.proofs.Common.{◌≡◌, ℕ, ◌+◌, ◌*◌, ◌^◌, ◌<◌, ◌≤◌, ◌&&◌, nat_le, nat_lt, not, IsTrue, List, [], ◌∷◌, ◌++◌, length, map, take}
use Rattle.std.proofs.Common.{get_or, pos, sum, refl, sym, ap, ◌∙◌, arith}
use Rattle.std.specs.List.{All}
use Rattle.std.proofs.lemmas.Bool.{and_parts, leb-true, ltb-true}
use Rattle.std.proofs.lemmas.List.{length-map, map-append, take_more}
use Rattle.std.proofs.lemmas.List.Elements.{All-head, All-tail, All-cons, All-nil}
use Rattle.std.proofs.lemmas.List.Sums.{sum_by-cons}
use Rattle.tdl_fraction.specs.Rational.{Rational, frac}
use Rattle.tdl_expr.specs.declared.ids.NodeId.{NodeId}
use Rattle.tdl_expr.specs.declared.nodes.Node.{Node}
use Rattle.tdl_expr.specs.Joins.{joined_steps}
use Rattle.tdl_expr.specs.Rows.{tree_at, trees_of, weighted}
use Rattle.tdl_expr.specs.Tree.{Tree, Steps, step, TimeCat}
use Rattle.tdl_expr.specs.Weights.{steps_of, whole_weights, ten_thousandths}
use Rattle.tdl_rows.specs.Joined.{joins, timecat_of, steps_from, tree_of, weight_of_parts}
use Rattle.tdl_rows.specs.Lowers.{trees_at}
use Rattle.tdl_rows.proofs.Pushes.{same_joins}
use Rattle.tdl_mini_tree.specs.declared.leaves.Number.{Number}
use Rattle.tdl_mini_tree.specs.declared.leaves.Tail.{Tail}
use Rattle.tdl_mini_tree.specs.declared.leaves.Tail.TheVariants.{Whole, Decimals, Over}
use Rattle.tdl_mini_tree.specs.Numbers.{weight_parts, tail_parts, is_weight, is_decimal_tail}
use Rattle.tdl_mini_tree.specs.Valid.{is_small, is_small_tail}
use Rattle.tdl_command.specs.declared.tree.Part.{Part}
use Rattle.tdl_command.specs.Valid.{IsValidWeight}
use Rattle.tdl_prepare.specs.inside.Parts.{steps_at, weights_of}

-- ---- rows with weights, by their trees
weighted-steps : (nodes : List Node) (weights ws : List ℕ) (ids : List NodeId) → length ws ≡ length ids
    → weighted (trees_of nodes) (steps_of weights ids) ≡ steps_from weights (map tree_of (steps_at ws (trees_at nodes ids)))
weighted-steps nodes [] ws ids e = refl
weighted-steps nodes (v ∷ vs) [] [] e = refl
weighted-steps nodes (v ∷ vs) [] (id ∷ ids) e = (cc)
weighted-steps nodes (v ∷ vs) (w ∷ ws) [] e = (cc)
weighted-steps nodes (v ∷ vs) (w ∷ ws) (id ∷ ids) e = ap (λ (ts : Steps). step v (tree_at nodes id) ts) (weighted-steps nodes vs ws ids (omega arith))

weights-steps : (ws : List ℕ) (ts : List Tree) → length ws ≡ length ts → ten_thousandths ws ≡ map (λ s. weight_of_parts s.parts) (steps_at ws ts)
weights-steps [] ts e = refl
weights-steps (w ∷ ws) [] e = (cc)
weights-steps (w ∷ ws) (t ∷ ts) e = ap (λ vs. weight_of_parts w ∷ vs) (weights-steps ws ts (omega arith))

length-steps : (ws : List ℕ) (ts : List Tree) → length ws ≡ length ts → length ts ≡ length (steps_at ws ts)
length-steps [] [] e = refl
length-steps [] (t ∷ ts) e = (cc)
length-steps (w ∷ ws) [] e = (cc)
length-steps (w ∷ ws) (t ∷ ts) e = omega (arith, length-steps ws ts (omega arith))

pub timecat-rows : (nodes : List Node) (ws : List ℕ) (ids : List NodeId) (weights : List ℕ) → length ws ≡ length ids
    → weights ≡ whole_weights (ten_thousandths ws)
    → joins (length ids) (joined_steps TimeCat (weighted (trees_of nodes) (steps_of weights ids))) ≡ timecat_of (steps_at ws (trees_at nodes ids))
timecat-rows nodes ws ids weights e f =
    let trees : length ids ≡ length (trees_at nodes ids) = sym (length-map ids (tree_at nodes)) in
    let same : length ws ≡ length (trees_at nodes ids) = e ∙ trees in
    same_joins _ _ _ _ (trees ∙ length-steps ws (trees_at nodes ids) same)
    (ap (joined_steps TimeCat) (weighted-steps nodes weights ws ids e
    ∙ ap (λ (ns : List ℕ). steps_from ns (map tree_of (steps_at ws (trees_at nodes ids)))) (f ∙ ap whole_weights (weights-steps ws (trees_at nodes ids) same))))

-- ---- sums of weights
tail_small : (t : Tail) → IsTrue (is_small_tail t) → tail_parts t < 10000
tail_small Whole h = omega arith
tail_small (Decimals parts) h = ltb-true parts 10000 h
tail_small (Over denominator) h = omega arith

weight_fits : (n : Number) → IsValidWeight n → (0 < weight_parts n) × (weight_parts n ≤ 2 ^ 28)
weight_fits n h =
    let both = and_parts (is_weight n) (is_small n) h in
    let last = and_parts (not n.is_negative && is_decimal_tail n.tail && nat_lt 0 (weight_parts n)) (nat_le n.whole 16383) both.0 in
    let some = (and_parts (not n.is_negative && is_decimal_tail n.tail) (nat_lt 0 (weight_parts n)) last.0).1 in
    let tail = tail_small n.tail (and_parts (nat_le n.whole 2147483647) (is_small_tail n.tail) both.1).1 in
    let whole = leb-true n.whole 16383 last.1 in
    (ltb-true 0 (weight_parts n) some, omega (arith, tail, whole))

pub positive : (parts : List Part) → All (λ p. IsValidWeight p.weight) parts → All (λ w. 0 < w) (weights_of parts)
positive [] h = All-nil (λ w. 0 < w)
positive (p ∷ parts) h =
    All-cons (λ w. 0 < w) (weight_parts p.weight) (weights_of parts) (weight_fits p.weight (All-head (λ (p : Part). IsValidWeight p.weight) p parts h)).0
    (positive parts (All-tail (λ (p : Part). IsValidWeight p.weight) p parts h))

pub sum_fits : (parts : List Part) → All (λ p. IsValidWeight p.weight) parts → sum (weights_of parts) ≤ length parts * 2 ^ 28
sum_fits [] h = omega arith
sum_fits (p ∷ parts) h =
    let first = weight_fits p.weight (All-head (λ (p : Part). IsValidWeight p.weight) p parts h) in
    let rest = sum_fits parts (All-tail (λ (p : Part). IsValidWeight p.weight) p parts h) in
    omega (arith, first.1, rest, sum_by-cons (λ (n : ℕ). n) (weight_parts p.weight) (weights_of parts))

-- the weights so far, and one more
pub weights_more : (parts : List Part) (i : ℕ) (p : Part) (weights more : List Rational) (weight : Rational) → i < length parts → p ≡ get_or parts i p
    → weights ≡ ten_thousandths (weights_of (take i parts)) → weight ≡ frac (pos (weight_parts p.weight)) 10000 → more ≡ weights ++ weight ∷ []
    → more ≡ ten_thousandths (weights_of (take (i + 1) parts))
weights_more parts i p weights more weight lt is e f g =
    let last : take (i + 1) parts ≡ take i parts ++ p ∷ [] = take_more parts i p lt ∙ ap (λ (q : Part). take i parts ++ q ∷ []) (sym is) in
    let whole : weights_of (take (i + 1) parts) ≡ weights_of (take i parts) ++ weight_parts p.weight ∷ [] =
    ap weights_of last ∙ map-append (λ (q : Part). weight_parts q.weight) (take i parts) (p ∷ []) in
    let all : ten_thousandths (weights_of (take (i + 1) parts)) ≡ ten_thousandths (weights_of (take i parts)) ++ frac (pos (weight_parts p.weight)) 10000 ∷ [] =
    ap ten_thousandths whole ∙ map-append (λ (n : ℕ). frac (pos n) 10000) (weights_of (take i parts)) (weight_parts p.weight ∷ []) in
    cc
