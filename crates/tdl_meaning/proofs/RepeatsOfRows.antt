-- That the children of a row repeat, child by child, and how many cycles are asked at a rate.
use Rattle.std.proofs.Common.{◌≡◌, ◌⊎◌, ⊎_elim, ℕ, zero, suc, ◌*◌, ◌<◌, List, [], ◌∷◌, take, length, get_or, pos, ◌*ℤ◌, nat_abs, sym, ap, ◌∙◌, subst, arith}
use Rattle.std.proofs.lemmas.Int.{ints}
use Rattle.tdl_fraction.specs.Rational.{Rational, whole, ◌*ℚ◌, ◌<ℚ◌}
use Rattle.tdl_fraction.proofs.Over.{Over-whole, Over-times, same_cross_over}
use Rattle.tdl_fraction.proofs.Rates.{rate_over}
use Rattle.tdl_control.specs.declared.leaves.Leaf.{Leaf}
use Rattle.tdl_expr.specs.declared.nodes.Node.{Node}
use Rattle.tdl_expr.specs.declared.nodes.Node.TheVariants.{Silence, Pure}
use Rattle.tdl_expr.specs.declared.ids.NodeId.{NodeId}
use Rattle.tdl_expr.specs.declared.steps.Step.{Step as StepValue}
use Rattle.tdl_expr.specs.Tree.{Tree}
use Rattle.tdl_expr.specs.Rows.{row, tree_of, in_order, weighted as steps_of}
use Rattle.tdl_meaning.specs.Pattern.{Pattern, Share}
use Rattle.tdl_meaning.specs.Meaning.{cyc, patterns, weighted as shares_of}
use Rattle.tdl_meaning.specs.Proper.{Each}
use Rattle.tdl_meaning.specs.Repeats.{Repeats}
use Rattle.tdl_meaning.proofs.RepeatsByKind.{silence_repeats, pure_repeats}

-- a row repeats as the tree of its node does
pub as_node : (n : ℕ) (e node : Tree) → e ≡ node → Repeats n (cyc node) → Repeats n (cyc e)
as_node n e node same repeats = subst (λ d. Repeats n (cyc d)) (sym same) repeats

-- of a row that is silence, or one event in each cycle
pub leaf_repeats : (n : ℕ) (trees : List Tree) (e : Tree) (node : Node) → e ≡ tree_of trees node → (node ≡ Silence) ⊎ ((v : Leaf) × (node ≡ Pure v))
    → Repeats n (cyc e)
leaf_repeats n trees e node tree kind =
    ⊎_elim (λ is. as_node n e _ (tree ∙ ap (tree_of trees) is) (silence_repeats n))
    (λ is. as_node n e _ (tree ∙ ap (tree_of trees) is.1) (pure_repeats n is.0)) kind

-- what holds of the first children, and of the next one
pub children_more : (P : Pattern → Type 0) (trees : List Tree) (ids : List NodeId) (i : ℕ) (d : NodeId) → i < length ids → P (cyc (row trees (get_or ids i d)))
    → Each P (patterns (in_order trees (take i ids))) → Each P (patterns (in_order trees (take (suc i) ids)))
children_more P trees [] i d h one all = absurd (omega arith)
children_more P trees (id ∷ ids) zero d h one all = (one, tt)
children_more P trees (id ∷ ids) (suc i) d h one all = (all.0, children_more P trees ids i d (omega arith) one all.1)

pub steps_more : (P : Pattern → Type 0) (trees : List Tree) (steps : List StepValue) (i : ℕ) (d : StepValue) → i < length steps
    → P (cyc (row trees (get_or steps i d).child)) → Each (λ (s : Share). P s.pattern) (shares_of (steps_of trees (take i steps)))
    → Each (λ (s : Share). P s.pattern) (shares_of (steps_of trees (take (suc i) steps)))
steps_more P trees [] i d h one all = absurd (omega arith)
steps_more P trees (s ∷ steps) zero d h one all = (one, tt)
steps_more P trees (s ∷ steps) (suc i) d h one all = (all.0, steps_more P trees steps i d (omega arith) one all.1)

-- n cycles at a rate are q cycles
pub cycles_at_rate : (n q : ℕ) (r : Rational) → whole (pos 0) <ℚ r → q * r.den ≡ n * nat_abs r.num → whole (pos q) ≡ whole (pos n) *ℚ r
cycles_at_rate n q r positive e =
    same_cross_over (Over-whole (pos q)) (Over-times (Over-whole (pos n)) (rate_over r positive)) (cross r.den (nat_abs r.num) e)
  where
    cross : (d a : ℕ) → q * d ≡ n * a → pos q *ℤ pos (1 * d) ≡ (pos n *ℤ pos a) *ℤ pos 1
    cross d a e = omega (arith, ints, e)
