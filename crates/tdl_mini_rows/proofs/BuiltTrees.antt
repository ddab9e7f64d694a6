-- The trees of valid texts are valid, and so are the selectors of their arguments.
--     lowered-valid      of a text of a kind
--     argument-valid     of an argument
use Rattle.std.proofs.Common.{ℕ, zero, suc, ◌<◌, Bool, true, false, not, ◌&&◌, ◌==◌, nat_le, nat_lt, if◌then◌else◌, pos, ℤ, Option, Some, None, List, [], ◌∷◌}
use Rattle.std.proofs.Common.{◌++◌, map, replicate, IsTrue, arith}
use Rattle.std.specs.List.{fold}
use Rattle.std.proofs.lemmas.Bool.{and_parts, ltb-true}
use Rattle.tdl_fraction.specs.Rational.{Rational, whole}
use Rattle.tdl_expr.specs.Tree.{Tree}
use Rattle.tdl_expr.specs.Valid.{IsValid}
use Rattle.tdl_mini_tree.specs.declared.leaves.Bracket.{Bracket}
use Rattle.tdl_mini_tree.specs.declared.leaves.Bracket.TheVariants.{Square, Angle, Brace}
use Rattle.tdl_mini_tree.specs.declared.leaves.Kind.{Kind}
use Rattle.tdl_mini_tree.specs.declared.leaves.Kind.TheVariants.{Count, Ratio}
use Rattle.tdl_mini_tree.specs.declared.leaves.Number.{Number}
use Rattle.tdl_mini_tree.specs.Limits.{max_weight}
use Rattle.tdl_mini_tree.specs.Numbers.{number_value, is_weight, is_decimal_tail, weight_parts}
use Rattle.tdl_mini_tree.specs.Sizes.{weight_of, times_of}
use Rattle.tdl_mini_tree.specs.Tree as tree
use Rattle.tdl_mini_tree.specs.Tree.{kind_after}
use Rattle.tdl_mini_tree.specs.Valid.{is_factor, is_small, is_weight_or_none, is_count_or_none, is_valid, is_valid_sequence, is_valid_group, is_valid_element}
use Rattle.tdl_mini_tree.specs.Valid.{is_valid_step, is_valid_operand, is_valid_braces, is_valid_term}
use Rattle.tdl_mini_tree.specs.Values.{values_of, range_of, is_accepted, is_accepted_from}
use Rattle.tdl_mini_tree.proofs.ValidParts.{and_three, and_four, layer_parts, group_parts, element_parts}
use Rattle.tdl_rows.specs.Built.{Built, kept, and_next, each}
use Rattle.tdl_rows.specs.Joined.{Weighted, Argument, tree_of, stack_of, cat_of, weight_of_parts, fast_of, slow_of, choose, euclid_of}
use Rattle.tdl_rows.proofs.MadeTrees.{AllValid, AreSteps, HasValid, step-trees, stack-valid, cat-valid, timecat-valid, fast-valid, slow-valid}
use Rattle.tdl_rows.proofs.MadeTrees.{valid-append, choose-valid, euclid-valid}
use Rattle.tdl_mini_rows.specs.Leaves.{Play, leaf_of}
use Rattle.tdl_mini_rows.specs.Lowered.{Finish, laid, in_turn, at_pace, a_cycle_each, finish_of, first_parts, is_even, over_parts, paced, paced_stack, parts_of}
use Rattle.tdl_mini_rows.specs.Lowered.{longer_last, and_last, indices_of, unless_plain, plain_number, selected, and_number}
use Rattle.tdl_mini_rows.specs.Lowered.{layers_built, sequence_built, groups_built, group_built, element_built, step_built, term_built, operand_built}
use Rattle.tdl_mini_rows.specs.Lowered.{braces_built, factor_built, factors_built, at_factor, selecting, lowered, argument_of}

-- ---- steps
-- sequences, which are joined by no weights
abbrev EachValid : List Weighted → Type 0
EachValid [] = Unit {0}
EachValid (s ∷ ss) = IsValid s.tree × EachValid ss

each-trees : (ss : List Weighted) → EachValid ss → AllValid (map tree_of ss)
each-trees [] p = tt
each-trees (s ∷ ss) p = (p.0, each-trees ss p.1)

each-append : (a b : List Weighted) → EachValid a → EachValid b → EachValid (a ++ b)
each-append [] b p q = q
each-append (s ∷ a) b p q = (p.0, each-append a b p.1 q)

pub steps-append : (a b : List Weighted) → AreSteps a → AreSteps b → AreSteps (a ++ b)
steps-append [] b p q = q
steps-append (s ∷ a) b p q = (p.0, p.1, steps-append a b p.2 q)

copies : (n : ℕ) (s : Weighted) → 0 < s.parts → IsValid s.tree → AreSteps (replicate n s)
copies zero s h p = tt
copies (suc n) s h p = (h, p, copies n s h p)

longer : (ss : List Weighted) → AreSteps ss → AreSteps (longer_last ss)
longer [] p = p
longer (s ∷ []) p = (omega arith, p.1, p.2)
longer (s ∷ t ∷ ss) p = (p.0, p.1, longer (t ∷ ss) p.2)

again : (ss : List Weighted) → AreSteps ss → AreSteps (and_last ss)
again [] p = p
again (s ∷ []) p = (p.0, p.1, p)
again (s ∷ t ∷ ss) p = (p.0, p.1, again (t ∷ ss) p.2)

weight-positive : (weight : Option Number) → IsTrue (is_weight_or_none weight) → 0 < weight_of weight
weight-positive None h = omega arith
weight-positive (Some n) h =
    let all = (and_parts (is_weight n) (is_small n) h).0 in
    let parts = and_four (not n.is_negative) (is_decimal_tail n.tail) (nat_lt 0 (weight_parts n)) (nat_le n.whole max_weight) all in
    ltb-true _ _ parts.2

stacked-valid : (ss : List Weighted) → EachValid ss → IsValid (stack_of (map tree_of ss)).value
stacked-valid ss p = stack-valid (map tree_of ss) (each-trees ss p)

paced-valid : (rate : Rational) (s : Weighted) → IsValid s.tree → IsValid (paced rate s).value
paced-valid rate s p = by (s.parts == 0) (fast-valid _ s.tree p)
  where
    by : (b : Bool) → IsValid (fast_of (over_parts rate s.parts) s.tree).value
        → IsValid (if b then kept s.tree else fast_of (over_parts rate s.parts) s.tree).value
    by true q = p
    by false q = q

paced-from : (rate : Rational) (ss : List Weighted) (b : Built (List Tree)) → EachValid ss → AllValid b.value
    → AllValid (fold (and_next (paced rate)) b ss).value
paced-from rate [] b h p = p
paced-from rate (s ∷ ss) b h p = paced-from rate ss (and_next (paced rate) b s) h.1 (valid-append b.value _ p (paced-valid rate s h.0, tt))

paced_stack-valid : (ss : List Weighted) (rate : Rational) → EachValid ss → IsValid (paced_stack ss rate).value
paced_stack-valid ss rate p = stack-valid (each (paced rate) ss).value (paced-from rate ss (kept []) p tt)

-- ---- how the steps of a sequence are joined
abbrev Joining : Finish → Type 0
Joining finish = (parts : ℕ) (ss : List Weighted) → AreSteps ss → IsValid (finish parts ss).value

joining-at_pace : (rate : Rational) → Joining (at_pace rate)
joining-at_pace rate parts ss p = paced-valid rate (laid parts (timecat_of_value ss)) (timecat-valid ss p)
  where
    timecat_of_value : List Weighted → Tree
    timecat_of_value ss = (in_turn 0 ss).value

joining-a_cycle_each : Joining a_cycle_each
joining-a_cycle_each parts ss p = by (is_even ss) (cat-valid (map tree_of ss) (step-trees ss p)) (joining-at_pace (whole (pos 1)) parts ss p)
  where
    by : (b : Bool) → IsValid (cat_of (map tree_of ss)).value → IsValid (at_pace (whole (pos 1)) parts ss).value →
        IsValid (if b then cat_of (map tree_of ss) else at_pace (whole (pos 1)) parts ss).value
    by true q r = q
    by false q r = r

joining-in_turn : Joining in_turn
joining-in_turn parts ss p = timecat-valid ss p

joining-finish : (shape : Bracket) (ls : tree.Layers) → Joining (finish_of shape ls)
joining-finish Square ls = joining-in_turn
joining-finish Angle ls = joining-a_cycle_each
joining-finish Brace ls = joining-at_pace (weight_of_parts (first_parts ls))

numbers-steps : (play : Play) (b : Built (List Weighted)) (ns : List ℤ) → AreSteps b.value → AreSteps (fold (and_number play) b ns).value
numbers-steps play b [] p = p
numbers-steps play b (n ∷ ns) p = numbers-steps play (and_number play b n) ns (steps-append b.value _ p (omega arith, tt, tt))

-- ---- arguments
plain-or : (n : Option Number) (built : Built Argument) → HasValid built.value → HasValid (unless_plain n built).value
plain-or (Some n) built h = tt
plain-or None built h = h

from-layers : (ls : tree.Layers) → EachValid (layers_built (indices_of ls) in_turn ls).value → HasValid (argument_of ls).value
from-layers ls h = plain-or (plain_number ls) (selected ls (layers_built (indices_of ls) in_turn ls)) (stacked-valid _ h)

-- the sequences of braces at a factor
factored-valid : (sequences : Built (List Weighted)) (factor : Built Argument) → EachValid sequences.value → HasValid factor.value
    → IsValid (at_factor sequences factor).value
factored-valid sequences factor p h =
    choose-valid factor.value (paced_stack sequences.value) h (λ r. paced_stack-valid sequences.value r p)

-- ---- rhythms
rhythms-valid : (hits steps : Argument) (t : Tree) (r : Rational) → HasValid hits → HasValid steps → IsValid t
    → IsValid (choose hits (λ k. choose steps (λ n. euclid_of t k n r))).value
rhythms-valid hits steps t r a b p =
    choose-valid hits (λ k. choose steps (λ n. euclid_of t k n r)) a
    (λ k. choose-valid steps (λ n. euclid_of t k n r) b (λ n. euclid-valid t k n r p))

rhythms-valid-from : (hits steps from : Argument) (t : Tree) → HasValid hits → HasValid steps → HasValid from → IsValid t
    → IsValid (choose hits (λ k. choose steps (λ n. choose from (λ r. euclid_of t k n r)))).value
rhythms-valid-from hits steps from t a b c p =
    choose-valid hits (λ k. choose steps (λ n. choose from (λ r. euclid_of t k n r))) a
    (λ k. choose-valid steps (λ n. choose from (λ r. euclid_of t k n r)) b
    (λ n. choose-valid from (λ r. euclid_of t k n r) c (λ r. euclid-valid t k n r p)))

-- ---- texts
mutual
  unfolding layers_built

  layers-valid : (kind : Kind) (play : Play) (finish : Finish) → Joining finish → (ls : tree.Layers) → IsTrue (is_valid kind ls)
      → EachValid (layers_built play finish ls).value
  layers-valid kind play finish joining tree.no_layer v = tt
  layers-valid kind play finish joining (tree.layer ls s) v =
      let (before, item) = layer_parts kind ls s v in
      each-append (layers_built play finish ls).value _ (layers-valid kind play finish joining ls before)
      (joining (parts_of s) (sequence_built play s).value (sequence-valid kind play s item), tt)

  sequence-valid : (kind : Kind) (play : Play) (s : tree.Sequence) → IsTrue (is_valid_sequence kind s) → AreSteps (sequence_built play s).value
  sequence-valid kind play tree.no_group v = tt
  sequence-valid kind play (tree.group tree.no_group g) v = group-valid kind play g (group_parts kind tree.no_group g v).1
  sequence-valid kind play (tree.group (tree.group s i) g) v =
      let (before, item) = group_parts kind (tree.group s i) g v in
      steps-append (groups_built play (tree.group s i)).value _ (groups-valid kind play (tree.group s i) before)
      (omega arith, timecat-valid _ (group-valid kind play g item), tt)

  groups-valid : (kind : Kind) (play : Play) (s : tree.Sequence) → IsTrue (is_valid_sequence kind s) → AreSteps (groups_built play s).value
  groups-valid kind play tree.no_group v = tt
  groups-valid kind play (tree.group s g) v =
      let (before, item) = group_parts kind s g v in
      steps-append (groups_built play s).value _ (groups-valid kind play s before)
      (omega arith, timecat-valid _ (group-valid kind play g item), tt)

  group-valid : (kind : Kind) (play : Play) (g : tree.Group) → IsTrue (is_valid_group kind g) → AreSteps (group_built play g).value
  group-valid kind play tree.no_element v = tt
  group-valid kind play (tree.element g e) v =
      let (before, item) = element_parts kind g e v in
      element-valid kind play (group_built play g).value e (group-valid kind play g before) item

  element-valid : (kind : Kind) (play : Play) (ss : List Weighted) (e : tree.Element) → AreSteps ss → IsTrue (is_valid_element kind e)
      → AreSteps (element_built play ss e).value
  element-valid kind play ss (tree.played s weight times) p v =
      let (item, some, count) = and_three (is_valid_step kind s) (is_weight_or_none weight) (is_count_or_none times) v in
      steps-append ss _ p
      (copies (times_of times) (laid (weight_of weight) (step_built play s).value) (weight-positive weight some) (step-valid kind play s item))
  element-valid kind play ss (tree.range a b) p v = numbers-steps play (kept ss) (range_of a b) p
  element-valid kind play ss tree.hold p v = longer ss p
  element-valid kind play ss tree.repeat p v = again ss p

  step-valid : (kind : Kind) (play : Play) (s : tree.MiniStep) → IsTrue (is_valid_step kind s) → IsValid (step_built play s).value
  step-valid kind play (tree.begins t) v = term-valid kind play t v
  step-valid kind play (tree.fast s o) v =
      let (before, last) = and_parts (is_valid_step kind s) (is_valid_operand Ratio o) v in
      let t = step-valid kind play s before in
      choose-valid (factor_built o).value (λ r. fast_of r (step_built play s).value) (factor-valid o last) (λ r. fast-valid r (step_built play s).value t)
  step-valid kind play (tree.slow s o) v =
      let (before, last) = and_parts (is_valid_step kind s) (is_valid_operand Ratio o) v in
      let t = step-valid kind play s before in
      choose-valid (factor_built o).value (λ r. slow_of r (step_built play s).value) (factor-valid o last) (λ r. slow-valid r (step_built play s).value t)
  step-valid kind play (tree.euclid s k n) v =
      let (before, hits, steps, rhythms) = and_four (is_valid_step kind s) (is_valid Count k) (is_valid Count n) (is_accepted (values_of k) (values_of n)) v in
      let t = step-valid kind play s before in
      let a = from-layers k (layers-valid Count (indices_of k) in_turn joining-in_turn k hits) in
      let b = from-layers n (layers-valid Count (indices_of n) in_turn joining-in_turn n steps) in
      rhythms-valid (argument_of k).value (argument_of n).value (step_built play s).value (whole (pos 0)) a b t
  step-valid kind play (tree.euclid_from s k n r) v =
      let counts = is_valid_step kind s && is_valid Count k && is_valid Count n && is_valid Count r in
      let all = (and_parts counts (is_accepted_from (values_of k) (values_of n) (values_of r)) v).0 in
      let (before, hits, steps, from) = and_four (is_valid_step kind s) (is_valid Count k) (is_valid Count n) (is_valid Count r) all in
      let t = step-valid kind play s before in
      let a = from-layers k (layers-valid Count (indices_of k) in_turn joining-in_turn k hits) in
      let b = from-layers n (layers-valid Count (indices_of n) in_turn joining-in_turn n steps) in
      let c = from-layers r (layers-valid Count (indices_of r) in_turn joining-in_turn r from) in
      rhythms-valid-from (argument_of k).value (argument_of n).value (argument_of r).value (step_built play s).value a b c t

  term-valid : (kind : Kind) (play : Play) (t : tree.Term) → IsTrue (is_valid_term kind t) → IsValid (term_built play t).value
  term-valid kind play (tree.value x) v = tt
  term-valid kind play tree.rest v = tt
  term-valid kind play (tree.bracketed o) v = operand-valid kind play o v

  operand-valid : (kind : Kind) (play : Play) (o : tree.Operand) → IsTrue (is_valid_operand kind o) → IsValid (operand_built play o).value
  operand-valid kind play (tree.scaled tree.no_brace n) v = tt
  operand-valid kind play (tree.scaled (tree.brace tree.no_brace ls) n) v =
      let item = (and_parts (is_valid kind ls) (is_factor n) v).0 in
      stacked-valid _ (layers-valid kind play (at_pace (number_value n)) (joining-at_pace (number_value n)) ls item)
  operand-valid kind play (tree.scaled (tree.brace (tree.brace bs first) ls) n) v =
      let all = (and_parts (is_valid_braces kind (tree.brace (tree.brace bs first) ls)) (is_factor n) v).0 in
      let (before, item) = and_parts (is_valid_braces kind (tree.brace bs first)) (is_valid (kind_after kind (tree.brace bs first)) ls) all in
      braces-valid kind play (tree.brace bs first) _ before
      (stacked-valid _ (layers-valid _ (indices_of ls) (at_pace (number_value n)) (joining-at_pace (number_value n)) ls item))
  operand-valid kind play (tree.nested tree.no_brace shape ls) v =
      stacked-valid _ (layers-valid kind play (finish_of shape ls) (joining-finish shape ls) ls v)
  operand-valid kind play (tree.nested (tree.brace bs first) shape ls) v =
      let (before, item) = and_parts (is_valid_braces kind (tree.brace bs first)) (is_valid (kind_after kind (tree.brace bs first)) ls) v in
      braces-valid kind play (tree.brace bs first) _ before
      (stacked-valid _ (layers-valid _ (indices_of ls) (finish_of shape ls) (joining-finish shape ls) ls item))

  braces-valid : (kind : Kind) (play : Play) (bs : tree.Braces) (factor : Built Argument) → IsTrue (is_valid_braces kind bs) → HasValid factor.value
      → IsValid (braces_built play bs factor).value
  braces-valid kind play tree.no_brace factor v h = tt
  braces-valid kind play (tree.brace tree.no_brace ls) factor v h =
      factored-valid (layers_built play in_turn ls) factor (layers-valid kind play in_turn joining-in_turn ls v) h
  braces-valid kind play (tree.brace (tree.brace bs first) ls) factor v h =
      let (before, item) = and_parts (is_valid_braces kind (tree.brace bs first)) (is_valid (kind_after kind (tree.brace bs first)) ls) v in
      braces-valid kind play (tree.brace bs first) (selecting ls (at_factor (layers_built (indices_of ls) in_turn ls) factor)) before
      (factored-valid (layers_built (indices_of ls) in_turn ls) factor
      (layers-valid _ (indices_of ls) in_turn joining-in_turn ls item) h)

  factor-valid : (o : tree.Operand) → IsTrue (is_valid_operand Ratio o) → HasValid (factor_built o).value
  factor-valid (tree.scaled tree.no_brace n) v = tt
  factor-valid (tree.scaled (tree.brace bs ls) n) v =
      let all = (and_parts (is_valid_braces Ratio (tree.brace bs ls)) (is_factor n) v).0 in
      let (before, item) = and_parts (is_valid_braces Ratio bs) (is_valid (kind_after Ratio bs) ls) all in
      factors-valid bs _ before (stacked-valid _ (layers-valid _ (indices_of ls) (at_pace (number_value n)) (joining-at_pace (number_value n)) ls item))
  factor-valid (tree.nested bs shape ls) v =
      let (before, item) = and_parts (is_valid_braces Ratio bs) (is_valid (kind_after Ratio bs) ls) v in
      factors-valid bs _ before (stacked-valid _ (layers-valid _ (indices_of ls) (finish_of shape ls) (joining-finish shape ls) ls item))

  factors-valid : (bs : tree.Braces) (factor : Built Argument) → IsTrue (is_valid_braces Ratio bs) → HasValid factor.value
      → HasValid (factors_built bs factor).value
  factors-valid tree.no_brace factor v h = h
  factors-valid (tree.brace bs ls) factor v h =
      let (before, item) = and_parts (is_valid_braces Ratio bs) (is_valid (kind_after Ratio bs) ls) v in
      factors-valid bs (selecting ls (at_factor (layers_built (indices_of ls) in_turn ls) factor)) before
      (factored-valid (layers_built (indices_of ls) in_turn ls) factor (layers-valid _ (indices_of ls) in_turn joining-in_turn ls item) h)

pub argument-valid : (kind : Kind) (ls : tree.Layers) → IsTrue (is_valid kind ls) → HasValid (argument_of ls).value
argument-valid kind ls v = from-layers ls (layers-valid kind (indices_of ls) in_turn joining-in_turn ls v)

pub lowered-valid : (kind : Kind) (ls : tree.Layers) → IsTrue (is_valid kind ls) → IsValid (lowered kind ls).value
lowered-valid kind ls v = stacked-valid _ (layers-valid kind (leaf_of kind) in_turn joining-in_turn ls v)
