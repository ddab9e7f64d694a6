-- The numbers of valid texts and of the arguments that are built: what holds of each written number and of each
-- range holds of all of them.
use Rattle.std.proofs.Common.{Bool, true, false, ◌&&◌, nat_lt, if◌then◌else◌, List, [], ◌∷◌, ◌++◌, map, length, IsTrue, refl, ◌∙◌}
use Rattle.std.specs.List.{fold, list_all}
use Rattle.std.proofs.lemmas.Bool.{and_parts, and_from}
use Rattle.std.proofs.lemmas.List.Folds.{list_all-append}
use Rattle.tdl_fraction.specs.Rational.{Rational, whole}
use Rattle.tdl_mini_tree.specs.declared.leaves.Kind.{Kind}
use Rattle.tdl_mini_tree.specs.declared.leaves.Kind.TheVariants.{Count, Ratio}
use Rattle.tdl_mini_tree.specs.declared.leaves.Number.{Number}
use Rattle.tdl_mini_tree.specs.Numbers.{number_value}
use Rattle.tdl_mini_tree.specs.Tree as tree
use Rattle.tdl_mini_tree.specs.Valid.{is_factor, is_numeral, is_value, is_weight_or_none, is_count_or_none, is_valid, is_valid_sequence, is_valid_group}
use Rattle.tdl_mini_tree.specs.Valid.{is_valid_element, is_valid_step, is_valid_term, is_valid_operand, is_valid_braces}
use Rattle.tdl_mini_tree.specs.Values.{range_of, value_number, values_of, sequence_values, group_values, element_values, step_values, term_values}
use Rattle.tdl_mini_tree.specs.Values.{operand_values, braces_values, is_accepted, is_accepted_from}
use Rattle.tdl_mini_rows.specs.Leaves.{and_distinct, distinct, index_in}
use Rattle.tdl_mini_tree.proofs.ValidParts.{and_three, and_four, layer_parts, group_parts, element_parts}

-- a test that all of two lists pass
pub all_both : {X : Type 0} (p : X → Bool) (xs ys : List X) → IsTrue (list_all p xs) → IsTrue (list_all p ys) → IsTrue (list_all p (xs ++ ys))
all_both p xs ys h k = list_all-append p xs ys ∙ and_from (list_all p xs) (list_all p ys) h k

-- a test that each number of a kind passes, and each number of a range
pub record Passes (kind : Kind) (p : Rational → Bool) : Type 0 where
  pub number : (n : Number) → IsTrue (is_numeral kind n) → IsTrue (p (number_value n))
  pub range : (a b : Number) → IsTrue (is_numeral kind a) → IsTrue (is_numeral kind b) → IsTrue (list_all p (map whole (range_of a b)))

module _ (kind : Kind) (p : Rational → Bool) (passes : Passes kind p) where
  value_all : (v : tree.Value) → IsTrue (is_value kind v) → IsTrue (list_all p (value_number v))
  value_all (tree.sound text n) h = refl
  value_all (tree.name text) h = refl
  value_all (tree.note n) h = refl
  value_all (tree.truth b) h = refl
  value_all (tree.number n) h = and_from (p (number_value n)) true (passes.number n h) refl

  mutual
    pub values_all : (ls : tree.Layers) → IsTrue (is_valid kind ls) → IsTrue (list_all p (values_of ls))
    values_all tree.no_layer h = refl
    values_all (tree.layer ls s) h =
        let (before, item) = layer_parts kind ls s h in
        all_both p (values_of ls) (sequence_values s) (values_all ls before) (sequence_all s item)

    sequence_all : (s : tree.Sequence) → IsTrue (is_valid_sequence kind s) → IsTrue (list_all p (sequence_values s))
    sequence_all tree.no_group h = refl
    sequence_all (tree.group s g) h =
        let (before, item) = group_parts kind s g h in
        all_both p (sequence_values s) (group_values g) (sequence_all s before) (group_all g item)

    group_all : (g : tree.Group) → IsTrue (is_valid_group kind g) → IsTrue (list_all p (group_values g))
    group_all tree.no_element h = refl
    group_all (tree.element g e) h =
        let (before, item) = element_parts kind g e h in
        all_both p (group_values g) (element_values e) (group_all g before) (element_all e item)

    element_all : (e : tree.Element) → IsTrue (is_valid_element kind e) → IsTrue (list_all p (element_values e))
    element_all (tree.played s weight times) h = step_all s (and_three (is_valid_step kind s) (is_weight_or_none weight) (is_count_or_none times) h).0
    element_all (tree.range a b) h = let (first, last) = and_parts (is_numeral kind a) (is_numeral kind b) h in passes.range a b first last
    element_all tree.hold h = refl
    element_all tree.repeat h = refl

    step_all : (s : tree.MiniStep) → IsTrue (is_valid_step kind s) → IsTrue (list_all p (step_values s))
    step_all (tree.begins t) h = term_all t h
    step_all (tree.fast s o) h = step_all s (and_parts (is_valid_step kind s) (is_valid_operand Ratio o) h).0
    step_all (tree.slow s o) h = step_all s (and_parts (is_valid_step kind s) (is_valid_operand Ratio o) h).0
    step_all (tree.euclid s k n) h =
        step_all s (and_four (is_valid_step kind s) (is_valid Count k) (is_valid Count n) (is_accepted (values_of k) (values_of n)) h).0
    step_all (tree.euclid_from s k n r) h =
        let counts = is_valid_step kind s && is_valid Count k && is_valid Count n && is_valid Count r in
        let (all, last) = and_parts counts (is_accepted_from (values_of k) (values_of n) (values_of r)) h in
        step_all s (and_four (is_valid_step kind s) (is_valid Count k) (is_valid Count n) (is_valid Count r) all).0

    term_all : (t : tree.Term) → IsTrue (is_valid_term kind t) → IsTrue (list_all p (term_values t))
    term_all (tree.value v) h = value_all v h
    term_all tree.rest h = refl
    term_all (tree.bracketed o) h = operand_all o h

    operand_all : (o : tree.Operand) → IsTrue (is_valid_operand kind o) → IsTrue (list_all p (operand_values o))
    operand_all (tree.scaled bs n) h = braces_all bs (and_parts (is_valid_braces kind bs) (is_factor n) h).0
    operand_all (tree.nested tree.no_brace shape ls) h = values_all ls h
    operand_all (tree.nested (tree.brace bs first) shape ls) h =
        braces_all (tree.brace bs first) (and_parts (is_valid_braces kind (tree.brace bs first)) (is_valid Ratio ls) h).0

    braces_all : (bs : tree.Braces) → IsTrue (is_valid_braces kind bs) → IsTrue (list_all p (braces_values bs))
    braces_all tree.no_brace h = refl
    braces_all (tree.brace tree.no_brace ls) h = values_all ls h
    braces_all (tree.brace (tree.brace bs first) ls) h =
        braces_all (tree.brace bs first) (and_parts (is_valid_braces kind (tree.brace bs first)) (is_valid Ratio ls) h).0

-- numbers that were there, without those that are there already
and_distinct_all : (p : Rational → Bool) (values : List Rational) (value : Rational) → IsTrue (list_all p values) → IsTrue (p value)
    → IsTrue (list_all p (and_distinct values value))
and_distinct_all p values value h k = by (nat_lt (index_in values value) (length values))
  where
    by : (b : Bool) → IsTrue (list_all p (if b then values else values ++ value ∷ []))
    by true = h
    by false = all_both p values (value ∷ []) h (and_from (p value) true k refl)

fold_distinct_all : (p : Rational → Bool) (values more : List Rational) → IsTrue (list_all p values) → IsTrue (list_all p more)
    → IsTrue (list_all p (fold and_distinct values more))
fold_distinct_all p values [] h k = h
fold_distinct_all p values (x ∷ more) h k =
    let (first, rest) = and_parts (p x) (list_all p more) k in
    fold_distinct_all p (and_distinct values x) more (and_distinct_all p values x h first) rest

pub distinct_all : (p : Rational → Bool) (values : List Rational) → IsTrue (list_all p values) → IsTrue (list_all p (distinct values))
distinct_all p values h = fold_distinct_all p [] values refl h
