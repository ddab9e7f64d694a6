-- What holds of the numbers that a text plays holds of those that its argument may be, and of those of factors
-- and of braces that wait.
use Rattle.std.proofs.Common.{◌≡◌, ℕ, ◌≤◌, length, length-append, Bool, true, false, pos, Option, Some, None, List, [], ◌∷◌, ◌++◌, map, IsTrue, refl, sym}
use Rattle.std.proofs.Common.{ap, subst, arith}
use Rattle.std.specs.List.{fold, list_all}
use Rattle.std.proofs.lemmas.Bool.{and_parts, and_from}
use Rattle.std.proofs.lemmas.List.{length-map}
use Rattle.std.proofs.lemmas.List.Elements.{All-cons, All-nil}
use Rattle.tdl_fraction.specs.Rational.{Rational, whole}
use Rattle.tdl_expr.specs.declared.nodes.Node.{Node}
use Rattle.tdl_mini_tree.specs.declared.leaves.Kind.TheVariants.{Ratio}
use Rattle.tdl_mini_tree.specs.declared.leaves.Number.{Number}
use Rattle.tdl_mini_tree.specs.declared.tree.NestId.{NestId}
use Rattle.tdl_mini_tree.specs.Numbers.{number_value}
use Rattle.tdl_mini_tree.specs.Tree.{kind_after}
use Rattle.tdl_mini_tree.specs.Tree as tree
use Rattle.tdl_mini_tree.specs.Valid.{is_factor, is_valid, is_valid_operand, is_valid_braces}
use Rattle.tdl_euclid.specs.Refusal.{has_rhythm}
use Rattle.tdl_mini_tree.specs.Values.{values_of, is_accepted, is_accepted_from}
use Rattle.tdl_mini_tree.specs.View.{named}
use Rattle.tdl_mini_rows.specs.declared.brackets.Waiting.{Waiting}
use Rattle.tdl_rows.specs.Built.{Built, kept}
use Rattle.tdl_rows.specs.Joined.{Weighted, Argument}
use Rattle.tdl_mini_rows.specs.Leaves.{distinct}
use Rattle.tdl_mini_rows.specs.Lowered.{in_turn, at_pace, finish_of, plain_term, plain_step, plain_element, plain_group, plain_sequence, plain_number}
use Rattle.tdl_mini_rows.specs.Lowered.{unless_plain, selected, selecting, at_factor, indices_of, argument_of, layers_built, factor_built, factors_built}
use Rattle.tdl_mini_rows.specs.inside.Waits.{Wait, waits_at, and_wait, waits_built, LowersWaits}
use Rattle.tdl_mini_rows.specs.inside.Views.{step_at}
use Rattle.tdl_mini_rows.specs.inside.Changes.{from_built}
use Rattle.tdl_mini_rows.specs.inside.Bounds.{is_rate, are_rates, argument_values, IsBounded, AreBounded, is_from, is_accepted_at}
use Rattle.tdl_mini_rows.proofs.Bounded.{is_rate-whole}
use Rattle.tdl_mini_rows.proofs.NumberRates.{factor_rate}
use Rattle.tdl_mini_rows.proofs.ValidSteps.{after_valid, are_valid}
use Rattle.tdl_mini_rows.proofs.BuiltBounds.{AreLittle, layers-little, little-at}
use Rattle.tdl_mini_rows.proofs.BuiltValues.{distinct_all}
use Rattle.tdl_mini_rows.proofs.BuiltCounts.{layers-cover, fills-in_turn}
use Rattle.tdl_mini_rows.proofs.DistinctValues.{length-distinct}
use Rattle.tdl_mini_rows.proofs.RowCounts.{rows-few}
use Rattle.tdl_mini_rows.proofs.ValueRates.{values_rates}

-- the layers that are one number and no more, and their parts
abbrev one_step : Number → tree.Element
one_step n = tree.played (tree.begins (tree.value (tree.number n))) None None

abbrev one_element : Number → tree.Group
one_element n = tree.element tree.no_element (one_step n)

abbrev one_group : Number → tree.Sequence
one_group n = tree.group tree.no_group (one_element n)

abbrev alone : Number → tree.Layers
alone n = tree.layer tree.no_layer (one_group n)

alone_term : (t : tree.Term) (n : Number) → plain_term t ≡ Some n → t ≡ tree.value (tree.number n)
alone_term (tree.value (tree.number m)) n e = (cc)
alone_term (tree.value (tree.sound text m)) n e = (cc)
alone_term (tree.value (tree.name text)) n e = (cc)
alone_term (tree.value (tree.note m)) n e = (cc)
alone_term (tree.value (tree.truth b)) n e = (cc)
alone_term tree.rest n e = (cc)
alone_term (tree.bracketed o) n e = (cc)

alone_step : (s : tree.MiniStep) (n : Number) → plain_step s ≡ Some n → s ≡ tree.begins (tree.value (tree.number n))
alone_step (tree.begins t) n e = ap tree.begins (alone_term t n e)
alone_step (tree.fast s o) n e = (cc)
alone_step (tree.slow s o) n e = (cc)
alone_step (tree.euclid s k m) n e = (cc)
alone_step (tree.euclid_from s k m r) n e = (cc)

alone_element : (x : tree.Element) (n : Number) → plain_element x ≡ Some n → x ≡ one_step n
alone_element (tree.played s None None) n e = ap (λ (t : tree.MiniStep). tree.played t None None) (alone_step s n e)
alone_element (tree.played s None (Some m)) n e = (cc)
alone_element (tree.played s (Some w) times) n e = (cc)
alone_element (tree.range a b) n e = (cc)
alone_element tree.hold n e = (cc)
alone_element tree.repeat n e = (cc)

alone_group : (g : tree.Group) (n : Number) → plain_group g ≡ Some n → g ≡ one_element n
alone_group tree.no_element n e = (cc)
alone_group (tree.element tree.no_element x) n e = ap (tree.element tree.no_element) (alone_element x n e)
alone_group (tree.element (tree.element g d) x) n e = (cc)

alone_sequence : (s : tree.Sequence) (n : Number) → plain_sequence s ≡ Some n → s ≡ one_group n
alone_sequence tree.no_group n e = (cc)
alone_sequence (tree.group tree.no_group g) n e = ap (tree.group tree.no_group) (alone_group g n e)
alone_sequence (tree.group (tree.group s h) g) n e = (cc)

alone_is : (ls : tree.Layers) (n : Number) → plain_number ls ≡ Some n → ls ≡ alone n
alone_is tree.no_layer n e = (cc)
alone_is (tree.layer tree.no_layer s) n e = ap (tree.layer tree.no_layer) (alone_sequence s n e)
alone_is (tree.layer (tree.layer ls t) s) n e = (cc)

-- a test that all values pass
module _ (p : Rational → Bool) (ls : tree.Layers) (h : IsTrue (list_all p (values_of ls))) where
  argument_by : (built : Built (List Weighted)) (o : Option Number) → plain_number ls ≡ o
      → IsTrue (list_all p (argument_values (unless_plain o (selected ls built)).value))
  argument_by built None e = distinct_all p (values_of ls) h
  argument_by built (Some n) e =
      let P : tree.Layers → Type 0 = λ x. IsTrue (list_all p (values_of x)) in
      subst P (alone_is ls n e) h

  pub argument_all : IsTrue (list_all p (argument_values (argument_of ls).value))
  argument_all = argument_by (layers_built (indices_of ls) in_turn ls) (plain_number ls) refl

pub argument_rates : (ls : tree.Layers) → IsTrue (is_valid Ratio ls) → IsTrue (are_rates (argument_values (argument_of ls).value))
argument_rates ls v = argument_all is_rate ls (values_rates ls v)

-- the numbers of an argument that is selected
pub selected_rates : (ls : tree.Layers) → IsTrue (is_valid Ratio ls) → IsTrue (are_rates (distinct (values_of ls)))
selected_rates ls v = distinct_all is_rate (values_of ls) (values_rates ls v)

all_more : {X : Type 0} (p q : X → Bool) (xs : List X) → ((x : X) → IsTrue (p x) → IsTrue (q x)) → IsTrue (list_all p xs) → IsTrue (list_all q xs)
all_more p q [] f h = refl
all_more p q (x ∷ xs) f h =
    let (first, rest) = and_parts (p x) (list_all p xs) h in
    and_from (q x) (list_all q xs) (f x first) (all_more p q xs f rest)

all_false : (xs : List Rational) → IsTrue (list_all (λ x. false) xs) → xs ≡ []
all_false [] h = refl
all_false (x ∷ xs) h = (cc)

abbrev numbers_of : tree.Layers → List Rational
numbers_of ls = argument_values (argument_of ls).value

-- rhythms that are there for all values are there for the arguments
accepted_arguments : (k n : tree.Layers) → IsTrue (is_accepted (values_of k) (values_of n)) → IsTrue (is_accepted (numbers_of k) (numbers_of n))
accepted_arguments k n h =
    let some : List Rational → Rational → Bool = λ ns x. list_all (λ y. has_rhythm x.num y.num) ns in
    argument_all (some (numbers_of n)) k
    (all_more (some (values_of n)) (some (numbers_of n)) (values_of k) (λ x v. argument_all (λ y. has_rhythm x.num y.num) n v) h)

accepted_by : (hits steps others more first last : List Rational) → (first ≡ [] → last ≡ [])
    → (IsTrue (is_accepted hits steps) → IsTrue (is_accepted others more)) → IsTrue (is_accepted_from hits steps first)
    → IsTrue (is_accepted_from others more last)
accepted_by hits steps others more [] last f g h = let P : List Rational → Type 0 =
    λ xs. IsTrue (is_accepted_from others more xs) in subst P (sym (f refl)) refl
accepted_by hits steps others more (x ∷ first) [] f g h = refl
accepted_by hits steps others more (x ∷ first) (y ∷ last) f g h = g h

no_numbers : (ls : tree.Layers) → values_of ls ≡ [] → numbers_of ls ≡ []
no_numbers ls e =
    let P : List Rational → Type 0 = λ xs. IsTrue (list_all (λ x. false) xs) in
    all_false (numbers_of ls) (argument_all (λ x. false) ls (subst P (sym e) refl))

module _ (trees : List tree.Layers) where
  pub from_rates : (from : Option NestId) → IsTrue (is_from trees from) → IsTrue (are_rates (argument_values (from_built trees from).value))
  from_rates None h = and_from (is_rate (whole (pos 0))) true (is_rate-whole (pos 0) (omega arith)) refl
  from_rates (Some r) h = argument_rates (named trees r) h

  pub accepted_built : (k n : NestId) (from : Option NestId) → IsTrue (is_accepted_at trees k n from)
      → IsTrue (is_accepted_from (numbers_of (named trees k)) (numbers_of (named trees n)) (argument_values (from_built trees from).value))
  accepted_built k n None h = accepted_arguments (named trees k) (named trees n) h
  accepted_built k n (Some r) h =
      accepted_by (values_of (named trees k)) (values_of (named trees n)) (numbers_of (named trees k)) (numbers_of (named trees n))
      (values_of (named trees r)) (numbers_of (named trees r)) (no_numbers (named trees r)) (accepted_arguments (named trees k) (named trees n)) h

-- the numbers of a factor
factors_rates : (bs : tree.Braces) (factor : Built Argument) → IsTrue (is_valid_braces Ratio bs) → IsTrue (are_rates (argument_values factor.value))
    → IsTrue (are_rates (argument_values (factors_built bs factor).value))
unfolding layers_built
factors_rates tree.no_brace factor h k = k
factors_rates (tree.brace bs ls) factor h k =
    let (before, item) = and_parts (is_valid_braces Ratio bs) (is_valid (kind_after Ratio bs) ls) h in
    factors_rates bs (selecting ls (at_factor (layers_built (indices_of ls) in_turn ls) factor)) before (selected_rates ls (after_valid bs ls item))

pub factor_rates : (o : tree.Operand) → IsTrue (is_valid_operand Ratio o) → IsTrue (are_rates (argument_values (factor_built o).value))
unfolding layers_built
factor_rates (tree.scaled tree.no_brace n) h = and_from (is_rate (number_value n)) true (factor_rate n h) refl
factor_rates (tree.scaled (tree.brace bs ls) n) h =
    let (all, factor) = and_parts (is_valid_braces Ratio (tree.brace bs ls)) (is_factor n) h in
    let (before, item) = and_parts (is_valid_braces Ratio bs) (is_valid (kind_after Ratio bs) ls) all in
    factors_rates bs (selected ls (layers_built (indices_of ls) (at_pace (number_value n)) ls)) before (selected_rates ls (after_valid bs ls item))
factor_rates (tree.nested bs shape ls) h =
    let (before, item) = and_parts (is_valid_braces Ratio bs) (is_valid (kind_after Ratio bs) ls) h in
    factors_rates bs (selected ls (layers_built (indices_of ls) (finish_of shape ls) ls)) before (selected_rates ls (after_valid bs ls item))

-- braces that wait, where so many rows were built
pub record IsSmallWait (rows : ℕ) (w : Wait) : Type 0 where
  pub little : AreLittle w.sequences
  pub rates : IsTrue (are_rates w.values)
  pub sequences : length w.sequences ≤ rows
  pub values : length w.values ≤ rows

abbrev AreSmallWaits : ℕ → List Wait → Type 0
AreSmallWaits rows [] = Unit {0}
AreSmallWaits rows (w ∷ ws) = IsSmallWait rows w × AreSmallWaits rows ws

small-more : (n m : ℕ) (ws : List Wait) → n ≤ m → AreSmallWaits n ws → AreSmallWaits m ws
small-more n m [] h p = tt
small-more n m (w ∷ ws) h p =
    (record { little = p.0.little; rates = p.0.rates; sequences = omega (arith, p.0.sequences); values = omega (arith, p.0.values) }, small-more n m ws h p.1)

small-append : (n : ℕ) (a b : List Wait) → AreSmallWaits n a → AreSmallWaits n b → AreSmallWaits n (a ++ b)
small-append n [] b p q = q
small-append n (w ∷ a) b p q = (p.0, small-append n a b p.1 q)

waits_from : (trees : List tree.Layers) (ids : List NestId) (built : Built (List Wait)) → AreSmallWaits (length built.rows) built.value
    → IsTrue (are_valid trees ids) →
    AreSmallWaits (length (fold and_wait built (map (named trees) ids)).rows) (fold and_wait built (map (named trees) ids)).value
waits_from trees [] built p h = p
waits_from trees (id ∷ ids) built p h =
    let l = named trees id in
    let (item, rest) = and_parts (is_valid Ratio l) (are_valid trees ids) h in
    let made = layers_built (indices_of l) in_turn l in
    let covers = layers-cover (indices_of l) in_turn fills-in_turn l in
    let next = and_wait built l in
    let more = length-append built.rows (made.rows ++ []) in
    let all = length-append made.rows [] in
    let last : IsSmallWait (length next.rows) (record { sequences = made.value; values = distinct (values_of l) }) = record {
      little = layers-little Ratio (indices_of l) in_turn l item;
      rates = selected_rates l item;
      sequences = omega (arith, covers.sequences, more, all);
      values = omega (arith, covers.each, length-distinct (values_of l), more, all);
    } in
    waits_from trees ids next
    (small-append (length next.rows) built.value _ (small-more (length built.rows) (length next.rows) built.value (omega (arith, more)) p) (last, tt))
    rest

small_waits : (trees : List tree.Layers) (ids : List NestId) → IsTrue (are_valid trees ids) →
    AreSmallWaits (length (waits_built (map (named trees) ids)).rows) (waits_built (map (named trees) ids)).value
small_waits trees ids h = waits_from trees ids (kept []) tt h

bounded_at : (nodes : List Node) (n : ℕ) (ws : List Waiting) → n ≤ 2048 → AreSmallWaits n (waits_at nodes ws) → AreBounded ws
bounded_at nodes n [] h p = All-nil IsBounded
bounded_at nodes n (w ∷ ws) h p =
    let size = length-map w.sequences.items (step_at nodes) in
    let first : IsBounded w = record {
      sequences = record { short = little-at nodes w.sequences.items p.0.little; few = omega (arith, p.0.sequences, size) };
      rates = p.0.rates;
      few = omega (arith, p.0.values);
    } in
    All-cons IsBounded w ws first (bounded_at nodes n ws h p.1)

pub waits_bounded : (trees : List tree.Layers) (ids : List NestId) (old new : List Node) (ws : List Waiting)
    → LowersWaits old new (waits_built (map (named trees) ids)) ws → IsTrue (are_valid trees ids) → AreBounded ws
waits_bounded trees ids old new ws made h =
    let built = waits_built (map (named trees) ids) in
    bounded_at new (length built.rows) ws (rows-few made.gains) (subst (AreSmallWaits (length built.rows)) (sym made.are) (small_waits trees ids h))
