-- Rhythms that are accepted, and the numbers of an argument.
use Rattle.std.proofs.Common.{◌≡◌, ℕ, ◌^◌, ◌<◌, ◌≤◌, nat_abs, IsTrue, List, [], ◌∷◌, length, get_or, refl, subst, arith}
use Rattle.std.specs.List.{list_all, All}
use Rattle.std.proofs.lemmas.List.Sums.{AllPass-from_list_all}
use Rattle.tdl_euclid.specs.Refusal.{has_rhythm}
use Rattle.tdl_expr.specs.declared.args.Arg.{Arg}
use Rattle.tdl_expr.specs.declared.args.Arg.TheVariants.{Plain, Chosen}
use Rattle.tdl_expr.specs.declared.nodes.Node.{Node}
use Rattle.tdl_fraction.specs.Rational.{Rational}
use Rattle.tdl_mini_tree.specs.Values.{is_accepted, is_accepted_from}
use Rattle.tdl_rows.specs.Chosen.{AllAmong}
use Rattle.tdl_rows.specs.Arguments.{argument_at, numbers_of, HasBoundedParts}
use Rattle.tdl_mini_rows.specs.inside.Bounds.{argument_values, is_rate, are_rates}
use Rattle.tdl_mini_rows.proofs.Bounded.{IsRate-from}

accepted_with : (hits steps from : List Rational) (i : ℕ) → i < length from → IsTrue (is_accepted_from hits steps from) → IsTrue (is_accepted hits steps)
accepted_with hits steps [] i h all = absurd (omega arith)
accepted_with hits steps (r ∷ from) i h all = all

-- in each table an argument has its numbers
pub numbers_in : (nodes : List Node) (argument : Arg) → argument_values (argument_at nodes argument) ≡ numbers_of argument
numbers_in nodes (Plain number) = refl
numbers_in nodes (Chosen selector values) = refl

-- each number of an argument of rates is a rate
pub rates_in : (nodes : List Node) (argument : Arg) → IsTrue (are_rates (argument_values (argument_at nodes argument)))
    → All (λ rate. IsTrue (is_rate rate)) (numbers_of argument)
rates_in nodes argument rates =
    let P : List Rational → Type 0 = λ values. IsTrue (are_rates values) in
    AllPass-from_list_all is_rate (numbers_of argument) (subst P (numbers_in nodes argument) rates)

-- and such a number has bounded parts
pub bounded_in : (nodes : List Node) (argument : Arg) → IsTrue (are_rates (argument_values (argument_at nodes argument)))
    → All HasBoundedParts (numbers_of argument)
bounded_in nodes argument rates = λ i r h.
    let rate = IsRate-from (get_or (numbers_of argument) i r) (rates_in nodes argument rates i r h) in
    record { near = rate.small; fine = rate.fine }

-- each rhythm that is accepted is taken, from each rate
pub rhythms_taken : (hits steps from : List Rational) → IsTrue (is_accepted_from hits steps from) → IsTrue (are_rates from)
    → AllAmong (λ k n r. IsTrue (has_rhythm k.num n.num) × (nat_abs r.num ≤ 2 ^ 30)) hits steps from
rhythms_taken hits steps from all rates = λ i k h j n g l r f.
    let accepted = accepted_with hits steps from l f all in
    let row = AllPass-from_list_all (λ (k : Rational). list_all (λ n. has_rhythm k.num n.num) steps) hits accepted i k h in
    let one = AllPass-from_list_all (λ (n : Rational). has_rhythm (get_or hits i k).num n.num) steps row j n g in
    let rate = IsRate-from (get_or from l r) (AllPass-from_list_all is_rate from rates l r f) in
    (one, rate.small)
