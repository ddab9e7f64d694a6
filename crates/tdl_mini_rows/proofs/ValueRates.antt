-- What each number of an argument is: a rate, and a whole number where it is a count.
use Rattle.std.proofs.Common.{◌≡◌, ℕ, zero, suc, ◌≤◌, ◌/◌, Bool, true, false, nat_le, ◌==◌, ℤ, pos, neg_ℤ, nat_abs, ◌+ℤ◌, ◌-ℤ◌, ◌≤ℤ◌, ◌<ℤ◌, map, IsTrue}
use Rattle.std.proofs.Common.{refl, ap, arith}
use Rattle.std.specs.List.{list_all}
use Rattle.std.proofs.lemmas.Bool.{and_parts, and_from, leb-true}
use Rattle.std.proofs.lemmas.Int.{ints}
use lib.Signed.{le_z}
use Rattle.tdl_fraction.specs.Rational.{Rational, frac, whole}
use Rattle.tdl_fraction.proofs.Euclid.{gcd-one}
use Rattle.tdl_mini_tree.specs.declared.leaves.Kind.TheVariants.{Count, Ratio}
use Rattle.tdl_mini_tree.specs.declared.leaves.Number.{Number}
use Rattle.tdl_mini_tree.specs.declared.leaves.Tail.{Tail}
use Rattle.tdl_mini_tree.specs.declared.leaves.Tail.TheVariants.{Whole, Decimals, Over}
use Rattle.tdl_mini_tree.specs.Numbers.{is_ratio, is_whole, is_whole_tail, divides_tail, value_with}
use Rattle.tdl_mini_tree.specs.Sizes.{range_length}
use Rattle.tdl_mini_tree.specs.Tree as tree
use Rattle.tdl_mini_tree.specs.Valid.{is_small, is_factor, is_valid}
use Rattle.tdl_mini_tree.specs.Values.{integer_of, counted, range_of, values_of}
use Rattle.tdl_mini_rows.specs.inside.Bounds.{is_rate, are_rates}
use Rattle.tdl_mini_rows.proofs.Bounded.{is_rate-whole}
use Rattle.tdl_mini_rows.proofs.NumberRates.{factor_rate, signed_size}
use Rattle.tdl_mini_rows.proofs.BuiltValues.{values_all}

rising_rates : (n : ℕ) (from : ℤ) → neg_ℤ (pos 65535) ≤ℤ from → (from +ℤ pos n) ≤ℤ pos 65536 → IsTrue (are_rates (map whole (counted true n from)))
rising_rates zero from low high = refl
rising_rates (suc n) from low high =
    and_from (is_rate (whole from)) (are_rates (map whole (counted true n (from +ℤ pos 1))))
    (is_rate-whole from (omega (arith, ints)))
    (rising_rates n (from +ℤ pos 1) (omega (arith, ints)) (omega (arith, ints)))

falling_rates : (n : ℕ) (from : ℤ) → from ≤ℤ pos 65535 → neg_ℤ (pos 65536) ≤ℤ (from -ℤ pos n) → IsTrue (are_rates (map whole (counted false n from)))
falling_rates zero from high low = refl
falling_rates (suc n) from high low =
    and_from (is_rate (whole from)) (are_rates (map whole (counted false n (from -ℤ pos 1))))
    (is_rate-whole from (omega (arith, ints)))
    (falling_rates n (from -ℤ pos 1) (omega (arith, ints)) (omega (arith, ints)))

le_z-true : (a b : ℤ) → le_z a b ≡ true → a ≤ℤ b
le_z-true a b e = grind (arith, ints)

le_z-false : (a b : ℤ) → le_z a b ≡ false → b <ℤ a
le_z-false a b e = grind (arith, ints)

counted_rates : (a b : ℤ) (rising : Bool) → le_z a b ≡ rising → nat_abs a ≤ 65535 → nat_abs b ≤ 65535
    → IsTrue (are_rates (map whole (counted rising (suc (nat_abs (b -ℤ a))) a)))
counted_rates a b true e h k = let le = le_z-true a b e in rising_rates (suc (nat_abs (b -ℤ a))) a (omega (arith, ints)) (omega (arith, ints))
counted_rates a b false e h k = let lt = le_z-false a b e in falling_rates (suc (nat_abs (b -ℤ a))) a (omega (arith, ints)) (omega (arith, ints))

factor_size : (n : Number) → IsTrue (is_factor n) → nat_abs (integer_of n) ≤ 65535
factor_size n h =
    let (ratio, small) = and_parts (is_ratio n) (is_small n) h in
    let (few, divides) = and_parts (nat_le n.whole 65535) (divides_tail n.tail) ratio in
    omega (arith, signed_size n.is_negative n.whole, leb-true n.whole 65535 few)

range_rates : (a b : Number) → IsTrue (is_factor a) → IsTrue (is_factor b) → IsTrue (are_rates (map whole (range_of a b)))
range_rates a b h k = counted_rates (integer_of a) (integer_of b) (le_z (integer_of a) (integer_of b)) refl (factor_size a h) (factor_size b k)

pub values_rates : (ls : tree.Layers) → IsTrue (is_valid Ratio ls) → IsTrue (are_rates (values_of ls))
values_rates ls h = values_all Ratio is_rate (record { number = factor_rate; range = range_rates }) ls h

-- ---- whole numbers
abbrev pub is_integral : Rational → Bool
is_integral x = x.den == 1

integral-frac : (n : ℤ) → (frac n 1).den ≡ 1
unfolding frac
integral-frac n = ap (λ (g : ℕ). 1 / g) (gcd-one (nat_abs n))

is_integral-frac : (n : ℤ) → IsTrue (is_integral (frac n 1))
is_integral-frac n = ap (λ (d : ℕ). d == 1) (integral-frac n)

is_integral-whole : (n : ℤ) → IsTrue (is_integral (whole n))
unfolding whole
is_integral-whole n = is_integral-frac n

integral_value : (negative : Bool) (size : ℕ) (tail : Tail) → IsTrue (is_whole_tail tail) → IsTrue (is_integral (value_with negative size tail))
integral_value negative size Whole h = is_integral-frac _
integral_value negative size (Decimals parts) h = (cc)
integral_value negative size (Over denominator) h = (cc)

integral_range : (rising : Bool) (n : ℕ) (from : ℤ) → IsTrue (list_all is_integral (map whole (counted rising n from)))
integral_range rising zero from = refl
integral_range true (suc n) from = and_from (is_integral (whole from)) (list_all is_integral (map whole (counted true n (from +ℤ pos 1))))
    (is_integral-whole from) (integral_range true n (from +ℤ pos 1))
integral_range false (suc n) from = and_from (is_integral (whole from)) (list_all is_integral (map whole (counted false n (from -ℤ pos 1))))
    (is_integral-whole from) (integral_range false n (from -ℤ pos 1))

pub values_integral : (ls : tree.Layers) → IsTrue (is_valid Count ls) → IsTrue (list_all is_integral (values_of ls))
values_integral ls h =
    values_all Count is_integral
    (record {
      number = λ n h. integral_value n.is_negative n.whole n.tail (and_parts (is_whole n) (is_factor n) h).0;
      range = λ a b h k. integral_range (le_z (integer_of a) (integer_of b)) (range_length a b) (integer_of a);
    })
    ls h
