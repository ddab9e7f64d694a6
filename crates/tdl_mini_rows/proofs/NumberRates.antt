-- A number as a factor is a rate, and a rate is in range.
use Rattle.std.proofs.Common.{◌≡◌, ℕ, ◌+◌, ◌*◌, ◌^◌, ◌<◌, ◌≤◌, Bool, true, false, nat_le, IsTrue, nat_abs, refl, arith}
use Rattle.std.proofs.lemmas.Bool.{leb-true, ltb-true, and_parts}
use Rattle.std.proofs.lemmas.Int.{ints}
use Rattle.tdl_fraction.specs.Rational.{Rational, frac}
use Rattle.tdl_fraction.specs.Range.{InRange}
use Rattle.tdl_mini_tree.specs.declared.leaves.Number.{Number}
use Rattle.tdl_mini_tree.specs.declared.leaves.Tail.{Tail}
use Rattle.tdl_mini_tree.specs.declared.leaves.Tail.TheVariants.{Whole, Decimals, Over}
use Rattle.tdl_mini_tree.specs.Numbers.{signed, number_value, value_with, is_ratio, divides_tail}
use Rattle.tdl_mini_tree.specs.Valid.{is_factor, is_small, is_small_tail}
use Rattle.tdl_mini_rows.specs.inside.Bounds.{is_rate}
use Rattle.tdl_mini_rows.proofs.Bounded.{IsRate, IsRate-from, is_rate-frac}

-- a rate is in range
pub rate_in_range : (r : Rational) → IsTrue (is_rate r) → InRange r
rate_in_range r h =
    let parts : IsRate r = IsRate-from r h in
    record { fine = omega arith; near = omega arith }

pub signed_size : (b : Bool) (n : ℕ) → nat_abs (signed b n) ≡ n
signed_size true n = omega (arith, ints)
signed_size false n = refl

signed_rate : (b : Bool) (n d : ℕ) → 0 < d → d ≤ 65535 → n ≤ 2 ^ 30 → n ≤ 65536 * d → IsTrue (is_rate (frac (signed b n) d))
signed_rate b n d p h k l = let same : nat_abs (signed b n) ≡ n = signed_size b n in is_rate-frac (signed b n) d p (omega arith) h (omega arith)

tail_rate : (b : Bool) (whole : ℕ) (tail : Tail) → whole ≤ 65535 → IsTrue (divides_tail tail) → IsTrue (is_small_tail tail)
    → IsTrue (is_rate (value_with b whole tail))
tail_rate b whole Whole h d s = signed_rate b whole 1 (omega arith) (omega arith) (omega arith) (omega arith)
tail_rate b whole (Decimals parts) h d s =
    let few : parts < 10000 = ltb-true parts 10000 s in
    signed_rate b (whole * 10000 + parts) 10000 (omega arith) (omega arith) (omega arith) (omega arith)
tail_rate b whole (Over denominator) h d s =
    let some : 0 < denominator = ltb-true 0 denominator d in
    let few : denominator ≤ 65535 = leb-true denominator 65535 s in
    signed_rate b whole denominator some (omega arith) (omega arith) (omega arith)

-- the value of a number as a factor
pub factor_rate : (n : Number) → IsTrue (is_factor n) → IsTrue (is_rate (number_value n))
factor_rate n h =
    let ratio : IsTrue (is_ratio n) = (and_parts _ (is_small n) h).0 in
    let small : IsTrue (is_small n) = (and_parts (is_ratio n) _ h).1 in
    tail_rate n.is_negative n.whole n.tail (leb-true n.whole 65535 ((and_parts _ (divides_tail n.tail) ratio).0))
    ((and_parts (nat_le n.whole 65535) _ ratio).1) ((and_parts (nat_le n.whole 2147483647) _ small).1)
