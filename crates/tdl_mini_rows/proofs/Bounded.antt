-- Fractions in lowest terms are no larger than they were, and when a number is a rate.
use Rattle.std.proofs.Common.{◌≡◌, ℕ, zero, suc, ◌*◌, ◌^◌, ◌<◌, ◌≤◌, ◌&&◌, nat_le, ℤ, pos, nat_abs, IsTrue, sym, ap, ◌∙◌, arith}
use Rattle.std.proofs.lemmas.Bool.{and_parts, and_from, leb-true, le-leb}
use Rattle.std.proofs.lemmas.Int.{unsigned_abs-mul}
use Rattle.std.proofs.Math.Nat.{le_of_mul-le-mul_right, mul-le-mul_right}
use Rattle.tdl_fraction.specs.Rational.{Rational, frac, whole}
use Rattle.tdl_fraction.proofs.Euclid.{gcd_positive}
use Rattle.tdl_fraction.proofs.Over.{Over-frac, frac_num, frac_den}
use Rattle.tdl_mini_rows.specs.inside.Bounds.{is_rate}

part_le : (q g d : ℕ) → q * g ≡ d → 0 < g → q ≤ d
part_le q zero d e p = absurd (omega arith)
part_le q (suc g) d e p = omega arith

-- in lowest terms the denominator is no larger
pub frac-den-le : (n : ℤ) (d : ℕ) → 0 < d → (frac n d).den ≤ d
frac-den-le n d p = part_le (frac n d).den _ d (frac_den n d p) (gcd_positive (nat_abs n) d p)

-- nor the numerator
pub frac-num-le : (n : ℤ) (d : ℕ) → 0 < d → nat_abs (frac n d).num ≤ nat_abs n
frac-num-le n d p =
    part_le (nat_abs (frac n d).num) _ (nat_abs n) (sym (unsigned_abs-mul (frac n d).num (pos _)) ∙ ap nat_abs (frac_num n d p)) (gcd_positive (nat_abs n) d p)

near_le : (a b p d m : ℕ) → b * d ≡ a * p → 0 < d → a ≤ m * d → b ≤ m * p
near_le a b p d m e h k =
    let scaled : b * d ≤ (m * p) * d = omega (arith, mul-le-mul_right p k) in
    le_of_mul-le-mul_right scaled h

-- and its size stays
pub frac-near-le : (n : ℤ) (d m : ℕ) → 0 < d → nat_abs n ≤ m * d → nat_abs (frac n d).num ≤ m * (frac n d).den
frac-near-le n d m p k =
    let q = frac n d in
    let e : nat_abs q.num * d ≡ nat_abs n * q.den =
    sym (unsigned_abs-mul q.num (pos d)) ∙ ap nat_abs (Over-frac n d p).cross ∙ unsigned_abs-mul n (pos q.den) in
    near_le (nat_abs n) (nat_abs q.num) q.den d m e p k

-- what a rate is in size
pub record IsRate (r : Rational) : Type 0 where
  pub small : nat_abs r.num ≤ 2 ^ 30
  pub fine : r.den ≤ 65535
  pub near : nat_abs r.num ≤ 65536 * r.den

pub IsRate-from : (r : Rational) → IsTrue (is_rate r) → IsRate r
IsRate-from r h =
    let both = and_parts (nat_le (nat_abs r.num) (2 ^ 30) && nat_le r.den 65535) (nat_le (nat_abs r.num) (65536 * r.den)) h in
    let first = and_parts (nat_le (nat_abs r.num) (2 ^ 30)) (nat_le r.den 65535) both.0 in
    record { small = leb-true _ _ first.0; fine = leb-true _ _ first.1; near = leb-true _ _ both.1 }

pub is_rate-from : (r : Rational) → IsRate r → IsTrue (is_rate r)
is_rate-from r h =
    and_from (nat_le (nat_abs r.num) (2 ^ 30) && nat_le r.den 65535) (nat_le (nat_abs r.num) (65536 * r.den))
    (and_from (nat_le (nat_abs r.num) (2 ^ 30)) (nat_le r.den 65535) (le-leb _ _ h.small) (le-leb _ _ h.fine)) (le-leb _ _ h.near)

-- a fraction of such parts is a rate, in lowest terms too
pub is_rate-frac : (n : ℤ) (d : ℕ) → 0 < d → nat_abs n ≤ 2 ^ 30 → d ≤ 65535 → nat_abs n ≤ 65536 * d → IsTrue (is_rate (frac n d))
is_rate-frac n d p small fine near =
    let less = frac-num-le n d p in
    let under = frac-den-le n d p in
    is_rate-from (frac n d) (record { small = omega arith; fine = omega arith; near = frac-near-le n d 65536 p near })

pub is_rate-whole : (n : ℤ) → nat_abs n ≤ 65536 → IsTrue (is_rate (whole n))
unfolding whole
is_rate-whole n h = is_rate-frac n 1 (omega arith) (omega arith) (omega arith) (omega arith)

-- the size of a sequence as a pace
pub is_rate-parts : (parts : ℕ) → parts ≤ 16384 * 10000 → IsTrue (is_rate (frac (pos parts) 10000))
is_rate-parts parts h = is_rate-frac (pos parts) 10000 (omega arith) (omega arith) (omega arith) (omega arith)
