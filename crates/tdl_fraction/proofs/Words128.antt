-- What the machine's signed numbers of 128 bits give, where they fit.
use Rattle.std.specs.Prelude.{◌≡◌, ℕ, ◌/◌, ◌^◌, ◌<◌, ◌≤◌, ℤ, pos, negsuc, nat_abs, ◌+ℤ◌, ◌-ℤ◌, ◌*ℤ◌}
use Rattle.std.specs.Prelude.{FitsSigned, int_div, false}
use Rattle.std.proofs.Common.{refl, sym, ap, ap₂, ◌∙◌, to_z, of_z, arith}
use Rattle.std.proofs.lemmas.Int.{ints, to_z-of_z, to_z_pos, quot_fits, fits_signed_from_abs, unsigned_abs-mul}
use Rattle.std.proofs.Math.Nat.{mul-le-mul}
use lib.Signed.{◌<ℤ◌, lt_z}
use mir.Syntax.{w128}
use Rattle.tdl_fraction.specs.Divisor.{gcd, div_z}
use Rattle.tdl_fraction.specs.Rational.{frac}
use Rattle.tdl_fraction.specs.Reading.{signed}
use Rattle.tdl_fraction.proofs.Euclid.{gcd_positive, gcd_le, gcd-one, num-frac, den-frac}
use Rattle.tdl_fraction.proofs.Over.{frac_num_lowest, frac_den_lowest}

above_zero : (g : ℕ) → 0 < g → pos 0 <ℤ pos g
above_zero g p = omega (arith, ints)

abbrev quotient : ℤ → ℕ → ℤ
quotient n g = int_div (to_z w128 (of_z w128 n)) (to_z w128 g)

quotient_seen : (n : ℤ) (g : ℕ) → FitsSigned w128 n → g < 2 ^ 127 → quotient n g ≡ int_div n (pos g)
quotient_seen n g f small = rw (to_z-of_z w128 n f, to_z_pos w128 g small)

-- a quotient by a positive number fits
pub quotient_fits : (n : ℤ) (g : ℕ) → FitsSigned w128 n → 0 < g → g < 2 ^ 127 → FitsSigned w128 (quotient n g)
quotient_fits n g f p small = rw (quotient_seen n g f small) (quot_fits w128 n (pos g) f (above_zero g p))

int_div_is : (n : ℤ) (g : ℕ) → int_div n (pos g) ≡ div_z n g
int_div_is (pos n) g = refl
int_div_is (negsuc n) g = refl

-- and is the quotient of the numbers
pub quotient_is : (n : ℤ) (g : ℕ) → FitsSigned w128 n → 0 < g → g < 2 ^ 127 → to_z w128 (of_z w128 (quotient n g)) ≡ div_z n g
quotient_is n g f p small = to_z-of_z w128 _ (quotient_fits n g f p small) ∙ quotient_seen n g f small ∙ int_div_is n g

-- a number of size at most 2^124 fits
pub near_fits : (a : ℤ) → nat_abs a ≤ 2 ^ 124 → FitsSigned w128 a
near_fits a h = fits_signed_from_abs w128 a (omega arith)

-- and is read back as it was
pub near_is : (a : ℤ) → nat_abs a ≤ 2 ^ 124 → to_z w128 (of_z w128 a) ≡ a
near_is a h = to_z-of_z w128 a (near_fits a h)

-- a sum or a difference of two
pub sum_fits : (a b : ℤ) → nat_abs a ≤ 2 ^ 124 → nat_abs b ≤ 2 ^ 124 → FitsSigned w128 (a +ℤ b)
sum_fits a b h k = omega (arith, ints)

difference_fits : (a b : ℤ) → nat_abs a ≤ 2 ^ 124 → nat_abs b ≤ 2 ^ 124 → FitsSigned w128 (a -ℤ b)
difference_fits a b h k = omega (arith, ints)

-- the sum of the numbers as they are passed
pub sum_is : (a b : ℤ) → nat_abs a ≤ 2 ^ 124 → nat_abs b ≤ 2 ^ 124 → to_z w128 (of_z w128 (to_z w128 (of_z w128 a) +ℤ to_z w128 (of_z w128 b))) ≡ a +ℤ b
sum_is a b h k = rw (near_is a h, near_is b k) (to_z-of_z w128 _ (sum_fits a b h k))

-- and their difference
pub difference_is : (a b : ℤ) → nat_abs a ≤ 2 ^ 124 → nat_abs b ≤ 2 ^ 124 → to_z w128 (of_z w128 (to_z w128 (of_z w128 a) -ℤ to_z w128 (of_z w128 b))) ≡ a -ℤ b
difference_is a b h k = rw (near_is a h, near_is b k) (to_z-of_z w128 _ (difference_fits a b h k))

-- a numerator times a denominator
pub times_near : (a : ℤ) (d : ℕ) → nat_abs a ≤ 2 ^ 80 → d ≤ 2 ^ 44 → nat_abs (a *ℤ pos d) ≤ 2 ^ 124
times_near a d h k = rw (unsigned_abs-mul a (pos d)) (mul-le-mul h k)

pub times_seen : (a : ℤ) (d : ℕ) → nat_abs a ≤ 2 ^ 80 → d ≤ 2 ^ 44 → to_z w128 (of_z w128 a) *ℤ to_z w128 d ≡ a *ℤ pos d
times_seen a d h k =
    let near : nat_abs a ≤ 2 ^ 124 = omega arith in
    let small : d < 2 ^ 127 = omega arith in
    rw (near_is a near, to_z_pos w128 d small)

-- which fits
pub times_fits : (a : ℤ) (d : ℕ) → nat_abs a ≤ 2 ^ 80 → d ≤ 2 ^ 44 → FitsSigned w128 (to_z w128 (of_z w128 a) *ℤ to_z w128 d)
times_fits a d h k = rw (times_seen a d h k) (near_fits _ (times_near a d h k))

-- and is the product of the numbers
pub times_is : (a : ℤ) (d : ℕ) → nat_abs a ≤ 2 ^ 80 → d ≤ 2 ^ 44 → to_z w128 (of_z w128 (to_z w128 (of_z w128 a) *ℤ to_z w128 d)) ≡ a *ℤ pos d
times_is a d h k = rw (times_seen a d h k) (near_is _ (times_near a d h k))

-- ---- the greatest common divisor g of a number's size a and d
pub divisor_positive : (a d g : ℕ) → g ≡ gcd a d → 0 < d → 0 < g
divisor_positive a d g e p = rw e (gcd_positive a d p)

-- the divisor is no greater than d
pub divisor_small : (a d g : ℕ) → g ≡ gcd a d → 0 < d → d < 2 ^ 127 → g < 2 ^ 127
divisor_small a d g e p h =
    let most : g ≤ d = rw e (gcd_le a d p) in
    omega arith

divisor_seen : (n : ℤ) (a d g : ℕ) → FitsSigned w128 n → a ≡ nat_abs (to_z w128 (of_z w128 n)) → g ≡ gcd a d → g ≡ gcd (nat_abs n) d
divisor_seen n a d g f s e = e ∙ ap (λ a. gcd a d) (s ∙ ap nat_abs (to_z-of_z w128 n f))

-- the quotients by it are the parts of the fraction
pub reduced_num : (n : ℤ) (a d g : ℕ) → FitsSigned w128 n → a ≡ nat_abs (to_z w128 (of_z w128 n)) → g ≡ gcd a d → 0 < d → d < 2 ^ 127
    → to_z w128 (of_z w128 (quotient n g)) ≡ (frac n d).num
reduced_num n a d g f s e p h =
    quotient_is n g f (divisor_positive a d g e p) (divisor_small a d g e p h) ∙ ap (div_z n) (divisor_seen n a d g f s e) ∙ sym (num-frac n d p)

-- the number below the line
pub reduced_den : (n : ℤ) (a d g : ℕ) → FitsSigned w128 n → a ≡ nat_abs (to_z w128 (of_z w128 n)) → g ≡ gcd a d → 0 < d → d / g ≡ (frac n d).den
reduced_den n a d g f s e p = ap (λ g. d / g) (divisor_seen n a d g f s e) ∙ sym (den-frac n d p)

-- so they are where they are worked out on one word, and the sign is put back
pub signed_num : (n r : ℤ) (a d s : ℕ) → FitsSigned w128 n → FitsSigned w128 r → a ≡ nat_abs (to_z w128 (of_z w128 n)) → s ≡ a / gcd a d
    → r ≡ signed (lt_z (to_z w128 (of_z w128 n)) (pos 0)) s → 0 < d → to_z w128 (of_z w128 r) ≡ (frac n d).num
signed_num n r a d s f fits e share sign p =
    let seen = to_z-of_z w128 n f in
    let size : a ≡ nat_abs n = e ∙ ap nat_abs seen in
    to_z-of_z w128 r fits ∙ sign ∙ ap₂ (λ n s. signed (lt_z n (pos 0)) s) seen (share ∙ ap (λ a. a / gcd a d) size)
    ∙ quotient_signed n (gcd (nat_abs n) d) ∙ sym (num-frac n d p)
  where
    quotient_signed : (n : ℤ) (g : ℕ) → signed (lt_z n (pos 0)) (nat_abs n / g) ≡ div_z n g
    quotient_signed (pos n) g = let e : lt_z (pos n) (pos 0) ≡ false = grind (arith, ints) in ap (λ t. signed t (n / g)) e
    quotient_signed (negsuc n) g = refl

-- the number below the line
pub signed_den : (n : ℤ) (a d e : ℕ) → FitsSigned w128 n → a ≡ nat_abs (to_z w128 (of_z w128 n)) → e ≡ d / gcd a d → 0 < d → e ≡ (frac n d).den
signed_den n a d e f s share p = share ∙ ap (λ a. d / gcd a d) (s ∙ ap nat_abs (to_z-of_z w128 n f)) ∙ sym (den-frac n d p)

-- where it is 1, they are the parts already
pub lowest_num : (n : ℤ) (a d g : ℕ) → FitsSigned w128 n → a ≡ nat_abs (to_z w128 (of_z w128 n)) → g ≡ gcd a d → 0 < d → g ≡ 1
    → to_z w128 (of_z w128 n) ≡ (frac n d).num
lowest_num n a d g f s e p one = to_z-of_z w128 n f ∙ sym (frac_num_lowest n d p (sym (divisor_seen n a d g f s e) ∙ one))

-- the number below the line
pub lowest_den : (n : ℤ) (a d g : ℕ) → FitsSigned w128 n → a ≡ nat_abs (to_z w128 (of_z w128 n)) → g ≡ gcd a d → 0 < d → g ≡ 1 → d ≡ (frac n d).den
lowest_den n a d g f s e p one = sym (frac_den_lowest n d p (sym (divisor_seen n a d g f s e) ∙ one))

-- and over 1 too
pub whole_num : (n : ℤ) (d : ℕ) → FitsSigned w128 n → d ≡ 1 → to_z w128 (of_z w128 n) ≡ (frac n d).num
whole_num n d f e = to_z-of_z w128 n f ∙ sym (ap (λ d. (frac n d).num) e ∙ frac_num_lowest n 1 (omega arith) (gcd-one (nat_abs n)))

-- the number below the line
pub whole_den : (n : ℤ) (d : ℕ) → d ≡ 1 → 1 ≡ (frac n d).den
whole_den n d e = sym (ap (λ d. (frac n d).den) e ∙ frac_den_lowest n 1 (omega arith) (gcd-one (nat_abs n)))
