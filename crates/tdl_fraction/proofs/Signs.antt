-- Numbers turned round, and one over them, as code makes them of numerator and denominator.
--     negative_is         a number turned round
--     negative_fits       it is in range
--     inverse-positive    one over a number that is not below 0
--     inverse-negative    one over a number below 0
--     numerator_some      a number other than 0 has a numerator of some size
use Rattle.std.proofs.Common.{◌≡◌, ◌≢◌, ℕ, zero, suc, ◌<◌, ℤ, pos, negsuc, neg_ℤ, nat_abs, ◌≤ℤ◌, ◌<ℤ◌, refl, ap, ◌∙◌, arith}
use Rattle.std.proofs.lemmas.Int.{ints}
use Rattle.tdl_fraction.specs.Rational.{Rational, frac, whole, neg_ℚ, inverse, flip}
use Rattle.tdl_fraction.specs.Range.{InRange}
use Rattle.tdl_fraction.proofs.Field.{zero_from_num}
use Rattle.tdl_fraction.proofs.Ranges.{InRange-frac}

-- ---- turned round
negative-frac : (x : Rational) → frac (neg_ℤ x.num) x.den ≡ neg_ℚ x
unfolding neg_ℚ
negative-frac x = refl

pub negative_is : (num : ℤ) (den : ℕ) (x result : Rational) → num ≡ neg_ℤ x.num → den ≡ x.den → result ≡ frac num den → result ≡ neg_ℚ x
negative_is num den x result n d h =
    h ∙ (ap (λ (k : ℤ). frac k den) n ∙ (ap (λ (k : ℕ). frac (neg_ℤ x.num) k) d ∙ negative-frac x))

pub negative_fits : (num : ℤ) (den : ℕ) (x : Rational) → num ≡ neg_ℤ x.num → den ≡ x.den → 0 < den → InRange x → InRange (frac num den)
negative_fits num den x n d p r = InRange-frac num den p (omega arith) (omega (arith, ints))

-- ---- one over a number
flip-positive : (d : ℕ) (n : ℤ) (num : ℤ) (den : ℕ) → pos 0 ≤ℤ n → num ≡ pos d → den ≡ nat_abs n → frac num den ≡ flip d n
unfolding flip
flip-positive d (pos n) num den h e f = ap (λ (k : ℤ). frac k den) e ∙ ap (frac (pos d)) f
flip-positive d (negsuc n) num den h e f = absurd (omega (arith, ints))

flip-negative : (d : ℕ) (n : ℤ) (num : ℤ) (den : ℕ) → n <ℤ pos 0 → num ≡ neg_ℤ (pos d) → den ≡ nat_abs n → frac num den ≡ flip d n
unfolding flip
flip-negative d (pos n) num den h e f = absurd (omega (arith, ints))
flip-negative d (negsuc n) num den h e f = ap (λ (k : ℤ). frac k den) e ∙ ap (frac (neg_ℤ (pos d))) f

pub inverse-positive : (x : Rational) (num : ℤ) (den : ℕ) (result : Rational) → pos 0 ≤ℤ x.num → num ≡ pos x.den → den ≡ nat_abs x.num
    → result ≡ frac num den → result ≡ inverse x
unfolding inverse
inverse-positive x num den result s n d h = h ∙ flip-positive x.den x.num num den s n d

pub inverse-negative : (x : Rational) (num : ℤ) (den : ℕ) (result : Rational) → x.num <ℤ pos 0 → num ≡ neg_ℤ (pos x.den) → den ≡ nat_abs x.num
    → result ≡ frac num den → result ≡ inverse x
unfolding inverse
inverse-negative x num den result s n d h = h ∙ flip-negative x.den x.num num den s n d

-- ---- numerators
size_some : (n : ℤ) → n ≢ pos 0 → 0 < nat_abs n
size_some (pos zero) h = absurd (h refl)
size_some (pos (suc n)) h = omega arith
size_some (negsuc n) h = omega arith

pub numerator_some : (x : Rational) → x ≢ whole (pos 0) → 0 < nat_abs x.num
numerator_some x h = size_some x.num (λ e. h (zero_from_num x e))
