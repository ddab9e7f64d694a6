-- The parts of a rational that is known as a fraction in lowest terms.
use Rattle.std.specs.Prelude.{◌≡◌, ℕ, ◌^◌, ◌≤◌, T, eqb, ℤ, nat_abs}
use Rattle.std.proofs.Common.{refl, sym, ap, ◌∙◌, subst, subst₂, arith}
use Rattle.tdl_fraction.specs.Divisor.{gcd, is_lowest}
use Rattle.tdl_fraction.specs.Rational.{Rational, frac, whole}
use Rattle.tdl_fraction.specs.Range.{InRange, IsFraction}
use Rattle.tdl_fraction.specs.OwnParts.{frac-lowest, frac-own}
use Rattle.tdl_fraction.proofs.Euclid.{gcd-one}

-- the number above the line
pub num-seen : (n : ℤ) (d : ℕ) (x : Rational) → frac n d ≡ x → T (is_lowest n d) → n ≡ x.num
num-seen n d x e l = sym (ap (λ y. y.num) (frac-lowest n d l)) ∙ ap (λ y. y.num) e

-- the number below the line
pub den-seen : (n : ℤ) (d : ℕ) (x : Rational) → frac n d ≡ x → T (is_lowest n d) → d ≡ x.den
den-seen n d x e l = sym (ap (λ y. y.den) (frac-lowest n d l)) ∙ ap (λ y. y.den) e

-- the fraction with the parts of a rational is that rational
pub frac-same : (n : ℤ) (d : ℕ) (x : Rational) → n ≡ x.num → d ≡ x.den → frac n d ≡ x
frac-same n d x p q = ap (λ n. frac n d) p ∙ ap (λ d. frac x.num d) q ∙ frac-own x

-- which is a fraction of the program where the rational is in range
pub IsFraction-parts : (n : ℤ) (d : ℕ) (x : Rational) → n ≡ x.num → d ≡ x.den → InRange x → IsFraction n d
IsFraction-parts n d x p q h = subst₂ IsFraction (sym p) (sym q) (record { lowest = x.lowest; fine = h.fine; near = h.near })

-- a whole number is in lowest terms
lowest_whole : (n : ℤ) → T (is_lowest n 1)
lowest_whole n =
    let P : ℕ → Type 0 = λ g. T (eqb g 1) in
    let one : gcd (nat_abs n) 1 ≡ 1 = gcd-one (nat_abs n) in
    subst P (sym one) tt

-- so a whole number of at most 2^36 is a fraction over 1
pub IsFraction-whole : (n : ℤ) → nat_abs n ≤ 2 ^ 36 → IsFraction n 1
IsFraction-whole n h = record { lowest = lowest_whole n; fine = omega arith; near = omega arith }

-- a whole number is itself over 1
pub whole-frac : (n : ℤ) → whole n ≡ frac n 1
unfolding whole
whole-frac n = refl
