-- Proofs that the struct of a fraction carries, and that nobody has to read who trusts the prover: a rational is the fraction
-- of its own parts.
use Rattle.std.specs.Prelude.{◌≡◌, ℕ, zero, suc, ◌/◌, Bool, true, false, ◌&&◌, T, eqb, ℤ, pos, negsuc, neg_ℤ, nat_abs}
use Rattle.std.proofs.Common.{ap, ◌∙◌, subst}
use Rattle.std.proofs.Math.Nat.{div-one}
use lib.Dec.{T_prop, eqb→eq}
use Rattle.tdl_fraction.specs.Divisor.{gcd, div_z, is_lowest}
use Rattle.tdl_fraction.specs.Rational.{Rational, frac}

abbrev parts : (n : ℤ) (d : ℕ) → T (is_lowest n d) → Rational
parts n d l = record { num = n; den = d; lowest = l }

-- rationals with the same parts are the same
same_parts : (n m : ℤ) (d e : ℕ) (l : T (is_lowest n d)) (k : T (is_lowest m e)) → n ≡ m → d ≡ e → parts n d l ≡ parts m e k
same_parts n m d e l k p q =
    let same_num : (e : ℕ) → d ≡ e → (k : T (is_lowest n e)) → parts n d l ≡ parts n e k =
    λ e q. let Q : ℕ → Type 0 = λ e. (k : T (is_lowest n e)) → parts n d l ≡ parts n e k in
    subst Q q (λ k. ap (parts n d) (T_prop _ l k)) in
    let P : ℤ → Type 0 = λ m. (k : T (is_lowest m e)) → parts n d l ≡ parts m e k in
    subst P p (same_num e q) k

one_if_lowest : (b : Bool) (g : ℕ) → T (b && eqb g 1) → g ≡ 1
one_if_lowest true g t = eqb→eq g 1 t
one_if_lowest false g t = absurd t

div_z-one : (n : ℤ) → div_z n 1 ≡ n
div_z-one (pos n) = ap pos (div-one n)
div_z-one (negsuc n) = ap (λ m. neg_ℤ (pos m)) (div-one (suc n))

-- a pair in lowest terms is its own fraction
pub frac-lowest : (n : ℤ) (d : ℕ) (l : T (is_lowest n d)) → frac n d ≡ record { num = n; den = d; lowest = l }
unfolding frac
frac-lowest n zero l = absurd l
frac-lowest n (suc k) l =
    let one : gcd (nat_abs n) (suc k) ≡ 1 = one_if_lowest _ _ l in
    same_parts _ n _ (suc k) _ l (ap (div_z n) one ∙ div_z-one n) (ap (λ g. suc k / g) one ∙ div-one (suc k))

pub frac-own : (x : Rational) → frac x.num x.den ≡ x
frac-own x = frac-lowest x.num x.den x.lowest
