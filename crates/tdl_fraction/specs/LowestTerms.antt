-- Proofs that the type of rationals carries, and that nobody has to read who trusts the prover: Euclid's algorithm gives
-- the greatest common divisor, and quotients by it are in lowest terms.
use Rattle.std.specs.Prelude.{◌≡◌, ℕ, zero, suc, ◌*◌, ◌/◌, ◌%◌, ◌<◌, Bool, true, false, ◌&&◌, T, eqb, ltb, ℤ, pos, negsuc, neg_ℤ, nat_abs}
use Rattle.std.specs.Int.{IsGcd, ◌∣◌}
use Rattle.std.proofs.Common.{refl, sym, ap, ◌∙◌, subst, arith, rules, tests}
use Rattle.std.proofs.lemmas.Nat.Gcd.{IsGcd-from_zero, IsGcd-from_mod}
use Rattle.std.proofs.lemmas.Bool.Decides.{nat_tests}
use Rattle.std.proofs.Math.Nat.{div-mul_cancel, mul-dvd-mul_right, dvd_of_mul-dvd-mul_right, eq-one_of_dvd-one, pos_of_dvd_of_pos, one-mul}
use Rattle.std.proofs.lemmas.Nat.{mod_below}
use Rattle.tdl_fraction.specs.Divisor.{gcd, gcd_within, div_z, is_lowest}

is_zero : (b : ℕ) → eqb b 0 ≡ true → b ≡ 0
is_zero b e = grind (arith, nat_tests)

is_positive : (b : ℕ) → eqb b 0 ≡ false → 0 < b
is_positive b e = grind (arith, nat_tests)

gcd_within_is : (steps a b : ℕ) → b < steps → IsGcd a b (gcd_within steps a b)
unfolding gcd_within
gcd_within_is zero a b h = absurd (omega arith)
gcd_within_is (suc steps) a b h =
    let step : (t : Bool) → eqb b 0 ≡ t → IsGcd a b (elim t [ true ↦ a | false ↦ gcd_within steps b (a % b) ]) =
    λ t. elim t as (λ t. eqb b 0 ≡ t → IsGcd a b (elim t [ true ↦ a | false ↦ gcd_within steps b (a % b) ])) [
      | true ↦ λ e. IsGcd-from_zero a b (is_zero b e)
      | false ↦ λ e. IsGcd-from_mod a b _ (gcd_within_is steps b (a % b) (omega (arith, mod_below a b (is_positive b e))))
    ] in
    step (eqb b 0) refl

pub IsGcd-gcd : (a b : ℕ) → IsGcd a b (gcd a b)
unfolding gcd
IsGcd-gcd a b = gcd_within_is (suc b) a b (omega arith)

nat_abs-div_z : (n : ℤ) (d : ℕ) → nat_abs (div_z n d) ≡ nat_abs n / d
nat_abs-div_z (pos n) d = refl
nat_abs-div_z (negsuc n) d = nat_abs-neg (suc n / d)
  where
    nat_abs-neg : (k : ℕ) → nat_abs (neg_ℤ (pos k)) ≡ k
    nat_abs-neg zero = refl
    nat_abs-neg (suc k) = refl

one_from_multiple : (h g : ℕ) → 0 < g → h * g ∣ g → h ≡ 1
one_from_multiple h g p d =
    let P : ℕ → Type 0 = λ x. h * g ∣ x in
    eq-one_of_dvd-one (dvd_of_mul-dvd-mul_right h p (subst P (sym (one-mul g)) d))

-- dividing two numbers by their greatest common divisor leaves no common factor
pub coprime_quotients : (a b : ℕ) → 0 < b → gcd (a / gcd a b) (b / gcd a b) ≡ 1
coprime_quotients a b p =
    let g = IsGcd-gcd a b in
    let h = IsGcd-gcd (a / gcd a b) (b / gcd a b) in
    let in_a = rw (div-mul_cancel _ g.0) at (mul-dvd-mul_right _ h.0 (gcd a b)) in
    let in_b = rw (div-mul_cancel _ g.1) at (mul-dvd-mul_right _ h.1 (gcd a b)) in
    one_from_multiple _ _ (pos_of_dvd_of_pos g.1 p) (g.2 _ in_a in_b)

-- a positive number divided by a divisor is positive
pub positive_quotient : (b g : ℕ) → 0 < b → g ∣ b → 0 < b / g
positive_quotient b g p d = pos_of_product (b / g) g (subst (λ (x : ℕ). 0 < x) (sym (div-mul_cancel _ d)) p)
  where
    pos_of_product : (q k : ℕ) → 0 < q * k → 0 < q
    pos_of_product zero k h = absurd (omega arith)
    pos_of_product (suc q) k h = omega arith

both : (m k : ℕ) → 0 < m → k ≡ 1 → T (ltb 0 m && eqb k 1)
both m k p e = search (tests, rules)

-- a quotient by the greatest common divisor is in lowest terms
pub lowest_over : (n : ℤ) (k : ℕ) → T (is_lowest (div_z n (gcd (nat_abs n) (suc k))) (suc k / gcd (nat_abs n) (suc k)))
lowest_over n k =
    let positive : 0 < suc k / gcd (nat_abs n) (suc k) =
    positive_quotient (suc k) _ (omega arith) (IsGcd-gcd (nat_abs n) (suc k)).1 in
    let coprime = coprime_quotients (nat_abs n) (suc k) (omega arith) in
    both _ _ positive (ap (λ m. gcd m (suc k / gcd (nat_abs n) (suc k))) (nat_abs-div_z n _) ∙ coprime)

-- zero is 0 over 1
pub lowest_zero : T (is_lowest (pos 0) 1)
unfolding gcd
lowest_zero = tt
