-- Greatest common divisors of multiples, and numbers without a common factor.
use Rattle.std.proofs.Common.{◌≡◌, ℕ, zero, suc, ◌+◌, ◌*◌, ◌/◌, ◌%◌, ◌<◌, arith, sym, ap, ◌∙◌, subst, mod-lt, eq-zero-or-pos, ⊎_elim, one-mul, zero-mul}
use Rattle.std.specs.Int.{IsGcd, ◌∣◌}
use Rattle.std.proofs.lemmas.Nat.Gcd.{dvd_refl, IsGcd-from_zero, IsGcd-from_mod, same_from_IsGcd}
use native.Mathlib.Nat.{div-mul_cancel, mul-div_cancel', mul_assoc, mul_right_comm, mul-zero, mul-pos, dvd-zero, mul-dvd-mul_left, pos_of_dvd_of_pos}
use native.Mathlib.Nat.{eq_of_mul-eq-mul_right, mod-add-div, mul-div-mul_right, dvd-mul_left, dvd-mul_right, dvd_antisymm}
use native.Mathlib.Nat.{dvd_trans, eq-one_of_dvd-one, mul_comm}
use Rattle.tdl_fraction.specs.Divisor.{gcd, lcm}
use Rattle.tdl_fraction.specs.LowestTerms.{IsGcd-gcd, coprime_quotients, positive_quotient}
use Rattle.tdl_fraction.proofs.Euclid.{gcd-one, gcd-zero}

-- a remainder of multiples is the multiple of the remainder
mod_scaled : (a b k : ℕ) → 0 < k → (a * k) % (b * k) ≡ (a % b) * k
mod_scaled a b k h =
    let e : b * k * ((a * k) / (b * k)) ≡ b * k * (a / b) = ap (λ x. b * k * x) (mul-div-mul_right a b h) in
    let l = mod-add-div (a * k) (b * k) in
    let r : (a % b + b * (a / b)) * k ≡ a * k = ap (λ x. x * k) (mod-add-div a b) in
    omega arith

-- a greatest common divisor with all its multiples, in at most so many steps
scaled_within : (steps a b : ℕ) → b < steps → (g : ℕ) × IsGcd a b g × ((k : ℕ) → 0 < k → IsGcd (a * k) (b * k) (g * k))
scaled_within zero a b h = absurd (omega arith)
scaled_within (suc steps) a b h =
    ⊎_elim
    (λ z. (a, IsGcd-from_zero a b z, λ k p. IsGcd-from_zero (a * k) (b * k) (ap (λ x. x * k) z ∙ zero-mul k)))
    (λ p.
    let rest = scaled_within steps b (a % b) (omega (arith, mod-lt a p)) in (
      rest.0,
      IsGcd-from_mod a b rest.0 rest.1,
      λ k q. IsGcd-from_mod (a * k) (b * k) (rest.0 * k)
          (subst (λ x. IsGcd (b * k) x (rest.0 * k)) (sym (mod_scaled a b k q)) (rest.2 k q)),
    ))
    (eq-zero-or-pos b)

-- the divisor of multiples is the multiple of the divisor
pub IsGcd-scaled : (a b g k : ℕ) → 0 < k → IsGcd a b g → IsGcd (a * k) (b * k) (g * k)
IsGcd-scaled a b g k p h =
    let s = scaled_within (suc b) a b (omega arith) in
    subst (λ x. IsGcd (a * k) (b * k) (x * k)) (same_from_IsGcd a b s.0 g s.1 h) (s.2 k p)

-- the computed divisor is any that is the greatest
pub gcd_is : (a b g : ℕ) → IsGcd a b g → gcd a b ≡ g
gcd_is a b g h = same_from_IsGcd a b (gcd a b) g (IsGcd-gcd a b) h

pub IsGcd-from_gcd : (a b g : ℕ) → gcd a b ≡ g → IsGcd a b g
IsGcd-from_gcd a b g e = subst (λ x. IsGcd a b x) e (IsGcd-gcd a b)

pub gcd_comm : (a b : ℕ) → gcd a b ≡ gcd b a
gcd_comm a b = let g = IsGcd-gcd b a in gcd_is a b (gcd b a) (g.1, g.0, λ k h l. g.2 k l h)

-- a number divides itself
pub gcd_same : (a : ℕ) → gcd a a ≡ a
gcd_same a = let self : a ∣ a = dvd_refl a in gcd_is a a a (self, self, λ k h l. h)

-- 1 shares nothing with a number
pub one-gcd : (a b : ℕ) → a ≡ 1 → gcd a b ≡ 1
one-gcd a b e = gcd_comm a b ∙ ap (gcd b) e ∙ gcd-one b

-- and 0 all of it
pub zero-gcd : (a b : ℕ) → a ≡ 0 → gcd a b ≡ b
zero-gcd a b e = gcd_comm a b ∙ gcd-zero b a e

pub gcd_scaled : (a b k : ℕ) → 0 < k → gcd (a * k) (b * k) ≡ gcd a b * k
gcd_scaled a b k p = gcd_is (a * k) (b * k) (gcd a b * k) (IsGcd-scaled a b (gcd a b) k p (IsGcd-gcd a b))

-- what divides a product and shares no factor with one part divides the other
pub divides_other : (a b d : ℕ) → 0 < b → gcd a d ≡ 1 → d ∣ a * b → d ∣ b
divides_other a b d p c h =
    let all : IsGcd (a * b) (d * b) (1 * b) = IsGcd-scaled a d 1 b p (IsGcd-from_gcd a d 1 c) in
    subst (λ x. d ∣ x) (one-mul b) (all.2 d h (dvd-mul_right d b))

-- a factor that shares none with d makes no difference to what a product shares with d
pub gcd_without : (a n d : ℕ) → 0 < a → gcd n d ≡ 1 → gcd (a * n) d ≡ gcd a d
gcd_without a n d p c =
    let g = IsGcd-gcd a d in
    let apart : (k : ℕ) → k ∣ d → gcd n k ≡ 1 =
    λ k h. let f = IsGcd-gcd n k in eq-one_of_dvd-one (subst (λ x. gcd n k ∣ x) c ((IsGcd-gcd n d).2 (gcd n k) f.0 (dvd_trans (gcd n k) f.1 h))) in
    gcd_is (a * n) d (gcd a d)
    (dvd_trans (gcd a d) g.0 (dvd-mul_right a n), g.1, λ k h l. g.2 k (divides_other n a k p (apart k l) (subst (λ x. k ∣ x) (mul_comm a n) h)) l)

-- a product has no common factor with d, where both factors have none
pub product_coprime : (a b d : ℕ) → gcd a d ≡ 1 → gcd b d ≡ 1 → gcd (a * b) d ≡ 1
product_coprime a b d h k = ⊎_elim (λ z. at_zero z) (λ p. gcd_without a b d p k ∙ h) (eq-zero-or-pos a)
  where
    at_zero : a ≡ 0 → gcd (a * b) d ≡ 1
    at_zero z = let e : a * b ≡ a = rw z (omega arith) in ap (λ x. gcd x d) e ∙ h

-- what divides a number has no common factor with d, where the number has none
pub divisor_coprime : (a b d : ℕ) → a ∣ b → gcd b d ≡ 1 → gcd a d ≡ 1
divisor_coprime a b d h c =
    let g = IsGcd-gcd a d in
    eq-one_of_dvd-one (subst (λ x. gcd a d ∣ x) c ((IsGcd-gcd b d).2 (gcd a d) (dvd_trans (gcd a d) g.0 h) g.1))

-- equal fractions in lowest terms have one denominator
pub same_denominators : (a b d e : ℕ) → 0 < d → 0 < e → gcd a d ≡ 1 → gcd b e ≡ 1 → a * e ≡ b * d → d ≡ e
same_denominators a b d e p q c f h =
    dvd_antisymm
    (divides_other a e d q c (subst (λ x. d ∣ x) (sym h) (dvd-mul_left d b)))
    (divides_other b d e p f (subst (λ x. e ∣ x) h (dvd-mul_left e a)))

-- ---- least common multiples
pub divides_lcm_left : (a b : ℕ) → a ∣ lcm a b
unfolding lcm
divides_lcm_left a b = dvd-mul_right a (b / gcd a b)

pub divides_lcm_right : (a b : ℕ) → b ∣ lcm a b
unfolding lcm
divides_lcm_right a b =
    let g = IsGcd-gcd a b in
    let l : lcm a b ≡ (a / gcd a b) * b =
    ap (λ x. x * (b / gcd a b)) (sym (div-mul_cancel (gcd a b) g.0))
    ∙ mul_assoc (a / gcd a b) (gcd a b) (b / gcd a b)
    ∙ ap (λ x. (a / gcd a b) * x) (mul-div_cancel' (gcd a b) g.1) in
    subst (λ x. b ∣ x) (sym l) (dvd-mul_left b (a / gcd a b))

-- of a and b divided by their common divisor, b's share divides whatever a's share takes to a multiple of it
share_divides : (a b k l : ℕ) → a * suc k ≡ b * l → 0 < b → (b / gcd a b) ∣ suc k
share_divides a b k l e p =
    let g = IsGcd-gcd a b in
    let h : 0 < gcd a b = pos_of_dvd_of_pos g.1 p in
    let same : (a / gcd a b) * suc k ≡ (b / gcd a b) * l =
    eq_of_mul-eq-mul_right (gcd a b) h ((a / gcd a b) * suc k) ((b / gcd a b) * l)
    (mul_right_comm (a / gcd a b) (suc k) (gcd a b) ∙ ap (λ x. x * suc k) (div-mul_cancel (gcd a b) g.0) ∙ e
    ∙ sym (mul_right_comm (b / gcd a b) l (gcd a b) ∙ ap (λ x. x * l) (div-mul_cancel (gcd a b) g.1))) in
    divides_other (a / gcd a b) (suc k) (b / gcd a b) (omega arith) (coprime_quotients a b p)
    (subst (λ x. (b / gcd a b) ∣ x) (sym same) (dvd-mul_right (b / gcd a b) l))

-- and it divides every other
pub lcm_divides : (a b m : ℕ) → 0 < b → a ∣ m → b ∣ m → lcm a b ∣ m
unfolding lcm
lcm_divides a b m p h k = by (m / a) (mul-div_cancel' a h)
  where
    by : (n : ℕ) → a * n ≡ m → a * (b / gcd a b) ∣ m
    by zero e = subst (λ x. a * (b / gcd a b) ∣ x) (sym (mul-zero a) ∙ e) (dvd-zero (a * (b / gcd a b)))
    by (suc n) e = subst (λ x. a * (b / gcd a b) ∣ x) e (mul-dvd-mul_left (b / gcd a b) a (share_divides a b n (m / b) (e ∙ sym (mul-div_cancel' b k)) p))

pub lcm_positive : (a b : ℕ) → 0 < a → 0 < b → 0 < lcm a b
unfolding lcm
lcm_positive a b p q = mul-pos p (positive_quotient b (gcd a b) q (IsGcd-gcd a b).1)
