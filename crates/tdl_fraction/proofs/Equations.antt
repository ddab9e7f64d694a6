-- Equations of rationals with quotients, for the ring solver: a divisor other than zero is struck out.
use Rattle.std.proofs.Common.{◌≡◌, ◌≢◌, ℕ, ◌*◌, ◌<◌, List, [], ◌∷◌, pos, ⊎_elim, arith, refl, sym, ap, ◌∙◌, subst}
use Rattle.tdl_ring.specs.Pairs.{Inverses}
use Rattle.tdl_ring.proofs.Quoting.{Quoted, quoted_as, quoted_times, by_ring, ring, wholes}
use Rattle.tdl_ring.proofs.Inverses.{by_field}
use Rattle.tdl_fraction.specs.Rational.{Rational, whole, ◌+ℚ◌, ◌-ℚ◌, ◌*ℚ◌, ◌/ℚ◌, frac, inverse, ◌<ℚ◌, IsMultiple}
use Rattle.tdl_fraction.proofs.Field.{rationals, *ℚ-inverse, /ℚ_is, *ℚ_comm, *ℚ_assoc, *ℚ-one, *ℚ-zero}
use Rattle.tdl_fraction.proofs.Over.{Over-frac, Over-inverse, inverse-zero, frac_over}
use Rattle.tdl_fraction.proofs.Multiples.{multiple_times_frac}
use Rattle.tdl_fraction.proofs.Order.{≢_from_positive, ≢_from_<ℚ, whole_positive, ≡_or_≢}

-- a quotient, as the product with the inverse
abbrev pub quoted_divide : {atoms : List Rational} (x y : Rational) → Quoted rationals atoms x → Quoted rationals atoms (inverse y)
    → Quoted rationals atoms (x /ℚ y)
quoted_divide x y p q = quoted_as (sym (/ℚ_is x y)) (quoted_times p q)

-- for `search`: the ring's rules, and quotients
pub ruleset field = (ring, quoted_divide)

-- a number other than zero and its inverse
abbrev pub apart : (x : Rational) → x ≢ whole (pos 0) → Inverses rationals
apart x h = record { item = x; inverse = inverse x; cancels = *ℚ-inverse x h }

-- a positive number and its inverse
abbrev pub positive : (x : Rational) → whole (pos 0) <ℚ x → Inverses rationals
positive x h = apart x (≢_from_positive h)

-- a step of a sequence: t in cycle c goes to c + (o + (t - c) * w) / W, and back
pub squeezed_back : (c o t w W : Rational) → whole (pos 0) <ℚ W → (c +ℚ (o +ℚ (t -ℚ c) *ℚ w) /ℚ W -ℚ c) *ℚ W ≡ o +ℚ (t -ℚ c) *ℚ w
squeezed_back c o t w W h = by_field rationals (positive W h ∷ []) (c ∷ o ∷ t ∷ w ∷ []) (search field depth 12) refl

-- ---- inverses
zero_product : (v : Rational) → whole (pos 0) *ℚ v ≡ whole (pos 1) → ⊥
zero_product v e = ≢_from_<ℚ (whole_positive 1 (omega arith)) (sym (*ℚ_comm (whole (pos 0)) v ∙ *ℚ-zero v) ∙ e)

-- the number that makes one with x is its inverse
pub inverse_unique : (x v : Rational) → x *ℚ v ≡ whole (pos 1) → inverse x ≡ v
inverse_unique x v e =
    let h : x ≢ whole (pos 0) = λ z. zero_product v (ap (λ y. y *ℚ v) (sym z) ∙ e) in
    sym (*ℚ-one (inverse x)) ∙ ap (λ y. inverse x *ℚ y) (sym e) ∙ by_field rationals (apart x h ∷ []) (v ∷ []) (search ring depth 12) refl

-- a product has the product of the inverses
pub inverse-times : (x y : Rational) → inverse (x *ℚ y) ≡ inverse x *ℚ inverse y
inverse-times x y = ⊎_elim (λ e. left_zero e) (λ h. ⊎_elim (λ e. right_zero e) (λ k. both h k) (≡_or_≢ y (whole (pos 0)))) (≡_or_≢ x (whole (pos 0)))
  where
    nothing : (v : Rational) → whole (pos 0) *ℚ v ≡ whole (pos 0)
    nothing v = *ℚ_comm (whole (pos 0)) v ∙ *ℚ-zero v

    left_zero : x ≡ whole (pos 0) → inverse (x *ℚ y) ≡ inverse x *ℚ inverse y
    left_zero e =
        ap inverse (ap (λ z. z *ℚ y) e ∙ nothing y) ∙ inverse-zero ∙ sym (ap (λ z. z *ℚ inverse y) (ap inverse e ∙ inverse-zero) ∙ nothing (inverse y))

    right_zero : y ≡ whole (pos 0) → inverse (x *ℚ y) ≡ inverse x *ℚ inverse y
    right_zero e =
        ap inverse (ap (λ z. x *ℚ z) e ∙ *ℚ-zero x) ∙ inverse-zero ∙ sym (ap (λ z. inverse x *ℚ z) (ap inverse e ∙ inverse-zero) ∙ *ℚ-zero (inverse x))

    both : x ≢ whole (pos 0) → y ≢ whole (pos 0) → inverse (x *ℚ y) ≡ inverse x *ℚ inverse y
    both h k = inverse_unique (x *ℚ y) (inverse x *ℚ inverse y) (by_field rationals (apart x h ∷ apart y k ∷ []) [] (search ring depth 12) refl)

pub inverse-inverse : (x : Rational) → inverse (inverse x) ≡ x
inverse-inverse x =
    ⊎_elim
    (λ e. ap (λ z. inverse (inverse z)) e ∙ ap inverse inverse-zero ∙ inverse-zero ∙ sym e)
    (λ h. inverse_unique (inverse x) x (*ℚ_comm (inverse x) x ∙ *ℚ-inverse x h))
    (≡_or_≢ x (whole (pos 0)))

pub inverse-frac : (n d : ℕ) → 0 < n → 0 < d → inverse (frac (pos n) d) ≡ frac (pos d) n
inverse-frac n d h k = frac_over (Over-inverse h (Over-frac (pos n) d k))

-- ---- quotients
-- divisors multiply
pub divide-divide : (x y z : Rational) → (x /ℚ y) /ℚ z ≡ x /ℚ (y *ℚ z)
unfolding ◌/ℚ◌
divide-divide x y z = *ℚ_assoc x (inverse y) (inverse z) ∙ ap (λ v. x *ℚ v) (sym (inverse-times y z))

-- a factor goes in and out of a quotient
pub times-divide : (x y z : Rational) → (x *ℚ y) /ℚ z ≡ x *ℚ (y /ℚ z)
unfolding ◌/ℚ◌
times-divide x y z = *ℚ_assoc x y (inverse z)

pub divide-times : (x y z : Rational) → (x /ℚ y) *ℚ z ≡ (x *ℚ z) /ℚ y
divide-times x y z = by_ring rationals (x ∷ inverse y ∷ z ∷ []) (search field depth 12) refl

-- a common factor is struck out
pub divide_common : (x y z : Rational) → z ≢ whole (pos 0) → (x *ℚ z) /ℚ (y *ℚ z) ≡ x /ℚ y
divide_common x y z h =
    /ℚ_is (x *ℚ z) (y *ℚ z) ∙ ap (λ v. (x *ℚ z) *ℚ v) (inverse-times y z)
    ∙ by_field rationals (apart z h ∷ []) (x ∷ inverse y ∷ []) (search field depth 12) refl

-- to divide by n over d is to multiply by d over n
pub divide-frac : (x : Rational) (n d : ℕ) → 0 < n → 0 < d → x /ℚ frac (pos n) d ≡ x *ℚ frac (pos d) n
unfolding ◌/ℚ◌
divide-frac x n d h k = ap (λ v. x *ℚ v) (inverse-frac n d h k)

-- what is divided by n over d is a multiple on a step n times finer
pub multiple_divide_frac : {g : ℕ} {x : Rational} (n d : ℕ) → 0 < n → 0 < d → IsMultiple g x → IsMultiple (g * n) (x /ℚ frac (pos n) d)
multiple_divide_frac {g} {x} n d h k m = subst (λ z. IsMultiple (g * n) z) (sym (divide-frac x n d h k)) (multiple_times_frac (pos d) n h m)
