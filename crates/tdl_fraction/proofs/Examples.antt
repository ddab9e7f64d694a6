-- The worked examples of docs/PROVING-TIMES.md.
use Rattle.std.proofs.Common.{◌≡◌, ℕ, ◌*◌, ◌<◌, [], ◌∷◌, ℤ, pos, ◌+ℤ◌, ◌*ℤ◌, arith, refl, ap, option_map}
use Rattle.std.proofs.lemmas.Int.{ints, clamps}
use Rattle.tdl_ring.proofs.Inverses.{by_field}
use Rattle.tdl_fraction.specs.Rational.{Rational, frac, whole, ◌+ℚ◌, ◌-ℚ◌, ◌*ℚ◌, ◌/ℚ◌, ◌≤ℚ◌, ◌<ℚ◌, min_ℚ, max_ℚ, floor}
use Rattle.tdl_fraction.specs.Arc.{Arc, meet, map_arc}
use Rattle.tdl_fraction.proofs.Over.{Over-frac, Over-plus, frac_over}
use Rattle.tdl_fraction.proofs.Field.{rationals}
use Rattle.tdl_fraction.proofs.CommonStep.{by_steps2, by_steps3, steps, step-same, whole-step}
use Rattle.tdl_fraction.proofs.Rounding.{floor_unique}
use Rattle.tdl_fraction.proofs.Equations.{field, positive}
use Rattle.tdl_fraction.proofs.Arcs.{meet_through, keeps-plus, keeps-divide, keeps-after}

-- by n over d: a sum of fractions, put together by code as a * e + b * d over d * e
added : (a b : ℤ) (d e : ℕ) → 0 < d → 0 < e → frac a d +ℚ frac b e ≡ frac (a *ℤ pos e +ℤ b *ℤ pos d) (d * e)
added a b d e h k = frac_over (Over-plus (Over-frac a d h) (Over-frac b e k))

-- by a common step
overlap : (x y z : Rational) → x ≤ℚ y → y <ℚ z → (min_ℚ x z ≤ℚ y) × (max_ℚ x y <ℚ z) × ((z -ℚ y) +ℚ y ≡ z)
overlap = by_steps3 (λ x y z. x ≤ℚ y → y <ℚ z → (min_ℚ x z ≤ℚ y) × (max_ℚ x y <ℚ z) × ((z -ℚ y) +ℚ y ≡ z))
    (λ k a b c. simp (steps, step-same) (omega (arith, ints, clamps)))

within_cycle : (x y : Rational) → x ≤ℚ y → y <ℚ x +ℚ whole (pos 1) → y -ℚ x <ℚ whole (pos 1)
within_cycle = by_steps2 (λ x y. x ≤ℚ y → y <ℚ x +ℚ whole (pos 1) → y -ℚ x <ℚ whole (pos 1)) (λ k a b. simp (whole-step (pos 1) k, steps) (omega (arith, ints)))

-- by equations of a field
placed : (c o t w W : Rational) → whole (pos 0) <ℚ W → (c +ℚ (o +ℚ (t -ℚ c) *ℚ w) /ℚ W -ℚ c) *ℚ W ≡ o +ℚ (t -ℚ c) *ℚ w
placed c o t w W h = by_field rationals (positive W h ∷ []) (c ∷ o ∷ t ∷ w ∷ []) (search field depth 12) refl

-- by the inequalities of floor
same_cycle : (q : Rational) (c : ℤ) → whole c ≤ℚ q → q <ℚ whole (c +ℤ pos 1) → whole (floor q) ≡ whole c
same_cycle q c h k = ap whole (floor_unique q c h k)

-- through maps that keep the order
meet_moved : (a b : Arc) (t r : Rational) → whole (pos 0) <ℚ r
    → let f : Rational → Rational = λ x. (x +ℚ t) /ℚ r in meet (map_arc f a) (map_arc f b) ≡ option_map (map_arc f) (meet a b)
meet_moved a b t r h = meet_through (λ x. (x +ℚ t) /ℚ r) (keeps-after (λ x. x /ℚ r) (λ x. x +ℚ t) (keeps-divide r h) (keeps-plus t)) a b
