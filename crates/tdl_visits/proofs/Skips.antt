-- Steps of a sequence that an arc does not meet are asked for nothing.
use Rattle.std.proofs.Common.{◌≡◌, ℕ, ◌+◌, ◌<◌, ◌≤◌, ◌⊎◌, inl, inr, ⊎_elim, ℤ, pos, ◌+ℤ◌, ◌≤ℤ◌, List, [], ◌∷◌, ◌++◌, map, None, option_map}
use Rattle.std.proofs.Common.{refl, sym, ap, ◌∙◌, subst, arith}
use Rattle.std.proofs.lemmas.Int.{ints}
use Rattle.tdl_ring.proofs.Quoting.{by_ring, ring, wholes}
use Rattle.tdl_fraction.specs.Rational.{Rational, whole, ◌+ℚ◌, ◌-ℚ◌, ◌*ℚ◌, ◌/ℚ◌, ◌≤ℚ◌, floor, ceil}
use Rattle.tdl_fraction.specs.Arc.{Arc, map_arc}
use Rattle.tdl_fraction.proofs.Arcs.{none_from_apart}
use Rattle.tdl_fraction.proofs.Field.{rationals, +ℚ_comm, whole-plus}
use Rattle.tdl_fraction.proofs.Order.{whole_positive, le_divide, divide_le, le_minus, minus_le}
use Rattle.tdl_fraction.proofs.Rounding.{le_floor, ceil_le}
use Rattle.tdl_meaning.specs.Heard.{unsqueezed}
use Rattle.tdl_meaning.specs.Pattern.{Share, moved, squeezed}
use Rattle.tdl_meaning.specs.inside.Arcs.{over_met, share, step_ask, steps_over}
use Rattle.tdl_visits.specs.inside.Weights.{weights_at, HavePassed}

-- ---- the times between steps
-- the time of a cycle after so many weights of W in all
abbrev time_after : ℤ → ℕ → ℕ → Rational
time_after c n W = whole c +ℚ whole (pos n) /ℚ whole (pos W)

share_start : (c : ℤ) (o w W : ℕ) → (share c o w W).start ≡ time_after c o W
share_start c o w W = ap (λ x. whole c +ℚ x /ℚ whole (pos W)) (none (whole c) (whole (pos o)) (whole (pos w)))
  where
    none : (c o w : Rational) → o +ℚ (c -ℚ c) *ℚ w ≡ o
    none c o w = by_ring rationals (c ∷ o ∷ w ∷ []) (search ring depth 12) refl

share_stop : (c : ℤ) (o w W : ℕ) → (share c o w W).stop ≡ time_after c (o + w) W
share_stop c o w W = ap (λ x. whole c +ℚ x /ℚ whole (pos W)) (both c (whole (pos o)) (whole (pos w)) ∙ sym (whole-plus (pos o) (pos w)))
  where
    both : (c : ℤ) (o w : Rational) → o +ℚ (whole (c +ℤ pos 1) -ℚ whole c) *ℚ w ≡ o +ℚ w
    both c o w = by_ring rationals (whole c ∷ o ∷ w ∷ []) (search (ring, wholes) depth 12) refl

-- no later than a time by which so many weights have ended, and no earlier than one before which so many have begun
module _ (c : ℤ) (W : ℕ) (t : Rational) (total : 0 < W) (n m : ℕ) where
  after_le : pos m ≡ floor (weights_at c W t) → n ≤ m → time_after c n W ≤ℚ t
  after_le ended h =
      let fewer : pos n ≤ℤ floor (weights_at c W t) = omega (arith, ints, h, ended) in
      let part = (divide_le (whole (pos n)) (t -ℚ whole c) (whole (pos W)) (whole_positive W total)).1 ((le_floor (pos n) (weights_at c W t)).1 fewer) in
      subst (λ x. x ≤ℚ t) (+ℚ_comm (whole (pos n) /ℚ whole (pos W)) (whole c)) ((le_minus (whole (pos n) /ℚ whole (pos W)) t (whole c)).0 part)

  le_after : pos m ≡ ceil (weights_at c W t) → m ≤ n → t ≤ℚ time_after c n W
  le_after begun h =
      let more : ceil (weights_at c W t) ≤ℤ pos n = omega (arith, ints, h, begun) in
      let part = (le_divide (t -ℚ whole c) (whole (pos n)) (whole (pos W)) (whole_positive W total)).1 ((ceil_le (weights_at c W t) (pos n)).1 more) in
      subst (λ x. t ≤ℚ x) (+ℚ_comm (whole (pos n) /ℚ whole (pos W)) (whole c)) ((minus_le t (whole (pos n) /ℚ whole (pos W)) (whole c)).0 part)

-- ---- what steps are asked for
module _ (c : ℤ) (W : ℕ) (a : Arc) (ended begun : ℕ) (total : 0 < W) (is : HavePassed c W a ended begun) where
  pub apart : (o w : ℕ) → (o + w ≤ ended) ⊎ (begun ≤ o) → step_ask c o w W a ≡ None
  apart o w either =
      ap (option_map (map_arc (unsqueezed c o w W)))
      (none_from_apart (share c o w W) a
      (⊎_elim
      (λ h. inl (subst (λ x. x ≤ℚ a.start) (sym (share_stop c o w W)) (after_le c W a.start total (o + w) ended is.start h)))
      (λ h. inr (subst (λ x. a.stop ≤ℚ x) (sym (share_start c o w W)) (le_after c W a.stop total o begun is.stop h)))
      either))

  -- ---- steps that begin where the arc has ended
  pub none_after : (o : ℕ) (steps : List Share) → begun ≤ o → steps_over W o steps c a ≡ []
  none_after o [] h = refl
  none_after o (s ∷ steps) h =
      ap (λ met. map (moved (squeezed c o s.weight W)) (over_met s.pattern met) ++ steps_over W (o + s.weight) steps c a) (apart o s.weight (inr h))
      ∙ none_after (o + s.weight) steps (omega (arith, h))
