-- What the patterns of two steps have in each cycle.
use Rattle.std.proofs.Common.{◌≡◌, ℕ, List, [], ◌∷◌, ◌++◌, get_or, ℤ, pos, ◌+ℤ◌, ◌-ℤ◌, ◌*ℤ◌, nat_abs, ◌≤ℤ◌, ◌<ℤ◌, refl, ap, ◌∙◌, append-nil, arith}
use Rattle.std.proofs.lemmas.Int.{ints}
use Rattle.tdl_fraction.specs.Rational.{frac}
use Rattle.tdl_fraction.proofs.Over.{Over-whole, Over-frac, le_from_cross, lt_from_cross}
use Rattle.tdl_fraction.proofs.Rounding.{floor_unique}
use Rattle.tdl_event.specs.Event.{Event}
use Rattle.tdl_expr.specs.Tree.{Tree, TimeCat, step, none, Cat, child, empty}
use Rattle.tdl_meaning.specs.Pattern.{Pattern, time_cat, cat, silence, rounds}
use Rattle.tdl_meaning.specs.Meaning.{cyc}
use Rattle.tdl_mini.specs.Laws.{in_first_half, in_second_half, later}

pub two_shares : (t u : Tree) (c : ℤ) →
    cyc (TimeCat (step 1 t (step 1 u none))) c ≡ in_first_half c (cyc t) ++ in_second_half c (cyc u)
unfolding time_cat
two_shares t u c = ap (λ (es : List Event). in_first_half c (cyc t) ++ es) (append-nil _)

-- ---- two by turns
-- in a cycle before which they went round so often
abbrev at_round : Pattern → Pattern → ℤ → ℤ → List Event
at_round p q c k = later (c -ℤ k) (get_or (p ∷ q ∷ []) (nat_abs (c -ℤ k *ℤ pos 2)) silence k)

turns_at : (t u : Tree) (c : ℤ) → cyc (Cat (child t (child u empty))) c ≡ at_round (cyc t) (cyc u) c (rounds c 2)
unfolding cat
turns_at t u c = refl

even_low : (k : ℤ) → (k *ℤ pos 2) ≤ℤ ((k +ℤ k) *ℤ pos 1)
even_low k = omega (arith, ints)

even_high : (k : ℤ) → ((k +ℤ k) *ℤ pos 1) <ℤ ((k +ℤ pos 1) *ℤ pos 2)
even_high k = omega (arith, ints)

odd_low : (k : ℤ) → (k *ℤ pos 2) ≤ℤ ((k +ℤ k +ℤ pos 1) *ℤ pos 1)
odd_low k = omega (arith, ints)

odd_high : (k : ℤ) → ((k +ℤ k +ℤ pos 1) *ℤ pos 1) <ℤ ((k +ℤ pos 1) *ℤ pos 2)
odd_high k = omega (arith, ints)

rounds_are : (c k : ℤ) → (k *ℤ pos 2) ≤ℤ (c *ℤ pos 1) → (c *ℤ pos 1) <ℤ ((k +ℤ pos 1) *ℤ pos 2) → rounds c 2 ≡ k
rounds_are c k low high =
    let over = Over-frac c 2 (omega arith) in
    floor_unique (frac c 2) k (le_from_cross (Over-whole k) over low) (lt_from_cross over (Over-whole (k +ℤ pos 1)) high)

even_turn : (k : ℤ) → (k +ℤ k) -ℤ k *ℤ pos 2 ≡ pos 0
even_turn k = omega (arith, ints)

odd_turn : (k : ℤ) → (k +ℤ k +ℤ pos 1) -ℤ k *ℤ pos 2 ≡ pos 1
odd_turn k = omega (arith, ints)

even_move : (k : ℤ) → (k +ℤ k) -ℤ k ≡ k
even_move k = omega (arith, ints)

odd_move : (k : ℤ) → (k +ℤ k +ℤ pos 1) -ℤ k ≡ k +ℤ pos 1
odd_move k = omega (arith, ints)

module _ (t u : Tree) (k : ℤ) where
  abbrev played : ℕ → List Event
  played i = get_or (cyc t ∷ cyc u ∷ []) i silence k

  pub in_even : cyc (Cat (child t (child u empty))) (k +ℤ k) ≡ later k (cyc t k)
  in_even =
      turns_at t u (k +ℤ k) ∙ (ap (at_round (cyc t) (cyc u) (k +ℤ k)) (rounds_are (k +ℤ k) k (even_low k) (even_high k))
      ∙ (ap (λ (i : ℤ). later ((k +ℤ k) -ℤ k) (played (nat_abs i))) (even_turn k)
      ∙ ap (λ (m : ℤ). later m (cyc t k)) (even_move k)))

  pub in_odd : cyc (Cat (child t (child u empty))) (k +ℤ k +ℤ pos 1) ≡ later (k +ℤ pos 1) (cyc u k)
  in_odd =
      turns_at t u (k +ℤ k +ℤ pos 1) ∙ (ap (at_round (cyc t) (cyc u) (k +ℤ k +ℤ pos 1)) (rounds_are (k +ℤ k +ℤ pos 1) k (odd_low k) (odd_high k))
      ∙ (ap (λ (i : ℤ). later ((k +ℤ k +ℤ pos 1) -ℤ k) (played (nat_abs i))) (odd_turn k)
      ∙ ap (λ (m : ℤ). later m (cyc u k)) (odd_move k)))
