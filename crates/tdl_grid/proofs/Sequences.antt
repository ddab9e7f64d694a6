-- A step of a sequence in counts: its times in its share, and what is asked of it. A count of the sequence is a count of the
-- step, later by a constant.
use Rattle.std.proofs.Common.{◌≡◌, ℕ, ◌*◌, ◌<◌, Option, Some, None, ℤ, pos, ◌+ℤ◌, ◌-ℤ◌, ◌*ℤ◌, [], ◌∷◌, List, map, refl, sym, ap, ap₂, ◌∙◌, arith}
use Rattle.std.specs.Option.{option_map}
use Rattle.std.proofs.Math.Nat.{mul-pos}
use Rattle.std.proofs.lemmas.Int.{ints}
use Rattle.tdl_ring.proofs.Integers.{integers}
use Rattle.tdl_ring.proofs.Quoting.{by_ring, ring}
use Rattle.tdl_fraction.specs.Rational.{frac, whole}
use Rattle.tdl_fraction.specs.Arc.{map_arc, meet}
use Rattle.tdl_fraction.proofs.Over.{Over-frac, Over-whole, Over-plus, Over-minus_same, Over-times, Over-divide, same_cross_over}
use Rattle.tdl_meaning.specs.Pattern.{squeezed, moved}
use Rattle.tdl_meaning.specs.Heard.{unsqueezed}
use Rattle.tdl_meaning.specs.inside.Arcs.{share, step_ask}
use Rattle.tdl_meaning.proofs.Times.{unsqueezed_back}
use Rattle.tdl_grid.specs.Span.{Span, earlier_span, met, arc_of}
use Rattle.tdl_grid.specs.Step.{step_delay, share_span}
use Rattle.tdl_grid.proofs.Units.{time-cycle, Over-cycle}
use Rattle.tdl_grid.specs.Item.{Item, delayed, event_of}
use Rattle.tdl_grid.proofs.SpanArcs.{spans_met}
use Rattle.tdl_grid.proofs.Moved.{items_moved}

-- with the numbers that the rules of sums, products and quotients give
crossed : (c n o w W x : ℤ)
    → (c *ℤ ((pos 1 *ℤ ((x *ℤ w) *ℤ pos 1)) *ℤ W) +ℤ ((o *ℤ ((x *ℤ w) *ℤ pos 1) +ℤ ((n -ℤ c *ℤ (x *ℤ w)) *ℤ w) *ℤ pos 1) *ℤ pos 1) *ℤ pos 1) *ℤ (x *ℤ W)
    ≡ (n +ℤ ((c *ℤ (x *ℤ W) +ℤ o *ℤ x) -ℤ c *ℤ (x *ℤ w))) *ℤ (pos 1 *ℤ ((pos 1 *ℤ ((x *ℤ w) *ℤ pos 1)) *ℤ W))
crossed c n o w W x = by_ring integers (c ∷ n ∷ o ∷ w ∷ W ∷ x ∷ []) (search ring depth 20) refl

back : (n by : ℤ) → n ≡ (n -ℤ by) +ℤ by
back n by = omega (arith, ints)

-- the ends of the step's cycle, later
pub start_later : (c : ℤ) (v by o u : ℤ) → by ≡ (c *ℤ u +ℤ o) -ℤ c *ℤ v → c *ℤ v +ℤ by ≡ c *ℤ u +ℤ o
start_later c v by o u e = ap (λ b. c *ℤ v +ℤ b) e ∙ by_ring integers (c ∷ v ∷ o ∷ u ∷ []) (search ring depth 12) refl

pub stop_later : (c x o w W : ℤ)
    → (c +ℤ pos 1) *ℤ (x *ℤ w) +ℤ ((c *ℤ (x *ℤ W) +ℤ o *ℤ x) -ℤ c *ℤ (x *ℤ w)) ≡ c *ℤ (x *ℤ W) +ℤ (o *ℤ x +ℤ w *ℤ x)
stop_later c x o w W = by_ring integers (c ∷ x ∷ o ∷ w ∷ W ∷ []) (search ring depth 16) refl

module _ (c : ℤ) (o w W x : ℕ) (hw : 0 < w) (hW : 0 < W) (hx : 0 < x) where
  -- where the step's times are in its share
  pub time-squeezed : (n : ℤ) → squeezed c o w W (frac n (x * w)) ≡ frac (n +ℤ step_delay c o w W x) (x * W)
  time-squeezed n =
      let u = mul-pos hx hW in
      let v = mul-pos hx hw in
      let since = Over-minus_same (Over-frac n (x * w) v) (Over-cycle c (x * w) v) in
      let there = Over-divide (Over-plus (Over-whole (pos o)) (Over-times since (Over-whole (pos w)))) (Over-whole (pos W)) hW in
      same_cross_over (Over-plus (Over-whole c) there) (Over-frac (n +ℤ step_delay c o w W x) (x * W) u)
      (crossed c n (pos o) (pos w) (pos W) (pos x))

  -- and back
  pub time-unsqueezed : (n : ℤ) → unsqueezed c o w W (frac n (x * W)) ≡ frac (n -ℤ step_delay c o w W x) (x * w)
  time-unsqueezed n =
      let by = step_delay c o w W x in
      ap (unsqueezed c o w W) (ap (λ m. frac m (x * W)) (back n by) ∙ sym (time-squeezed (n -ℤ by)))
      ∙ unsqueezed_back c o w W (frac (n -ℤ by) (x * w)) hw hW

  -- the step's share of the cycle
  pub share_is : share c o w W ≡ arc_of (x * W) (share_span c o w W x)
  share_is =
      let at : (k : ℤ) → squeezed c o w W (whole k) ≡ frac (k *ℤ pos (x * w) +ℤ step_delay c o w W x) (x * W) =
      λ k. ap (squeezed c o w W) (sym (time-cycle k (x * w) (mul-pos hx hw))) ∙ time-squeezed (k *ℤ pos (x * w)) in
      let in_unit : (n m : ℤ) → n ≡ m → frac n (x * W) ≡ frac m (x * W) = λ n m e. ap (λ n. frac n (x * W)) e in
      ap₂ (λ a b. record { start = a; stop = b })
      (at c ∙ in_unit _ _ (start_later c (pos (x * w)) (step_delay c o w W x) (pos (o * x)) (pos (x * W)) refl))
      (at (c +ℤ pos 1) ∙ in_unit _ _ (stop_later c (pos x) (pos o) (pos w) (pos W)))

  arc_back : (s : Span) → map_arc (unsqueezed c o w W) (arc_of (x * W) s) ≡ arc_of (x * w) (earlier_span (step_delay c o w W x) s)
  arc_back s = ap₂ (λ a b. record { start = a; stop = b }) (time-unsqueezed s.start) (time-unsqueezed s.stop)

  asked_back : (o' : Option Span)
      → option_map (map_arc (unsqueezed c o w W)) (option_map (arc_of (x * W)) o')
      ≡ option_map (arc_of (x * w)) (option_map (earlier_span (step_delay c o w W x)) o')
  asked_back None = refl
  asked_back (Some s) = ap Some (arc_back s)

  -- what is asked of the step, where an arc of the cycle is asked of the sequence
  pub step_asked : (a : Span)
      → step_ask c o w W (arc_of (x * W) a) ≡ option_map (arc_of (x * w)) (option_map (earlier_span (step_delay c o w W x)) (met (share_span c o w W x) a))
  step_asked a =
      ap (λ s. option_map (map_arc (unsqueezed c o w W)) (meet s (arc_of (x * W) a))) share_is
      ∙ ap (option_map (map_arc (unsqueezed c o w W))) (spans_met (x * W) (share_span c o w W x) a (mul-pos hx hW))
      ∙ asked_back (met (share_span c o w W x) a)

  -- items of the step's own cycle, in its share
  pub items_squeezed : (items : List Item)
      → map (event_of (x * W)) (map (delayed (step_delay c o w W x)) items) ≡ map (moved (squeezed c o w W)) (map (event_of (x * w)) items)
  items_squeezed = items_moved (x * W) (x * w) (squeezed c o w W) (λ n. n +ℤ step_delay c o w W x) (λ n. sym (time-squeezed n))
