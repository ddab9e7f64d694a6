-- What a pattern that is turned round in each cycle has at a time.
use Rattle.std.proofs.Common.{◌≡◌, ◌≢◌, Bool, true, false, List, [], ◌∷◌, ◌++◌, map, ℤ, pos, ◌+ℤ◌, ◌-ℤ◌, refl, sym, ap, ap₂, ◌∙◌, subst, arith}
use Rattle.std.proofs.lemmas.List.{map-append}
use Rattle.std.proofs.lemmas.Int.{ints}
use Rattle.tdl_ring.proofs.Quoting.{by_ring, ring}
use Rattle.tdl_control.specs.declared.leaves.Leaf.{Leaf}
use Rattle.tdl_fraction.specs.Rational.{Rational, whole, ◌-ℚ◌, ◌≤ℚ◌, ◌<ℚ◌, floor}
use Rattle.tdl_fraction.specs.Arc.{Arc, IsIn}
use Rattle.tdl_fraction.proofs.Field.{rationals, whole-minus}
use Rattle.tdl_fraction.proofs.Order.{≤ℚ_from_<ℚ, <ℚ_from_≤ℚ, minus_left_le, minus_left_lt}
use Rattle.tdl_fraction.proofs.Rounding.{floor_at_most, floor_above, floor_unique}
use Rattle.tdl_event.specs.Event.{Event}
use Rattle.tdl_event.specs.ClipLaws.{is_in, seen_of, seen_at}
use Rattle.tdl_event.proofs.Clips.{same_tests, is_in-true}
use Rattle.tdl_meaning.specs.Pattern.{Pattern, turned, rev, turned_event}
use Rattle.tdl_meaning.specs.Heard.{heard, opposite, HasNoEndAt}
use Rattle.tdl_meaning.proofs.Seen.{shown}

abbrev turned_whole : ℤ → Arc × Leaf → Arc × Leaf
turned_whole c x = (turned c x.0, x.1)

-- ---- times, as far before m as they were after it
less_twice : (m t : Rational) → m -ℚ (m -ℚ t) ≡ t
less_twice m t = by_ring rationals (m ∷ t ∷ []) (search ring depth 12) refl

-- within a cycle the opposite time is one of the same cycle
opposite_cycle : (t : Rational) → whole (floor t) ≢ t → floor (opposite t) ≡ floor t
opposite_cycle t within =
    let c = floor t in
    let middle = whole (c +ℤ c +ℤ pos 1) in
    floor_unique (opposite t) c
    (≤ℚ_from_<ℚ (subst (λ x. x <ℚ opposite t) (from c) (minus_left_lt middle (floor_above t))))
    (subst (λ x. opposite t <ℚ x) (to c) (minus_left_lt middle (<ℚ_from_≤ℚ (floor_at_most t) within)))
  where
    less_next : (c : ℤ) → (c +ℤ c +ℤ pos 1) -ℤ (c +ℤ pos 1) ≡ c
    less_next c = omega (arith, ints)

    less_it : (c : ℤ) → (c +ℤ c +ℤ pos 1) -ℤ c ≡ c +ℤ pos 1
    less_it c = omega (arith, ints)

    from : (c : ℤ) → whole (c +ℤ c +ℤ pos 1) -ℚ whole (c +ℤ pos 1) ≡ whole c
    from c = sym (whole-minus (c +ℤ c +ℤ pos 1) (c +ℤ pos 1)) ∙ ap whole (less_next c)

    to : (c : ℤ) → whole (c +ℤ c +ℤ pos 1) -ℚ whole c ≡ whole (c +ℤ pos 1)
    to c = sym (whole-minus (c +ℤ c +ℤ pos 1) c) ∙ ap whole (less_it c)

-- where an arc neither starts nor stops, it has the one time where it has, turned round, the other
module _ (c : ℤ) (t : Rational) where
  abbrev middle : Rational
  middle = whole (c +ℤ c +ℤ pos 1)

  turned_in : (a : Arc) → a.start ≢ middle -ℚ t → a.stop ≢ middle -ℚ t → is_in t (turned c a) ≡ is_in (middle -ℚ t) a
  turned_in a starts stops =
      let in_it = is_in-true (middle -ℚ t) a in
      let turned_has = is_in-true t (turned c a) in
      same_tests (is_in t (turned c a)) (is_in (middle -ℚ t) a)
      (λ b. in_it.1 (there (turned_has.0 b)), λ b. turned_has.1 (back (in_it.0 b)))
    where
      apart : a.stop ≢ middle -ℚ t → (middle -ℚ t) ≢ a.stop
      apart stops e = stops (sym e)

      there : IsIn t (turned c a) → IsIn (middle -ℚ t) a
      there h = (
        ≤ℚ_from_<ℚ (subst (λ x. x <ℚ middle -ℚ t) (less_twice middle a.start) (minus_left_lt middle h.1)),
        <ℚ_from_≤ℚ (subst (λ x. middle -ℚ t ≤ℚ x) (less_twice middle a.stop) (minus_left_le middle h.0)) (apart stops),
      )

      back : IsIn (middle -ℚ t) a → IsIn t (turned c a)
      back h = (
        ≤ℚ_from_<ℚ (subst (λ x. middle -ℚ a.stop <ℚ x) (less_twice middle t) (minus_left_lt middle h.1)),
        subst (λ x. x <ℚ middle -ℚ a.start) (less_twice middle t) (minus_left_lt middle (<ℚ_from_≤ℚ h.0 starts)),
      )

  seen_turned : (es : List Event) → HasNoEndAt (middle -ℚ t) es → seen_at t (map (turned_event c) es) ≡ map (turned_whole c) (seen_at (middle -ℚ t) es)
  seen_turned [] none = refl
  seen_turned (e ∷ es) none =
      ap₂ (λ s u. s ++ u) (ap (shown (turned_event c e)) (turned_in e.part none.0.0 none.0.1) ∙ one e (is_in (middle -ℚ t) e.part)) (seen_turned es none.1)
      ∙ sym (map-append (turned_whole c) (seen_of (middle -ℚ t) e) (seen_at (middle -ℚ t) es))
    where
      one : (e : Event) (b : Bool) → shown (turned_event c e) b ≡ map (turned_whole c) (shown e b)
      one e true = refl
      one e false = refl

pub heard_rev : (p : Pattern) (t : Rational) → whole (floor t) ≢ t → HasNoEndAt (opposite t) (p (floor t))
    → heard (rev p) t ≡ map (λ (x : Arc × Leaf). (turned (floor t) x.0, x.1)) (heard p (opposite t))
unfolding rev
heard_rev p t within none =
    seen_turned (floor t) t (p (floor t)) none ∙ ap (λ c. map (turned_whole (floor t)) (seen_at (opposite t) (p c))) (sym (opposite_cycle t within))
