-- A pattern that repeats, in an arc that is so many cycles later.
use Rattle.std.proofs.Common.{◌≡◌, ℕ, zero, suc, ◌++◌, map, ℤ, pos, ◌+ℤ◌, ◌-ℤ◌, nat_abs, refl, sym, ap, ap₂, ◌∙◌, arith}
use Rattle.std.specs.List.{flat_map}
use Rattle.std.proofs.lemmas.Int.{ints}
use Rattle.std.proofs.lemmas.List.{map-append}
use Rattle.tdl_fraction.specs.Rational.{whole, floor, ceil}
use Rattle.tdl_fraction.specs.Arc.{Arc, map_arc}
use Rattle.tdl_fraction.proofs.Rounding.{floor-plus, ceil-plus}
use Rattle.tdl_fraction.proofs.Arcs.{keeps-plus}
use Rattle.tdl_event.specs.Event.{clip}
use Rattle.tdl_meaning.specs.Pattern.{Pattern, over, moved, whole_range, cycles_of}
use Rattle.tdl_meaning.specs.Repeats.{later, Repeats, RepeatLaw}
use Rattle.tdl_meaning.proofs.ByKind.{clip_moved}

-- the cycles of an arc that is n cycles later
cycles_later : (n : ℕ) (a : Arc) → cycles_of (map_arc (later n) a) ≡ whole_range (floor a.start +ℤ pos n) (nat_abs (ceil a.stop -ℤ floor a.start))
cycles_later n a =
    ap₂ (λ x y. whole_range x (nat_abs (y -ℤ x))) (floor-plus a.start (pos n)) (ceil-plus a.stop (pos n))
    ∙ ap (λ z. whole_range (floor a.start +ℤ pos n) (nat_abs z)) (apart (floor a.start) (ceil a.stop))
  where
    apart : (x y : ℤ) → (y +ℤ pos n) -ℤ (x +ℤ pos n) ≡ y -ℤ x
    apart x y = omega (arith, ints)

module _ (n : ℕ) (p : Pattern) (repeats : Repeats n p) (a : Arc) where
  run_later : (first : ℤ) (k : ℕ) → flat_map (λ c. clip (map_arc (later n) a) (p c)) (whole_range (first +ℤ pos n) k)
      ≡ map (moved (later n)) (flat_map (λ c. clip a (p c)) (whole_range first k))
  run_later first zero = refl
  run_later first (suc k) =
      ap₂ (λ x y. x ++ y)
      (ap (clip (map_arc (later n) a)) (repeats first) ∙ clip_moved (later n) (keeps-plus (whole (pos n))) a (p first))
      (ap (λ z. flat_map (λ c. clip (map_arc (later n) a) (p c)) (whole_range z k)) next ∙ run_later (first +ℤ pos 1) k)
      ∙ sym (map-append (moved (later n)) (clip a (p first)) (flat_map (λ c. clip a (p c)) (whole_range (first +ℤ pos 1) k)))
    where
      next : (first +ℤ pos n) +ℤ pos 1 ≡ (first +ℤ pos 1) +ℤ pos n
      next = omega (arith, ints)

pub over_later : RepeatLaw
unfolding over
over_later n p repeats a =
    ap (flat_map (λ c. clip (map_arc (later n) a) (p c))) (cycles_later n a)
    ∙ run_later n p repeats a (floor a.start) (nat_abs (ceil a.stop -ℤ floor a.start))
