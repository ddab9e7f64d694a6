-- Patterns that repeat.
--     later        a time, so many cycles later
--     Repeats      after n cycles a pattern has the same events again, n cycles later
--     RepeatLaw    so it has in any arc
use Rattle.std.specs.Prelude.{◌≡◌, ℕ, ℤ, pos, ◌+ℤ◌, map}
use Rattle.tdl_fraction.specs.Rational.{Rational, whole, ◌+ℚ◌}
use Rattle.tdl_fraction.specs.Arc.{Arc, map_arc}
use Rattle.tdl_meaning.specs.Pattern.{Pattern, over, moved}

abbrev pub later : ℕ → Rational → Rational
later n t = t +ℚ whole (pos n)

abbrev pub Repeats : ℕ → Pattern → Type 0
Repeats n p = (c : ℤ) → p (c +ℤ pos n) ≡ map (moved (later n)) (p c)

abbrev pub RepeatLaw : Type 0
RepeatLaw = (n : ℕ) (p : Pattern) → Repeats n p → (a : Arc) → over p (map_arc (later n) a) ≡ map (moved (later n)) (over p a)
