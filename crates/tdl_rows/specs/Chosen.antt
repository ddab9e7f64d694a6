-- What is made with numbers that are chosen.
--     AllAmong       each choice of three numbers passes
--     StaysMade      while a table gains rows, what is made with a number speaks of its rows still, and is the same
--     StaysAmong     so with three numbers
use Rattle.std.specs.Prelude.{◌≡◌, List, All}
use Rattle.tdl_fraction.specs.Rational.{Rational}
use Rattle.tdl_expr.specs.Tree.{Tree}
use Rattle.tdl_rows.specs.Built.{Built}

abbrev pub AllAmong : (Rational → Rational → Rational → Type 0) → List Rational → List Rational → List Rational → Type 0
AllAmong P firsts seconds thirds = All (λ a. All (λ b. All (P a b) thirds) seconds) firsts

pub record StaysMade (Stands : Type 0) (before after : Rational → Built Tree) : Type 0 where
  pub stands : Stands
  pub same : (number : Rational) → after number ≡ before number

pub record StaysAmong (Stands : Type 0) (before after : Rational → Rational → Rational → Built Tree) : Type 0 where
  pub stands : Stands
  pub same : (a b c : Rational) → after a b c ≡ before a b c
