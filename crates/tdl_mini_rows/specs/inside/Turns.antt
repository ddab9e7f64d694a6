-- Numbers that become their indices among choices: the index of each is no more than how many came before it.
--     choices_of       the numbers whose indices a play gives
--     AreInTurn        such numbers, before which so many came
--     ComeInTurn       such numbers that are played next, in a table with a row at least for each that came before
--     FitInTable       such numbers, before which no more came than a table has rows
use Rattle.std.specs.Prelude.{ℕ, suc, ◌≤◌, List, [], ◌∷◌, length}
use Rattle.tdl_expr.specs.Rows.{max_rows}
use Rattle.tdl_fraction.specs.Rational.{Rational}
use Rattle.tdl_expr.specs.declared.nodes.Node.{Node}
use Rattle.tdl_mini_rows.specs.declared.play.Play.{Play as Played}
use Rattle.tdl_mini_rows.specs.declared.play.Play.TheVariants.{Values, Indices}
use Rattle.tdl_mini_rows.specs.Leaves.{index_in}

abbrev pub choices_of : Played → List Rational
choices_of (Values kind) = []
choices_of (Indices numbers) = numbers.now

abbrev pub AreInTurn : List Rational → ℕ → List Rational → Type 0
AreInTurn choices before [] = Unit {0}
AreInTurn choices before (value ∷ others) = (index_in choices value ≤ before) × AreInTurn choices (suc before) others

abbrev pub ComeInTurn : Played → List Node → List Rational → Type 0
ComeInTurn play nodes values = AreInTurn (choices_of play) (length nodes) values

abbrev pub FitInTable : List Rational → List Rational → Type 0
FitInTable choices values = AreInTurn choices max_rows values
