-- What is known of what is lowered, since the text is valid.
--     is_rate            a number that a text or the size of a sequence gives
--     argument_values    the numbers that an argument may be
--     AreShares          weights above 0 whose sum is not too great
--     AreShort           steps that last not too long
--     AreFew             no more than a table has rows
--     AreSequences       sequences of a text: short and few
--     kind_of, is_played the kind whose values a play takes, where it takes some
--     is_change          a change in a valid text
use Rattle.std.specs.Prelude.{◌+◌, ◌*◌, ◌^◌, ◌<◌, ◌≤◌, Bool, true, not, ◌&&◌, nat_le, nat_abs, Option, Some, None, List, [], ◌∷◌, length, All, IsTrue, sum}
use Rattle.std.specs.List.{list_all}
use Rattle.tdl_fraction.specs.Rational.{Rational}
use Rattle.tdl_control.specs.Limits.{max_denominator}
use Rattle.tdl_expr.specs.Rows.{max_rows}
use Rattle.tdl_mini_tree.specs.Limits.{max_ratio, max_weights, unit}
use Rattle.tdl_mini_tree.specs.declared.leaves.Kind.{Kind}
use Rattle.tdl_mini_tree.specs.declared.leaves.Kind.TheVariants.{Ratio}
use Rattle.tdl_mini_tree.specs.declared.tree.NestId.{NestId}
use Rattle.tdl_mini_tree.specs.declared.tree.StepChange.{StepChange}
use Rattle.tdl_mini_tree.specs.declared.tree.StepChange.TheVariants.{Fast, Slow, Euclid}
use Rattle.tdl_mini_tree.specs.Tree.{Layers}
use Rattle.tdl_mini_tree.specs.Values.{values_of, is_accepted, is_accepted_from}
use Rattle.tdl_mini_tree.specs.Valid.{is_valid, is_valid_operand}
use Rattle.tdl_mini_tree.specs.View.{named, operand_of}
use Rattle.tdl_mini_rows.specs.declared.joins.WeightedRow.{WeightedRow}
use Rattle.tdl_mini_rows.specs.declared.paces.Finish.{Finish as Way}
use Rattle.tdl_mini_rows.specs.declared.paces.Finish.TheVariants.{InTurn, AtPace, CycleEach}
use Rattle.tdl_mini_rows.specs.declared.play.Play.{Play as Played}
use Rattle.tdl_mini_rows.specs.declared.play.Play.TheVariants.{Values, Indices}
use Rattle.tdl_mini_rows.specs.declared.brackets.Waiting.{Waiting}
use Rattle.tdl_rows.specs.Joined.{Argument, plain, picked}
use Rattle.tdl_mini_rows.specs.Arguments.{is_argument}
use Rattle.tdl_mini_rows.specs.inside.Views.{counts_of}

abbrev pub is_rate : Rational → Bool
is_rate r = nat_le (nat_abs r.num) (2 ^ 30) && nat_le r.den max_denominator && nat_le (nat_abs r.num) ((max_ratio + 1) * r.den)

abbrev pub are_rates : List Rational → Bool
are_rates values = list_all is_rate values

abbrev pub argument_values : Argument → List Rational
argument_values (plain value) = value ∷ []
argument_values (picked t values) = values

-- in ten-thousandths
pub record AreShares (steps : List WeightedRow) : Type 0 where
  pub positive : All (λ s. 0 < s.parts) steps
  pub sum : sum (counts_of steps) ≤ max_weights * unit

abbrev pub AreShort : List WeightedRow → Type 0
AreShort steps = All (λ s. s.parts ≤ 2 ^ 28) steps

-- no more than a table has rows
abbrev pub AreFew : {X : Type 0} → List X → Type 0
AreFew items = length items ≤ max_rows

-- sequences of a text
pub record AreSequences (steps : List WeightedRow) : Type 0 where
  pub short : AreShort steps
  pub few : AreFew steps

abbrev pub kind_of : Played → Kind
kind_of (Values kind) = kind
kind_of (Indices numbers) = Ratio

abbrev pub is_played : Played → Bool
is_played (Values kind) = not (is_argument kind)
is_played (Indices numbers) = true

abbrev pub is_way : Way → Bool
is_way InTurn = true
is_way (AtPace rate) = is_rate rate
is_way CycleEach = true

-- the sequences of braces that wait, and their values
pub record IsBounded (w : Waiting) : Type 0 where
  pub sequences : AreSequences w.sequences.items
  pub rates : IsTrue (are_rates w.values)
  pub few : AreFew w.values

abbrev pub AreBounded : List Waiting → Type 0
AreBounded ws = All IsBounded ws

-- where a rhythm begins, if that is written
abbrev pub is_from : List Layers → Option NestId → Bool
is_from trees None = true
is_from trees (Some r) = is_valid Ratio (named trees r)

abbrev pub is_accepted_at : List Layers → NestId → NestId → Option NestId → Bool
is_accepted_at trees k n None = is_accepted (values_of (named trees k)) (values_of (named trees n))
is_accepted_at trees k n (Some r) = is_accepted_from (values_of (named trees k)) (values_of (named trees n)) (values_of (named trees r))

abbrev pub is_change : List Layers → StepChange → Bool
is_change trees (Fast o) = is_valid_operand Ratio (operand_of trees o)
is_change trees (Slow o) = is_valid_operand Ratio (operand_of trees o)
is_change trees (Euclid k n from) = is_valid Ratio (named trees k) && is_valid Ratio (named trees n) && is_from trees from && is_accepted_at trees k n from
