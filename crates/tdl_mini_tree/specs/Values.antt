-- The values of a text that is an argument.
--     values_of       the numbers that its steps play, in the order in which they are written; those of
--                     factors and of arguments inside it are not among them
--     is_accepted     whether there is a rhythm for each choice of hits and steps
use Rattle.std.specs.Prelude.{ℕ, zero, suc, Bool, true, ℤ, pos, ◌+ℤ◌, ◌-ℤ◌, List, [], ◌∷◌, ◌++◌, map, if◌then◌else◌}
use Rattle.std.specs.List.{list_all}
use lib.Signed.{le_z}
use Rattle.tdl_fraction.specs.Rational.{Rational, whole}
use Rattle.tdl_euclid.specs.Refusal.{has_rhythm}
use Rattle.tdl_mini_tree.specs.declared.leaves.Number.{Number}
use Rattle.tdl_mini_tree.specs.Numbers.{signed, number_value}
use Rattle.tdl_mini_tree.specs.Sizes.{range_length}
use Rattle.tdl_mini_tree.specs.Tree as tree

-- so many whole numbers from one on, rising or falling by one
abbrev pub counted : Bool → ℕ → ℤ → List ℤ
counted rising zero from = []
counted rising (suc more) from = from ∷ counted rising more (if rising then from +ℤ pos 1 else from -ℤ pos 1)

abbrev pub integer_of : Number → ℤ
integer_of n = signed n.is_negative n.whole

-- the whole numbers of a range
abbrev pub range_of : Number → Number → List ℤ
range_of a b = counted (le_z (integer_of a) (integer_of b)) (range_length a b) (integer_of a)

abbrev pub value_number : tree.Value → List Rational
value_number (tree.sound text n) = []
value_number (tree.name text) = []
value_number (tree.note n) = []
value_number (tree.truth b) = []
value_number (tree.number n) = number_value n ∷ []

abbrev mutual
  pub values_of : tree.Layers → List Rational
  values_of tree.no_layer = []
  values_of (tree.layer ls s) = values_of ls ++ sequence_values s

  pub sequence_values : tree.Sequence → List Rational
  sequence_values tree.no_group = []
  sequence_values (tree.group s g) = sequence_values s ++ group_values g

  pub group_values : tree.Group → List Rational
  group_values tree.no_element = []
  group_values (tree.element g e) = group_values g ++ element_values e

  pub element_values : tree.Element → List Rational
  element_values (tree.played s weight times) = step_values s
  element_values (tree.range a b) = map whole (range_of a b)
  element_values tree.hold = []
  element_values tree.repeat = []

  pub step_values : tree.MiniStep → List Rational
  step_values (tree.begins t) = term_values t
  step_values (tree.fast s o) = step_values s
  step_values (tree.slow s o) = step_values s
  step_values (tree.euclid s k n) = step_values s
  step_values (tree.euclid_from s k n r) = step_values s

  pub term_values : tree.Term → List Rational
  term_values (tree.value v) = value_number v
  term_values tree.rest = []
  term_values (tree.bracketed o) = operand_values o

  -- of the first bracket alone, since the others are factors
  pub operand_values : tree.Operand → List Rational
  operand_values (tree.scaled bs n) = braces_values bs
  operand_values (tree.nested tree.no_brace shape ls) = values_of ls
  operand_values (tree.nested (tree.brace bs first) shape ls) = braces_values (tree.brace bs first)

  pub braces_values : tree.Braces → List Rational
  braces_values tree.no_brace = []
  braces_values (tree.brace tree.no_brace ls) = values_of ls
  braces_values (tree.brace (tree.brace bs first) ls) = braces_values (tree.brace bs first)

abbrev pub is_accepted : List Rational → List Rational → Bool
is_accepted hits steps = list_all (λ k. list_all (λ n. has_rhythm k.num n.num) steps) hits

-- without a choice of where to begin there is no rhythm to take
abbrev pub is_accepted_from : List Rational → List Rational → List Rational → Bool
is_accepted_from hits steps [] = true
is_accepted_from hits steps (from ∷ others) = is_accepted hits steps
