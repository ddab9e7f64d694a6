-- The rules that a tree of mini-notation has to meet besides its form: on numbers, Euclids and sizes.
--     Rule            a rule on tokens that stand together
--     number_rules    the rules on a number as a value; size_rule, on an element, and so on
--     Test            a rule with the indices of the tokens that it speaks of
--     number_tests    the rules on a number that stands at an index; token_tests, on a value of one token
use Rattle.std.specs.Prelude.{ℕ, suc, Bool, true, false, nat_le, List, [], ◌∷◌, map}
use Rattle.tdl_grammar.specs.Grammar as grammar
use Rattle.tdl_mini_tree.specs.declared.leaves.Number.{Number}
use Rattle.tdl_mini_tree.specs.declared.leaves.Kind.{Kind}
use Rattle.tdl_mini_tree.specs.declared.leaves.Kind.TheVariants.{Sound, Note, Int, Word, Bool as Truths, Count, Ratio}
use Rattle.tdl_mini_tree.specs.declared.faults.MiniKind.{MiniKind}
use Rattle.tdl_mini_tree.specs.declared.faults.MiniKind.TheVariants.{FloatValue, BadEuclid, BadFactor, TooManySteps}
use Rattle.tdl_mini_tree.specs.Limits.{max_groups}
use Rattle.tdl_mini_tree.specs.Numbers.{is_whole, is_ratio, is_count, is_weight}
use Rattle.tdl_mini_tree.specs.Sizes.{size_of, steps_of, groups_of, is_within}
use Rattle.tdl_mini_tree.specs.Values.{values_of, is_accepted, is_accepted_from}
use Rattle.tdl_mini_tree.specs.Tree as tree
use Rattle.tdl_mini_tree.specs.Tree.{Value, sound, number}

-- The fault stands at the first of these tokens and shows at the last; where the rule waits, it shows at the
-- token after them, if that is not joined to them.
pub record Rule : Type 0 where
  pub kind : MiniKind
  pub waits : Bool
  pub holds : Bool

-- ---- rules
abbrev pub rule : MiniKind → Bool → Rule
rule kind holds = record { kind = kind; waits = false; holds = holds }

-- on a number as a value, or as an end of a range
abbrev pub number_rules : Kind → Number → List Rule
number_rules Sound n = rule FloatValue (is_whole n) ∷ []
number_rules (Note key) n = rule FloatValue (is_whole n) ∷ []
number_rules (Int key) n = rule FloatValue (is_whole n) ∷ []
number_rules (Word key) n = rule FloatValue (is_whole n) ∷ []
number_rules Truths n = rule FloatValue (is_whole n) ∷ []
number_rules Count n = rule FloatValue (is_whole n) ∷ rule BadFactor (is_ratio n) ∷ []
number_rules Ratio n = rule BadFactor (is_ratio n) ∷ []

-- on the number after a `:`, on a factor, on a weight, and on the count after a `!`
abbrev pub sample_rule : Number → Rule
sample_rule n = rule FloatValue (is_whole n)

abbrev pub factor_rule : Number → Rule
factor_rule n = rule BadFactor (is_ratio n)

abbrev pub weight_rule : Number → Rule
weight_rule n = rule BadFactor (is_weight n)

abbrev pub count_rule : Number → Rule
count_rule n = rule BadFactor (is_count n)

-- on the end of a Euclid's arguments
abbrev pub euclid_rule : tree.Layers → tree.Layers → Rule
euclid_rule k n = rule BadEuclid (is_accepted (values_of k) (values_of n))

abbrev pub euclid_from_rule : tree.Layers → tree.Layers → tree.Layers → Rule
euclid_from_rule k n r = rule BadEuclid (is_accepted_from (values_of k) (values_of n) (values_of r))

-- the steps in the groups before and those of this group are not too many
abbrev pub steps_rule : (waits : Bool) → tree.Sequence → tree.Group → Rule
steps_rule waits s g = record { kind = TooManySteps; waits = waits; holds = is_within (steps_of s) (size_of g) }

-- on an element that ends a group, and on a `!`, of which a digit directly after it would be the count
abbrev pub size_rule : tree.Sequence → tree.Group → Rule
size_rule s g = steps_rule false s g

abbrev pub repeat_rule : tree.Sequence → tree.Group → Rule
repeat_rule s g = steps_rule true s g

-- on a dot after these groups
abbrev pub dot_rule : tree.Sequence → Rule
dot_rule s = rule TooManySteps (nat_le (suc (groups_of s)) max_groups)

-- ---- tests
abbrev pub Test : Type 0
Test = grammar.Test MiniKind ℕ

-- a rule on what stands from one index up to another
abbrev pub test_between : ℕ → ℕ → Rule → Test
test_between at ends r = record { kind = r.kind; at = at; ends = ends; waits = r.waits; holds = r.holds }

-- a rule on one token
abbrev pub test_at : ℕ → Rule → Test
test_at at r = test_between at (suc at) r

abbrev pub on_token : MiniKind → ℕ → Bool → Test
on_token kind at holds = test_at at (rule kind holds)

-- a number as a value, or as an end of a range
abbrev pub number_tests : Kind → ℕ → Number → List Test
number_tests kind at n = map (test_between at (suc at)) (number_rules kind n)

-- the tests of a value that is one token
abbrev pub token_tests : Kind → ℕ → Value → List Test
token_tests kind at (sound text n) = []
token_tests kind at (tree.name text) = []
token_tests kind at (tree.note n) = []
token_tests kind at (tree.truth b) = []
token_tests kind at (number n) = number_tests kind at n
