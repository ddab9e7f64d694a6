-- The terminals of a syntax tree, a line for each form of the grammar, and on them the rules that the tree
-- has to meet besides.
--     Terminal        a mark, a value in a text of a kind, a number, a count after `!`, or the text's end
--     Pieces          terminals in their order, and rules on some that stand together
--     spell           the pieces of the layers of a text of a kind
--     terminals       the terminals of pieces, without the rules
--     IsTokenOf       a terminal stands at a token
use Rattle.std.specs.Prelude.{◌≡◌, ℕ, true, false, Option, Some, None, List, [], ◌∷◌, ◌++◌}
use Rattle.tdl_mini_tree.specs.declared.leaves.Number.{Number}
use Rattle.tdl_mini_tree.specs.declared.leaves.Bracket.TheVariants.{Brace}
use Rattle.tdl_mini_tree.specs.declared.leaves.Kind.{Kind}
use Rattle.tdl_mini_tree.specs.declared.leaves.Kind.TheVariants.{Count, Ratio}
use Rattle.tdl_mini_machine.specs.declared.marks.Mark.{Mark}
use Rattle.tdl_mini_machine.specs.declared.marks.Mark.TheVariants as mark
use Rattle.tdl_mini_machine.specs.Tokens.{Tok, digits, value_of}
use Rattle.tdl_mini_machine.specs.Tokens as token
use Rattle.tdl_mini_machine.specs.Rules.{Rule, number_rules, sample_rule, factor_rule, weight_rule, count_rule, euclid_rule, euclid_from_rule, size_rule}
use Rattle.tdl_mini_machine.specs.Rules.{repeat_rule, dot_rule}
use Rattle.tdl_mini_tree.specs.Tree as tree
use Rattle.tdl_mini_tree.specs.Tree.{kind_after}

pub data Terminal : Type 0 where
  sign : Mark → Terminal
  value : Kind → tree.Value → Terminal
  numeral : Number → Terminal
  count : Number → Terminal
  end : Terminal

abbrev pub IsTokenOf : Terminal → Tok → Type 0
IsTokenOf (sign m) t = t ≡ token.mark m
IsTokenOf (value kind v) t = value_of kind t ≡ Some v
IsTokenOf (numeral n) t = (text : List ℕ) × (t ≡ digits n text false)
IsTokenOf (count n) t = (text : List ℕ) × (t ≡ digits n text true)
IsTokenOf end t = t ≡ token.end

infixr 3 ◌▸◌
infix 4 ◌obeying◌
pub data Pieces : Type 0 where
  nothing : Pieces
  spells : Terminal → Pieces
  ◌▸◌ : Pieces → Pieces → Pieces
  ◌obeying◌ : Pieces → List Rule → Pieces

abbrev pub terminals : Pieces → List Terminal
terminals nothing = []
terminals (spells x) = x ∷ []
terminals (a ▸ b) = terminals a ++ terminals b
terminals (a obeying rules) = terminals a

-- ---- pieces
abbrev pub marked : Mark → Pieces
marked m = spells (sign m)

abbrev pub value_pieces : Kind → tree.Value → Pieces
value_pieces kind (tree.sound text None) = spells (value kind (tree.sound text None))
value_pieces kind (tree.sound text (Some n)) =
    spells (value kind (tree.sound text None)) ▸ marked mark.Colon ▸ spells (numeral n) obeying (sample_rule n ∷ [])
value_pieces kind (tree.name text) = spells (value kind (tree.name text))
value_pieces kind (tree.note n) = spells (value kind (tree.note n))
value_pieces kind (tree.truth b) = spells (value kind (tree.truth b))
value_pieces kind (tree.number n) = spells (value kind (tree.number n)) obeying number_rules kind n

abbrev pub weight_pieces : Option Number → Pieces
weight_pieces None = nothing
weight_pieces (Some n) = marked mark.At ▸ spells (numeral n) obeying (weight_rule n ∷ [])

-- a count with which a step ends this group
abbrev pub count_pieces : tree.Sequence → tree.Group → Option Number → Pieces
count_pieces s g None = nothing
count_pieces s g (Some n) = (marked mark.Repeat ▸ spells (count n) obeying (count_rule n ∷ [])) obeying (size_rule s g ∷ [])

-- what stands between the layers, or groups, that there are and the next
abbrev pub comma_after : tree.Layers → Pieces
comma_after tree.no_layer = nothing
comma_after (tree.layer ls s) = marked mark.Comma

abbrev pub dot_after : tree.Sequence → Pieces
dot_after tree.no_group = nothing
dot_after (tree.group s g) = marked mark.Dot obeying (dot_rule (tree.group s g) ∷ [])

abbrev mutual
  pub layers_pieces : Kind → tree.Layers → Pieces
  layers_pieces kind tree.no_layer = nothing
  layers_pieces kind (tree.layer ls s) = layers_pieces kind ls ▸ comma_after ls ▸ sequence_pieces kind s

  pub sequence_pieces : Kind → tree.Sequence → Pieces
  sequence_pieces kind tree.no_group = nothing
  sequence_pieces kind (tree.group s g) = sequence_pieces kind s ▸ dot_after s ▸ group_pieces kind s g

  -- after these groups
  pub group_pieces : Kind → tree.Sequence → tree.Group → Pieces
  group_pieces kind s tree.no_element = nothing
  group_pieces kind s (tree.element g e) = group_pieces kind s g ▸ element_pieces kind s g e

  -- after these groups and the elements of this one
  pub element_pieces : Kind → tree.Sequence → tree.Group → tree.Element → Pieces
  element_pieces kind s g (tree.played step weight times) =
      (step_pieces kind step ▸ weight_pieces weight) obeying (size_rule s (tree.element g (tree.played step weight None)) ∷ [])
      ▸ count_pieces s (tree.element g (tree.played step weight times)) times
  element_pieces kind s g (tree.range a b) =
      (spells (value kind (tree.number a)) obeying number_rules kind a ▸ marked mark.Range ▸ spells (numeral b) obeying number_rules kind b)
      obeying (size_rule s (tree.element g (tree.range a b)) ∷ [])
  element_pieces kind s g tree.hold = marked mark.Hold obeying (size_rule s (tree.element g tree.hold) ∷ [])
  element_pieces kind s g tree.repeat = marked mark.Repeat obeying (repeat_rule s (tree.element g tree.repeat) ∷ [])

  pub step_pieces : Kind → tree.MiniStep → Pieces
  step_pieces kind (tree.begins t) = term_pieces kind t
  step_pieces kind (tree.fast s o) = step_pieces kind s ▸ marked mark.Star ▸ operand_pieces Ratio o
  step_pieces kind (tree.slow s o) = step_pieces kind s ▸ marked mark.Slash ▸ operand_pieces Ratio o
  step_pieces kind (tree.euclid s k n) =
      step_pieces kind s ▸ marked mark.OpenRound ▸ layers_pieces Count k ▸ marked mark.Comma ▸ layers_pieces Count n
      ▸ marked mark.CloseRound obeying (euclid_rule k n ∷ [])
  step_pieces kind (tree.euclid_from s k n r) =
      step_pieces kind s ▸ marked mark.OpenRound ▸ layers_pieces Count k ▸ marked mark.Comma ▸ layers_pieces Count n
      ▸ marked mark.Comma ▸ layers_pieces Count r ▸ marked mark.CloseRound obeying (euclid_from_rule k n r ∷ [])

  pub term_pieces : Kind → tree.Term → Pieces
  term_pieces kind (tree.value v) = value_pieces kind v
  term_pieces kind tree.rest = marked mark.Rest
  term_pieces kind (tree.bracketed o) = operand_pieces kind o

  pub operand_pieces : Kind → tree.Operand → Pieces
  operand_pieces kind (tree.scaled bs n) = braces_pieces kind bs ▸ spells (numeral n) obeying (factor_rule n ∷ [])
  operand_pieces kind (tree.nested bs shape ls) =
      braces_pieces kind bs ▸ marked (mark.Open shape) ▸ layers_pieces (kind_after kind bs) ls ▸ marked (mark.Close shape)

  pub braces_pieces : Kind → tree.Braces → Pieces
  braces_pieces kind tree.no_brace = nothing
  braces_pieces kind (tree.brace bs ls) =
      braces_pieces kind bs ▸ marked (mark.Open Brace) ▸ layers_pieces (kind_after kind bs) ls ▸ marked (mark.Close Brace) ▸ marked mark.Percent

abbrev pub spell : Kind → tree.Layers → Pieces
spell kind ls = layers_pieces kind ls ▸ spells end
