-- The syntax trees that the program's values stand for, over the trees of the layers that they name.
--     layers_of        the tree of layers
--     trees_of         the trees of the layers in a list, each over those before it
use Rattle.std.specs.Prelude.{Option, Some, None, List, [], ◌∷◌, ◌++◌, get_or}
use Rattle.std.specs.List.{fold}
use Rattle.tdl_control.specs.Word.{word_bytes}
use Rattle.tdl_fraction.specs.Rational.{Rational}
use Rattle.tdl_mini_tree.specs.declared.leaves.Value.{Value}
use Rattle.tdl_mini_tree.specs.declared.leaves.Value.TheVariants as value
use Rattle.tdl_mini_tree.specs.declared.tree.NestId.{NestId}
use Rattle.tdl_mini_tree.specs.declared.tree.Layers.{Layers}
use Rattle.tdl_mini_tree.specs.declared.tree.Sequence.{Sequence}
use Rattle.tdl_mini_tree.specs.declared.tree.Group.{Group}
use Rattle.tdl_mini_tree.specs.declared.tree.Element.{Element}
use Rattle.tdl_mini_tree.specs.declared.tree.Element.TheVariants as element
use Rattle.tdl_mini_tree.specs.declared.tree.MiniStep.{MiniStep}
use Rattle.tdl_mini_tree.specs.declared.tree.StepChange.{StepChange}
use Rattle.tdl_mini_tree.specs.declared.tree.StepChange.TheVariants as change
use Rattle.tdl_mini_tree.specs.declared.tree.Term.{Term}
use Rattle.tdl_mini_tree.specs.declared.tree.Term.TheVariants as term
use Rattle.tdl_mini_tree.specs.declared.tree.Operand.{Operand}
use Rattle.tdl_mini_tree.specs.declared.tree.Last.{Last}
use Rattle.tdl_mini_tree.specs.declared.tree.Last.TheVariants as last
use Rattle.tdl_mini_tree.specs.Values.{values_of}
use Rattle.tdl_mini_tree.specs.Tree as tree

abbrev pub value_of : Value → tree.Value
value_of (value.Sound word n) = tree.sound (word_bytes word) n
value_of (value.Name word) = tree.name (word_bytes word)
value_of (value.Note n) = tree.note n
value_of (value.Truth b) = tree.truth b
value_of (value.Number n) = tree.number n

-- the layers of a name; past the last there are none
abbrev pub named : List tree.Layers → NestId → tree.Layers
named trees id = get_or trees id.index tree.no_layer

-- the values of layers that are named; none without a name
abbrev pub named_values : List tree.Layers → Option NestId → List Rational
named_values trees None = []
named_values trees (Some id) = values_of (named trees id)

abbrev pub braces_of : List tree.Layers → List NestId → tree.Braces
braces_of trees ids = fold (λ bs id. tree.brace bs (named trees id)) tree.no_brace ids

abbrev pub operand_with : List tree.Layers → tree.Braces → Last → tree.Operand
operand_with trees bs (last.Number n) = tree.scaled bs n
operand_with trees bs (last.Nest shape id) = tree.nested bs shape (named trees id)

abbrev pub operand_of : List tree.Layers → Operand → tree.Operand
operand_of trees o = operand_with trees (braces_of trees o.braces.items) o.last

abbrev pub term_of : List tree.Layers → Term → tree.Term
term_of trees (term.Value v) = tree.value (value_of v)
term_of trees term.Rest = tree.rest
term_of trees (term.Bracketed o) = tree.bracketed (operand_of trees o)

abbrev pub changed : List tree.Layers → tree.MiniStep → StepChange → tree.MiniStep
changed trees s (change.Fast o) = tree.fast s (operand_of trees o)
changed trees s (change.Slow o) = tree.slow s (operand_of trees o)
changed trees s (change.Euclid k n None) = tree.euclid s (named trees k) (named trees n)
changed trees s (change.Euclid k n (Some r)) = tree.euclid_from s (named trees k) (named trees n) (named trees r)

abbrev pub step_of : List tree.Layers → MiniStep → tree.MiniStep
step_of trees s = fold (changed trees) (tree.begins (term_of trees s.term)) s.changes.items

abbrev pub element_of : List tree.Layers → Element → tree.Element
element_of trees (element.Played s weight times) = tree.played (step_of trees s) weight times
element_of trees (element.Range a b) = tree.range a b
element_of trees element.Hold = tree.hold
element_of trees element.Repeat = tree.repeat

abbrev pub group_of : List tree.Layers → List Element → tree.Group
group_of trees elements = fold (λ g e. tree.element g (element_of trees e)) tree.no_element elements

abbrev pub sequence_of : List tree.Layers → List Group → tree.Sequence
sequence_of trees groups = fold (λ s g. tree.group s (group_of trees g.elements.items)) tree.no_group groups

abbrev pub layers_of : List tree.Layers → List Sequence → tree.Layers
layers_of trees sequences = fold (λ ls s. tree.layer ls (sequence_of trees s.groups.items)) tree.no_layer sequences

-- the trees of further layers, after those that are there
abbrev pub trees_on : List tree.Layers → List Layers → List tree.Layers
trees_on trees [] = trees
trees_on trees (ls ∷ others) = trees_on (trees ++ layers_of trees ls.sequences.items ∷ []) others

abbrev pub trees_of : List Layers → List tree.Layers
trees_of nests = trees_on [] nests
