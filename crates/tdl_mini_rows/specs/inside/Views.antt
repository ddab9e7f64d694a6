-- What values of the program stand for, over the nodes of a table where they name rows.
--     steps_at, AreSteps          rows with weights
--     LowersSteps
--     LowersToSteps               the answer of what lowers steps
--     play_of, finish_with        plays, and ways to join the steps of a sequence
--     layers_rows, sequence_rows, group_rows, element_rows, range_rows, selected_rows    the rows of parts of a text
use Rattle.std.specs.Prelude.{◌≡◌, ℕ, List, map, All, Result, MatchResult}
use Rattle.tdl_expr.specs.declared.ids.NodeId.{NodeId}
use Rattle.tdl_expr.specs.declared.nodes.Node.{Node}
use Rattle.tdl_expr.specs.declared.tables.PushFault.{PushFault}
use Rattle.tdl_expr.specs.Rows.{IsRow, tree_at}
use Rattle.tdl_mini_rows.specs.declared.joins.WeightedRow.{WeightedRow}
use Rattle.tdl_mini_rows.specs.declared.paces.Finish.{Finish as Way}
use Rattle.tdl_mini_rows.specs.declared.paces.Finish.TheVariants.{InTurn, AtPace, CycleEach}
use Rattle.tdl_mini_rows.specs.declared.play.Play.{Play as Played}
use Rattle.tdl_mini_rows.specs.declared.play.Play.TheVariants.{Values, Indices}
use Rattle.tdl_mini_tree.specs.declared.leaves.Number.{Number}
use Rattle.tdl_mini_tree.specs.declared.tree.Element.{Element}
use Rattle.tdl_mini_tree.specs.declared.tree.Group.{Group}
use Rattle.tdl_mini_tree.specs.declared.tree.Layers.{Layers}
use Rattle.tdl_mini_tree.specs.declared.tree.NestId.{NestId}
use Rattle.tdl_mini_tree.specs.declared.tree.Sequence.{Sequence}
use Rattle.tdl_mini_tree.specs.Sizes.{unit}
use Rattle.tdl_mini_tree.specs.Values.{range_of}
use Rattle.tdl_mini_tree.specs.View.{trees_of, named, sequence_of, group_of, element_of}
use Rattle.tdl_rows.specs.Built.{Built}
use Rattle.tdl_rows.specs.Joined.{Weighted, Argument}
use Rattle.tdl_mini_rows.specs.Leaves.{Play, leaf_of, index_leaf}
use Rattle.tdl_mini_rows.specs.Lowered.{Finish, in_turn, at_pace, a_cycle_each}
use Rattle.tdl_mini_rows.specs.Lowered.{range_built, selected, indices_of, layers_built, sequence_built, group_built, element_built}
use Rattle.tdl_rows.specs.Lowers.{Gains, Refused}

abbrev pub step_at : List Node → WeightedRow → Weighted
step_at nodes s = record { parts = s.parts; tree = tree_at nodes s.id }

abbrev pub steps_at : List Node → List WeightedRow → List Weighted
steps_at nodes steps = map (step_at nodes) steps

-- a step of weight 1
abbrev pub step_of : NodeId → WeightedRow
step_of id = record { parts = unit; id = id }

abbrev pub AreRows : List Node → List WeightedRow → Type 0
AreRows nodes steps = All (λ s. IsRow nodes s.id) steps

abbrev pub rows_of : List WeightedRow → List NodeId
rows_of steps = map (λ s. s.id) steps

abbrev pub counts_of : List WeightedRow → List ℕ
counts_of steps = map (λ s. s.parts) steps

pub record AreSteps (nodes : List Node) (values : List Weighted) (steps : List WeightedRow) : Type 0 where
  pub rows : AreRows nodes steps
  pub are : steps_at nodes steps ≡ values

pub record LowersSteps (old new : List Node) (built : Built (List Weighted)) (steps : List WeightedRow) : Type 0 where
  pub rows : AreRows new steps
  pub are : steps_at new steps ≡ built.value
  pub gains : Gains old new built.rows

-- what a call that answers these steps put into the table
abbrev pub LowersToSteps : {A : Type 0} → (A → List WeightedRow) → List Node → List Node → Built (List Weighted) → Result A PushFault → Type 0
LowersToSteps steps old new built result = MatchResult result (λ a. LowersSteps old new built (steps a)) (Refused old new built.rows)

abbrev pub play_of : Played → Play
play_of (Values kind) = leaf_of kind
play_of (Indices numbers) = index_leaf numbers.now

abbrev pub finish_with : Way → Finish
finish_with InTurn = in_turn
finish_with (AtPace rate) = at_pace rate
finish_with CycleEach = a_cycle_each

-- ---- the parts of a text, as the program has them, in a play
abbrev pub layers_rows : Played → Way → List Layers → NestId → Built (List Weighted)
layers_rows play finish nests id = layers_built (play_of play) (finish_with finish) (named (trees_of nests) id)

abbrev pub sequence_rows : Played → List Layers → Sequence → Built (List Weighted)
sequence_rows play nests sequence = sequence_built (play_of play) (sequence_of (trees_of nests) sequence.groups.items)

abbrev pub group_rows : Played → List Layers → Group → Built (List Weighted)
group_rows play nests group = group_built (play_of play) (group_of (trees_of nests) group.elements.items)

-- after steps that are there
abbrev pub element_rows : Played → List Layers → List Node → List WeightedRow → Element → Built (List Weighted)
element_rows play nests nodes steps element = element_built (play_of play) (steps_at nodes steps) (element_of (trees_of nests) element)

-- and the whole numbers from one to another, after such steps
abbrev pub range_rows : Played → List Node → List WeightedRow → Number → Number → Built (List Weighted)
range_rows play nodes steps first last = range_built (play_of play) (steps_at nodes steps) (range_of first last)

abbrev pub selected_rows : Way → List Layers → NestId → Built Argument
selected_rows finish nests id =
    let ls = named (trees_of nests) id in
    selected ls (layers_built (indices_of ls) (finish_with finish) ls)
