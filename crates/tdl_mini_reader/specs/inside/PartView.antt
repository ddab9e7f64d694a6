-- What private contracts say of the stages and levels of the reader.
--     braced_step      the step of a role whose operand ends with a brace
--     StandsAt         the machine's stage, over any trees
--     IsPending        the step that ends at a stage
--     HasGroup         the level with another group
use Rattle.std.specs.Prelude.{◌≡◌, Bool, true, false, Option, Some, None, List}
use Rattle.tdl_mini_reader.specs.declared.stages.Role.{Role}
use Rattle.tdl_mini_reader.specs.declared.stages.Stage.{Stage}
use Rattle.tdl_mini_reader.specs.declared.stages.Stage.TheVariants as stage
use Rattle.tdl_mini_tree.specs.declared.leaves.Bracket.TheVariants as Bracket
use Rattle.tdl_mini_tree.specs.declared.tree.MiniStep.{MiniStep}
use Rattle.tdl_mini_tree.specs.declared.tree.NestId.{NestId}
use Rattle.tdl_mini_reader.specs.declared.levels.Level.{Level}
use Rattle.tdl_mini_tree.specs.Tree as tree
use Rattle.tdl_mini_tree.specs.View.{named, braces_of, step_of}
use Rattle.tdl_mini_machine.specs.Machine.States as machine
use Rattle.tdl_mini_machine.specs.Machine.States.{closed_layers, with_group}
use Rattle.tdl_mini_reader.specs.ReaderView.{role_of, stage_of, level_of}

-- the step of a role whose operand ends with a brace
abbrev pub braced_step : List tree.Layers → Role → List NestId → NestId → tree.MiniStep
braced_step trees role braces last =
    machine.step_by_role (role_of trees role) (tree.nested (braces_of trees braces) Bracket.Brace (named trees last))

-- the machine's stage, over any trees
abbrev pub StandsAt : (List tree.Layers → machine.Stage) → Stage → Type 0
StandsAt stands p = (trees : List tree.Layers) → stage_of trees p ≡ stands trees

-- the step that ends at a stage and is taken from it, or none at the stage that is kept
abbrev pub IsPending : Stage → Stage → Option MiniStep → Type 0
IsPending p next (Some step) = (next ≡ stage.Ready) × ((trees : List tree.Layers) → machine.pending (stage_of trees p) ≡ Some (step_of trees step))
IsPending p next None = (next ≡ p) × ((trees : List tree.Layers) → machine.pending (stage_of trees p) ≡ None)

-- a factor is wanted there; a weight
abbrev pub is_wanting : Stage → Bool
is_wanting stage.Ready = false
is_wanting (stage.Voiced word) = false
is_wanting (stage.Sampling word) = false
is_wanting (stage.Numbered n) = false
is_wanting (stage.Ranging n) = false
is_wanting (stage.Braced role braces last) = false
is_wanting (stage.Wanting role braces) = true
is_wanting (stage.Stepping step) = false
is_wanting (stage.Weighing step) = false
is_wanting (stage.Weighted step n) = false
is_wanting (stage.Repeating takes_count) = false
is_wanting stage.Ended = false

abbrev pub is_weighing : Stage → Bool
is_weighing stage.Ready = false
is_weighing (stage.Voiced word) = false
is_weighing (stage.Sampling word) = false
is_weighing (stage.Numbered n) = false
is_weighing (stage.Ranging n) = false
is_weighing (stage.Braced role braces last) = false
is_weighing (stage.Wanting role braces) = false
is_weighing (stage.Stepping step) = false
is_weighing (stage.Weighing step) = true
is_weighing (stage.Weighted step n) = false
is_weighing (stage.Repeating takes_count) = false
is_weighing stage.Ended = false

-- a step without a count ends there
abbrev pub ends_step : Stage → Bool
ends_step stage.Ready = false
ends_step (stage.Voiced word) = true
ends_step (stage.Sampling word) = false
ends_step (stage.Numbered n) = true
ends_step (stage.Ranging n) = false
ends_step (stage.Braced role braces last) = true
ends_step (stage.Wanting role braces) = false
ends_step (stage.Stepping step) = true
ends_step (stage.Weighing step) = false
ends_step (stage.Weighted step n) = true
ends_step (stage.Repeating takes_count) = false
ends_step stage.Ended = false

-- the level with a further sequence
abbrev pub level_after_comma : machine.Level → machine.Level
level_after_comma l = record { kind = l.kind; layers = closed_layers l; groups = tree.no_group; group = tree.no_element; start = 0 }

-- the level with another group
abbrev pub HasGroup : (List tree.Layers → tree.Group) → Level → Level → Type 0
HasGroup group old new = (trees : List tree.Layers) → level_of trees new ≡ with_group (level_of trees old) (group trees)
