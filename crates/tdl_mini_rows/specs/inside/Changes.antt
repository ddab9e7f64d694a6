-- A step that is changed further, by its tree.
use Rattle.std.specs.Prelude.{Option, Some, None, List, pos}
use Rattle.tdl_fraction.specs.Rational.{whole}
use Rattle.tdl_expr.specs.Tree.{Tree}
use Rattle.tdl_mini_tree.specs.declared.tree.StepChange.{StepChange}
use Rattle.tdl_mini_tree.specs.declared.tree.StepChange.TheVariants.{Fast, Slow, Euclid}
use Rattle.tdl_mini_tree.specs.Tree.{Layers}
use Rattle.tdl_mini_tree.specs.View.{named, operand_of}
use Rattle.tdl_mini_tree.specs.declared.tree.NestId.{NestId}
use Rattle.tdl_rows.specs.Built.{Built, kept, ◌▸◌}
use Rattle.tdl_rows.specs.Joined.{Argument, plain, choose, fast_of, slow_of, euclid_of}
use Rattle.tdl_mini_rows.specs.Lowered.{factor_built, argument_of}

-- where a rhythm begins: at the first step, if nothing is written
abbrev pub from_built : List Layers → Option NestId → Built Argument
from_built trees None = kept (plain (whole (pos 0)))
from_built trees (Some r) = argument_of (named trees r)

-- the rows that come after those of the step
abbrev pub change_built : List Layers → Tree → StepChange → Built Tree
change_built trees t (Fast o) = factor_built (operand_of trees o) ▸ λ factor. choose factor (λ rate. fast_of rate t)
change_built trees t (Slow o) = factor_built (operand_of trees o) ▸ λ factor. choose factor (λ rate. slow_of rate t)
change_built trees t (Euclid k n from) =
    argument_of (named trees k) ▸ λ hits. argument_of (named trees n) ▸ λ steps. from_built trees from ▸ λ first.
    choose hits (λ k'. choose steps (λ n'. choose first (λ r'. euclid_of t k' n' r')))
