use Rattle.std.proofs.Common.{List, length, IsTrue, sym, ap, subst}
use Rattle.tdl_mini_tree.specs.declared.tree.Layers.{Layers}
use Rattle.tdl_mini_tree.specs.Valid.{is_valid}
use Rattle.tdl_mini_tree.specs.Values.{values_of}
use Rattle.tdl_mini_tree.specs.View.{named, trees_of}
use Rattle.tdl_mini_rows.specs.Leaves.{leaf_of}
use Rattle.tdl_mini_rows.specs.Lowered.{in_turn, layers_built, stacked}
use Rattle.tdl_rows.proofs.Gained.{exit_refused, Refused-first}
use Rattle.tdl_mini_rows.proofs.Parts.{stacked_row}
use Rattle.tdl_rows.proofs.Gained.{LowersTo-same, Refused-same}
use Rattle.tdl_mini_rows.proofs.BuiltCounts.{fills-in_turn}
use Rattle.tdl_mini_rows.proofs.LoweredBounds.{sequences-few}
use Rattle.tdl_mini_rows.proofs.Turns.{none-turn}
use Rattle.tdl_mini_rows.proofs.texts.lower.Goals as goal

pub returns-in_err-sequences : goal.returns-in_err-sequences
returns-in_err-sequences c =
    let same = ap (λ (ns : List Layers). stacked (layers_built (leaf_of c.args.tree.now.kind) in_turn (named (trees_of ns) c.args.tree.now.root)))
    c.deref.ensures.value in
    exit_refused _ _ c.from_residual.result c.from_residual.ensures.1 (Refused-same _ _ _ _ _ same (Refused-first _ c.in_err-sequences.ensures))

pub returns : goal.returns
returns c =
    let same = ap (λ (ns : List Layers). stacked (layers_built (leaf_of c.args.tree.now.kind) in_turn (named (trees_of ns) c.args.tree.now.root)))
    c.deref.ensures.value in
    LowersTo-same _ _ _ _ c.stack_of.result same
    (stacked_row _ _ c.in_ok-sequences.sequences.items _ c.stack_of.result c.in_ok-sequences.ensures c.deref-2.ensures c.stack_of.ensures)

pub layers_of-requires-clause-valid : goal.layers_of-requires-clause-valid
layers_of-requires-clause-valid c =
    let P : List Layers → Type 0 = λ ns. IsTrue (is_valid c.args.tree.now.kind (named (trees_of ns) c.args.tree.now.root)) in
    subst P (sym c.deref.ensures.value) c.args.tree.now.valid

pub layers_of-requires-clause-turn : goal.layers_of-requires-clause-turn
layers_of-requires-clause-turn c = none-turn (length c.args.table.now) (values_of (named (trees_of c.deref.result.now) c.args.tree.now.root))

pub stack_of-requires-clause-few : goal.stack_of-requires-clause-few
stack_of-requires-clause-few c =
    sequences-few (leaf_of c.args.tree.now.kind) in_turn fills-in_turn
    (named (trees_of c.deref.result.now) c.args.tree.now.root) c.in_ok-sequences.sequences.items c.deref-2.result.now c.deref-2.ensures
    c.in_ok-sequences.ensures
