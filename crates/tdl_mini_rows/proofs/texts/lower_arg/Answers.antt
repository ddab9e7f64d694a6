use Rattle.std.proofs.Common.{List, IsTrue, sym, subst}
use Rattle.tdl_mini_tree.specs.declared.leaves.Kind.TheVariants.{Ratio}
use Rattle.tdl_mini_tree.specs.declared.tree.Layers.{Layers}
use Rattle.tdl_mini_tree.specs.Valid.{is_valid}
use Rattle.tdl_mini_tree.specs.View.{named, trees_of}
use Rattle.tdl_mini_rows.proofs.ValidSteps.{argument_valid}
use Rattle.tdl_mini_rows.proofs.ArgumentBounds.{bounded_result}
use Rattle.tdl_mini_rows.proofs.texts.lower_arg.Goals as goal

pub argument_of-requires : goal.argument_of-requires
argument_of-requires c =
    let P : List Layers → Type 0 = λ ns. IsTrue (is_valid Ratio (named (trees_of ns) c.args.tree.now.root)) in
    let ratio = argument_valid c.args.tree.now.kind (named (trees_of c.args.tree.now.nests.items) c.args.tree.now.root) c.requires c.args.tree.now.valid in
    record { valid = subst P (sym c.deref.ensures.value) ratio }

pub returns-clause-bounded : goal.returns-clause-bounded
returns-clause-bounded c =
    let kind = c.args.tree.now.kind in
    let P : List Layers → Type 0 = λ ns. IsTrue (is_valid kind (named (trees_of ns) c.args.tree.now.root)) in
    let valid = subst P (sym c.deref.ensures.value) c.args.tree.now.valid in
    let layers = named (trees_of c.deref.result.now) c.args.tree.now.root in
    bounded_result kind layers valid (argument_valid kind layers c.requires valid) _ _ c.argument_of.result c.argument_of.ensures
