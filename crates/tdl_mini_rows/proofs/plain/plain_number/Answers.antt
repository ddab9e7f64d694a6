-- A name is the number that its layers are; past the last there is none.
use Rattle.std.proofs.Common.{take, sym, ap, ◌∙◌}
use Rattle.tdl_mini_tree.specs.View.{trees_of}
use Rattle.tdl_mini_rows.specs.Lowered.{plain_number}
use Rattle.tdl_mini_tree.proofs.Named.{named-at, named-past}
use Rattle.tdl_mini_rows.proofs.plain.plain_number.Goals as goal

pub returns-in-Some : goal.returns-in-Some
returns-in-Some c =
    let found = c.in-Some.ensures.lookup in
    let before = trees_of (take c.args.id.index c.args.nests.now) in
    c.plain_layers.ensures before ∙ ap plain_number (sym (named-at c.args.nests.now c.args.id c.in-Some.layers.now found.3.0 found.1))

pub returns-in-None : goal.returns-in-None
returns-in-None c =
    let past = c.in-None.ensures.lookup in
    ap plain_number (sym (named-past c.args.nests.now c.args.id past.3))
