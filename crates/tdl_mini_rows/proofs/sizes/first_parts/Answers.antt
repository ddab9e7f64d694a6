-- The first sequence of a name lasts as long as that of its layers; past the last there is none.
use Rattle.std.proofs.Common.{take, sym, ap, ◌∙◌}
use Rattle.tdl_mini_tree.specs.View.{trees_of}
use Rattle.tdl_mini_rows.specs.Lowered.{first_parts}
use Rattle.tdl_mini_tree.proofs.Named.{named-at, named-past, named_valid}
use Rattle.tdl_mini_rows.proofs.sizes.first_parts.Goals as goal

pub parts_of_layers-requires : goal.parts_of_layers-requires
parts_of_layers-requires c =
    let found = c.in-Some.ensures.lookup in (
      c.requires.0,
      (
        trees_of (take c.args.id.index c.args.nests.now),
        named_valid c.args.nests.now c.args.id c.in-Some.layers.now found.3.0 found.1 c.requires.0 c.requires.1,
      ),
    )

pub returns-in-Some-clause-value : goal.returns-in-Some-clause-value
returns-in-Some-clause-value c =
    let found = c.in-Some.ensures.lookup in
    c.parts_of_layers.ensures.value (trees_of (take c.args.id.index c.args.nests.now))
    ∙ ap first_parts (sym (named-at c.args.nests.now c.args.id c.in-Some.layers.now found.3.0 found.1))

pub returns-in-None-clause-value : goal.returns-in-None-clause-value
returns-in-None-clause-value c =
    let past = c.in-None.ensures.lookup in
    ap first_parts (sym (named-past c.args.nests.now c.args.id past.3))
