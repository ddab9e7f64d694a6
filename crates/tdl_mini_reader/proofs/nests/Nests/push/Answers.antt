-- Further layers come behind those that are there.
use Rattle.std.proofs.Common.{◌∙◌, sym, ap, rules, ◌++◌, ◌∷◌, []}
use Rattle.tdl_mini_tree.specs.View.{trees_of}
use Rattle.tdl_mini_tree.proofs.ViewPushes.{trees_of-append, length-trees_of}
use Rattle.tdl_mini_tree.proofs.SpanPlaces.{fits_place}
use Rattle.tdl_mini_reader.proofs.nests.Nests.push.Goals as goal

pub overflow_cast-index : goal.overflow_cast-index
overflow_cast-index c =
    let nests = c.args.self.now in
    let e = fits_place nests.layers.items c.len-index.result (c.len-index.ensures ∙ nests.layers.ok.0) c.requires.room in
    search rules

pub returns-clause-index : goal.returns-clause-index
returns-clause-index c =
    let nests = c.args.self.now in
    c.len-index.ensures ∙ nests.layers.ok.0 ∙ sym (length-trees_of nests.layers.items)

pub returns-clause-trees : goal.returns-clause-trees
returns-clause-trees c =
    let further = c.in_ok-push.ensures.items ∙ ap (λ ls. ls ++ c.args.layers ∷ []) c.in_ok-make_room.ensures in
    ap trees_of further ∙ trees_of-append c.args.self.now.layers.items c.args.layers
