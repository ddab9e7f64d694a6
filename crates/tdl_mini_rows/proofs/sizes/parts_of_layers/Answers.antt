use Rattle.std.proofs.Common.{arith}
use Rattle.tdl_mini_rows.proofs.PlainViews.{first_of_layers}
use Rattle.tdl_mini_tree.proofs.ValidParts.{sequence_at}
use Rattle.tdl_mini_rows.proofs.sizes.parts_of_layers.Goals as goal

pub returns-in-len1-up-clause-value : goal.returns-in-len1-up-clause-value
returns-in-len1-up-clause-value c =
    λ trees. first_of_layers trees c.as_slice.result.now _ c.first-item.result _ c.parts_of.result c.as_slice.ensures c.in-len1-up.len_at_least
    c.first-item.is (c.parts_of.ensures.value trees)

pub parts_of-requires : goal.parts_of-requires
parts_of-requires c = (
  c.requires.0,
  (
    c.requires.1.0,
    sequence_at c.requires.0 c.requires.1.0 _ c.as_slice.result.now 0 c.first-item.result c.as_slice.ensures
        (omega arith) c.first-item.is c.requires.1.1,
  ),
)
