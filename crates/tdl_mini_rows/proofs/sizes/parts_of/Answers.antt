use Rattle.std.proofs.Common.{◌≤◌, length, arith}
use Rattle.tdl_mini_rows.proofs.PlainViews.{parts_several}
use Rattle.tdl_mini_tree.proofs.ValidParts.{few_groups}
use Rattle.tdl_mini_rows.proofs.sizes.parts_of.Goals as goal

pub overflow_mul-result : goal.overflow_mul-result
overflow_mul-result c =
    let few : length c.as_slice.result.now ≤ 1024 = few_groups c.requires.0 c.requires.1.0 _ c.as_slice.result.now c.as_slice.ensures c.requires.1.1 in
    omega arith

pub returns-in_default-clause-small : goal.returns-in_default-clause-small
returns-in_default-clause-small c =
    let few : length c.as_slice.result.now ≤ 1024 = few_groups c.requires.0 c.requires.1.0 _ c.as_slice.result.now c.as_slice.ensures c.requires.1.1 in
    omega arith

pub returns-in_default-clause-value : goal.returns-in_default-clause-value
returns-in_default-clause-value c = λ trees. parts_several trees c.as_slice.result.now _ c.as_slice.ensures (λ e. omega arith) (λ e. omega arith)
