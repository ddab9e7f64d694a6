-- A vector has fewer than 2 ^ 63 elements, so that the steps fit too.
use Rattle.std.proofs.Common.{◌<◌, ◌^◌, length, ap, arith}
use Rattle.tdl_mini_tree.proofs.GroupSizes.{next_fits, whole_sum, whole_light}
use Rattle.tdl_mini_tree.proofs.tree.Group.weights.Goals as goal

pub and_element-size-requires : goal.and_element-size-requires
and_element-size-requires c =
    let vector = c.args.self.now.elements in
    let few : length c.deref-element-items.result.now < 2 ^ 63 =
    omega (arith, ap length c.deref-element-items.ensures.value, vector.ok.0, vector.ok.1, vector.small) in
    next_fits _ _ c.deref-element-items.ensures.value c.requires c.loop-element.element-index c.element-item.result c.loop-element.size few
    c.loop-element-test.true c.element-item.is c.loop-element.invariant

pub returns-clause-value : goal.returns-clause-value
returns-clause-value c =
    whole_sum _ _ c.deref-element-items.ensures.value c.requires c.loop-element.element-index c.loop-element.size c.loop-element-test.false
    c.loop-element.invariant

pub returns-clause-small : goal.returns-clause-small
returns-clause-small c =
    whole_light _ _ c.deref-element-items.ensures.value c.requires c.loop-element.element-index c.loop-element.size c.loop-element.invariant
