-- The size after the element fits, so what makes it does.
use Rattle.std.proofs.Common.{◌∙◌}
use Rattle.tdl_mini_tree.specs.declared.tree.Element.TheVariants.{Hold, Repeat}
use Rattle.tdl_mini_tree.proofs.GroupSizes.{fits_as}
use Rattle.tdl_mini_tree.proofs.sizes.Size.and_element.Goals as goal

pub and_steps-requires-clause-steps : goal.and_steps-requires-clause-steps
and_steps-requires-clause-steps c = rw (c.from.ensures ∙ c.times_of.ensures) (fits_as c.args.self _ _ c.in-Played.is c.requires).steps

pub and_steps-requires-clause-sum : goal.and_steps-requires-clause-sum
and_steps-requires-clause-sum c =
    rw (c.from.ensures ∙ c.times_of.ensures, c.weight_of.ensures.value) (fits_as c.args.self _ _ c.in-Played.is c.requires).sum

pub and_steps-requires-in-Range-clause-steps : goal.and_steps-requires-in-Range-clause-steps
and_steps-requires-in-Range-clause-steps c = rw c.range_length.ensures.value (fits_as c.args.self _ _ c.in-Range.is c.requires).steps

pub and_steps-requires-in-Range-clause-sum : goal.and_steps-requires-in-Range-clause-sum
and_steps-requires-in-Range-clause-sum c = rw c.range_length.ensures.value (fits_as c.args.self _ _ c.in-Range.is c.requires).sum

pub and_hold-requires-clause-sum : goal.and_hold-requires-clause-sum
and_hold-requires-clause-sum c = (fits_as c.args.self _ Hold c.in-Hold.is c.requires).sum

pub and_hold-requires-clause-last : goal.and_hold-requires-clause-last
and_hold-requires-clause-last c = (fits_as c.args.self _ Hold c.in-Hold.is c.requires).last

pub and_steps-requires-in-Repeat-clause-steps : goal.and_steps-requires-in-Repeat-clause-steps
and_steps-requires-in-Repeat-clause-steps c = (fits_as c.args.self _ Repeat c.in-Repeat.is c.requires).steps

pub and_steps-requires-in-Repeat-clause-sum : goal.and_steps-requires-in-Repeat-clause-sum
and_steps-requires-in-Repeat-clause-sum c = (fits_as c.args.self _ Repeat c.in-Repeat.is c.requires).sum
