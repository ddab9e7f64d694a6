use Rattle.std.proofs.Common.{rules, ◌≡◌, Some}
use Rattle.tdl_fraction.specs.Arc.{meet}
use Rattle.tdl_meaning.specs.Kinds.{shared_whole}
use Rattle.tdl_meaning.proofs.kinds.Join.{part_in_shared}
use Rattle.tdl_meaning.proofs.joins.pair.Goals as goal

pub invariant_of-result : goal.invariant_of-result
invariant_of-result c =
    let part : meet c.left.inside.part c.right.inside.part ≡ Some c.in-Some.part = search rules in
    let whole : shared_whole c.args.side c.left.inside.whole c.right.inside.whole ≡ Some c.in-Some-shared_whole.whole = search rules in
    part_in_shared c.args.side c.left.inside.whole c.left.inside.part c.right.inside.whole c.right.inside.part _ _ c.left.invariant c.right.invariant
    whole part
