use Rattle.std.proofs.Common.{◌≡◌, take}
use Rattle.tdl_expr.specs.Weights.{ten_thousandths}
use Rattle.tdl_prepare.specs.inside.Parts.{weights_of}
use Rattle.tdl_prepare.proofs.lists.weights_of.Given as goal

abbrev pub invariant-loop-part : goal.invariant-loop-part
invariant-loop-part l = l.weights.items ≡ ten_thousandths (weights_of (take l.part-index l.parts))
