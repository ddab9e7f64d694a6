use Rattle.tdl_fraction.proofs.Parts.{frac-same, IsFraction-parts}
use Rattle.tdl_fraction.proofs.WholeWords.{plus_whole_num, plus_whole_den}
use Rattle.tdl_fraction.proofs.fraction.Frac.add_whole.Goals as goal

pub invariant_of-result : goal.invariant_of-result
invariant_of-result c =
    let n = c.numerator.ensures in
    let d = c.denominator-den.ensures in
    IsFraction-parts _ _ _
    (plus_whole_num c.args.self c.args.count _ _ c.ranges.count n.in_range n.value d.value)
    (plus_whole_den c.args.self c.args.count _ _ c.ranges.count n.in_range n.value d.value) c.requires

pub returns : goal.returns
returns c =
    let n = c.numerator.ensures in
    let d = c.denominator-den.ensures in
    frac-same _ _ _
    (plus_whole_num c.args.self c.args.count _ _ c.ranges.count n.in_range n.value d.value)
    (plus_whole_den c.args.self c.args.count _ _ c.ranges.count n.in_range n.value d.value)
