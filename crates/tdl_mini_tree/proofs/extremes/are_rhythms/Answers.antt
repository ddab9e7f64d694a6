-- The last of four tests decides where the first three hold.
use Rattle.std.proofs.Common.{◌∙◌, sym}
use Rattle.tdl_mini_tree.proofs.SpanLemmas.{last_test, fails_and_holds}
use Rattle.tdl_mini_tree.proofs.extremes.are_rhythms.Goals as goal
use Rattle.tdl_mini_tree.proofs.extremes.are_rhythms.Goals.{then-least-ge1, else-least-ge1, then-most-le-MAX_RHYTHM, else-most-le-MAX_RHYTHM}

pub returns-then-high-least : goal.returns-then-high-least
returns-then-high-least c =
    elim c.if-most-le-MAX_RHYTHM.branch [
      | then-most-le-MAX_RHYTHM v ↦ elim c.if-least-ge1.branch [
        | then-least-ge1 w ↦
            last_test c.args.low c.args.high c.args.least c.args.most c.ranges.low c.ranges.high c.ranges.least c.ranges.most
            w.if-least-ge1.true (sym w.value-is ∙ v.if-most-le-MAX_RHYTHM.true) (sym v.value-is ∙ c.if-high-least.true)
        | else-least-ge1 w ↦ fails_and_holds w.if-least-ge1.false w.value-is v.if-most-le-MAX_RHYTHM.true
      ]
      | else-most-le-MAX_RHYTHM v ↦ fails_and_holds v.if-most-le-MAX_RHYTHM.false v.value-is c.if-high-least.true
    ]
