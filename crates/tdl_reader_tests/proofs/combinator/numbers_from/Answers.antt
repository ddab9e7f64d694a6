use Rattle.std.proofs.Common.{[], ◌∷◌, ap, sym, subst, arith, length, length-append}
use Rattle.std.proofs.lemmas.Int.{ints}
use Rattle.std.specs.List.{All}
use Rattle.tdl_rows.specs.Arguments.{HasBoundedParts}
use Rattle.tdl_rows.proofs.Loops.{All-one_more}
use Rattle.tdl_rows.proofs.RateRows.{whole_bounded}
use Rattle.tdl_reader_tests.proofs.combinator.numbers_from.Goals as goal

pub loop-i-preserved : goal.loop-i-preserved
loop-i-preserved c =
    let number = c.whole.result in
    let pushed = c.in_ok-push.ensures.ok in
    let bounded : HasBoundedParts number = subst HasBoundedParts (sym c.whole.ensures)
    (whole_bounded _ (omega (arith, ints, c.from.ensures, c.from-in-loop-i.ensures))) in (
      omega (arith, ap length pushed, length-append c.loop-i.numbers (number ∷ []), c.loop-i.invariant.0),
      subst (All HasBoundedParts) (sym pushed) (All-one_more HasBoundedParts c.loop-i.numbers number c.loop-i.invariant.1 bounded),
    )
