use Rattle.std.proofs.Common.{◌≡◌, length}
use Rattle.std.specs.List.{All}
use Rattle.tdl_rows.specs.Arguments.{HasBoundedParts}
use Rattle.tdl_reader_tests.proofs.combinator.numbers_from.Given as goal

abbrev pub invariant-loop-i : goal.invariant-loop-i
invariant-loop-i l = (length l.numbers ≡ l.i) × All HasBoundedParts l.numbers
