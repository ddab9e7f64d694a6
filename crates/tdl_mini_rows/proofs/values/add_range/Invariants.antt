use Rattle.std.proofs.Common.{◌≡◌, map}
use lib.Signed.{le_z}
use Rattle.std.specs.List.{fold}
use Rattle.tdl_fraction.specs.Rational.{whole}
use Rattle.tdl_mini_tree.specs.Values.{integer_of, counted}
use Rattle.tdl_mini_rows.specs.Leaves.{and_distinct}
use Rattle.tdl_mini_rows.proofs.values.add_range.Given as goal

abbrev pub invariant-loop-i : goal.invariant-loop-i
invariant-loop-i l = l.numbers ≡ fold and_distinct l.initial.numbers
    (map whole (counted (le_z (integer_of l.first) (integer_of l.last)) l.i (integer_of l.first)))
