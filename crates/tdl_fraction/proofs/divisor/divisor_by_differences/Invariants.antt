use Rattle.std.proofs.Common.{◌≡◌, ◌+◌, ◌%◌}
use Rattle.tdl_fraction.specs.Divisor.{gcd}
use Rattle.tdl_fraction.proofs.divisor.divisor_by_differences.Given as goal

abbrev pub invariant-loop-x : goal.invariant-loop-x
invariant-loop-x l = record {
  first : l.x % 2 ≡ 1;
  second : l.y % 2 ≡ 1;
  divisor : gcd l.x l.y ≡ gcd l.fn.a l.fn.b;
}

abbrev pub decreases-loop-x : goal.decreases-loop-x
decreases-loop-x l = l.x + l.y
