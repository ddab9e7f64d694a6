use Rattle.std.proofs.Common.{◌≡◌, replicate}
use Rattle.tdl_euclid.specs.Euclid.{flat}
use Rattle.tdl_euclid.proofs.bits.Bits.repeat.Given as goal

abbrev pub invariant-loop : goal.invariant-loop
invariant-loop l = l.all ≡ flat (replicate l.counter l.self)
