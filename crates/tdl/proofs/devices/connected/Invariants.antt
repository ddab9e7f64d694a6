use Rattle.std.proofs.Common.{◌≡◌, length}
use Rattle.tdl.proofs.devices.connected.Given as goal

abbrev pub invariant-loop : goal.invariant-loop
invariant-loop l = length l.ports.items ≡ l.counter
