-- Counts of faults over one call after another.
use Rattle.std.proofs.Common.{ℕ, ◌≤◌, inl, inr, arith}
use Rattle.tdl_io.specs.Faults.{CountRose}

-- a count that rises after a call that kept it
pub rose_after : {old mid new : ℕ} → old ≤ mid → CountRose mid new → CountRose old new
rose_after {old} {mid} {new} kept later = record {
  kept = omega arith;
  rose = elim later.rose [ inl above ↦ inl (omega arith) | inr full ↦ inr full ];
}
