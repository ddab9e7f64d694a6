use Rattle.tdl_fraction.proofs.Order.{≤ℚ_from_<ℚ}
use Rattle.tdl_tempo.proofs.Tempo.micros.Goals as goal

pub scaled-exact-requires-clause-from_zero : goal.scaled-exact-requires-clause-from_zero
scaled-exact-requires-clause-from_zero c = ≤ℚ_from_<ℚ c.requires
