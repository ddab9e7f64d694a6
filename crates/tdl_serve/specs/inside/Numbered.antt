-- The ends of ports, with their numbers from one on.
use Rattle.std.specs.Prelude.{ℕ, ◌+◌, List, [], ◌∷◌}
use Rattle.tdl_log.specs.declared.ends.Ending.{Ending}
use Rattle.tdl_log.specs.declared.ends.PortEnd.{PortEnd}

abbrev pub numbered : ℕ → List PortEnd → List Ending
numbered number [] = []
numbered number (end ∷ ends) = record { port = number; end = end } ∷ numbered (number + 1) ends
