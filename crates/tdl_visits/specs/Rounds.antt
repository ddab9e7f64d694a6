-- What a cycle plays of children by turns.
--     IsChosenChild  the child whose turn it is, and the cycle that it plays then
use Rattle.std.specs.Prelude.{◌≡◌, ◌<◌, List, length, get_or, ℤ}
use Rattle.tdl_expr.specs.declared.ids.NodeId.{NodeId}
use Rattle.tdl_meaning.specs.Pattern.{rounds, turn}
use Rattle.tdl_visits.specs.declared.rounds.ChosenChild.{ChosenChild}

pub record IsChosenChild (ids : List NodeId) (c : ℤ) (round : ChosenChild) : Type 0 where
  pub within : turn c (length ids) < length ids
  pub child : round.child ≡ get_or ids (turn c (length ids)) round.child
  pub cycle : round.cycle ≡ rounds c (length ids)
