use Rattle.tdl_meaning.proofs.Rounds.{turn_worked_out}
use Rattle.tdl_meaning.proofs.cycle.Cycle.turn.Goals as goal

pub returns-clause-turn : goal.returns-clause-turn
returns-clause-turn c = rw (← c.self.view_is)
    (turn_worked_out c.self.inside.number c.args.patterns c.rem_euclid.result c.self.invariant c.requires.some c.requires.few c.rem_euclid.ensures.value)
