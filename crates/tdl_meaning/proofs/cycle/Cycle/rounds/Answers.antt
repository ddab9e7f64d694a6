use Rattle.tdl_meaning.proofs.Rounds.{rounds_worked_out}
use Rattle.tdl_meaning.proofs.cycle.Cycle.rounds.Goals as goal

pub returns : goal.returns
returns c = rw (← c.self.view_is)
    (rounds_worked_out c.self.inside.number c.args.patterns c.div_euclid.result c.self.invariant c.requires.some c.requires.few c.div_euclid.ensures)
