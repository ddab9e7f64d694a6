use Rattle.std.proofs.Common.{rules}
use Rattle.tdl_fraction.proofs.Arcs.{meet_inside_left, inside_trans}
use Rattle.tdl_event.proofs.events.Event.cut.Goals as goal

pub invariant_of-self : goal.invariant_of-self
invariant_of-self c =
    let before = c.self.inside.part in
    inside_trans c.in-Some.part before c.self.inside.whole (meet_inside_left before c.args.arc c.in-Some.part (search rules)) c.self.invariant
