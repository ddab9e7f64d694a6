use Rattle.std.proofs.Common.{refl}
use Rattle.std.specs.Option.{option_copied}
use Rattle.tdl_desk.proofs.LaterLists.{at_stop}
use Rattle.tdl_desk.proofs.fields.Field.at.Goals as goal

pub returns-then-later-cycle : goal.returns-then-later-cycle
returns-then-later-cycle g c = rw (← c.self.view_is)
    (at_stop c.self.inside.pending.items c.loop-later.next _ c.args.cycle (option_copied c.loop-later.value) c.self.inside.present c.in-Some.later.now
    c.self.inside.pending.ok.0 (c.in-Some.ensures.variant.0 refl) c.in-Some.ensures.lookup c.self.invariant c.if-later-cycle.true c.loop-later.invariant)
