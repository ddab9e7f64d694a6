use Rattle.std.proofs.Common.{refl}
use Rattle.tdl_desk.proofs.LaterLists.{last_looked}
use Rattle.tdl_desk.proofs.pending.is_last_from.Goals as goal

pub returns-in-Some : goal.returns-in-Some
returns-in-Some g c =
    last_looked c.args.pending.now.items c.in-Some.later.now _ c.args.boundary c.args.pending.now.ok.0 (c.in-Some.ensures.variant.0 refl) c.in-Some.ensures.lookup
