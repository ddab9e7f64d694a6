use Rattle.std.proofs.Common.{subst, sym}
use Rattle.tdl_session.specs.inside.Spots.{HaveMet}
use Rattle.tdl_session.proofs.meetings.close_all.Goals as goal

pub returns-clause-met : goal.returns-clause-met
returns-clause-met g c = let met = c.meet_all.new.pass in (
  met.made,
  subst (λ h. HaveMet g.M.Chronicle.by h met.made c.args.spots.items) (sym c.close-machine.ensures.history) c.meet_all.ensures.met,
)
