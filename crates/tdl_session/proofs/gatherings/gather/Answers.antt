use Rattle.std.proofs.Common.{sym, subst, List}
use Rattle.tdl_session.specs.Gatherings.{EachEnded}
use Rattle.tdl_session.proofs.gatherings.gather.Goals as goal

pub returns-clause-did : goal.returns-clause-did
returns-clause-did g c = let called = c.call_from_spots-led in let closed = c.close_all-machine in let met = closed.ensures.met in
    let history = g.M.Chronicle.history closed.result.0 in
    let did = called.ensures.did history met.0 c.did_law-2.ensures met.1 in
    subst (λ f. EachEnded g.D.Caller.did f 1 history c.args.callers.now called.new.callers closed.result.1.items) c.in-Ok.ensures.ok.2
    (subst (λ (ends : List g.row.D-End.Denot). EachEnded g.D.Caller.did c.in-Ok.shared.1 1 history c.args.callers.now called.new.callers ends)
    (sym closed.ensures.ends) did)
