use Rattle.std.proofs.Common.{rules, ap, ◌∙◌}
use Rattle.tdl_turn.proofs.SeatSteps.{draws, looks}
use Rattle.tdl_turn.proofs.moves.wait.Goals as goal

pub fetch_add-ticket-requires : goal.fetch_add-ticket-requires
fetch_add-ticket-requires g c = (search rules, search rules, draws _ _ _ _ _ _ _ c.requires.token.0 c.requires.token.1)

pub load-served-requires : goal.load-served-requires
load-served-requires g c = let drawn = c.fetch_add-ticket.ensures.2 in
    (search rules, search rules, looks _ _ _ _ _ _ _ drawn.0 (ap (λ m. m.0.stage) (c.loop.invariant.1 ∙ drawn.2)))
