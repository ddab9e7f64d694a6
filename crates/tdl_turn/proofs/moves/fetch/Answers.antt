use Rattle.std.proofs.Common.{rules, ap, sym, ◌∙◌, Some, ◌∷◌}
use Rattle.atomic_table.specs.Table.{rest}
use Rattle.tdl_turn.proofs.SeatSteps.{learns, fetches}
use Rattle.tdl_turn.proofs.moves.fetch.Goals as goal

pub load-requires : goal.load-requires
load-requires g c = (search rules, search rules, learns _ _ _ _ _ _ _ c.requires.token.0 c.requires.token.1)

pub load-requires-2 : goal.load-requires-2
load-requires-2 g c = (search rules, search rules, fetches _ _ _ _ _ _ _ _ (ap (λ m. m.0.stage) c.load.ensures.2.2))

pub exchange-requires : goal.exchange-requires
exchange-requires g c = let t = c.load-2.ensures.2 in let e = ap (λ m. m.1) t.3 in (search rules, (Some t.0, e ∙ ap (λ l. (0, Some t.0) ∷ rest l) (sym e)))
