use Rattle.std.proofs.Common.{rules, ◌∷◌, Some, ap, sym, ◌∙◌}
use Rattle.atomic_table.specs.Table.{rest}
use Rattle.tdl_turn.proofs.SeatSteps.{has_slot, passes}
use Rattle.tdl_turn.proofs.moves.give_token.Goals as goal

pub fetch_add-served-requires : goal.fetch_add-served-requires
fetch_add-served-requires g c =
    let slot = has_slot c.args.token.now.me c.requires.token.0.1 c.requires.token.1 in let put = c.exchange-emptied.ensures.3 in
    let seat = c.enter.ensures.seat in let x = c.args.value in (
      search rules,
      search rules,
      passes _ _ _ _ _ _ _ slot.0 x (seat.1 ∙ (ap (λ m. m.0.stage) put ∙ slot.1)) (seat.2 ∙ (ap (λ m. m.1) put ∙ ap (λ l. (0, Some x) ∷ rest l) slot.2))
          (ap g.V.Chronicle.history (sym c.of-given.ensures) ∙ sym c.enter.ensures.seen)
          (seat.0.1 ∙ (ap (λ m. m.0.fixed) put ∙ (c.requires.board.1.1 ∙ ap Some (sym c.requires.fixed)))),
    )
