use Rattle.std.proofs.Common.{rules, ◌<◌, ◌^◌, [], ◌∷◌, ◌++◌, length, ap, sym, ◌∙◌, subst, ⊎_elim}
use Rattle.tdl_turn.specs.Numbers.{Among}
use Rattle.tdl_turn.proofs.SeatSteps.{counts, enters}
use Rattle.tdl_turn.proofs.moves.enter.Goals as goal

pub load-requires : goal.load-requires
load-requires g c = (search rules, search rules, counts _ _ _ _ _ _ _ c.requires.token.0.0 c.requires.token.0.1)

pub fetch_add-requires : goal.fetch_add-requires
fetch_add-requires g c =
    let same = c.load.ensures.2.0 in let t = c.requires.token in let x = c.args.value.now.value in
    let short : length (g.V.Chronicle.history x) < 2 ^ 64 = search rules in (
      search rules,
      search rules,
      ⊎_elim (λ e. absurd (search rules))
          (λ e. enters _ _ _ _ _ _ _ t.0.0 x e.0 (ap (λ m. m.0.stage) same ∙ t.0.1) (ap (λ m. m.1) same ∙ t.1) (e.1 ∙ ap (λ m. m.0.seen ++ e.0 ∷ []) (sym same))
          (e.2 ∙ ap (λ m. m.0.number) (sym same)) (subst (λ m. Among m.0.number m.0.made) (sym same) c.requires.own) short)
          c.requires.value.0,
    )
