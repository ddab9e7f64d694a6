use Rattle.std.proofs.Common.{◌≡◌, ap, sym, ◌∙◌, Some, is_some, true≢false, unwrap_or}
use mathlib.Core.Option.{some-injective}
use Rattle.tdl_turn.proofs.Ends.{closes}
use Rattle.tdl_turn.proofs.moves.close_table.Goals as goal

pub unreachable-requires : goal.unreachable-requires
unreachable-requires g c =
    let h = closes _ _ _ _ _ _ _ _ c.requires.token.0 c.requires.token.1 c.close_with-closed.ensures.values.2 in
    let e : Some h.0 ≡ c.take.result = some-injective _ _ (sym h.1 ∙ c.take.ensures.value) in true≢false (ap (λ o. is_some o) (e ∙ c.in_default.is))

pub returns-clause-history : goal.returns-clause-history
returns-clause-history g c =
    let h = closes _ _ _ _ _ _ _ _ c.requires.token.0 c.requires.token.1 c.close_with-closed.ensures.values.2 in
    let e : Some h.0 ≡ Some c.in-Some.value = some-injective _ _ (sym h.1 ∙ c.take.ensures.value) ∙ c.in-Some.is in
    ap (λ o. g.V.Chronicle.history (unwrap_or o h.0)) (sym e) ∙ h.2

pub returns-clause-fixed : goal.returns-clause-fixed
returns-clause-fixed g c =
    let h = closes _ _ _ _ _ _ _ _ c.requires.token.0 c.requires.token.1 c.close_with-closed.ensures.values.2 in
    let e : Some h.0 ≡ Some c.in-Some.value = some-injective _ _ (sym h.1 ∙ c.take.ensures.value) ∙ c.in-Some.is in
    ap (λ o. g.V.Chronicle.fixed (unwrap_or o h.0)) (sym e) ∙ h.3
