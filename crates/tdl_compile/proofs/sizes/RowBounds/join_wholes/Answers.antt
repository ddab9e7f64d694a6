use Rattle.std.proofs.Common.{◌≡◌, ◌+◌, ◌*◌, ℕ, max, refl, ap, ◌∙◌, arith}
use Rattle.std.proofs.Math.Nat.{max_comm}
use Rattle.tdl_expr.specs.declared.joinings.Side.TheVariants.{Left, Right}
use Rattle.tdl_expr.specs.Tree.{Join}
use Rattle.tdl_compile.specs.Compiled.{capped}
use Rattle.tdl_compile.proofs.Growing.{left_below, right_below}
use Rattle.tdl_compile.proofs.OtherKinds.{left_stands, right_stands}
use Rattle.tdl_compile.proofs.sizes.RowBounds.join_wholes.Goals as goal

pub returns-clause-left : goal.returns-clause-left
returns-clause-left c = λ op d e valid s t.
    let growth = c.args.self.growth in
    let span : c.capped-span.result ≡ capped (2 * c.args.self.hang + 1) = omega arith in
    let events : c.max.result ≡ max 1 c.args.self.count = c.max.ensures ∙ max_comm c.args.self.count 1 in
    c.with_own.ensures (Join Left op d e)
    (left_stands d e c.args.self c.args.other _ c.capped-span.result c.saturating_mul-events.result c.saturating_mul-asked.result
    c.saturating_mul-visits.result c.saturating_add-own.result s.bounds t.bounds span c.saturating_mul-events.ensures
    (c.saturating_mul-asked.ensures ∙ ap (λ (n : ℕ). capped (n * c.capped-span.result)) events)
    c.saturating_mul-visits.ensures c.saturating_add-own.ensures c.saturating_mul-2.ensures c.saturating_add-2.ensures refl
    c.least_multiple.ensures.value op valid)
    (left_below op d e c.args.self c.args.other _ valid.0 s t
    (c.with.ensures.finer ∙ ap (λ (n : ℕ). max growth.finer n) c.at_wholes.ensures.finer)
    (c.with.ensures.further ∙ ap (λ (n : ℕ). max growth.further n) c.at_wholes.ensures.further))

pub returns-clause-right : goal.returns-clause-right
returns-clause-right c = λ op d e valid s t.
    let growth = c.args.self.growth in
    let span : c.capped-span.result ≡ capped (2 * c.args.self.hang + 1) = omega arith in
    let events : c.max.result ≡ max 1 c.args.self.count = c.max.ensures ∙ max_comm c.args.self.count 1 in
    c.with_own.ensures (Join Right op e d)
    (right_stands d e c.args.self c.args.other _ c.capped-span.result c.saturating_mul-events.result c.saturating_mul-asked.result
    c.saturating_mul-visits.result c.saturating_add-own.result s.bounds t.bounds span c.saturating_mul-events.ensures
    (c.saturating_mul-asked.ensures ∙ ap (λ (n : ℕ). capped (n * c.capped-span.result)) events)
    c.saturating_mul-visits.ensures c.saturating_add-own.ensures c.saturating_mul-2.ensures c.saturating_add-2.ensures refl
    c.least_multiple.ensures.value op valid)
    (right_below op d e c.args.self c.args.other _ valid.1 s t
    (c.with.ensures.finer ∙ ap (λ (n : ℕ). max growth.finer n) c.at_wholes.ensures.finer)
    (c.with.ensures.further ∙ ap (λ (n : ℕ). max growth.further n) c.at_wholes.ensures.further))
