use Rattle.std.proofs.Common.{◌≡◌, ℕ, ◌*◌, ◌∙◌, max, ap, refl}
use Rattle.std.proofs.Math.Nat.{max_comm}
use Rattle.tdl_expr.specs.Tree.{Pick}
use Rattle.tdl_compile.specs.Compiled.{capped}
use Rattle.tdl_compile.proofs.Growing.{pick_below}
use Rattle.tdl_compile.proofs.Standing.{pick_stands}
use Rattle.tdl_compile.proofs.sizes.RowBounds.pick.Goals as goal

pub returns : goal.returns
returns c = λ e trees valid s t.
    let growth = c.args.self.growth in
    let events : c.max.result ≡ max 1 c.args.self.count = c.max.ensures ∙ max_comm c.args.self.count 1 in
    c.with_own.ensures (Pick e trees)
    (pick_stands e trees c.args.self c.args.choices _ c.saturating_add-selecting.result c.saturating_mul-visits.result valid.0 valid.1 s.bounds t
    c.saturating_mul.ensures c.saturating_add-selecting.ensures
    (c.saturating_mul-visits.ensures ∙ ap (λ (n : ℕ). capped (n * c.args.choices.loads)) events)
    c.saturating_add.ensures refl c.least_multiple.ensures.value)
    (pick_below e trees c.args.self c.args.choices.growth _ valid.0 s t.grows
    (c.with.ensures.finer ∙ ap (λ (n : ℕ). max growth.finer n) c.asked_finer.ensures.finer)
    (c.with.ensures.further ∙ ap (λ (n : ℕ). max growth.further n) c.asked_finer.ensures.further))
