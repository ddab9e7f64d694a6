use Rattle.std.proofs.Common.{ℕ, ◌∙◌, max, ap}
use Rattle.tdl_compile.proofs.Standing.{with_child, with_step}
use Rattle.tdl_compile.proofs.sizes.Group.with.Goals as goal

pub returns-clause-trees : goal.returns-clause-trees
returns-clause-trees c = λ e trees one valid rest s t.
    let growth = c.args.self.growth in
    with_child e trees c.args.first c.args.self _ c.args.weight one valid rest s t
    c.saturating_add.ensures c.max.ensures c.saturating_add-2.ensures c.max-2.ensures c.least_multiple.ensures.value
    (c.with.ensures.finer ∙ ap (λ (n : ℕ). max n growth.finer) c.asked_finer.ensures.finer)
    (c.with.ensures.further ∙ ap (λ (n : ℕ). max n growth.further) c.asked_finer.ensures.further)

pub returns-clause-steps : goal.returns-clause-steps
returns-clause-steps c = λ e steps p valid rest s t.
    let growth = c.args.self.growth in
    with_step c.args.weight e steps c.args.first c.args.self _ p valid rest s t
    c.saturating_add.ensures c.max.ensures c.saturating_add-2.ensures c.max-2.ensures c.least_multiple.ensures.value
    (c.with.ensures.finer ∙ ap (λ (n : ℕ). max n growth.finer) c.asked_finer.ensures.finer)
    (c.with.ensures.further ∙ ap (λ (n : ℕ). max n growth.further) c.asked_finer.ensures.further)
