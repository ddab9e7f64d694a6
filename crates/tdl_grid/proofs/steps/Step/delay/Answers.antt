use Rattle.std.proofs.Common.{◌*◌, ap, ◌∙◌}
use Rattle.tdl_grid.specs.Span.{Span}
use Rattle.tdl_grid.proofs.Sums.{cycle_read}
use Rattle.tdl_grid.proofs.Shares.{delay_read, delay_small}
use Rattle.tdl_grid.proofs.steps.Step.delay.Goals as goal

pub returns-clause-value : goal.returns-clause-value
returns-clause-value c =
    let s = c.args.self.now in
    let own = cycle_read _ _ _ (s.width * s.weight) c.number.ensures.value c.number.ensures.bound c.count_of-own.ensures.value in
    let start = c.start.ensures.value ∙ ap (λ (span : Span). span.start) c.share.ensures in
    delay_read s.cycle s.before s.weight s.total s.width c.requires.weight c.requires.within c.requires.width c.requires.small c.requires.first c.requires.last _ _ start own

pub returns-clause-bound : goal.returns-clause-bound
returns-clause-bound c =
    let s = c.args.self.now in
    rw (returns-clause-value c) (delay_small s.cycle s.before s.weight s.total s.width c.requires.weight c.requires.within c.requires.width c.requires.small c.requires.first c.requires.last)
