use Rattle.std.proofs.Common.{◌*◌, ◌<◌, ℤ, Some, Option, option_map, sym, ap, ◌∙◌, arith}
use Rattle.tdl_grid.specs.Span.{Span, met, earlier_span, arc_of}
use Rattle.tdl_grid.specs.Step.{step_delay}
use Rattle.tdl_grid.proofs.Sequences.{step_asked}
use Rattle.tdl_grid.proofs.Shares.{delay_passed, asked_counts}
use Rattle.tdl_grid.proofs.steps.Step.asked.Goals as goal

pub earlier-requires-clause-start : goal.earlier-requires-clause-start
earlier-requires-clause-start c =
    let s = c.args.self.now in
    let met_is = sym (c.in-Some.ensures.counts ∙ ap (λ (span : Span). met span c.args.arc) c.share.ensures) in
    let passed = delay_passed s.cycle s.before s.weight s.total s.width c.requires.weight c.requires.within c.requires.width c.requires.small c.requires.first c.requires.last c.delay-by.result c.delay-by.ensures.value in
    rw passed (asked_counts s.cycle s.before s.weight s.total s.width c.requires.weight c.requires.within c.requires.width c.requires.small c.requires.first c.requires.last c.args.arc c.in-Some.own met_is).0

pub earlier-requires-clause-stop : goal.earlier-requires-clause-stop
earlier-requires-clause-stop c =
    let s = c.args.self.now in
    let met_is = sym (c.in-Some.ensures.counts ∙ ap (λ (span : Span). met span c.args.arc) c.share.ensures) in
    let passed = delay_passed s.cycle s.before s.weight s.total s.width c.requires.weight c.requires.within c.requires.width c.requires.small c.requires.first c.requires.last c.delay-by.result c.delay-by.ensures.value in
    rw passed (asked_counts s.cycle s.before s.weight s.total s.width c.requires.weight c.requires.within c.requires.width c.requires.small c.requires.first c.requires.last c.args.arc c.in-Some.own met_is).1

pub returns-in-Some-clause-arcs : goal.returns-in-Some-clause-arcs
returns-in-Some-clause-arcs c =
    let s = c.args.self.now in
    let met_is = sym (c.in-Some.ensures.counts ∙ ap (λ (span : Span). met span c.args.arc) c.share.ensures) in
    let passed = delay_passed s.cycle s.before s.weight s.total s.width c.requires.weight c.requires.within c.requires.width c.requires.small c.requires.first c.requires.last c.delay-by.result c.delay-by.ensures.value in
    let by = step_delay s.cycle s.before s.weight s.total s.width in
    let some : 0 < s.total = omega (arith, c.requires.within, c.requires.weight) in
    let own = ap (λ (span : Span). Some span) (c.earlier.ensures ∙ ap (λ (k : ℤ). earlier_span k c.in-Some.own) passed) in
    ap (option_map (arc_of (s.width * s.weight))) (own ∙ sym (ap (option_map (earlier_span by)) met_is))
    ∙ sym (step_asked s.cycle s.before s.weight s.total s.width c.requires.weight some c.requires.width c.args.arc)

pub returns-in-None-clause-arcs : goal.returns-in-None-clause-arcs
returns-in-None-clause-arcs c =
    let s = c.args.self.now in
    let by = step_delay s.cycle s.before s.weight s.total s.width in
    let some : 0 < s.total = omega (arith, c.requires.within, c.requires.weight) in
    let apart = c.in-None.ensures.counts ∙ ap (λ (span : Span). met span c.args.arc) c.share.ensures in
    ap (λ (own : Option Span). option_map (arc_of (s.width * s.weight)) (option_map (earlier_span by) own)) apart
    ∙ sym (step_asked s.cycle s.before s.weight s.total s.width c.requires.weight some c.requires.width c.args.arc)
