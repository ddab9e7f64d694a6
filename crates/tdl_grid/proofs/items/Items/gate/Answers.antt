use Rattle.std.proofs.Common.{◌≡◌, ◌<◌, length, sym, ap, ◌∙◌, subst, arith}
use Rattle.std.proofs.Math.Bool.{beq}
use Rattle.tdl_meaning.proofs.Kept.{none_kept, all_kept, is_left, is_kept}
use Rattle.tdl_grid.specs.Span.{IsCount}
use Rattle.tdl_grid.specs.Item.{Item, passes_in}
use Rattle.tdl_grid.proofs.Starts.{passes_read}
use Rattle.tdl_grid.proofs.items.Items.gate.Goals.{then-is_between-window, else-is_between-window}
use Rattle.tdl_grid.proofs.items.Items.gate.Goals as goal

pub loop-i-init : goal.loop-i-init
loop-i-init c = none_kept _ c.args.from c.args.self.now c.requires.place

pub loop-i-preserved : goal.loop-i-preserved
loop-i-preserved c =
    let a = c.args in
    let w = a.window in
    let test = passes_in a.unit w.from w.to w.inside in
    let x = c.get.result.now in
    let within : c.loop-i.i < length a.self.now = omega (arith, c.loop-i.invariant.long) in
    let first = c.count_from-first.ensures in
    let limit = c.count_from-limit.ensures in
    let start = c.start-start.ensures.value ∙ ap (λ (i : Item). i.whole.start) c.behind-self.view_is in
    let near = subst (λ (i : Item). IsCount i.whole.start) c.behind-self.view_is c.start-start.ensures.span.start_small in
    let tested : beq c.is_between.result w.inside ≡ test x =
    passes_read w.from w.to w.inside a.unit c.requires.positive x _ _ _ _ start near first.value first.bound limit.value limit.bound c.is_between.ensures in
    elim c.if-is_between-window.branch [
      | then-is_between-window w ↦ rw (w.self-is, w.kept-is)
          (is_kept test a.from a.self.now c.requires.place c.loop-i.self c.loop-i.kept c.loop-i.i c.loop-i.invariant x c.loop-i.auto.i within
          (c.get.ensures x) (sym tested ∙ w.if-is_between-window.true) _ w.swap.ensures)
      | else-is_between-window w ↦ rw (w.self-is, w.kept-is)
          (is_left test a.from a.self.now c.requires.place c.loop-i.self c.loop-i.kept c.loop-i.i c.loop-i.invariant x c.loop-i.auto.i within
          (c.get.ensures x) (sym tested ∙ w.if-is_between-window.false))
    ]

pub returns : goal.returns
returns c = all_kept _ c.args.from c.args.self.now c.requires.place _ _ c.loop-i.i c.loop-i.invariant _ (omega arith) c.truncate.ensures
