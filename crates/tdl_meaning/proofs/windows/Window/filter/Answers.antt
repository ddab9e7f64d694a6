use Rattle.std.proofs.Common.{◌≡◌, ◌<◌, length, sym, ap, ◌∙◌, arith}
use Rattle.tdl_meaning.specs.Kinds.{passes}
use Rattle.tdl_meaning.proofs.Kept.{none_kept, all_kept, is_left, is_kept}
use Rattle.tdl_meaning.proofs.windows.Window.filter.Goals.{then-is_for, else-is_for}
use Rattle.tdl_meaning.proofs.windows.Window.filter.Goals as goal

pub loop-i-init : goal.loop-i-init
loop-i-init c = none_kept _ c.args.from c.args.events.now c.requires

pub loop-i-preserved : goal.loop-i-preserved
loop-i-preserved c =
    let test = passes c.args.self.now.from c.args.self.now.to c.args.self.now.inside in
    let x = c.get.result.now in
    let within : c.loop-i.i < length c.args.events.now = omega (arith, c.loop-i.invariant.long) in
    let tested : c.is_for.result ≡ test x = c.is_for.ensures ∙ ap test c.behind-events.view_is in
    elim c.if-is_for.branch [
      | then-is_for w ↦ rw (w.events-is, w.kept-is)
          (is_kept test c.args.from c.args.events.now c.requires c.loop-i.events c.loop-i.kept c.loop-i.i c.loop-i.invariant x c.loop-i.auto.i within
          (c.get.ensures x) (sym tested ∙ w.if-is_for.true) _ w.swap.ensures)
      | else-is_for w ↦ rw (w.events-is, w.kept-is)
          (is_left test c.args.from c.args.events.now c.requires c.loop-i.events c.loop-i.kept c.loop-i.i c.loop-i.invariant x c.loop-i.auto.i within
          (c.get.ensures x) (sym tested ∙ w.if-is_for.false))
    ]

pub returns : goal.returns
returns c = all_kept _ c.args.from c.args.events.now c.requires _ _ c.loop-i.i c.loop-i.invariant _ (omega arith) c.truncate.ensures
