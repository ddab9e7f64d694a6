use Rattle.std.proofs.Common.{Bool, cond, sym, ap, ◌∙◌}
use Rattle.tdl_rows.proofs.HitSteps.{hits_more}
use Rattle.tdl_rows.proofs.rhythms.hit_rows.Goals as goal
use Rattle.tdl_rows.proofs.rhythms.hit_rows.Goals.{then-get, else-get}

pub loop-i-preserved : goal.loop-i-preserved
loop-i-preserved c =
    hits_more c.args.bits c.loop-i.i c.get.result c.args.hit_row c.args.rest _ _ _ c.get.ensures
    (elim c.if-get.branch [
      | then-get w ↦ w.id-is ∙ ap (λ (b : Bool). cond b c.args.hit_row c.args.rest) (sym w.if-get.true)
      | else-get w ↦ w.id-is ∙ ap (λ (b : Bool). cond b c.args.hit_row c.args.rest) (sym w.if-get.false)
    ]) c.loop-i.invariant c.in_ok-push.ensures.items
