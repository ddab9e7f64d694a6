use Rattle.tdl_rows.proofs.HitSteps.{all_more, not_all}
use Rattle.tdl_rows.proofs.rhythms.all_hits.Goals as goal

pub loop-i-preserved : goal.loop-i-preserved
loop-i-preserved c = all_more c.args.bits c.loop-i.i _ c.get.ensures c.if-not-get.false c.loop-i.invariant

pub returns-then-not-get : goal.returns-then-not-get
returns-then-not-get c = not_all c.args.bits c.loop-i.i _ c.get.ensures c.if-not-get.true
