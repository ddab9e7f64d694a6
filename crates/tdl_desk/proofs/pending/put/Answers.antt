use Rattle.std.proofs.Common.{◌∙◌, refl}
use Rattle.tdl_desk.proofs.LaterLists.{put_value, rises_more}
use Rattle.tdl_desk.proofs.pending.put.Goals as goal

pub returns-clause-rises : goal.returns-clause-rises
returns-clause-rises g c = rw c.push_back_reserved.ensures.items
    (rises_more c.drop_from.new.pending.items c.args.later c.loop-test.ensures.rises (c.loop-test.ensures.low refl))

pub returns-clause-value : goal.returns-clause-value
returns-clause-value g c = rw c.push_back_reserved.ensures.items
    (put_value c.args.pending.now.items c.drop_from.new.pending.items c.args.later
    (λ value cycle below. c.loop-test.ensures.same value cycle below ∙ c.loop.invariant.1 value cycle below))
