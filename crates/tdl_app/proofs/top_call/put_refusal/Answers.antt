use Rattle.std.proofs.Common.{refl, arith}
use Rattle.tdl_app.specs.Answer.{refused}
use Rattle.tdl_app.proofs.QueryEnds.{queried_from_put}
use Rattle.tdl_app.proofs.top_call.put_refusal.Goals as goal

pub returns-in-Ok : goal.returns-in-Ok
returns-in-Ok g c = λ q refuses.
    queried_from_put q 2 _ _ _ (omega arith) (refused c.args.why refuses refl c.in-Ok.ensures) (rw (← c.bytes.ensures) c.put_text.ensures)
