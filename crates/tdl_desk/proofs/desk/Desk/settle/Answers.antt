use Rattle.std.proofs.Common.{arith}
use Rattle.tdl_desk.specs.inside.Settled.{desk_at}
use Rattle.tdl_desk.proofs.DeskFolds.{stands_same}
use Rattle.tdl_desk.proofs.desk.Desk.settle.Goals as goal

pub returns-then-self-cycle-clause-stands : goal.returns-then-self-cycle-clause-stands
returns-then-self-cycle-clause-stands g c = rw (← c.self.view_is) (λ changes h.
    stands_same (desk_at c.self.inside.places) (desk_at c.settle.new.self) c.self.inside.settled c.args.cycle changes (omega (arith, c.if-self-cycle.true))
    c.settle.ensures.same h)
