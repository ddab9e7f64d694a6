use Rattle.std.proofs.Common.{arith}
use Rattle.tdl_desk.specs.inside.Settled.{desk_at}
use Rattle.tdl_desk.proofs.DeskFolds.{stands_same}
use Rattle.tdl_desk.proofs.desk.Desk.reserve.Goals as goal

pub returns-in_err-make_room-clause-stands : goal.returns-in_err-make_room-clause-stands
returns-in_err-make_room-clause-stands g c = rw (← c.self.view_is) (λ changes h.
    stands_same (desk_at c.self.inside.places) (desk_at c.make_room.new.self) c.self.inside.settled c.self.inside.settled changes (omega arith)
    (λ cycle later. c.make_room.ensures.same cycle) h)

pub returns-in_ok-make_room-clause-stands : goal.returns-in_ok-make_room-clause-stands
returns-in_ok-make_room-clause-stands g c = rw (← c.self.view_is) (λ changes h.
    stands_same (desk_at c.self.inside.places) (desk_at c.make_room.new.self) c.self.inside.settled c.self.inside.settled changes (omega arith)
    (λ cycle later. c.make_room.ensures.same cycle) h)
