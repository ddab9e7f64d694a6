use Rattle.tdl_desk.specs.inside.Settled.{desk_at}
use Rattle.tdl_desk.proofs.DeskFolds.{stands_made}
use Rattle.tdl_desk.proofs.desk.Desk.add.Goals as goal

pub returns-clause-stands : goal.returns-clause-stands
returns-clause-stands g c = rw (← c.self.view_is) (λ changes h.
    stands_made (desk_at c.self.inside.places) (desk_at c.make.new.self) c.self.inside.settled changes
    (record { boundary = c.args.boundary; change = c.args.change }) c.make.ensures.desk h)
