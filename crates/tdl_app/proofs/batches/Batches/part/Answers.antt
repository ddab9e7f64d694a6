use Rattle.tdl_app.proofs.Runs.{run_is_arc}
use Rattle.tdl_app.proofs.BatchEvents.{batch_small}
use Rattle.tdl_app.proofs.batches.Batches.part.Goals as goal

pub later-start-requires : goal.later-start-requires
later-start-requires c = (batch_small c.args.self.now c.requires.cut c.args.k c.requires.within).0

pub later-stop-requires : goal.later-stop-requires
later-stop-requires c = rw c.later-start.ensures (batch_small c.args.self.now c.requires.cut c.args.k c.requires.within).1

pub unwrap-batch-requires : goal.unwrap-batch-requires
unwrap-batch-requires c =
    c.of.ensures.found.1
    (rw (c.start.ensures, c.start-2.ensures, c.later-stop.ensures) (run_is_arc c.later-start.result c.args.self.now.cycles c.requires.cut.some))
