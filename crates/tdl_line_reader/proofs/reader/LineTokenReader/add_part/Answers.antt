use Rattle.std.proofs.Common.{rules}
use Rattle.tdl_line_reader.specs.declared.stages.Hole.TheVariants as hole
use Rattle.tdl_line_reader.specs.declared.stages.Stage.TheVariants as stage
use Rattle.tdl_line_reader.proofs.ClosedHoles.{part_ends}
use Rattle.tdl_line_reader.proofs.ReaderFacts.{opened_again}
use Rattle.tdl_line_reader.proofs.reader.LineTokenReader.add_part.Goals as goal

pub returns-in_ok-push-in-Some-Timecat-2 : goal.returns-in_ok-push-in-Some-Timecat-2
returns-in_ok-push-in-Some-Timecat-2 c = λ t.
    part_ends c.args.self.now c.close.new.self t c.close.result c.in-Some-Timecat.parts c.push.new.self c.args.weight c.args.expr _ _
    c.close.ensures (search rules) c.in_ok-push-in-Some-Timecat.ensures.items
    (opened_again c.close.new.self c.push-in-Some-Timecat.new.self (hole.Timecat c.push.new.self) _ stage.PartRead
    c.in_ok-push-in-Some-Timecat-2.ensures.ok t)
