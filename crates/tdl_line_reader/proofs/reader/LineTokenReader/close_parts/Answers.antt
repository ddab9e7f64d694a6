use Rattle.std.proofs.Common.{rules, refl}
use Rattle.tdl_line_reader.specs.declared.stages.Hole.TheVariants as hole
use Rattle.tdl_line_machine.specs.Machine.Lists.{parts_hole}
use Rattle.tdl_line_reader.proofs.ClosedHoles.{closed_by}
use Rattle.tdl_line_reader.proofs.ListViews.{timecat_is}
use Rattle.tdl_line_reader.proofs.reader.LineTokenReader.close_parts.Goals as goal

pub returns-in-Some-Timecat : goal.returns-in-Some-Timecat
returns-in-Some-Timecat c = λ t.
    closed_by c.args.self.now c.close.new.self c.close.result (hole.Timecat c.in-Some-Timecat.parts) t (parts_hole t) _ _ _ c.close.ensures (search rules) refl
    (rw (timecat_is c.in-Some-Timecat.parts) at (c.operand.ensures t))
