use Rattle.std.proofs.Common.{rules, refl}
use Rattle.tdl_command.specs.View.{fun_of}
use Rattle.tdl_line_reader.specs.declared.stages.Hole.TheVariants as hole
use Rattle.tdl_line_machine.specs.Machine.Calls.{in_hole}
use Rattle.tdl_line_reader.proofs.ClosedHoles.{closed_by}
use Rattle.tdl_line_reader.proofs.reader.LineTokenReader.close_round.Goals as goal

pub returns-in-Some-Bracketed : goal.returns-in-Some-Bracketed
returns-in-Some-Bracketed c = λ t.
    closed_by c.args.self.now c.close.new.self c.close.result (hole.Bracketed c.in-Some-Bracketed.round) t (in_hole t (fun_of c.args.fun)) _ _ _
    c.close.ensures (search rules) refl (c.paren.ensures t)
