use Rattle.tdl_command.specs.Tree.{flag}
use Rattle.tdl_line_machine.specs.Machine.States.{done}
use Rattle.tdl_line_reader.proofs.Answering.{handed_on}
use Rattle.tdl_line_reader.proofs.reader.LineTokenReader.take_flagged.Goals as goal

pub returns-in_err-orbit : goal.returns-in_err-orbit
returns-in_err-orbit g c =
    λ readings are. handed_on _ _ _ _ _ c.from_residual.ensures.1 (c.in_err-orbit.ensures.err (λ n. done (flag c.args.flag n)) readings are)
