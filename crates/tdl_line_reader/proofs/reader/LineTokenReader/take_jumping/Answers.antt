use Rattle.tdl_line_machine.specs.Machine.States.{jumping_at}
use Rattle.tdl_line_reader.proofs.Answering.{handed_on}
use Rattle.tdl_line_reader.proofs.reader.LineTokenReader.take_jumping.Goals as goal

pub returns-in_err-orbit : goal.returns-in_err-orbit
returns-in_err-orbit g c = λ readings are. handed_on _ _ _ _ _ c.from_residual.ensures.1 (c.in_err-orbit.ensures.err jumping_at readings are)
