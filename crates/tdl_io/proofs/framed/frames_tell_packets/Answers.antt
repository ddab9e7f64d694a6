use Rattle.tdl_io.proofs.OneText.{frame_laws}
use Rattle.tdl_io.proofs.framed.frames_tell_packets.Goals as goal

pub returns : goal.returns
returns c = frame_laws
