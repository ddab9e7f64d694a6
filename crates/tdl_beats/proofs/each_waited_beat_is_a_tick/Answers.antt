use Rattle.tdl_beats.proofs.Waiting.{ticks_of_waiting}
use Rattle.tdl_beats.proofs.each_waited_beat_is_a_tick.Goals as goal

pub returns : goal.returns
returns c = ticks_of_waiting
