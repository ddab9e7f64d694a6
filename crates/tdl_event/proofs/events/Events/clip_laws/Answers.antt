use Rattle.tdl_event.proofs.Clips.{seen_within, seen_outside, length-clip_le}
use Rattle.tdl_event.proofs.events.Events.clip_laws.Goals as goal

pub returns : goal.returns
returns c = record { within = seen_within; outside = seen_outside; no_more = length-clip_le }
