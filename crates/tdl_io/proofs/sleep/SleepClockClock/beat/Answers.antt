use Rattle.tdl_io.specs.Sleep.{most_beats}
use Rattle.tdl_io.proofs.Beats.{gives_next, no_beat}
use Rattle.tdl_io.proofs.sleep.SleepClockClock.beat.Goals as goal

pub returns-then-self-ge-MOST_BEATS-clause-none_left : goal.returns-then-self-ge-MOST_BEATS-clause-none_left
returns-then-self-ge-MOST_BEATS-clause-none_left g c = no_beat most_beats c.args.self.now.given c.if-self-ge-MOST_BEATS.true

pub returns-clause-next : goal.returns-clause-next
returns-clause-next g c = rw c.wait_for.ensures (gives_next most_beats c.args.self.now.given c.if-self-ge-MOST_BEATS.false)
