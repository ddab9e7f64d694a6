use Rattle.tdl_app.proofs.OneLogRuns.{sent_the_same}
use Rattle.tdl_app.proofs.laws.logs_tell_what_was_sent.Goals as goal

pub returns : goal.returns
returns c one other h k text wires others sends also =
    sent_the_same c.cuts_do_not_matter.ensures.ticks one other (c.logs_tell_their_sheets.ensures one other h k text) wires others sends also
