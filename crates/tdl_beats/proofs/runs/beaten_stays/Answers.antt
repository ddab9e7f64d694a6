use Rattle.tdl_beats.proofs.Staying.{run_stays}
use Rattle.tdl_beats.proofs.runs.beaten_stays.Goals as goal

pub returns : goal.returns
returns c = λ tempo cycles numbers history seen beats wires end legal own reads run.
    run_stays c.replies_are_sent.ensures.others c.last_plays_send_last.ensures.others numbers own history seen legal reads tempo cycles beats wires end run
