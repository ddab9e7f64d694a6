use Rattle.tdl_score.proofs.LastPlays.{cut_at_play, others_send_the_same, last_play_begins, entry_sends}
use Rattle.tdl_score.proofs.laws.last_plays_send_last.Goals as goal

pub returns-clause-plays : goal.returns-clause-plays
returns-clause-plays g c = cut_at_play

pub returns-clause-others : goal.returns-clause-others
returns-clause-others g c = others_send_the_same g.R.Reader.reads

pub returns-clause-begins : goal.returns-clause-begins
returns-clause-begins g c =
    let laws = c.times_of_trees_are_bounded.ensures in
    λ wire. last_play_begins g.R.Reader.reads c.reading_law.ensures wire laws.proper laws.in_arc

pub returns-clause-goes_on : goal.returns-clause-goes_on
returns-clause-goes_on g c =
    let laws = c.times_of_trees_are_bounded.ensures in
    λ wire. entry_sends g.R.Reader.reads c.reading_law.ensures wire laws.proper laws.in_arc
