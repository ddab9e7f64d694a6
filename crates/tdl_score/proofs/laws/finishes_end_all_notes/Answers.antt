use Rattle.std.proofs.Common.{◌≡◌, ℕ, List, ◌++◌, count_by, sym, subst}
use Rattle.tdl_fraction.specs.Units.{time_of}
use Rattle.tdl_notes.specs.Balance.{begins, ends}
use Rattle.tdl_notes.specs.Notes.{tones}
use Rattle.tdl_score.specs.History.{frontier}
use Rattle.tdl_score.specs.Score.{score}
use Rattle.tdl_score.proofs.Begun.{score_begun}
use Rattle.tdl_score.proofs.ChangeLists.{playable}
use Rattle.tdl_score.proofs.OnWires.{finished_sends}
use Rattle.tdl_score.proofs.Tones.{has_channels}
use Rattle.tdl_score.proofs.laws.finishes_end_all_notes.Goals as goal

pub returns-clause-all : goal.returns-clause-all
returns-clause-all g c = λ entries finished messages is channel key low.
    let laws = c.times_of_trees_are_bounded.ensures in
    let units = frontier entries in
    let is_playable = playable g.R.Reader.reads c.reading_law.ensures entries is.changes is.has in
    let same = finished_sends g.R.Reader.reads entries finished messages is in
    subst (λ (list : List (List ℕ)). count_by (ends channel key) list ≡ count_by (begins channel key) list) (sym same)
    (c.every_note_on_has_its_note_off.ensures.all (time_of units) (tones (score is.changes units))
    (score_begun laws.proper laws.in_arc is.changes is_playable units) (has_channels (score is.changes units)) channel key low)

pub returns-clause-fronts : goal.returns-clause-fronts
returns-clause-fronts g c = λ entries finished sent later is channel key low.
    let laws = c.times_of_trees_are_bounded.ensures in
    let units = frontier entries in
    let is_playable = playable g.R.Reader.reads c.reading_law.ensures entries is.changes is.has in
    c.every_note_on_has_its_note_off.ensures.fronts (time_of units) (tones (score is.changes units))
    (score_begun laws.proper laws.in_arc is.changes is_playable units) channel key low sent later
    (sym (finished_sends g.R.Reader.reads entries finished (sent ++ later) is))
