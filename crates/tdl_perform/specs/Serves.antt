-- Lines of a performer, answered beside what others do.
--     ServesLine    others come first, and then the line is answered
--     Serves        so line after line, and later entries are of others
use Rattle.std.specs.Prelude.{◌≡◌, ℕ, List, [], ◌++◌}
use Rattle.tdl_tempo.specs.Tempo.{Pace}
use Rattle.tdl_score.specs.declared.histories.Entry.{Entry}
use Rattle.tdl_score.specs.History.{entries_of}
use Rattle.tdl_answer.specs.Answers.{AnswersText}
use Rattle.tdl_answer.specs.Goes.{Goes}

pub record ServesLine (tempo : Pace) (who : ℕ) (old : List Entry) (line : List ℕ) (new : List Entry) (reply : List ℕ) : Type 0 where
  -- what others did since the performer's last line
  pub others : List Entry
  pub none_own : entries_of who others ≡ []
  pub answered : AnswersText tempo (old ++ others) who line new reply

-- each line has its one reply, in order; the history has no other entry of the performer's number
pub record Serves (tempo : Pace) (who : ℕ) (lines replies : List (List ℕ)) (history : List Entry) : Type 0 where
  pub reached : List Entry
  pub goes : Goes (ServesLine tempo who) [] lines reached replies
  pub later : List Entry
  pub whole : history ≡ reached ++ later
  pub none_own : entries_of who later ≡ []
