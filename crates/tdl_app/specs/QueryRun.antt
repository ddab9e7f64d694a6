-- What a run leaves on its output that answers words or a query.
--     Puts        the text was put, and the status is that which goes with it; or the put failed
--     Refuses     the words are not in the word grammar
--     Queried     the words ask for a query
use Rattle.std.specs.Prelude.{◌≡◌, ◌≢◌, ℕ, ◌≤◌, ◌⊎◌, List, []}
use Rattle.tdl_io.specs.Told.{GainedExactly, GainedPrefix}
use Rattle.tdl_io.specs.Faults.{CountRose}
use Rattle.tdl_score.specs.declared.histories.Entry.{Entry}
use Rattle.tdl_log.specs.declared.ends.Ending.{Ending}
use Rattle.tdl_answer.specs.Account.{Account}
use Rattle.tdl_app.specs.Answer.{QueryAnswer, usage_line}
use Rattle.tdl_words.specs.Modes.{Query}

-- the count did not fall, and it rose where the status is 4
pub record Puts (text : List ℕ) (wanted status : ℕ) (out : Account ℕ) : Type 0 where
  pub kept : out.faults_before ≤ out.faults_after
  pub done : status ≢ 4 → (status ≡ wanted) × GainedExactly out.told_before out.told_after text
  pub fault : status ≡ 4 → CountRose out.faults_before out.faults_after × GainedPrefix out.told_before out.told_after text

pub record Refuses (status : ℕ) (history : List Entry) (ends : List Ending) (out : Account ℕ) : Type 0 where
  pub usage : status ≢ 3 → Puts usage_line 1 status out
  -- out of memory for reading the words
  pub memory : status ≡ 3 → (out.told_after ≡ out.told_before) × (out.faults_after ≡ out.faults_before)
  pub nothing : (history ≡ []) × (ends ≡ [])

pub record Queried (query : Query) (status : ℕ) (history : List Entry) (ends : List Ending) (out : Account ℕ) : Type 0 where
  -- the query calls for this status, and the output gained the text that goes with it
  pub done : status ≢ 3 → status ≢ 4 → (text : List ℕ) × QueryAnswer query status text × GainedExactly out.told_before out.told_after text
  -- out of memory: the output is as it was, or it gained a front of the events' lines
  pub memory : status ≡ 3 → ((out.told_after ≡ out.told_before) × (out.faults_after ≡ out.faults_before))
      ⊎ ((text : List ℕ) × QueryAnswer query 0 text × GainedPrefix out.told_before out.told_after text)
  -- a put failed, so the count of the output's faults rose; the output gained a front of what the query calls for
  pub fault : status ≡ 4
      → CountRose out.faults_before out.faults_after × (called : ℕ) × (text : List ℕ) × QueryAnswer query called text
      × GainedPrefix out.told_before out.told_after text
  -- the count of the output's faults did not fall
  pub kept : out.faults_before ≤ out.faults_after
  pub nothing : (history ≡ []) × (ends ≡ [])
