-- Scripts whose ticks cut the time in other ways.
--     spoken        the performers' lines of a script, in order
--     boundaries    from which cycles on the swaps of a history hold, in order
--     IsPlayed      a script is played from the start on, and memory lasts
use Rattle.std.specs.Prelude.{◌≢◌, ℕ, Bool, true, false, List, [], filter, map}
use Rattle.std.specs.List.{AllByRecursion}
use Rattle.tdl_tempo.specs.Tempo.{Pace}
use Rattle.tdl_score.specs.declared.histories.Entry.{Entry}
use Rattle.tdl_score.specs.History.{dated_texts}
use Rattle.tdl_app.specs.Script.{LineClass, class_of, performers, tick, finish, other, too_long}
use Rattle.tdl_answer.specs.Goes.{Goes}
use Rattle.tdl_answer.specs.Answers.{no_memory_reply}
use Rattle.tdl_app.specs.Plays.{PlaysLine}

abbrev pub is_spoken : LineClass → Bool
is_spoken (performers who text) = true
is_spoken (tick text) = false
is_spoken finish = false
is_spoken other = false
is_spoken too_long = false

abbrev pub spoken : List (List ℕ) → List (List ℕ)
spoken lines = filter (λ line. is_spoken (class_of line)) lines

abbrev pub boundaries : List Entry → List ℕ
boundaries entries = map (λ dated. dated.boundary) (dated_texts entries)

pub record IsPlayed (tempo : Pace) (lines : List (List ℕ)) (entries : List Entry) : Type 0 where
  pub replies : List (List ℕ)
  pub plays : Goes (PlaysLine tempo) [] lines entries replies
  pub memory : AllByRecursion (λ reply. reply ≢ no_memory_reply) replies
