-- Scripts that are played.
--     AnswersTick     the text of a tick is answered: what the history is before and after, and the reply
--     AnswersClass    the same of a line of a class
--     AnswersLine     the same of a line
--     PlaysLine       the same of a line that comes before the finish; after it no line is looked at
use Rattle.std.specs.Prelude.{◌≡◌, ℕ, false, List}
use Rattle.tdl_fraction.specs.Units.{time_of}
use Rattle.tdl_tempo.specs.Tempo.{Pace}
use Rattle.tdl_core.specs.declared.calls.Call.TheVariants.{Tick, Finish}
use Rattle.tdl_score.specs.declared.histories.Entry.{Entry}
use Rattle.tdl_score.specs.History.{is_finished}
use Rattle.tdl_answer.specs.Answers.{AnswersCall, AnswersText}
use Rattle.tdl_app.specs.Script.{LineClass, class_of, performers, tick, finish, other, too_long}
use Rattle.tdl_app.specs.Script.{IsRefusedTick, ReadsTime, too_long_reply, unexpected_reply}

pub data AnswersTick (tempo : Pace) (old : List Entry) (text : List ℕ) (new : List Entry) (reply : List ℕ) : Type 0 where
  -- it makes no call
  unread : IsRefusedTick text reply → new ≡ old → AnswersTick tempo old text new reply
  called : (to : ℕ) → ReadsTime text (time_of to) → AnswersCall tempo old 0 (Tick to) new reply → AnswersTick tempo old text new reply

-- ticks and the finish have the number 0
abbrev pub AnswersClass : Pace → List Entry → LineClass → List Entry → List ℕ → Type 0
AnswersClass tempo old (performers who text) new reply = AnswersText tempo old who text new reply
AnswersClass tempo old (tick text) new reply = AnswersTick tempo old text new reply
AnswersClass tempo old finish new reply = AnswersCall tempo old 0 Finish new reply
AnswersClass tempo old other new reply = (new ≡ old) × (reply ≡ unexpected_reply)
AnswersClass tempo old too_long new reply = (new ≡ old) × (reply ≡ too_long_reply)

abbrev pub AnswersLine : Pace → List Entry → List ℕ → List Entry → List ℕ → Type 0
AnswersLine tempo old line new reply = AnswersClass tempo old (class_of line) new reply

abbrev pub PlaysLine : Pace → List Entry → List ℕ → List Entry → List ℕ → Type 0
PlaysLine tempo old line new reply = (is_finished old ≡ false) × AnswersLine tempo old line new reply
