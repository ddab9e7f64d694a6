-- How calls are answered, and what performers say.
--     AnswersCall     a call is answered: what the history is before and after, and the reply
--     AnswersText     the same of what a performer says
use Rattle.std.specs.Prelude.{◌≡◌, ℕ, List, codes, Some}
use Rattle.tdl_tempo.specs.Tempo.{Pace}
use Rattle.tdl_core.specs.declared.calls.Call.{Call}
use Rattle.tdl_score.specs.declared.histories.Entry.{Entry}
use Rattle.tdl_core.specs.declared.replies.Reply.{Reply}
use Rattle.tdl_core.specs.declared.replies.Refusal.{Refusal}
use Rattle.tdl_score.specs.History.{frontier}
use Rattle.tdl_core.specs.Replies.{Accepts, core_of, refusal_of}
use Rattle.tdl_core.specs.ReplyLines.{reply_line, refusal_line}
use Rattle.tdl_answer.specs.Texts.{AsksFor, IsUnplayedAs}

abbrev pub no_memory_reply : List ℕ
no_memory_reply = codes "no memory\n"

-- a caller's call is answered
pub data AnswersCall (tempo : Pace) (old : List Entry) (who : ℕ) (call : Call) (new : List Entry) (reply : List ℕ) : Type 0 where
  -- the history refuses it
  refused : (refusal : Refusal) → refusal_of old call ≡ Some refusal → new ≡ old → reply ≡ refusal_line refusal → AnswersCall tempo old who call new reply
  -- it is accepted: one entry
  accepted : (answer : Reply) → Accepts (core_of tempo old) (core_of tempo new) who call answer
      → reply ≡ reply_line (frontier new) answer → AnswersCall tempo old who call new reply

pub data AnswersText (tempo : Pace) (old : List Entry) (who : ℕ) (text : List ℕ) (new : List Entry) (reply : List ℕ) : Type 0 where
  -- it makes no call
  unread : IsUnplayedAs text reply → new ≡ old → AnswersText tempo old who text new reply
  called : (call : Call) → AsksFor text call → AnswersCall tempo old who call new reply → AnswersText tempo old who text new reply
  -- there was no memory for it
  no_memory : new ≡ old → reply ≡ no_memory_reply → AnswersText tempo old who text new reply
