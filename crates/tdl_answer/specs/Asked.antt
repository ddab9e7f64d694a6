-- What a performer's text asks for, as the code tells it.
--     IsAsked         a call that each performer may make
--     IsUnmade        it makes no call
--     unmade_line     the line that says so
use Rattle.std.specs.Prelude.{ℕ, List}
use Rattle.tdl_score.specs.declared.histories.Entry.{Entry}
use Rattle.tdl_core.specs.declared.calls.Call.{Call}
use Rattle.tdl_core.specs.Replies.{IsPerformer, MayCall}
use Rattle.tdl_answer.specs.declared.asked.Unmade.{Unmade}
use Rattle.tdl_answer.specs.declared.asked.Unmade.TheVariants.{Nothing, Refused, NoMemory}
use Rattle.tdl_answer.specs.Answers.{no_memory_reply}
use Rattle.tdl_answer.specs.Refusals.{refusal_line}
use Rattle.tdl_answer.specs.Texts.{AsksFor, RefusesText, SaysNothing, skip_reply}

abbrev pub IsAsked : List ℕ → Call → Type 0
IsAsked text call = AsksFor text call × ((who : ℕ) (own : List Entry) → IsPerformer who → MayCall own who call)

-- out of memory says nothing of the text
abbrev pub IsUnmade : List ℕ → Unmade → Type 0
IsUnmade text Nothing = SaysNothing text
IsUnmade text (Refused why) = RefusesText text why
IsUnmade text NoMemory = Unit {0}

abbrev pub unmade_line : Unmade → List ℕ
unmade_line Nothing = skip_reply
unmade_line (Refused why) = refusal_line why
unmade_line NoMemory = no_memory_reply
