-- A core that many call.
--     Adds         after this history the call of a number adds this entry, and gets this reply
--     Refuses      after this history the call is refused so
--     sent_with    what a wire is to get with the replies that a caller was told, in their order
--     IsFresh      a look shows all that its caller had seen
use Rattle.std.specs.Prelude.{◌≡◌, ℕ, ◌<◌, List, [], ◌∷◌, ◌++◌, length, Some, ◌⊎◌}
use Rattle.std.specs.List.{flat_map}
use Rattle.tdl_desk.specs.declared.changes.Dated.{Dated}
use Rattle.tdl_expr.specs.Tree.{Tree}
use Rattle.tdl_tempo.specs.Tempo.{Pace}
use Rattle.tdl_score.specs.declared.histories.Entry.{Entry}
use Rattle.tdl_core.specs.declared.calls.Call.{Call}
use Rattle.tdl_core.specs.declared.calls.Call.TheVariants.{Look, Finish}
use Rattle.tdl_core.specs.declared.replies.Reply.{Reply}
use Rattle.tdl_core.specs.declared.replies.Refusal.{Refusal}
use Rattle.tdl_core.specs.declared.replies.Refusal.TheVariants.{NoMemory}
use Rattle.tdl_core.specs.Replies.{Accepts, IsReply, core_of, entry_of, refusal_of}
use Rattle.tdl_core.specs.ReplyLines.{HasFrontier}
use Rattle.tdl_core.specs.Said.{HasChanges}

pub record Adds (tempo : Pace) (entries : List Entry) (who : ℕ) (call : Call) (e : Entry) (reply : Reply) : Type 0 where
  pub entry : e ≡ entry_of entries who call
  pub accepted : Accepts (core_of tempo entries) (core_of tempo (entries ++ e ∷ [])) who call reply

-- for the history's reason, or out of memory; never the finish
pub record Refuses (entries : List Entry) (call : Call) (refusal : Refusal) : Type 0 where
  pub reason : (refusal_of entries call ≡ Some refusal) ⊎ (refusal ≡ NoMemory)
  pub frontier : HasFrontier refusal
  pub finish : call ≡ Finish → ⊥

abbrev pub sent_with : (Reply → List (List ℕ)) → List (Call × Reply) → List (List ℕ)
sent_with goes told = flat_map (λ t. goes t.1) told

pub record IsFresh (seen : List Entry) (reply : Reply) : Type 0 where
  -- what others did after that
  pub more : List Entry
  -- each entry that was seen stands below the look's place
  pub place : (before after : List Entry) (e : Entry) → seen ≡ before ++ e ∷ after → length before < length (seen ++ more)
  pub shown : (changes : List (Dated Tree)) → HasChanges (seen ++ more) changes → IsReply (seen ++ more) changes Look reply
