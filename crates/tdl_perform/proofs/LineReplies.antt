-- A line of a performer, and its reply.
--     called_line     its call was accepted
--     refused_line    its call was refused
--     unmade_text     it makes no call
--     line_unmade     there is no memory for its reply
use Rattle.std.proofs.Common.{◌≡◌, ℕ, inl, inr, List, [], ◌∷◌, ◌++◌, Option, Some, Result, Err, IfOk, refl, ap, sym, subst, ◌∙◌, append-nil}
use Rattle.tdl_io.proofs.Told.{gained_nothing}
use Rattle.tdl_tempo.specs.Tempo.{Pace}
use Rattle.tdl_turn.specs.Numbers.{Among}
use Rattle.tdl_session.specs.Passes.{PassView, Called, Refused}
use Rattle.tdl_desk.specs.declared.changes.Dated.{Dated}
use Rattle.tdl_expr.specs.Tree.{Tree}
use Rattle.tdl_score.specs.declared.histories.Entry.{Entry}
use Rattle.tdl_score.specs.History.{frontier}
use Rattle.tdl_score.proofs.ChangeLists.{legal_has}
use Rattle.tdl_score.proofs.Entries.{IsLegal-front}
use Rattle.tdl_core.specs.declared.calls.Call.{Call}
use Rattle.tdl_core.specs.declared.calls.Call.TheVariants as call
use Rattle.tdl_core.specs.declared.replies.Reply.{Reply}
use Rattle.tdl_core.specs.declared.replies.Refusal.{Refusal}
use Rattle.tdl_core.specs.Replies.{Accepts, IsReply, core_of, refusal_of}
use Rattle.tdl_core.specs.ReplyLines.{refusal_line, reply_line}
use Rattle.tdl_core.specs.Said.{IsLegal, Says}
use Rattle.tdl_core.specs.Sessions.{Adds, Refuses}
use Rattle.tdl_answer.specs.declared.asked.Unmade.{Unmade}
use Rattle.tdl_answer.specs.declared.asked.Unmade.TheVariants as unmade
use Rattle.tdl_answer.specs.Answers.{AnswersCall, AnswersText}
use Rattle.tdl_answer.specs.Asked.{IsUnmade, unmade_line}
use Rattle.tdl_answer.specs.Texts.{AsksFor}
use Rattle.tdl_answer.proofs.DeviceCalls.{still}
use Rattle.tdl_perform.specs.declared.lines.Halt.TheVariants.{Memory}
use Rattle.tdl_perform.specs.inside.OneLine.{LineAnswered, LineBegun}
use Rattle.tdl_perform.proofs.ServedLines.{none_own}

abbrev by : Entry → ℕ
by e = e.who

-- the reply of what a performer asks for tells of no frontier
any_frontier : (entries : List Entry) (changes : List (Dated Tree)) (text : List ℕ) (asked : Call) (reply : Reply) (units : ℕ) → AsksFor text asked
    → IsReply entries changes asked reply → reply_line 0 reply ≡ reply_line units reply
any_frontier entries changes text (call.Swap kept every change) reply units asks is = ap (reply_line 0) is ∙ sym (ap (reply_line units) is)
any_frontier entries changes text call.Look reply units asks is = ap (reply_line 0) is ∙ sym (ap (reply_line units) is)
any_frontier entries changes text (call.Tick to) reply units asks is = absurd asks
any_frontier entries changes text call.Finish reply units asks is = absurd asks

module _ (tempo : Pace) (p q : PassView Entry Pace) (text : List ℕ) where
  -- what the line was answered, whatever memory there was for the reply
  abbrev Answers : {E : Type 0} → Result (List ℕ) E → Type 0
  Answers result = LineAnswered tempo p.number p.seen text q.seen result

  pub called_line : {E : Type 0} (asked : Call) (reply : Reply) (result : Result (List ℕ) E) → AsksFor text asked → Among p.number p.made → IsLegal q.seen
      → Called by (λ h e. Adds tempo h p.number asked e reply) p q → IfOk result (λ line. line ≡ reply_line 0 reply) → Answers result
  called_line asked reply result asks own legal called made =
      let between = called.0 in let e = called.1 in
      let before : List Entry = p.seen ++ between in
      let accepts : Accepts (core_of tempo before) (core_of tempo q.seen) p.number asked reply =
      subst (λ (h : List Entry). Accepts (core_of tempo before) (core_of tempo h) p.number asked reply) (sym called.2) called.5.accepted in
      let front : IsLegal before = IsLegal-front Says before (e ∷ []) (subst IsLegal called.2 legal) in
      let has = legal_has Says before front in record {
        reply = reply_line 0 reply;
        serves = record {
          others = between;
          none_own = none_own p.number p.made between own called.4;
          answered = AnswersText.called asked asks (AnswersCall.accepted reply accepts
              (any_frontier before has.0 text asked reply (frontier q.seen) asks (accepts.answer has.0 has.1)));
        };
        made = made;
      }

  refused_answer : (asked : Call) (refusal : Refusal) (before : List Entry) → AsksFor text asked → q.seen ≡ before → Refuses q.seen asked refusal
      → AnswersText tempo before p.number text q.seen (refusal_line refusal)
  refused_answer asked refusal before asks same refuses = elim refuses.reason [
    | inl why ↦
        AnswersText.called asked asks
        (AnswersCall.refused refusal (subst (λ (h : List Entry). refusal_of h asked ≡ Some refusal) same why) same refl)
    | inr none ↦ AnswersText.no_memory same (ap refusal_line none)
  ]

  pub refused_line : {E : Type 0} (asked : Call) (refusal : Refusal) (result : Result (List ℕ) E) → AsksFor text asked → Among p.number p.made
      → Refused by (λ h. Refuses h asked refusal) p q → IfOk result (λ line. line ≡ refusal_line refusal) → Answers result
  refused_line asked refusal result asks own refused made = record {
    reply = refusal_line refusal;
    serves = record {
      others = refused.0;
      none_own = none_own p.number p.made refused.0 own refused.2;
      answered = refused_answer asked refusal (p.seen ++ refused.0) asks refused.1 refused.3;
    };
    made = made;
  }

-- the history stays as it is
abbrev Alone : Pace → ℕ → List Entry → List ℕ → List ℕ → Type 0
Alone tempo who seen text reply = AnswersText tempo (seen ++ []) who text seen reply

unmade_answer : (tempo : Pace) (who : ℕ) (seen : List Entry) (text : List ℕ) (why : Unmade) → IsUnmade text why → Alone tempo who seen text (unmade_line why)
unmade_answer tempo who seen text unmade.Nothing is = AnswersText.unread (inl (is, refl)) (sym (append-nil seen))
unmade_answer tempo who seen text (unmade.Refused why) is = AnswersText.unread (inr (why, is, refl)) (sym (append-nil seen))
unmade_answer tempo who seen text unmade.NoMemory is = AnswersText.no_memory (sym (append-nil seen)) refl

pub unmade_text : {E : Type 0} (tempo : Pace) (who : ℕ) (seen : List Entry) (text : List ℕ) (why : Unmade) (result : Result (List ℕ) E) → IsUnmade text why
    → IfOk result (λ line. line ≡ unmade_line why) → LineAnswered tempo who seen text seen result
unmade_text tempo who seen text why result is made = record {
  reply = unmade_line why;
  serves = record { others = []; none_own = refl; answered = unmade_answer tempo who seen text why is };
  made = made;
}

-- the line was answered, and there was no memory for its reply
pub line_unmade : {E : Type 0} (tempo : Pace) (who : ℕ) (old : List Entry) (line : List ℕ) (new : List Entry) (error : E) (told : Option (List ℕ)) (faults : ℕ)
    → LineAnswered {E = E} tempo who old line new (Err error) → LineBegun tempo who old line new Memory (still told faults)
line_unmade {E} tempo who old line new error told faults answered = record {
  reply = answered.reply;
  serves = answered.serves;
  front = [];
  missing = answered.reply;
  parts = refl;
  put = gained_nothing told;
  cause = tt;
}
