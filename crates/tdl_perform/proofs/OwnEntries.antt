-- The entries of served lines.
--     goes_on          the history of a step, and of steps, goes on from the one before it
--     own_line         what a line does to its performer's entries
--     own_entries      what lines do
--     as_many          each line has a reply
--     full_entries     nothing, once the history is full
use Rattle.std.proofs.Common.{◌≡◌, ℕ, ◌⊎◌, inl, inr, ◌==◌, Bool, cond, List, [], ◌∷◌, ◌++◌, length}
use Rattle.std.proofs.Common.{suc, refl, ap, sym, subst, ◌∙◌, append_assoc, append-nil, eq-eqb}
use Rattle.std.proofs.lemmas.List.Elements.{filter-append}
use Rattle.tdl_tempo.specs.Tempo.{Pace}
use Rattle.tdl_desk.specs.declared.changes.Dated.{Dated}
use Rattle.tdl_expr.specs.Tree.{Tree}
use Rattle.tdl_score.specs.declared.histories.Entry.{Entry}
use Rattle.tdl_score.specs.History.{entries_of, frontier}
use Rattle.tdl_score.proofs.ChangeLists.{legal_has}
use Rattle.tdl_score.proofs.Entries.{IsLegal-front}
use Rattle.tdl_core.specs.declared.calls.Call.{Call}
use Rattle.tdl_core.specs.declared.calls.Call.TheVariants as call
use Rattle.tdl_core.specs.declared.replies.Reply.{Reply}
use Rattle.tdl_core.specs.declared.replies.Refusal.{Refusal}
use Rattle.tdl_core.specs.declared.replies.Refusal.TheVariants.{NoMemory, Full, Backward, TooLong, PastLast}
use Rattle.tdl_core.specs.Replies.{IsReply, entry_of}
use Rattle.tdl_core.specs.ReplyLines.{refusal_line, reply_line}
use Rattle.tdl_core.specs.Said.{IsLegal, Says}
use Rattle.tdl_answer.specs.Answers.{AnswersCall, AnswersText}
use Rattle.tdl_answer.specs.Goes.{Goes}
use Rattle.tdl_answer.specs.Texts.{AsksFor}
use Rattle.tdl_perform.specs.LineEntries.{HaveEntries, IsOfLine, SaysAccepted, SaysDeclined}
use Rattle.tdl_perform.specs.Serves.{Serves, ServesLine}

-- ---- histories go on
-- a list goes on from another
abbrev pub GoesOn : List Entry → List Entry → Type 0
GoesOn old new = (more : List Entry) × (new ≡ old ++ more)

same_goes : (old new : List Entry) → new ≡ old → GoesOn old new
same_goes old new same = ([], same ∙ sym (append-nil old))

pub goes_both : (old mid new : List Entry) → GoesOn old mid → GoesOn mid new → GoesOn old new
goes_both old mid new first second =
    (first.0 ++ second.0, second.1 ∙ (ap (λ (h : List Entry). h ++ second.0) first.1 ∙ append_assoc old first.0 second.0))

pub legal_before : (old new : List Entry) → GoesOn old new → IsLegal new → IsLegal old
legal_before old new goes legal = IsLegal-front Says old goes.0 (subst IsLegal goes.1 legal)

module _ (tempo : Pace) (who : ℕ) where
  call_goes : (old : List Entry) (asked : Call) (new : List Entry) (reply : List ℕ) → AnswersCall tempo old who asked new reply → GoesOn old new
  call_goes old asked new reply (AnswersCall.refused refusal why same line) = same_goes old new same
  call_goes old asked new reply (AnswersCall.accepted answer accepts line) = (entry_of old who asked ∷ [], accepts.gained)

  pub text_goes : (old : List Entry) (text : List ℕ) (new : List Entry) (reply : List ℕ) → AnswersText tempo old who text new reply → GoesOn old new
  text_goes old text new reply (AnswersText.unread is same) = same_goes old new same
  text_goes old text new reply (AnswersText.called asked asks answers) = call_goes old asked new reply answers
  text_goes old text new reply (AnswersText.no_memory same line) = same_goes old new same

  line_goes : (old : List Entry) (line : List ℕ) (new : List Entry) (reply : List ℕ) → ServesLine tempo who old line new reply → GoesOn old new
  line_goes old line new reply serves = goes_both old (old ++ serves.others) new (serves.others, refl)
      (text_goes (old ++ serves.others) line new reply serves.answered)

  pub lines_go : (old : List Entry) (lines : List (List ℕ)) (new : List Entry) (replies : List (List ℕ)) → Goes (ServesLine tempo who) old lines new replies
      → GoesOn old new
  lines_go old [] new [] is = same_goes old new is
  lines_go old [] new (reply ∷ replies) h = absurd h
  lines_go old (line ∷ lines) new [] h = absurd h
  lines_go old (line ∷ lines) new (reply ∷ replies) h =
      goes_both old h.0 new (line_goes old line h.0 reply h.1) (lines_go h.0 lines new replies h.2)

-- ---- what replies say
declined_by : (refusal : Refusal) → SaysDeclined (refusal_line refusal)
declined_by NoMemory = inr (inr refl)
declined_by (Full entries) = inl (_, refl)
declined_by (Backward units) = inl (_, refl)
declined_by (TooLong units) = inl (_, refl)
declined_by (PastLast units) = inl (_, refl)

pub accepted_as : (entries : List Entry) (changes : List (Dated Tree)) (text : List ℕ) (asked : Call) (reply : Reply) (units : ℕ) → AsksFor text asked
    → IsReply entries changes asked reply → SaysAccepted (reply_line units reply)
accepted_as entries changes text (call.Swap kept every change) reply units asks is =
    subst (λ (r : Reply). SaysAccepted (reply_line units r)) (sym is) (_, inl refl)
accepted_as entries changes text call.Look reply units asks is = subst (λ (r : Reply). SaysAccepted (reply_line units r)) (sym is) (_, inr refl)
accepted_as entries changes text (call.Tick to) reply units asks is = absurd asks
accepted_as entries changes text call.Finish reply units asks is = absurd asks

-- ---- a performer's own entries
own_both : (who : ℕ) (first second : List Entry) → entries_of who (first ++ second) ≡ entries_of who first ++ entries_of who second
own_both who first second = filter-append (λ (e : Entry). e.who == who) first second

pub own_others : (who : ℕ) (old others : List Entry) → entries_of who others ≡ [] → entries_of who (old ++ others) ≡ entries_of who old
own_others who old others none =
    own_both who old others ∙ (ap (λ (es : List Entry). entries_of who old ++ es) none ∙ append-nil (entries_of who old))

own_one : (who : ℕ) (old : List Entry) (asked : Call) → entries_of who (old ++ entry_of old who asked ∷ []) ≡ entries_of who old ++ entry_of old who asked ∷ []
own_one who old asked =
    let e : Entry = entry_of old who asked in
    own_both who old (e ∷ []) ∙ ap (λ (b : Bool). entries_of who old ++ cond b (e ∷ []) []) (eq-eqb who who refl)

module _ (tempo : Pace) (who : ℕ) where
  -- none, and the reply says so; or one, that of the call
  abbrev HasOwn : List Entry → List ℕ → List Entry → List ℕ → Type 0
  HasOwn old line new reply =
      (SaysDeclined reply × (entries_of who new ≡ entries_of who old))
      ⊎ ((e : Entry) × SaysAccepted reply × IsOfLine who line e × (entries_of who new ≡ entries_of who old ++ e ∷ []))

  own_call : (old : List Entry) (line : List ℕ) (asked : Call) (new : List Entry) (reply : List ℕ) → IsLegal old → AsksFor line asked
      → AnswersCall tempo old who asked new reply → HasOwn old line new reply
  own_call old line asked new reply legal asks (AnswersCall.refused refusal why same is) =
      inl (subst SaysDeclined (sym is) (declined_by refusal), ap (entries_of who) same)
  own_call old line asked new reply legal asks (AnswersCall.accepted answer accepts is) =
      let has = legal_has Says old legal in
      inr (
        entry_of old who asked,
        subst SaysAccepted (sym is) (accepted_as old has.0 line asked answer (frontier new) asks (accepts.answer has.0 has.1)),
        (old, asked, asks, refl),
        ap (entries_of who) accepts.gained ∙ own_one who old asked,
      )

  own_text : (old : List Entry) (line : List ℕ) (new : List Entry) (reply : List ℕ) → IsLegal old → AnswersText tempo old who line new reply
      → HasOwn old line new reply
  own_text old line new reply legal (AnswersText.unread is same) = inl (
    elim is [ inl nothing ↦ inr (inl nothing.1) | inr refused ↦ inl (_, refused.2) ],
    ap (entries_of who) same,
  )
  own_text old line new reply legal (AnswersText.called asked asks answers) = own_call old line asked new reply legal asks answers
  own_text old line new reply legal (AnswersText.no_memory same is) = inl (inr (inr is), ap (entries_of who) same)

  own_line : (old : List Entry) (line : List ℕ) (new : List Entry) (reply : List ℕ) → IsLegal new → ServesLine tempo who old line new reply
      → HasOwn old line new reply
  own_line old line new reply legal serves =
      let before : List Entry = old ++ serves.others in
      let others : entries_of who before ≡ entries_of who old = own_others who old serves.others serves.none_own in
      let goes = text_goes tempo who before line new reply serves.answered in
      elim (own_text before line new reply (legal_before before new goes legal) serves.answered) [
        | inl none ↦ inl (none.0, none.1 ∙ others)
        | inr one ↦ inr (one.0, one.1, one.2, one.3 ∙ ap (λ (es : List Entry). es ++ one.0 ∷ []) others)
      ]

  pub own_lines : (old : List Entry) (lines : List (List ℕ)) (new : List Entry) (replies : List (List ℕ)) → IsLegal new
      → Goes (ServesLine tempo who) old lines new replies
      → (own : List Entry) × (entries_of who new ≡ entries_of who old ++ own) × HaveEntries who lines replies own
  own_lines old [] new [] legal is = ([], ap (entries_of who) is ∙ sym (append-nil (entries_of who old)), refl)
  own_lines old [] new (reply ∷ replies) legal h = absurd h
  own_lines old (line ∷ lines) new [] legal h = absurd h
  own_lines old (line ∷ lines) new (reply ∷ replies) legal h =
      let next : List Entry = h.0 in
      let more = own_lines next lines new replies legal h.2 in
      elim (own_line old line next reply (legal_before next new (lines_go tempo who next lines new replies h.2) legal) h.1) [
        | inl none ↦ (more.0, more.1 ∙ ap (λ (es : List Entry). es ++ more.0) none.1, inl (none.0, more.2))
        | inr one ↦ (
          one.0 ∷ more.0,
          more.1 ∙ (ap (λ (es : List Entry). es ++ more.0) one.3 ∙ append_assoc (entries_of who old) (one.0 ∷ []) more.0),
          inr (one.0, more.0, refl, one.1, one.2, more.2),
        )
      ]

  pub own_entries : (lines replies : List (List ℕ)) (history : List Entry) → IsLegal history → Serves tempo who lines replies history
      → HaveEntries who lines replies (entries_of who history)
  own_entries lines replies history legal serves =
      let reached : List Entry = serves.reached in
      let own = own_lines [] lines reached replies (legal_before reached history (serves.later, serves.whole) legal) serves.goes in
      let all : entries_of who history ≡ own.0 = ap (entries_of who) serves.whole ∙ (own_others who reached serves.later serves.none_own ∙ own.1) in
      subst (HaveEntries who lines replies) (sym all) own.2

-- ---- a reply a line
as_many_go : (Step : List Entry → List ℕ → List Entry → List ℕ → Type 0) (old : List Entry) (lines : List (List ℕ)) (new : List Entry)
    (replies : List (List ℕ)) → Goes Step old lines new replies → length replies ≡ length lines
as_many_go Step old [] new [] h = refl
as_many_go Step old [] new (reply ∷ replies) h = absurd h
as_many_go Step old (line ∷ lines) new [] h = absurd h
as_many_go Step old (line ∷ lines) new (reply ∷ replies) h = ap suc (as_many_go Step h.0 lines new replies h.2)

pub as_many : (tempo : Pace) (who : ℕ) (lines replies : List (List ℕ)) (history : List Entry) → Serves tempo who lines replies history
    → length replies ≡ length lines
as_many tempo who lines replies history serves = as_many_go (ServesLine tempo who) [] lines serves.reached replies serves.goes
