-- Histories that have as many swaps and looks as they may have.
--     few_performed     no legal history has more
--     full_text         the one reply that says so is of a line that was refused since it is so
--     full_lines        then no line has an entry
--     full_entries      so after a line that has that reply
use Rattle.std.proofs.Common.{◌≡◌, ℕ, ◌+◌, ◌≤◌, ◌==◌, inl, inr, Bool, true, false, cond, not, List, [], ◌∷◌, ◌++◌, length, Some, None}
use Rattle.std.proofs.Common.{nat_le, get_or, ◌&&◌, refl, ap, sym, subst, ◌∙◌, append_assoc, append-nil, arith, leb-true, le-leb}
use Rattle.std.specs.Prelude.{if◌then◌else◌}
use Rattle.std.proofs.lemmas.Bool.{false≢true}
use Rattle.std.proofs.lemmas.List.Sums.{sum_by-append}
use Rattle.tdl_tempo.specs.Tempo.{Pace}
use Rattle.tdl_mini_tree.specs.declared.faults.MiniKind.TheVariants as mini
use Rattle.tdl_line_machine.specs.declared.faults.LineKind.{LineKind}
use Rattle.tdl_line_machine.specs.declared.faults.LineKind.TheVariants as kind
use Rattle.tdl_score.specs.declared.histories.Entry.{Entry}
use Rattle.tdl_score.specs.declared.histories.Deed.{Deed}
use Rattle.tdl_score.specs.declared.histories.Deed.TheVariants as deed
use Rattle.tdl_score.specs.History.{MayBeDone, entries_of, frontier, max_performed, performed_count, plays}
use Rattle.tdl_score.proofs.ChangeLists.{legal_has}
use Rattle.tdl_score.proofs.Entries.{performed_count-append}
use Rattle.tdl_core.specs.declared.calls.Call.{Call}
use Rattle.tdl_core.specs.declared.calls.Call.TheVariants as call
use Rattle.tdl_core.specs.declared.replies.Refusal.{Refusal}
use Rattle.tdl_core.specs.declared.replies.Refusal.TheVariants.{Full}
use Rattle.tdl_core.specs.Replies.{performer_refusal, refusal_of}
use Rattle.tdl_core.specs.ReplyLines.{full_line}
use Rattle.tdl_core.specs.Said.{IsLegal, Says}
use Rattle.tdl_answer.specs.declared.refusals.Refusal.{Refusal as Reason}
use Rattle.tdl_answer.specs.declared.refusals.Refusal.TheVariants as why
use Rattle.tdl_answer.specs.Answers.{AnswersCall, AnswersText}
use Rattle.tdl_answer.specs.Goes.{Goes}
use Rattle.tdl_answer.specs.Refusals.{refusal_line}
use Rattle.tdl_answer.specs.Texts.{AsksFor}
use Rattle.tdl_perform.specs.LineEntries.{HaveEntries, SaysAccepted}
use Rattle.tdl_perform.specs.Serves.{Serves, ServesLine}
use Rattle.tdl_perform.proofs.OwnEntries.{accepted_as, legal_before, lines_go, own_lines, own_others, text_goes}

-- ---- how many there are
may_perform : (done : List Entry) (who : ℕ) (act : Deed) → MayBeDone Says done who act → performed_count done ≤ max_performed
    → performed_count done + cond (not (plays act)) 1 0 ≤ max_performed
may_perform done who (deed.Swap boundary text) may few = omega (arith, may.performed.room)
may_perform done who deed.Look may few = omega (arith, may.room)
may_perform done who (deed.Tick to) may few = omega (arith, few)
may_perform done who deed.Finish may few = omega (arith, few)

few_on : (done rest : List Entry) → IsLegal (done ++ rest) → performed_count done ≤ max_performed → performed_count (done ++ rest) ≤ max_performed
few_on done [] legal few = subst (λ (h : List Entry). performed_count h ≤ max_performed) (sym (append-nil done)) few
few_on done (e ∷ rest) legal few =
    let each = append_assoc done (e ∷ []) rest in
    let one : performed_count (done ++ e ∷ []) ≤ max_performed =
    omega (arith, performed_count-append done e, may_perform done e.who e.deed (legal.each done e rest refl).deed few) in
    subst (λ (h : List Entry). performed_count h ≤ max_performed) each (few_on (done ++ e ∷ []) rest (subst IsLegal (sym each) legal) one)

few_performed : (history : List Entry) → IsLegal history → performed_count history ≤ max_performed
few_performed history legal = few_on [] history legal (omega arith)

more_performed : (old more : List Entry) → max_performed ≤ performed_count old → max_performed ≤ performed_count (old ++ more)
more_performed old more full = omega (arith, full, sum_by-append (λ (e : Entry). cond (not (plays e.deed)) 1 0) old more)

-- ---- the reply that says that it is full
abbrev tells_full : List ℕ → Bool
tells_full bytes = (get_or bytes 0 0 == 114) && ((get_or bytes 8 0 == 70) && (get_or bytes 9 0 == 117))

not_by_kind : (of : LineKind) (at : ℕ) → tells_full (refusal_line (why.Unread of at)) ≡ false
not_by_kind (kind.Mini mini.NotAscii) at = refl
not_by_kind (kind.Mini mini.UnknownSign) at = refl
not_by_kind (kind.Mini mini.NumberTooLarge) at = refl
not_by_kind (kind.Mini mini.WordTooLong) at = refl
not_by_kind (kind.Mini mini.Unexpected) at = refl
not_by_kind (kind.Mini mini.Random) at = refl
not_by_kind (kind.Mini mini.Variable) at = refl
not_by_kind (kind.Mini mini.FloatValue) at = refl
not_by_kind (kind.Mini mini.BadEuclid) at = refl
not_by_kind (kind.Mini mini.BadFactor) at = refl
not_by_kind (kind.Mini mini.TooDeep) at = refl
not_by_kind (kind.Mini mini.TooManySteps) at = refl
not_by_kind kind.Unclosed at = refl
not_by_kind kind.UnknownName at = refl
not_by_kind kind.LineTooLong at = refl
not_by_kind kind.BadOrbit at = refl
not_by_kind kind.BadEvery at = refl

not_by_reason : (reason : Reason) → tells_full (refusal_line reason) ≡ false
not_by_reason (why.Unread of at) = not_by_kind of at
not_by_reason (why.TooLarge rows links) = refl
not_by_reason (why.TooDense load) = refl
not_by_reason (why.TooFine grid) = refl
not_by_reason (why.TooFar reach) = refl

not_accepted : (reply : List ℕ) → SaysAccepted reply → tells_full reply ≡ false
not_accepted reply says = elim says.1 [ inl at ↦ ap tells_full at | inr desk ↦ ap tells_full desk ]

-- a reply that is one of these
another : {reply other : List ℕ} → reply ≡ other → tells_full other ≡ false → tells_full reply ≡ true → ⊥
another {reply} {other} is not full = false≢true (sym not ∙ (sym (ap tells_full is) ∙ full))

holds : (b : Bool) (x y : Refusal) → (if b then Some x else None) ≡ Some y → b ≡ true
holds true x y is = refl
holds false x y is = cc

refused_full : (count : ℕ) (refusal : Refusal) → performer_refusal count ≡ Some refusal → max_performed ≤ count
refused_full count refusal is = leb-true max_performed count (holds (nat_le max_performed count) (Full max_performed) refusal is)

call_full : (old : List Entry) (text : List ℕ) (asked : Call) (refusal : Refusal) → AsksFor text asked → refusal_of old asked ≡ Some refusal
    → max_performed ≤ performed_count old
call_full old text (call.Swap kept every change) refusal asks is = refused_full (performed_count old) refusal is
call_full old text call.Look refusal asks is = refused_full (performed_count old) refusal is
call_full old text (call.Tick to) refusal asks is = absurd asks
call_full old text call.Finish refusal asks is = absurd asks

full_refuses : (count : ℕ) → max_performed ≤ count → performer_refusal count ≡ Some (Full max_performed)
full_refuses count full = ap (λ (b : Bool). if b then Some (Full max_performed) else None) (le-leb max_performed count full)

some_is_none : (refusal : Refusal) → Some refusal ≡ None → ⊥
some_is_none refusal e = cc

call_allowed : (old : List Entry) (text : List ℕ) (asked : Call) → AsksFor text asked → refusal_of old asked ≡ None
    → max_performed ≤ performed_count old → ⊥
call_allowed old text (call.Swap kept every change) asks allowed full = some_is_none _ (sym (full_refuses (performed_count old) full) ∙ allowed)
call_allowed old text call.Look asks allowed full = some_is_none _ (sym (full_refuses (performed_count old) full) ∙ allowed)
call_allowed old text (call.Tick to) asks allowed full = absurd asks
call_allowed old text call.Finish asks allowed full = absurd asks

module _ (tempo : Pace) (who : ℕ) where
  refused_call : (old : List Entry) (text : List ℕ) (asked : Call) (new : List Entry) (reply : List ℕ) → IsLegal old → tells_full reply ≡ true
      → AsksFor text asked → AnswersCall tempo old who asked new reply → (new ≡ old) × (max_performed ≤ performed_count old)
  refused_call old text asked new reply legal full asks (AnswersCall.refused refusal why same is) = (same, call_full old text asked refusal asks why)
  refused_call old text asked new reply legal full asks (AnswersCall.accepted answer accepts is) =
      let has = legal_has Says old legal in
      absurd (another is (not_accepted _ (accepted_as old has.0 text asked answer (frontier new) asks (accepts.answer has.0 has.1))) full)

  full_text : (old : List Entry) (text : List ℕ) (new : List Entry) (reply : List ℕ) → IsLegal old → tells_full reply ≡ true
      → AnswersText tempo old who text new reply → (new ≡ old) × (max_performed ≤ performed_count old)
  full_text old text new reply legal full (AnswersText.unread is same) = elim is [
    | inl nothing ↦ absurd (another nothing.1 refl full)
    | inr refused ↦ absurd (another refused.2 (not_by_reason refused.0) full)
  ]
  full_text old text new reply legal full (AnswersText.called asked asks answers) = refused_call old text asked new reply legal full asks answers
  full_text old text new reply legal full (AnswersText.no_memory same is) = absurd (another is refl full)

  -- ---- lines of a full history
  call_stays : (old : List Entry) (text : List ℕ) (asked : Call) (new : List Entry) (reply : List ℕ) → max_performed ≤ performed_count old
      → AsksFor text asked → AnswersCall tempo old who asked new reply → new ≡ old
  call_stays old text asked new reply full asks (AnswersCall.refused refusal why same is) = same
  call_stays old text asked new reply full asks (AnswersCall.accepted answer accepts is) = absurd (call_allowed old text asked asks accepts.allowed full)

  text_stays : (old : List Entry) (text : List ℕ) (new : List Entry) (reply : List ℕ) → max_performed ≤ performed_count old
      → AnswersText tempo old who text new reply → new ≡ old
  text_stays old text new reply full (AnswersText.unread is same) = same
  text_stays old text new reply full (AnswersText.called asked asks answers) = call_stays old text asked new reply full asks answers
  text_stays old text new reply full (AnswersText.no_memory same is) = same

  -- no entry more of this performer, and still as many
  abbrev Rests : List Entry → List Entry → Type 0
  Rests old new = (entries_of who new ≡ entries_of who old) × (max_performed ≤ performed_count new)

  others_rest : (old others new : List Entry) → entries_of who others ≡ [] → new ≡ old ++ others → max_performed ≤ performed_count old → Rests old new
  others_rest old others new none is full = (
    ap (entries_of who) is ∙ own_others who old others none,
    subst (λ (h : List Entry). max_performed ≤ performed_count h) (sym is) (more_performed old others full),
  )

  full_lines : (old : List Entry) (lines : List (List ℕ)) (new : List Entry) (replies : List (List ℕ)) → max_performed ≤ performed_count old
      → Goes (ServesLine tempo who) old lines new replies → Rests old new
  full_lines old [] new [] full is = others_rest old [] new refl (is ∙ sym (append-nil old)) full
  full_lines old [] new (reply ∷ replies) full h = absurd h
  full_lines old (line ∷ lines) new [] full h = absurd h
  full_lines old (line ∷ lines) new (reply ∷ replies) full h =
      let next : List Entry = h.0 in let one = h.1 in
      let here = others_rest old one.others next one.none_own
      (text_stays (old ++ one.others) line next reply (more_performed old one.others full) one.answered) full in
      let more = full_lines next lines new replies here.1 h.2 in
      (more.0 ∙ here.0, more.1)

  -- ---- after a line that was refused so
  abbrev Parts : List Entry → List (List ℕ) → List ℕ → List (List ℕ) → List Entry → List (List ℕ) → List ℕ → List (List ℕ) → Type 0
  Parts old lines line later new replies reply others =
      (mid : List Entry) × (next : List Entry) × Goes (ServesLine tempo who) old lines mid replies × ServesLine tempo who mid line next reply
      × Goes (ServesLine tempo who) next later new others

  parts_of : (old : List Entry) (lines : List (List ℕ)) (line : List ℕ) (later : List (List ℕ)) (new : List Entry) (replies : List (List ℕ))
      (reply : List ℕ) (others : List (List ℕ)) → length replies ≡ length lines
      → Goes (ServesLine tempo who) old (lines ++ line ∷ later) new (replies ++ reply ∷ others) → Parts old lines line later new replies reply others
  parts_of old [] line later new [] reply others same h = (old, h.0, refl, h.1, h.2)
  parts_of old [] line later new (r ∷ rs) reply others same h = absurd (omega (arith, same))
  parts_of old (l ∷ ls) line later new [] reply others same h = absurd (omega (arith, same))
  parts_of old (l ∷ ls) line later new (r ∷ rs) reply others same h =
      let more = parts_of h.0 ls line later new rs reply others (omega (arith, same)) h.2 in
      (more.0, more.1, (h.0, h.1, more.2), more.3, more.4)

  pub full_entries : (lines : List (List ℕ)) (line : List ℕ) (later replies others : List (List ℕ)) (history : List Entry) → IsLegal history
      → length replies ≡ length lines → Serves tempo who (lines ++ line ∷ later) (replies ++ full_line max_performed ∷ others) history
      → (performed_count history ≡ max_performed) × HaveEntries who lines replies (entries_of who history)
  full_entries lines line later replies others history legal same serves =
      let reached : List Entry = serves.reached in
      let parts = parts_of [] lines line later reached replies (full_line max_performed) others same serves.goes in
      let mid : List Entry = parts.0 in let next : List Entry = parts.1 in let one = parts.3 in
      let legal_reached : IsLegal reached = legal_before reached history (serves.later, serves.whole) legal in
      let legal_next : IsLegal next = legal_before next reached (lines_go tempo who next later reached others parts.4) legal_reached in
      let here = full_text (mid ++ one.others) line next (full_line max_performed)
      (legal_before (mid ++ one.others) next (text_goes tempo who (mid ++ one.others) line next (full_line max_performed) one.answered) legal_next)
      refl one.answered in
      let legal_mid : IsLegal mid = legal_before mid (mid ++ one.others) (one.others, refl) (subst IsLegal here.0 legal_next) in
      let own = own_lines tempo who [] lines mid replies legal_mid parts.2 in
      let full_next : max_performed ≤ performed_count next = subst (λ (h : List Entry). max_performed ≤ performed_count h) (sym here.0) here.1 in
      let rest = full_lines next later reached others full_next parts.4 in
      let end = others_rest reached serves.later history serves.none_own serves.whole rest.1 in
      let all : entries_of who history ≡ own.0 =
      end.0 ∙ (rest.0 ∙ (ap (entries_of who) here.0 ∙ (own_others who mid one.others one.none_own ∙ own.1))) in (
        omega (arith, end.1, few_performed history legal),
        subst (HaveEntries who lines replies) (sym all) own.2,
      )
