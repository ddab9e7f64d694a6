-- What a history sends before and after the last entry that plays.
--     cut_at_play              a tick or the finish at the end is the last one that plays
--     others_send_the_same     an entry that plays nothing moves nothing of what was sent before the last one that plays
--     sends_once               a history sends one list to a wire at most
--     performed_sends_nothing  swaps and looks send nothing
--     entry_sends              what one entry more sends begins with what was sent
--     last_play_begins         so a history begins with what it sends before its last tick or finish
use Rattle.std.proofs.Common.{◌≡◌, ℕ, Bool, true, false, not, ◌&&◌, ◌||◌, List, [], ◌∷◌, ◌++◌, refl, sym, ap, ap₂, ◌∙◌, subst, append_assoc, append-nil}
use Rattle.std.specs.Prelude.{if◌then◌else◌}
use Rattle.std.proofs.lemmas.Bool.{false≢true, or_right, or_left, or_parts, and_right, not_from_true}
use Rattle.std.proofs.lemmas.List.Folds.{list_any-append}
use Rattle.tdl_desk.specs.declared.changes.Dated.{Dated}
use Rattle.tdl_expr.specs.Tree.{Tree}
use Rattle.tdl_meaning.specs.Proper.{ProperLaw}
use Rattle.tdl_meaning.specs.Ranges.{RangeLaw}
use Rattle.tdl_score.specs.declared.histories.Entry.{Entry}
use Rattle.tdl_score.specs.declared.histories.Deed.{Deed}
use Rattle.tdl_score.specs.declared.histories.Deed.TheVariants.{Swap, Look, Tick, Finish}
use Rattle.tdl_score.specs.Readings.{Reading, IsReading}
use Rattle.tdl_score.specs.History.{frontier, frontier_from, is_finish_deed, is_finished, plays, has_play, before_last_play}
use Rattle.tdl_score.specs.History.{MayFollow, IsLegal}
use Rattle.tdl_score.specs.Changes.{DeedMakes, HasChanges}
use Rattle.tdl_score.specs.Programs.{rows_between}
use Rattle.tdl_score.specs.Score.{score}
use Rattle.tdl_score.specs.Wires.{HasSent, Protocol, sent_of}
use Rattle.tdl_score.proofs.Begun.{rows_span}
use Rattle.tdl_score.proofs.ChangeLists.{changes-split, changes_once, legal_has, playable}
use Rattle.tdl_score.proofs.Entries.{frontier-append, is_finished-append, IsLegal-front, stays, still_finished}
use Rattle.tdl_score.proofs.OnWires.{Begins, finish_begins, nothing_sent, sent_alike, tick_begins}
use Rattle.tdl_score.proofs.Past.{past_of}
use Rattle.tdl_score.proofs.Scores.{score_goes_on}

-- ---- the entries before the last one that plays
has_play-append : (entries : List Entry) (e : Entry) → has_play (entries ++ e ∷ []) ≡ (has_play entries || (plays e.deed || false))
has_play-append entries e = list_any-append (λ (x : Entry). plays x.deed) entries (e ∷ [])

no_more : (a b : Bool) → b ≡ false → (a || (b || false)) ≡ a
no_more true b e = refl
no_more false b e = rw e refl

pub cut_at_play : (entries : List Entry) (e : Entry) → plays e.deed ≡ true → before_last_play (entries ++ e ∷ []) ≡ entries
cut_at_play [] e play = rw play refl
cut_at_play (x ∷ entries) e play =
    let more : has_play (entries ++ e ∷ []) ≡ true = has_play-append entries e ∙ or_right (has_play entries) _ (or_left (plays e.deed) false play) in
    rw (and_right (plays x.deed) (not (has_play (entries ++ e ∷ []))) (not_from_true (has_play (entries ++ e ∷ [])) more))
    (ap (λ xs. x ∷ xs) (cut_at_play entries e play))

-- an entry that plays nothing, after one that plays
cut_before : (entries : List Entry) (e : Entry) → plays e.deed ≡ false → has_play entries ≡ true
    → before_last_play (entries ++ e ∷ []) ≡ before_last_play entries
cut_before [] e other some = absurd (false≢true some)
cut_before (x ∷ entries) e other some =
    let same : has_play (entries ++ e ∷ []) ≡ has_play entries = has_play-append entries e ∙ no_more (has_play entries) (plays e.deed) other in
    rw same (either (plays x.deed) (has_play entries) some (cut_before entries e other))
  where
    either : (a b : Bool) → (a || b) ≡ true → (b ≡ true → before_last_play (entries ++ e ∷ []) ≡ before_last_play entries)
        → (if a && not b then [] else x ∷ before_last_play (entries ++ e ∷ [])) ≡ (if a && not b then [] else x ∷ before_last_play entries)
    either true false h more = refl
    either true true h more = ap (λ xs. x ∷ xs) (more refl)
    either false true h more = ap (λ xs. x ∷ xs) (more refl)
    either false false h more = absurd (false≢true h)

uncut : (entries : List Entry) → has_play entries ≡ false → before_last_play entries ≡ entries
uncut [] none = refl
uncut (x ∷ entries) none =
    let parts = or_parts (plays x.deed) (has_play entries) none in
    rw parts.0 (ap (λ xs. x ∷ xs) (uncut entries parts.1))

frontier_unmoved : (units : ℕ) (entries : List Entry) → has_play entries ≡ false → frontier_from units entries ≡ units
frontier_unmoved units [] none = refl
frontier_unmoved units (x ∷ entries) none =
    let parts = or_parts (plays x.deed) (has_play entries) none in
    ap (λ n. frontier_from n entries) (stays units x.deed parts.0) ∙ frontier_unmoved units entries parts.1

unfinished_deed : (deed : Deed) → plays deed ≡ false → is_finish_deed deed ≡ false
unfinished_deed (Swap boundary text) e = refl
unfinished_deed Look e = refl
unfinished_deed (Tick to) e = refl
unfinished_deed Finish e = e

unfinished : (entries : List Entry) → has_play entries ≡ false → is_finished entries ≡ false
unfinished [] none = refl
unfinished (x ∷ entries) none =
    let parts = or_parts (plays x.deed) (has_play entries) none in
    ap₂ (λ (a b : Bool). a || b) (unfinished_deed x.deed parts.0) (unfinished entries parts.1)

no_score : (changes : List (Dated Tree)) → score changes 0 ≡ []
unfolding score
no_score changes = refl

-- what a history of these changes sends
abbrev sent_by : Protocol → List Entry → List (Dated Tree) → List (List ℕ)
sent_by wire entries changes = sent_of wire (is_finished entries) (frontier entries) (score changes (frontier entries))

unsent : (wire : Protocol) (entries : List Entry) (changes : List (Dated Tree)) → has_play entries ≡ false → sent_by wire entries changes ≡ []
unsent wire entries changes none =
    let here : frontier entries ≡ 0 = frontier_unmoved 0 entries none in
    sent_alike wire (unfinished entries none) here (ap (score changes) here ∙ no_score changes) ∙ nothing_sent wire

module _ (Reads : Reading) (wire : Protocol) where
  -- where nothing plays, a history that has changes sends nothing
  sends_none : (entries : List Entry) (changes : List (Dated Tree)) → HasChanges Reads entries changes → has_play entries ≡ false
      → HasSent Reads wire entries []
  sends_none entries changes has none = record { changes = changes; has = has; sent = sym (unsent wire entries changes none) }

  none_sent : (entries : List Entry) (sent : List (List ℕ)) → has_play entries ≡ false → HasSent Reads wire entries sent → sent ≡ []
  none_sent entries sent none is = is.sent ∙ unsent wire entries is.changes none

  no_play_still : (entries : List Entry) (e : Entry) → plays e.deed ≡ false → has_play entries ≡ false → has_play (entries ++ e ∷ []) ≡ false
  no_play_still entries e other none = has_play-append entries e ∙ no_more (has_play entries) (plays e.deed) other ∙ none

  -- an entry that plays nothing moves nothing
  pub others_send_the_same : (entries : List Entry) (e : Entry) → plays e.deed ≡ false → (all sent : List (List ℕ))
      → HasSent Reads wire (entries ++ e ∷ []) all → HasSent Reads wire (before_last_play entries) sent
      → HasSent Reads wire (before_last_play (entries ++ e ∷ [])) sent
  others_send_the_same entries e other all sent whole before = either (has_play entries) refl
    where
      either : (b : Bool) → has_play entries ≡ b → HasSent Reads wire (before_last_play (entries ++ e ∷ [])) sent
      either true some = subst (λ (cut : List Entry). HasSent Reads wire cut sent) (sym (cut_before entries e other some)) before
      either false none =
          let still = no_play_still entries e other none in
          let nothing : sent ≡ [] = none_sent entries sent none (subst (λ (cut : List Entry). HasSent Reads wire cut sent) (uncut entries none) before) in
          subst (λ (cut : List Entry). HasSent Reads wire cut sent) (sym (uncut (entries ++ e ∷ []) still))
          (subst (HasSent Reads wire (entries ++ e ∷ [])) (sym nothing) (sends_none (entries ++ e ∷ []) whole.changes whole.has still))

  -- and back
  others_sent_the_same : (entries : List Entry) (e : Entry) → plays e.deed ≡ false → (changes : List (Dated Tree)) → HasChanges Reads entries changes
      → (sent : List (List ℕ)) → HasSent Reads wire (before_last_play (entries ++ e ∷ [])) sent → HasSent Reads wire (before_last_play entries) sent
  others_sent_the_same entries e other changes has sent after = either (has_play entries) refl
    where
      either : (b : Bool) → has_play entries ≡ b → HasSent Reads wire (before_last_play entries) sent
      either true some = subst (λ (cut : List Entry). HasSent Reads wire cut sent) (cut_before entries e other some) after
      either false none =
          let still = no_play_still entries e other none in
          let nothing : sent ≡ [] =
          none_sent (entries ++ e ∷ []) sent still (subst (λ (cut : List Entry). HasSent Reads wire cut sent) (uncut (entries ++ e ∷ []) still) after) in
          subst (λ (cut : List Entry). HasSent Reads wire cut sent) (sym (uncut entries none))
          (subst (HasSent Reads wire entries) (sym nothing) (sends_none entries changes has none))

-- ---- what one entry more sends
begins_chain : (a b c : List (List ℕ)) → Begins a b → Begins b c → Begins a c
begins_chain a b c h k = (h.0 ++ k.0, k.1 ∙ ap (λ s. s ++ k.0) h.1 ∙ append_assoc a h.0 k.0)

begins_as : (a b c d : List (List ℕ)) → c ≡ a → d ≡ b → Begins a b → Begins c d
begins_as a b c d e f h = (h.0, f ∙ h.1 ∙ ap (λ s. s ++ h.0) (sym e))

module _ (Reads : Reading) (reading : IsReading Reads) (wire : Protocol) where
  pub sends_once : (entries : List Entry) (p q : List (List ℕ)) → HasSent Reads wire entries p → HasSent Reads wire entries q → p ≡ q
  sends_once entries p q one other =
      one.sent ∙ ap (sent_by wire entries) (changes_once Reads reading entries one.changes other.changes one.has other.has) ∙ sym other.sent

  -- of one entry more: the changes before it, and what it sends with them
  more_sent : (entries : List Entry) (e : Entry) (xs : List (Dated Tree)) → HasChanges Reads entries xs → (new : List (List ℕ))
      → HasSent Reads wire (entries ++ e ∷ []) new
      → (made : List (Dated Tree)) × DeedMakes Reads e.deed made × (new ≡ sent_by wire (entries ++ e ∷ []) (xs ++ made))
  more_sent entries e xs has new is =
      let split = changes-split Reads entries e is.changes is.has in
      let same : split.0 ≡ xs = changes_once Reads reading entries split.0 xs split.2 has in (
        split.1,
        split.3,
        is.sent ∙ ap (sent_by wire (entries ++ e ∷ [])) (split.4 ∙ ap (λ (before : List (Dated Tree)). before ++ split.1) same),
      )

  pub performed_sends_nothing : (entries : List Entry) (e : Entry) → plays e.deed ≡ false → MayFollow Reads entries e → (old new : List (List ℕ))
      → HasSent Reads wire entries old → HasSent Reads wire (entries ++ e ∷ []) new → new ≡ old
  performed_sends_nothing entries e other may old new before after =
      let more = more_sent entries e before.changes before.has new after in
      let here : frontier (entries ++ e ∷ []) ≡ frontier entries = frontier-append entries e ∙ stays (frontier entries) e.deed other in
      more.2
      ∙ sent_alike wire (still_finished entries e other) here
      (ap (score (before.changes ++ more.0)) here ∙ past_of Reads reading entries e.who e.deed may.deed before.changes more.0 more.1)
      ∙ sym before.sent

  module _ (proper : ProperLaw) (range : RangeLaw) where
    -- a tick begins what is between the frontier and its time
    tick_more : (entries : List Entry) (who before to : ℕ) → let e : Entry = record { who = who; frontier = before; deed = Tick to } in
        MayFollow Reads entries e → (old new : List (List ℕ)) → HasSent Reads wire entries old → HasSent Reads wire (entries ++ e ∷ []) new → Begins old new
    tick_more entries who before to may old new sent after =
        let e : Entry = record { who = who; frontier = before; deed = Tick to } in
        let from = frontier entries in
        let xs = sent.changes in
        let is = playable Reads reading entries xs sent.has in
        let more = more_sent entries e xs sent.has new after in
        let all : xs ++ more.0 ≡ xs = ap (λ (made : List (Dated Tree)). xs ++ made) more.1 ∙ append-nil xs in
        let here : frontier (entries ++ e ∷ []) ≡ to = frontier-append entries e in
        let goes : score (xs ++ more.0) (frontier (entries ++ e ∷ [])) ≡ score xs from ++ rows_between xs from to =
        ap₂ score all here ∙ score_goes_on proper range xs is from to may.deed.forward in
        let going : is_finished (entries ++ e ∷ []) ≡ false = is_finished-append entries e ∙ ap (λ (b : Bool). b || false) may.deed.going in
        begins_as (sent_of wire false from (score xs from)) (sent_of wire false to (score xs from ++ rows_between xs from to)) old new
        (sent.sent ∙ sent_alike wire may.deed.going refl refl)
        (more.2 ∙ sent_alike wire going here goes)
        (tick_begins wire from to (score xs from) (rows_between xs from to) (rows_span proper range xs is from to may.deed.forward))

    -- and the finish ends what sounds
    finish_more : (entries : List Entry) (who before : ℕ) → let e : Entry = record { who = who; frontier = before; deed = Finish } in
        MayFollow Reads entries e → (old new : List (List ℕ)) → HasSent Reads wire entries old → HasSent Reads wire (entries ++ e ∷ []) new → Begins old new
    finish_more entries who before may old new sent after =
        let e : Entry = record { who = who; frontier = before; deed = Finish } in
        let from = frontier entries in
        let xs = sent.changes in
        let more = more_sent entries e xs sent.has new after in
        let all : xs ++ more.0 ≡ xs = ap (λ (made : List (Dated Tree)). xs ++ made) more.1 ∙ append-nil xs in
        let here : frontier (entries ++ e ∷ []) ≡ from = frontier-append entries e in
        let ends : is_finished (entries ++ e ∷ []) ≡ true = is_finished-append entries e ∙ or_right (is_finished entries) true refl in
        begins_as (sent_of wire false from (score xs from)) (sent_of wire true from (score xs from)) old new
        (sent.sent ∙ sent_alike wire may.deed.going refl refl)
        (more.2 ∙ sent_alike wire ends here (ap₂ score all here))
        (finish_begins wire from (score xs from))

    pub entry_sends : (entries : List Entry) (e : Entry) → MayFollow Reads entries e → (old new : List (List ℕ)) → HasSent Reads wire entries old
        → HasSent Reads wire (entries ++ e ∷ []) new → Begins old new
    entry_sends entries e may old new sent after = by_deed e.who e.frontier e.deed may after
      where
        nothing : (who before : ℕ) (deed : Deed) → plays deed ≡ false → MayFollow Reads entries (record { who = who; frontier = before; deed = deed })
            → HasSent Reads wire (entries ++ record { who = who; frontier = before; deed = deed } ∷ []) new → Begins old new
        nothing who before deed other may after =
            ([], performed_sends_nothing entries (record { who = who; frontier = before; deed = deed }) other may old new sent after ∙ sym (append-nil old))

        by_deed : (who before : ℕ) (deed : Deed) → MayFollow Reads entries (record { who = who; frontier = before; deed = deed })
            → HasSent Reads wire (entries ++ record { who = who; frontier = before; deed = deed } ∷ []) new → Begins old new
        by_deed who before (Swap boundary text) may after = nothing who before (Swap boundary text) refl may after
        by_deed who before Look may after = nothing who before Look refl may after
        by_deed who before (Tick to) may after = tick_more entries who before to may old new sent after
        by_deed who before Finish may after = finish_more entries who before may old new sent after

    -- ---- a history begins with what it sends before its last tick or finish
    abbrev Claim : List Entry → Type 0
    Claim entries = (all sent : List (List ℕ)) → HasSent Reads wire entries all → HasSent Reads wire (before_last_play entries) sent → Begins sent all

    claim_more : (entries : List Entry) (e : Entry) → IsLegal Reads entries → MayFollow Reads entries e → Claim entries → Claim (entries ++ e ∷ [])
    claim_more entries e legal may claim all sent whole before = either (plays e.deed) refl
      where
        either : (b : Bool) → plays e.deed ≡ b → Begins sent all
        either true play =
            entry_sends entries e may sent all (subst (λ (cut : List Entry). HasSent Reads wire cut sent) (cut_at_play entries e play) before) whole
        either false other =
            let has = legal_has Reads entries legal in
            let old = sent_by wire entries has.0 in
            let is : HasSent Reads wire entries old = record { changes = has.0; has = has.1; sent = refl } in
            begins_chain sent old all (claim old sent is (others_sent_the_same Reads wire entries e other has.0 has.1 sent before))
            (entry_sends entries e may old all is whole)

    claim_grows : (done rest : List Entry) → IsLegal Reads (done ++ rest) → Claim done → Claim (done ++ rest)
    claim_grows done [] legal claim = subst Claim (sym (append-nil done)) claim
    claim_grows done (e ∷ rest) legal claim =
        let same : (done ++ e ∷ []) ++ rest ≡ done ++ e ∷ rest = append_assoc done (e ∷ []) rest in
        let here : MayFollow Reads done e = legal.each done e rest refl in
        subst Claim same
        (claim_grows (done ++ e ∷ []) rest (subst (IsLegal Reads) (sym same) legal) (claim_more done e (IsLegal-front Reads done (e ∷ rest) legal) here claim))

    pub last_play_begins : (entries : List Entry) → IsLegal Reads entries → Claim entries
    last_play_begins entries legal = claim_grows [] entries legal (λ all sent one other. ([], sends_once [] all sent one other ∙ sym (append-nil sent)))
