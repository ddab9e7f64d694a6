-- The changes that histories make.
--     made_once, changes_once    a deed and a history make one list of changes at most
--     changes-append             what entries make, and then what one more makes
--     changes-split              and the other way round
--     changes_then               the list that entries and one more make is that of the entries, and then what the last makes
--     deed_makes, legal_has      a deed that may be done makes a list, and a legal history has one
--     playable                   the patterns of its changes can be played
use Rattle.std.proofs.Common.{◌≡◌, ℕ, List, [], ◌∷◌, ◌++◌, IfSome, refl, sym, ap, ap₂, ◌∙◌, subst, append_assoc, append-nil}
use Rattle.tdl_order.proofs.EachItem.{All-append}
use Rattle.tdl_desk.specs.declared.changes.Change.{Change}
use Rattle.tdl_desk.specs.declared.changes.Dated.{Dated}
use Rattle.tdl_desk.specs.Changes.{pattern_in}
use Rattle.tdl_expr.specs.Tree.{Tree}
use Rattle.tdl_score.specs.declared.histories.Entry.{Entry}
use Rattle.tdl_score.specs.declared.histories.Deed.{Deed}
use Rattle.tdl_score.specs.declared.histories.Deed.TheVariants.{Swap, Look, Tick, Finish}
use Rattle.tdl_score.specs.Readings.{Reading, IsReading, IsPlayable}
use Rattle.tdl_score.specs.History.{MayBeDone, IsLegal}
use Rattle.tdl_score.specs.Changes.{DeedMakes, HasChanges, ArePlayable}

-- a change that is dated is told by its boundary and by what it changes
same_dated : (c d : Dated Tree) → c.boundary ≡ d.boundary → c.change ≡ d.change → c ≡ d
same_dated c d boundary change = ap₂ (λ (b : ℕ) (ch : Change Tree). record { boundary = b; change = ch }) boundary change

module _ (Reads : Reading) where
  -- ---- one entry more
  pub changes-append : (entries : List Entry) (e : Entry) (xs made : List (Dated Tree)) → HasChanges Reads entries xs → DeedMakes Reads e.deed made
      → HasChanges Reads (entries ++ e ∷ []) (xs ++ made)
  changes-append [] e xs made has makes = (made, [], makes, refl, ap (λ (ys : List (Dated Tree)). ys ++ made) has ∙ sym (append-nil made))
  changes-append (x ∷ entries) e xs made has makes =
      let more = changes-append entries e has.1 made has.3 makes in
      (has.0, has.1 ++ made, has.2, more, ap (λ (ys : List (Dated Tree)). ys ++ made) has.4 ∙ append_assoc has.0 has.1 made)

  abbrev pub Split : List Entry → Entry → List (Dated Tree) → Type 0
  Split entries e ys = (xs : List (Dated Tree)) × (made : List (Dated Tree)) × HasChanges Reads entries xs × DeedMakes Reads e.deed made × (ys ≡ xs ++ made)

  pub changes-split : (entries : List Entry) (e : Entry) (ys : List (Dated Tree)) → HasChanges Reads (entries ++ e ∷ []) ys → Split entries e ys
  changes-split [] e ys has =
      ([], has.0, refl, has.2, has.4 ∙ ap (λ (rest : List (Dated Tree)). has.0 ++ rest) has.3 ∙ append-nil has.0)
  changes-split (x ∷ entries) e ys has =
      let more = changes-split entries e has.1 has.3 in (
        has.0 ++ more.0,
        more.1,
        (has.0, more.0, has.2, more.2, refl),
        more.3,
        has.4 ∙ ap (λ (rest : List (Dated Tree)). has.0 ++ rest) more.4 ∙ sym (append_assoc has.0 more.0 more.1),
      )

  -- ---- a legal history has a list
  pub deed_makes : (entries : List Entry) (who : ℕ) (deed : Deed) → MayBeDone Reads entries who deed → (made : List (Dated Tree)) × DeedMakes Reads deed made
  deed_makes entries who (Swap boundary text) may =
      let dated : Dated Tree = record { boundary = boundary; change = may.change } in
      (dated ∷ [], (dated, record { from_boundary = refl; every = may.every; reads = may.reads }, refl))
  deed_makes entries who Look may = ([], refl)
  deed_makes entries who (Tick to) may = ([], refl)
  deed_makes entries who Finish may = ([], refl)

  has_on : (done rest : List Entry) → IsLegal Reads (done ++ rest) → (changes : List (Dated Tree)) × HasChanges Reads rest changes
  has_on done [] legal = ([], refl)
  has_on done (e ∷ rest) legal =
      let first = deed_makes done e.who e.deed (legal.each done e rest refl).deed in
      let more = has_on (done ++ e ∷ []) rest (subst (IsLegal Reads) (sym (append_assoc done (e ∷ []) rest)) legal) in
      (first.0 ++ more.0, (first.0, more.0, first.1, more.1, refl))

  pub legal_has : (entries : List Entry) → IsLegal Reads entries → (changes : List (Dated Tree)) × HasChanges Reads entries changes
  legal_has entries legal = has_on [] entries legal

  module _ (reading : IsReading Reads) where
    -- ---- one list at most
    pub made_once : (deed : Deed) (xs ys : List (Dated Tree)) → DeedMakes Reads deed xs → DeedMakes Reads deed ys → xs ≡ ys
    made_once (Swap boundary text) xs ys h k =
        let same = same_dated h.0 k.0 (h.1.from_boundary ∙ sym k.1.from_boundary)
        (reading.one_change text h.1.every k.1.every h.0.change k.0.change h.1.reads k.1.reads) in
        h.2 ∙ ap (λ (d : Dated Tree). d ∷ []) same ∙ sym k.2
    made_once Look xs ys h k = h ∙ sym k
    made_once (Tick to) xs ys h k = h ∙ sym k
    made_once Finish xs ys h k = h ∙ sym k

    pub changes_once : (entries : List Entry) (xs ys : List (Dated Tree)) → HasChanges Reads entries xs → HasChanges Reads entries ys → xs ≡ ys
    changes_once [] xs ys h k = h ∙ sym k
    changes_once (e ∷ entries) xs ys h k =
        h.4 ∙ ap₂ (λ (us vs : List (Dated Tree)). us ++ vs) (made_once e.deed h.0 k.0 h.2 k.2) (changes_once entries h.1 k.1 h.3 k.3) ∙ sym k.4

    pub changes_then : (entries : List Entry) (e : Entry) (xs made ys : List (Dated Tree)) → HasChanges Reads entries xs → DeedMakes Reads e.deed made
        → HasChanges Reads (entries ++ e ∷ []) ys → ys ≡ xs ++ made
    changes_then entries e xs made ys has makes then = changes_once (entries ++ e ∷ []) ys (xs ++ made) then (changes-append entries e xs made has makes)

    -- ---- patterns that can be played
    abbrev IsPlayableChange : Dated Tree → Type 0
    IsPlayableChange dated = IfSome (pattern_in dated.change) IsPlayable

    made_playable : (deed : Deed) (changes : List (Dated Tree)) → DeedMakes Reads deed changes → ArePlayable changes
    made_playable (Swap boundary text) changes h = subst ArePlayable (sym h.2) ((reading.good text h.1.every h.0.change h.1.reads).playable, tt)
    made_playable Look changes h = subst ArePlayable (sym h) tt
    made_playable (Tick to) changes h = subst ArePlayable (sym h) tt
    made_playable Finish changes h = subst ArePlayable (sym h) tt

    pub playable : (entries : List Entry) (changes : List (Dated Tree)) → HasChanges Reads entries changes → ArePlayable changes
    playable [] changes h = subst ArePlayable (sym h) tt
    playable (e ∷ entries) changes h =
        subst ArePlayable (sym h.4) (All-append IsPlayableChange h.0 h.1 (made_playable e.deed h.0 h.2) (playable entries h.1 h.3))
