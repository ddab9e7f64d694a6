-- Histories whose ticks cut the time in other ways.
--     same_changes      one list of changes and one end
--     performed_has     ticks and the finish make no change
--     texts_has         nothing but texts with their boundaries does
--     same_performed    what performers did, and one end
--     same_texts        the texts of swaps with their boundaries, and one end
use Rattle.std.proofs.Common.{◌≡◌, ℕ, Bool, true, false, cond, not, List, [], ◌∷◌, ◌++◌, map, refl, sym, ap, ap₂, ◌∙◌, subst}
use Rattle.std.proofs.lemmas.Bool.{false≢true}
use Rattle.tdl_desk.specs.declared.changes.Dated.{Dated}
use Rattle.tdl_expr.specs.Tree.{Tree}
use Rattle.tdl_score.specs.declared.histories.Entry.{Entry}
use Rattle.tdl_score.specs.declared.histories.Deed.{Deed}
use Rattle.tdl_score.specs.declared.histories.Deed.TheVariants.{Swap, Look, Tick, Finish}
use Rattle.tdl_score.specs.Readings.{Reading, IsReading}
use Rattle.tdl_score.specs.History.{DatedText, EndTogether, dated_texts, performed, plays, texts_of}
use Rattle.tdl_score.specs.Changes.{DeedMakes, HasChanges}
use Rattle.tdl_score.specs.Score.{score}
use Rattle.tdl_score.specs.Wires.{HasSent, Protocol}
use Rattle.tdl_score.proofs.ChangeLists.{changes_once}
use Rattle.tdl_score.proofs.OnWires.{sent_alike}

-- a swap with this text
abbrev swap_of : DatedText → Entry
swap_of dated = record { who = 1; frontier = 0; deed = Swap dated.boundary dated.text }

module _ (Reads : Reading) where
  play_makes : (deed : Deed) (made : List (Dated Tree)) → plays deed ≡ true → DeedMakes Reads deed made → made ≡ []
  play_makes (Swap boundary text) made e makes = absurd (false≢true e)
  play_makes Look made e makes = absurd (false≢true e)
  play_makes (Tick to) made e makes = makes
  play_makes Finish made e makes = makes

  pub performed_has : (entries : List Entry) (xs : List (Dated Tree)) → HasChanges Reads entries xs → HasChanges Reads (performed entries) xs
  performed_has [] xs has = has
  performed_has (e ∷ entries) xs has = by (plays e.deed) refl (performed_has entries has.1 has.3)
    where
      by : (b : Bool) → plays e.deed ≡ b → HasChanges Reads (performed entries) has.1
          → HasChanges Reads (cond (not b) (e ∷ performed entries) (performed entries)) xs
      by true play more =
          subst (HasChanges Reads (performed entries)) (sym (has.4
          ∙ ap (λ (first : List (Dated Tree)). first ++ has.1) (play_makes e.deed has.0 play has.2))) more
      by false other more = (has.0, has.1, has.2, more, has.4)

  pub texts_has : (entries : List Entry) (xs : List (Dated Tree)) → HasChanges Reads entries xs → HasChanges Reads (map swap_of (dated_texts entries)) xs
  texts_has [] xs has = has
  texts_has (e ∷ entries) xs has = with_deed e.deed has.2 (texts_has entries has.1 has.3)
    where
      with_deed : (deed : Deed) → DeedMakes Reads deed has.0 → HasChanges Reads (map swap_of (dated_texts entries)) has.1
          → HasChanges Reads (map swap_of (texts_of deed ++ dated_texts entries)) xs
      with_deed (Swap boundary text) makes more = (has.0, has.1, makes, more, has.4)
      with_deed Look makes more =
          subst (HasChanges Reads (map swap_of (dated_texts entries))) (sym (has.4 ∙ ap (λ (first : List (Dated Tree)). first ++ has.1) makes)) more
      with_deed (Tick to) makes more =
          subst (HasChanges Reads (map swap_of (dated_texts entries))) (sym (has.4 ∙ ap (λ (first : List (Dated Tree)). first ++ has.1) makes)) more
      with_deed Finish makes more =
          subst (HasChanges Reads (map swap_of (dated_texts entries))) (sym (has.4 ∙ ap (λ (first : List (Dated Tree)). first ++ has.1) makes)) more

  module _ (reading : IsReading Reads) (wire : Protocol) (one other : List Entry) (together : EndTogether one other) (p q : List (List ℕ))
      (first : HasSent Reads wire one p) (second : HasSent Reads wire other q) where
    same_sent : first.changes ≡ second.changes → p ≡ q
    same_sent same =
        first.sent ∙ sent_alike wire together.finished together.frontier (ap₂ score same together.frontier) ∙ sym second.sent

    pub same_changes : (changes : List (Dated Tree)) → HasChanges Reads one changes → HasChanges Reads other changes → p ≡ q
    same_changes changes has_one has_other =
        same_sent (changes_once Reads reading one first.changes changes first.has has_one
        ∙ changes_once Reads reading other changes second.changes has_other second.has)

    pub same_performed : performed one ≡ performed other → p ≡ q
    same_performed same =
        same_sent
        (changes_once Reads reading (performed other) first.changes second.changes
        (subst (λ (entries : List Entry). HasChanges Reads entries first.changes) same (performed_has one first.changes first.has))
        (performed_has other second.changes second.has))

    pub same_texts : dated_texts one ≡ dated_texts other → p ≡ q
    same_texts same =
        same_sent
        (changes_once Reads reading (map swap_of (dated_texts other)) first.changes second.changes
        (subst (λ (texts : List DatedText). HasChanges Reads (map swap_of texts) first.changes) same (texts_has one first.changes first.has))
        (texts_has other second.changes second.has))
