-- Boundaries of what follows a history.
--     ahead        one of an entry that may follow is not below the frontier
--     all_ahead    nor is any of the entries that follow in a legal history
use Rattle.std.proofs.Common.{◌≡◌, ℕ, ◌*◌, ◌≤◌, List, [], ◌∷◌, ◌++◌, refl, sym, ◌∙◌, subst, arith, append_assoc}
use Rattle.std.specs.List.{AllByRecursion}
use Rattle.tdl_fraction.specs.Units.{tick_units}
use Rattle.tdl_score.specs.declared.histories.Entry.{Entry}
use Rattle.tdl_score.specs.declared.histories.Deed.{Deed}
use Rattle.tdl_score.specs.declared.histories.Deed.TheVariants.{Swap, Look, Tick, Finish}
use Rattle.tdl_score.specs.Readings.{Reading, IsReading}
use Rattle.tdl_score.specs.History.{DatedText, IsLegal, MayBeDone, MayFollow, dated_texts, frontier, frontier_after, texts_of}
use Rattle.tdl_score.proofs.Boundaries.{boundary_covers}
use Rattle.tdl_score.proofs.Entries.{frontier-append}

module _ (Reads : Reading) (reading : IsReading Reads) where
  at_boundary : (entries : List Entry) (who boundary : ℕ) (text : List ℕ) → MayBeDone Reads entries who (Swap boundary text)
      → frontier entries ≤ boundary * tick_units
  at_boundary entries who boundary text may =
      subst (λ b. frontier entries ≤ b * tick_units) (sym may.on_cycle)
      (boundary_covers (frontier entries) may.every (reading.good text may.every may.change may.reads).from_one)

  pub ahead : (entries : List Entry) (who : ℕ) (deed : Deed) → MayBeDone Reads entries who deed → (boundary : ℕ) (text : List ℕ) → deed ≡ Swap boundary text
      → frontier entries ≤ boundary * tick_units
  ahead entries who deed may boundary text same = at_boundary entries who boundary text (subst (MayBeDone Reads entries who) same may)

  -- no entry takes the frontier back
  goes_up : (entries : List Entry) (who : ℕ) (deed : Deed) → MayBeDone Reads entries who deed → frontier entries ≤ frontier_after (frontier entries) deed
  goes_up entries who (Swap boundary text) may = omega arith
  goes_up entries who Look may = omega arith
  goes_up entries who (Tick to) may = omega (arith, may.forward)
  goes_up entries who Finish may = omega arith

  module _ (units : ℕ) where
    abbrev IsAhead : DatedText → Type 0
    IsAhead dated = units ≤ dated.boundary * tick_units

    one_ahead : (entries : List Entry) (who : ℕ) (deed : Deed) → MayBeDone Reads entries who deed → units ≤ frontier entries → (rest : List DatedText)
        → AllByRecursion IsAhead rest → AllByRecursion IsAhead (texts_of deed ++ rest)
    one_ahead entries who (Swap boundary text) may from rest others = (omega (arith, from, at_boundary entries who boundary text may), others)
    one_ahead entries who Look may from rest others = others
    one_ahead entries who (Tick to) may from rest others = others
    one_ahead entries who Finish may from rest others = others

    behind : (done later : List Entry) → units ≤ frontier done
        → ((before : List Entry) (e : Entry) (after : List Entry) → done ++ later ≡ before ++ e ∷ after → MayFollow Reads before e)
        → AllByRecursion IsAhead (dated_texts later)
    behind done [] from each = tt
    behind done (e ∷ later) from each =
        let may = (each done e later refl).deed in
        let then : units ≤ frontier (done ++ e ∷ []) =
        subst (λ u. units ≤ u) (sym (frontier-append done e)) (omega (arith, from, goes_up done e.who e.deed may)) in
        one_ahead done e.who e.deed may from (dated_texts later)
        (behind (done ++ e ∷ []) later then (λ before x after same. each before x after (sym (append_assoc done (e ∷ []) later) ∙ same)))

  pub all_ahead : (entries later : List Entry) → IsLegal Reads (entries ++ later)
      → AllByRecursion (λ (dated : DatedText). frontier entries ≤ dated.boundary * tick_units) (dated_texts later)
  all_ahead entries later legal = behind (frontier entries) entries later (omega arith) legal.each
