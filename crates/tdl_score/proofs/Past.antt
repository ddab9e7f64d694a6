-- What was played is fixed.
--     past_of        an entry that may follow makes no change of a row before the frontier
--     past_fixed     so the score before the frontier stays
use Rattle.std.proofs.Common.{◌≡◌, ℕ, ◌≤◌, List, [], ◌∷◌, ◌++◌, sym, ap, ◌∙◌, subst, arith, append-nil}
use Rattle.std.specs.Int.{div_ceil}
use Rattle.tdl_desk.specs.declared.changes.Dated.{Dated}
use Rattle.tdl_expr.specs.Tree.{Tree}
use Rattle.tdl_fraction.specs.Units.{tick_units}
use Rattle.tdl_score.specs.declared.histories.Entry.{Entry}
use Rattle.tdl_score.specs.declared.histories.Deed.{Deed}
use Rattle.tdl_score.specs.declared.histories.Deed.TheVariants.{Swap, Look, Tick, Finish}
use Rattle.tdl_score.specs.Readings.{Reading, IsReading}
use Rattle.tdl_score.specs.History.{MayFollow, MayBeDone, frontier, boundary_of}
use Rattle.tdl_score.specs.Changes.{DeedMakes, HasChanges}
use Rattle.tdl_score.specs.Score.{score}
use Rattle.tdl_score.proofs.Boundaries.{boundary_covers, div_ceil_least}
use Rattle.tdl_score.proofs.ChangeLists.{changes-split, changes_once}
use Rattle.tdl_score.proofs.Scores.{score-append_later}

-- the cycles before the frontier are before the boundary
boundary_after : (units every : ℕ) → 1 ≤ every → div_ceil units tick_units ≤ boundary_of units every
boundary_after units every h = div_ceil_least units tick_units (boundary_of units every) (omega arith) (boundary_covers units every h)

unchanged : (xs made : List (Dated Tree)) (units : ℕ) → made ≡ [] → score (xs ++ made) units ≡ score xs units
unchanged xs made units none = ap (λ (changes : List (Dated Tree)). score changes units) (ap (λ (more : List (Dated Tree)). xs ++ more) none ∙ append-nil xs)

module _ (Reads : Reading) (reading : IsReading Reads) where
  pub past_of : (entries : List Entry) (who : ℕ) (deed : Deed) → MayBeDone Reads entries who deed → (xs made : List (Dated Tree)) → DeedMakes Reads deed made
      → score (xs ++ made) (frontier entries) ≡ score xs (frontier entries)
  past_of entries who (Swap boundary text) may xs made makes =
      let units = frontier entries in
      let covers : div_ceil units tick_units ≤ makes.0.boundary =
      subst (λ b. div_ceil units tick_units ≤ b) (sym (makes.1.from_boundary ∙ may.on_cycle))
      (boundary_after units may.every (reading.good text may.every may.change may.reads).from_one) in
      ap (λ (more : List (Dated Tree)). score (xs ++ more) units) makes.2 ∙ score-append_later xs makes.0 units covers
  past_of entries who Look may xs made makes = unchanged xs made (frontier entries) makes
  past_of entries who (Tick to) may xs made makes = unchanged xs made (frontier entries) makes
  past_of entries who Finish may xs made makes = unchanged xs made (frontier entries) makes

  pub past_fixed : (entries : List Entry) (e : Entry) → MayFollow Reads entries e → (xs ys : List (Dated Tree)) → HasChanges Reads entries xs
      → HasChanges Reads (entries ++ e ∷ []) ys → score ys (frontier entries) ≡ score xs (frontier entries)
  past_fixed entries e may xs ys has then =
      let split = changes-split Reads entries e ys then in
      let same : split.0 ≡ xs = changes_once Reads reading entries split.0 xs split.2 has in
      ap (λ (changes : List (Dated Tree)). score changes (frontier entries)) split.4
      ∙ past_of entries e.who e.deed may.deed split.0 split.1 split.3
      ∙ ap (λ (changes : List (Dated Tree)). score changes (frontier entries)) same
