-- What an entry more does to a history.
--     EntryAdds     to its frontier, its counts and its changes
--     TickLaws      what its ticks play
--     GrowthLaws    what may follow a legal history keeps it legal; what does not play sends nothing
use Rattle.std.specs.Prelude.{◌≡◌, ℕ, ◌+◌, false, ◌||◌, if◌then◌else◌, List, [], ◌∷◌, ◌++◌}
use Rattle.tdl_fraction.specs.Units.{time_of}
use Rattle.tdl_desk.specs.declared.changes.Dated.{Dated}
use Rattle.tdl_expr.specs.Tree.{Tree}
use Rattle.tdl_notes.specs.Notes.{tones}
use Rattle.tdl_notes.specs.Waiting.{IsScoreTo, IsSpan}
use Rattle.tdl_score.specs.declared.histories.Entry.{Entry}
use Rattle.tdl_score.specs.Readings.{Reading}
use Rattle.tdl_score.specs.History.{IsLegal, IsTickAfter, MayFollow, frontier, frontier_after}
use Rattle.tdl_score.specs.History.{is_finish_deed, is_finished, is_tick_deed, performed_count, plays, tick_count}
use Rattle.tdl_score.specs.Changes.{DeedMakes, HasChanges}
use Rattle.tdl_score.specs.Programs.{rows_between}
use Rattle.tdl_score.specs.Score.{score}
use Rattle.tdl_score.specs.Wires.{HasSent, Protocol}

pub record EntryAdds (Reads : Reading) (entries : List Entry) (e : Entry) : Type 0 where
  pub frontier : frontier (entries ++ e ∷ []) ≡ frontier_after (frontier entries) e.deed
  pub performed : performed_count (entries ++ e ∷ []) ≡ performed_count entries + (if plays e.deed then 0 else 1)
  pub ticks : tick_count (entries ++ e ∷ []) ≡ tick_count entries + (if is_tick_deed e.deed then 1 else 0)
  pub finished : is_finished (entries ++ e ∷ []) ≡ (is_finished entries || is_finish_deed e.deed)
  -- its changes come last
  pub changes : (xs ys : List (Dated Tree)) → HasChanges Reads entries xs → DeedMakes Reads e.deed ys → HasChanges Reads (entries ++ e ∷ []) (xs ++ ys)

pub record TickLaws (Reads : Reading) : Type 0 where
  -- the rows between its ends
  pub plays : (entries : List Entry) (who to : ℕ) → IsTickAfter entries who to → (changes : List (Dated Tree))
      → HasChanges Reads entries changes → score changes to ≡ score changes (frontier entries) ++ rows_between changes (frontier entries) to
  -- whose notes begin between them, in order
  pub spans : (entries : List Entry) (who to : ℕ) → IsTickAfter entries who to → (changes : List (Dated Tree))
      → HasChanges Reads entries changes → IsSpan (time_of (frontier entries)) (time_of to) (tones (rows_between changes (frontier entries) to))
  -- after all notes that were played before
  pub begun : (entries : List Entry) (changes : List (Dated Tree)) → HasChanges Reads entries changes
      → IsScoreTo (time_of (frontier entries)) (tones (score changes (frontier entries)))

pub record GrowthLaws (Reads : Reading) : Type 0 where
  pub nothing : IsLegal Reads []
  pub legal : (entries : List Entry) (e : Entry) → IsLegal Reads entries → MayFollow Reads entries e → IsLegal Reads (entries ++ e ∷ [])
  pub adds : (entries : List Entry) (e : Entry) → EntryAdds Reads entries e
  -- swaps and looks send nothing to any wire
  pub quiet : (wire : Protocol) (entries : List Entry) (e : Entry) → MayFollow Reads entries e → plays e.deed ≡ false
      → (packets : List (List ℕ)) → HasSent Reads wire entries packets → HasSent Reads wire (entries ++ e ∷ []) packets
  pub tick : TickLaws Reads
