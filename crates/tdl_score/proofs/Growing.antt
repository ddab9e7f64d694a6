-- What an entry more does to a history.
--     growth    the laws of it
use Rattle.std.proofs.Common.{◌≡◌, ℕ, ◌+◌, Bool, true, false, cond, not, List, [], ◌∷◌, ◌++◌, refl, sym, ap, ◌∙◌}
use Rattle.std.specs.Prelude.{if◌then◌else◌}
use Rattle.tdl_desk.specs.declared.changes.Dated.{Dated}
use Rattle.tdl_expr.specs.Tree.{Tree}
use Rattle.tdl_meaning.specs.Proper.{ProperLaw}
use Rattle.tdl_meaning.specs.Ranges.{RangeLaw}
use Rattle.tdl_score.specs.declared.histories.Entry.{Entry}
use Rattle.tdl_score.specs.Readings.{Reading, IsReading}
use Rattle.tdl_score.specs.Growth.{EntryAdds, GrowthLaws, TickLaws}
use Rattle.tdl_score.specs.History.{MayFollow, frontier, is_tick_deed, performed_count, plays, tick_count}
use Rattle.tdl_score.specs.Score.{score}
use Rattle.tdl_score.specs.Wires.{HasSent, Protocol}
use Rattle.tdl_score.proofs.Begun.{rows_span, score_begun}
use Rattle.tdl_score.proofs.ChangeLists.{changes-append, deed_makes, playable}
use Rattle.tdl_score.proofs.Entries.{IsLegal-append, IsLegal-nil, frontier-append, is_finished-append, stays, still_finished}
use Rattle.tdl_score.proofs.Entries.{performed_count-append, tick_count-append}
use Rattle.tdl_score.proofs.OnWires.{sent_alike}
use Rattle.tdl_score.proofs.Past.{past_of}
use Rattle.tdl_score.proofs.Scores.{score_goes_on}

not_counts : (b : Bool) → ◌≡◌ {A = ℕ} (cond (not b) 1 0) (if b then 0 else 1)
not_counts true = refl
not_counts false = refl

counts : (b : Bool) → ◌≡◌ {A = ℕ} (cond b 1 0) (if b then 1 else 0)
counts true = refl
counts false = refl

module _ (Reads : Reading) (reading : IsReading Reads) (proper : ProperLaw) (range : RangeLaw) where
  quiet : (wire : Protocol) (entries : List Entry) (e : Entry) → MayFollow Reads entries e → plays e.deed ≡ false → (packets : List (List ℕ))
      → HasSent Reads wire entries packets → HasSent Reads wire (entries ++ e ∷ []) packets
  quiet wire entries e may none packets h =
      let makes = deed_makes Reads entries e.who e.deed may.deed in
      let all : List (Dated Tree) = h.changes ++ makes.0 in
      let same : frontier (entries ++ e ∷ []) ≡ frontier entries = frontier-append entries e ∙ stays (frontier entries) e.deed none in
      record {
        changes = all;
        has = changes-append Reads entries e h.changes makes.0 h.has makes.1;
        sent = h.sent
            ∙ sent_alike wire (sym (still_finished entries e none)) (sym same)
            (sym (past_of Reads reading entries e.who e.deed may.deed h.changes makes.0 makes.1) ∙ ap (score all) (sym same));
      }

  adds : (entries : List Entry) (e : Entry) → EntryAdds Reads entries e
  adds entries e = record {
    frontier = frontier-append entries e;
    performed = performed_count-append entries e ∙ ap (λ n. performed_count entries + n) (not_counts (plays e.deed));
    ticks = tick_count-append entries e ∙ ap (λ n. tick_count entries + n) (counts (is_tick_deed e.deed));
    finished = is_finished-append entries e;
    changes = changes-append Reads entries e;
  }

  tick : TickLaws Reads
  tick = record {
    plays = λ entries who to may changes has.
        score_goes_on proper range changes (playable Reads reading entries changes has) (frontier entries) to may.forward;
    spans = λ entries who to may changes has.
        rows_span proper range changes (playable Reads reading entries changes has) (frontier entries) to may.forward;
    begun = λ entries changes has. score_begun proper range changes (playable Reads reading entries changes has) (frontier entries);
  }

  pub growth : GrowthLaws Reads
  growth = record {
    nothing = IsLegal-nil Reads;
    legal = λ entries e legal may. IsLegal-append Reads entries e legal may;
    adds = adds;
    quiet = quiet;
    tick = tick;
  }
