-- What a core keeps stays true of its history when a performer acts.
--     with_performed                       what is counted after a swap or a look
--     kept_after_swap, kept_after_look     what is kept after a swap, and after a look
--     accepted_swap, accepted_look         and what the call is answered
use Rattle.std.proofs.Common.{◌≡◌, ℕ, ◌+◌, ◌/◌, ◌<◌, List, [], ◌∷◌, ◌++◌, length, map, None, Bool, false, ◌||◌, refl, sym, ap, ◌∙◌, subst, arith, append-nil}
use Rattle.std.proofs.lemmas.List.{map-append}
use Rattle.std.specs.Prelude.{if◌then◌else◌}
use Rattle.tdl_fraction.specs.Units.{tick_units, time_of}
use Rattle.tdl_tempo.specs.Tempo.{Pace}
use Rattle.tdl_compile.specs.Compiled.{Compiled}
use Rattle.tdl_desk.specs.declared.changes.Change.{Change}
use Rattle.tdl_desk.specs.declared.changes.Dated.{Dated}
use Rattle.tdl_desk.specs.Changes.{map_change}
use Rattle.tdl_desk.specs.Desk.{desk}
use Rattle.tdl_desk.specs.Kept.{Kept, StandsFor}
use Rattle.tdl_notes.specs.Row.{Row}
use Rattle.tdl_expr.specs.Tree.{Tree}
use Rattle.tdl_notes.specs.Notes.{tones}
use Rattle.tdl_notes.specs.Waiting.{Queue, Waits}
use Rattle.tdl_score.specs.declared.histories.Entry.{Entry}
use Rattle.tdl_score.specs.declared.histories.Deed.TheVariants as deed
use Rattle.tdl_score.specs.Changes.{DeedMakes}
use Rattle.tdl_score.specs.Growth.{GrowthLaws}
use Rattle.tdl_score.specs.History.{frontier, boundary_of, is_finish_deed, is_finished, is_tick_deed, performed_count, plays, tick_count, max_performed}
use Rattle.tdl_score.specs.Programs.{dated_tree, program_tree}
use Rattle.tdl_score.specs.Score.{score}
use Rattle.tdl_score.specs.Wires.{Protocol, midi, osc}
use Rattle.tdl_core.specs.declared.calls.Call.TheVariants.{Swap, Look}
use Rattle.tdl_core.specs.declared.replies.Reply.TheVariants.{Swapped, Looked}
use Rattle.tdl_core.specs.Said.{Says, HasChanges, HasSent, MayFollow}
use Rattle.tdl_core.specs.Looks.{look_text}
use Rattle.tdl_core.specs.Replies.{IsPerformer, performer_refusal, Accepts}
use Rattle.tdl_core.specs.Core.{Counts, KeepsHistory}
use Rattle.tdl_core.proofs.Kept.{IsCount, OneList, PastIsFixed, no_more, one_more, one_sent, sends, sent, trees}
use Rattle.tdl_core.proofs.Refusals.{has_room}

-- one swap or look more
abbrev pub with_performed : Counts → Counts
with_performed counts = record {
  units = counts.units;
  performed = counts.performed + 1;
  ticks = counts.ticks;
  packets = counts.packets;
  messages = counts.messages;
  finished = counts.finished;
}

module _ (laws : GrowthLaws Says) (one : OneList) (past : PastIsFixed) {tempo : Pace} {entries : List Entry} {state : Kept Compiled} {queue : Queue}
    {counts : Counts} (kept : KeepsHistory tempo entries state queue counts) where
  abbrev made : List (Dated Tree)
  made = trees one kept

  -- ---- a performer's entry, which makes more changes, or none
  module _ (e : Entry) (no_tick : is_tick_deed e.deed ≡ false) (no_finish : is_finish_deed e.deed ≡ false) (may : MayFollow entries e)
      (same : frontier (entries ++ e ∷ []) ≡ frontier entries)
      (room : counts.performed < max_performed) (more : List (Dated Compiled)) (makes : DeedMakes Says e.deed (map dated_tree more)) where
    all_trees : HasChanges (entries ++ e ∷ []) (map dated_tree (kept.changes ++ more))
    all_trees =
        subst (HasChanges (entries ++ e ∷ [])) (sym (map-append dated_tree kept.changes more))
        ((laws.adds entries e).changes made (map dated_tree more) kept.desk.has makes)

    quiet : plays e.deed ≡ false
    quiet = ap (λ (b : Bool). b || is_finish_deed e.deed) no_tick ∙ no_finish

    still_counted : (wire : Protocol) (n : ℕ) → IsCount wire entries n → IsCount wire (entries ++ e ∷ []) n
    still_counted wire n count p h =
        let all = sent one kept wire in
        count all (sends one kept wire) ∙ ap (λ (l : List (List ℕ)). length l)
        (one_sent one wire (entries ++ e ∷ []) all p (laws.quiet wire entries e may quiet all (sends one kept wire)) h)

    finished_still : is_finished (entries ++ e ∷ []) ≡ is_finished entries
    finished_still = (laws.adds entries e).finished ∙ no_more (is_finished entries) (is_finish_deed e.deed) no_finish

    performed_more : counts.performed + 1 ≡ performed_count (entries ++ e ∷ [])
    performed_more =
        sym ((laws.adds entries e).performed ∙ ap (λ (b : Bool). performed_count entries + (if b then 0 else 1)) quiet
        ∙ ap (λ n. n + 1) (sym kept.counted.performed_are))

    ticks_still : counts.ticks ≡ tick_count (entries ++ e ∷ [])
    ticks_still =
        sym ((laws.adds entries e).ticks ∙ ap (λ (b : Bool). tick_count entries + (if b then 1 else 0)) no_tick ∙ plus_none (tick_count entries)
        ∙ sym kept.counted.ticks_are)
      where
        plus_none : (n : ℕ) → n + 0 ≡ n
        plus_none n = omega arith

    still_wait : is_finished (entries ++ e ∷ []) ≡ false
        → Waits (time_of (frontier (entries ++ e ∷ []))) (tones (score (map dated_tree (kept.changes ++ more)) (frontier (entries ++ e ∷ [])))) queue
    still_wait going =
        subst (λ (u : ℕ). Waits (time_of u) (tones (score (map dated_tree (kept.changes ++ more)) u)) queue) (sym same)
        (subst (λ (rows : List Row). Waits (time_of (frontier entries)) (tones rows) queue)
        (sym (past entries e may made (map dated_tree (kept.changes ++ more)) kept.desk.has all_trees))
        (kept.notes (sym finished_still ∙ going)))

    kept_after : (state' : Kept Compiled) → StandsFor state' (kept.changes ++ more) → state'.settled ≡ state.settled
        → KeepsHistory tempo (entries ++ e ∷ []) state' queue (with_performed counts)
    kept_after state' stands settled = record {
      legal = laws.legal entries e kept.legal may;
      changes = kept.changes ++ more;
      desk = record { has = all_trees; stands = stands; settled = settled ∙ kept.desk.settled ∙ ap (λ units. units / tick_units) (sym same) };
      counted = record {
        played = kept.counted.played ∙ sym same;
        performed_are = performed_more;
        ticks_are = ticks_still;
        finished_is = kept.counted.finished_is ∙ sym finished_still;
        counted = omega (arith, one_more entries e, kept.counted.counted);
        few_performed = omega arith;
        few_ticks = kept.counted.few_ticks;
        to_last = kept.counted.to_last;
      };
      packets = still_counted (osc tempo) counts.packets kept.packets;
      messages = still_counted midi counts.messages kept.messages;
      notes = still_wait;
    }

    -- what a wire gets with the reply is nothing
    still_sent : (wire : Protocol) (new : List Entry) → new ≡ entries ++ e ∷ [] → (p : List (List ℕ)) → HasSent wire entries p → HasSent wire new (p ++ [])
    still_sent wire new gained p h =
        subst (λ (es : List Entry). HasSent wire es (p ++ [])) (sym gained)
        (subst (HasSent wire (entries ++ e ∷ [])) (sym (append-nil p)) (laws.quiet wire entries e may quiet p h))

  not_refused : None ≡ performer_refusal counts.performed → performer_refusal (performed_count entries) ≡ None
  not_refused e = sym (e ∙ ap performer_refusal kept.counted.performed_are)

  -- ---- a swap
  module _ (who boundary every : ℕ) (text : List ℕ) (change : Change Compiled) (performer : IsPerformer who)
      (says : Says text every (map_change program_tree change))
      (allowed : None ≡ performer_refusal counts.performed) (on_cycle : boundary ≡ boundary_of counts.units every) where
    abbrev swap_entry : Entry
    swap_entry = record { who = who; frontier = counts.units; deed = deed.Swap boundary text }

    abbrev added : Dated Compiled
    added = record { boundary = boundary; change = change }

    swap_follows : MayFollow entries swap_entry
    swap_follows = record {
      frontier = kept.counted.played;
      deed = record {
        performed = record {
          from_one = performer.0;
          to_eight = performer.1;
          room = subst (λ n. n < max_performed) kept.counted.performed_are
              (has_room counts.performed allowed);
        };
        every = every;
        change = map_change program_tree change;
        reads = says;
        on_cycle = on_cycle ∙ ap (λ u. boundary_of u every) kept.counted.played;
      };
    }

    swap_makes : DeedMakes Says (deed.Swap boundary text) (map dated_tree (added ∷ []))
    swap_makes = (dated_tree added, record { from_boundary = refl; every = every; reads = says }, refl)

    pub kept_after_swap : (state' : Kept Compiled) → StandsFor state' (kept.changes ++ added ∷ []) → state'.settled ≡ state.settled
        → KeepsHistory tempo (entries ++ swap_entry ∷ []) state' queue (with_performed counts)
    kept_after_swap =
        kept_after swap_entry refl refl swap_follows (laws.adds entries swap_entry).frontier (has_room counts.performed allowed) (added ∷ []) swap_makes

    pub accepted_swap : (new : List Entry) (n : ℕ) → n ≡ length entries → new ≡ entries ++ swap_entry ∷ []
        → Accepts (record { tempo = tempo; history = entries }) (record { tempo = tempo; history = new }) who (Swap text every change) (Swapped n boundary)
    accepted_swap new n count gained = record {
      allowed = not_refused allowed;
      gained = gained ∙ ap (λ u. entries ++ record { who = who; frontier = u; deed = deed.Swap boundary text } ∷ []) kept.counted.played
          ∙ ap (λ b. entries ++ record { who = who; frontier = frontier entries; deed = deed.Swap b text } ∷ []) boundary_is;
      answer = λ changes has. ap (λ k. Swapped k boundary) count ∙ ap (Swapped (length entries)) boundary_is;
      packets = nothing_more (osc tempo);
      messages = nothing_more midi;
      tempo = refl;
    }
      where
        boundary_is : boundary ≡ boundary_of (frontier entries) every
        boundary_is = on_cycle ∙ ap (λ u. boundary_of u every) kept.counted.played

        nothing_more : (wire : Protocol) (p : List (List ℕ)) → HasSent wire entries p → HasSent wire new (p ++ [])
        nothing_more wire =
            still_sent swap_entry refl refl swap_follows (laws.adds entries swap_entry).frontier (has_room counts.performed allowed) (added ∷ []) swap_makes
            wire new gained

  -- ---- a look
  module _ (who : ℕ) (performer : IsPerformer who) (allowed : None ≡ performer_refusal counts.performed) where
    abbrev look_entry : Entry
    look_entry = record { who = who; frontier = counts.units; deed = deed.Look }

    look_follows : MayFollow entries look_entry
    look_follows = record {
      frontier = kept.counted.played;
      deed = record {
        from_one = performer.0;
        to_eight = performer.1;
        room = subst (λ n. n < max_performed) kept.counted.performed_are
            (has_room counts.performed allowed);
      };
    }

    pub kept_after_look : KeepsHistory tempo (entries ++ look_entry ∷ []) state queue (with_performed counts)
    kept_after_look =
        kept_after look_entry refl refl look_follows (laws.adds entries look_entry).frontier (has_room counts.performed allowed) [] refl state
        (subst (StandsFor state) (sym (append-nil kept.changes)) kept.desk.stands) refl

    pub accepted_look : (new : List Entry) (n : ℕ) (text : List ℕ) → n ≡ length entries → new ≡ entries ++ look_entry ∷ []
        → text ≡ look_text (desk made (counts.units / tick_units)) counts.units n
        → Accepts (record { tempo = tempo; history = entries }) (record { tempo = tempo; history = new }) who Look (Looked n text)
    accepted_look new n text count gained shown = record {
      allowed = not_refused allowed;
      gained = gained ∙ ap (λ u. entries ++ record { who = who; frontier = u; deed = deed.Look } ∷ []) kept.counted.played;
      answer = λ changes has.
          let same : made ≡ changes = one entries made changes kept.desk.has has in
          ap (Looked n) (shown ∙ ap (λ u. look_text (desk made (u / tick_units)) u n) kept.counted.played
          ∙ ap (λ cs. look_text (desk cs (frontier entries / tick_units)) (frontier entries) n) same)
          ∙ ap (λ k. Looked k (look_text (desk changes (frontier entries / tick_units)) (frontier entries) k)) count;
      packets = nothing_more (osc tempo);
      messages = nothing_more midi;
      tempo = refl;
    }
      where
        nothing_more : (wire : Protocol) (p : List (List ℕ)) → HasSent wire entries p → HasSent wire new (p ++ [])
        nothing_more wire =
            still_sent look_entry refl refl look_follows (laws.adds entries look_entry).frontier (has_room counts.performed allowed) [] refl wire new gained
