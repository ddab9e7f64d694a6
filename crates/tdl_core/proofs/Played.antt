-- What a core keeps stays true of its history when it plays.
--     packets_of-append, tones-append        what is sent of joined rows
--     finished_midi                          with the finish the ends that are left come last
--     Gains, WaitsOn                         the messages that a time gains, and the ends that wait after it
--     with_tick, with_finish                 what is counted after a tick, and after the finish
--     going, not_finished                    there is no finish yet where the caller may play
--     kept_after_tick, kept_after_finish     what is kept after a tick, and after the finish
--     accepted_tick, accepted_finish         and what the call is answered
use Rattle.std.proofs.Common.{◌≡◌, ℕ, ◌+◌, ◌/◌, ◌<◌, ◌≤◌, List, [], ◌∷◌, ◌++◌, length, map, filter, None, Bool, true, false, ◌||◌}
use Rattle.std.proofs.Common.{refl, sym, ap, ◌∙◌, subst, arith, append-nil}
use Rattle.std.proofs.lemmas.Bool.{false≢true}
use Rattle.std.proofs.lemmas.List.{map-append}
use Rattle.std.proofs.lemmas.List.Elements.{filter-append, filter_map-append}
use Rattle.std.specs.Prelude.{if◌then◌else◌}
use Rattle.tdl_fraction.specs.Rational.{Rational}
use Rattle.tdl_fraction.specs.Units.{tick_units, time_of}
use Rattle.tdl_tempo.specs.Tempo.{Pace}
use Rattle.tdl_osc.specs.Bundle.{bytes_of}
use Rattle.tdl_compile.specs.Compiled.{Compiled}
use Rattle.tdl_desk.specs.declared.changes.Dated.{Dated}
use Rattle.tdl_desk.specs.Kept.{Kept, StandsFor}
use Rattle.tdl_notes.specs.Row.{Row}
use Rattle.tdl_expr.specs.Tree.{Tree}
use Rattle.tdl_notes.specs.declared.tones.Tone.{Tone}
use Rattle.tdl_notes.specs.Notes.{message, midi as midi_before, midi_finished, offs_left, tone_of, tones}
use Rattle.tdl_notes.specs.Waiting.{IsScoreTo, IsSpan, Queue, Waits}
use Rattle.tdl_score.specs.declared.histories.Entry.{Entry}
use Rattle.tdl_score.specs.declared.histories.Deed.TheVariants as deed
use Rattle.tdl_score.specs.Growth.{GrowthLaws}
use Rattle.tdl_score.specs.History.{frontier, entries_of, is_finished, performed_count, tick_count, max_ticks, IsTickAfter}
use Rattle.tdl_score.specs.Programs.{rows_between}
use Rattle.tdl_score.specs.Score.{score}
use Rattle.tdl_score.specs.Wires.{Protocol, goes_to_osc, midi, osc, packets_of, sent_of}
use Rattle.tdl_core.specs.declared.calls.Call.TheVariants.{Tick, Finish}
use Rattle.tdl_core.specs.declared.replies.Reply.TheVariants.{Ticked, Finished}
use Rattle.tdl_core.specs.Said.{Says, HasChanges, HasSent, MayFollow}
use Rattle.tdl_core.specs.Replies.{MayPlay, tick_refusal, Accepts}
use Rattle.tdl_core.specs.Core.{Counts, KeepsHistory}
use Rattle.tdl_core.proofs.Kept.{OneList, goes_on, more_counted, no_more, one_more, sent, trees}
use Rattle.tdl_core.proofs.OwnFinish.{own_finish}
use Rattle.tdl_core.proofs.Refusals.{tick_bounds}

-- ---- what is sent of more rows
packets_of-append : (tempo : Pace) (xs ys : List Row) → packets_of tempo (xs ++ ys) ≡ packets_of tempo xs ++ packets_of tempo ys
packets_of-append tempo xs ys =
    ap (map (λ (row : Row). bytes_of row tempo)) (filter-append goes_to_osc xs ys)
    ∙ map-append (λ (row : Row). bytes_of row tempo) (filter goes_to_osc xs) (filter goes_to_osc ys)

tones-append : (xs ys : List Row) → tones (xs ++ ys) ≡ tones xs ++ tones ys
tones-append xs ys = filter_map-append tone_of xs ys

finished_midi : (units : ℕ) (rows : List Row)
    → sent_of midi true units rows ≡ sent_of midi false units rows ++ map message (offs_left (time_of units) (tones rows))
unfolding midi_finished
finished_midi units rows = refl

-- the messages that a time gains
abbrev pub Gains : Rational → List Tone → Queue → List (List ℕ) → Type 0
Gains to span queue messages =
    (frontier : Rational) (played : List Tone) → IsScoreTo frontier played → IsSpan frontier to span → Waits frontier played queue
    → midi_before to (played ++ span) ≡ midi_before frontier played ++ messages

-- the ends that wait after it
abbrev pub WaitsOn : Rational → List Tone → Queue → Queue → Type 0
WaitsOn to span queue after =
    (frontier : Rational) (played : List Tone) → IsSpan frontier to span → Waits frontier played queue → Waits to (played ++ span) after

abbrev pub with_tick : Counts → ℕ → ℕ → ℕ → Counts
with_tick counts to packets messages = record {
  units = to;
  performed = counts.performed;
  ticks = counts.ticks + 1;
  packets = counts.packets + packets;
  messages = counts.messages + messages;
  finished = counts.finished;
}

abbrev pub with_finish : Counts → ℕ → Counts
with_finish counts messages = record {
  units = counts.units;
  performed = counts.performed;
  ticks = counts.ticks;
  packets = counts.packets;
  messages = counts.messages + messages;
  finished = true;
}

plus_none : (n : ℕ) → n + 0 ≡ n
plus_none n = omega arith

module _ (laws : GrowthLaws Says) (one : OneList) {tempo : Pace} {entries : List Entry} {state : Kept Compiled} {queue : Queue} {counts : Counts}
    (kept : KeepsHistory tempo entries state queue counts) (who : ℕ) (may : MayPlay (entries_of who entries) who) where
  abbrev made : List (Dated Tree)
  made = trees one kept

  abbrev units : ℕ
  units = frontier entries

  -- the caller's own entries tell whether there is the finish
  pub going : is_finished entries ≡ false
  going = sym (own_finish entries kept.legal) ∙ subst (λ (w : ℕ). is_finished (entries_of w entries) ≡ false) may.ticker may.going

  pub not_finished : counts.finished ≡ false
  not_finished = kept.counted.finished_is ∙ going

  -- ---- a tick
  module _ (to : ℕ) (allowed : None ≡ tick_refusal counts.units counts.ticks to) where
    abbrev tick_entry : Entry
    tick_entry = record { who = who; frontier = counts.units; deed = deed.Tick to }

    tick_after : IsTickAfter entries who to
    tick_after =
        let bounds = tick_bounds counts.units counts.ticks to allowed in
        record {
          ticker = may.ticker;
          going = going;
          forward = subst (λ u. u < to) kept.counted.played bounds.0;
          short = subst (λ u. to ≤ u + tick_units) kept.counted.played bounds.1;
          to_last = bounds.2;
          room = subst (λ n. n < max_ticks) kept.counted.ticks_are bounds.3;
        }

    tick_follows : MayFollow entries tick_entry
    tick_follows = record { frontier = kept.counted.played; deed = tick_after }

    tick_trees : HasChanges (entries ++ tick_entry ∷ []) made
    tick_trees =
        subst (HasChanges (entries ++ tick_entry ∷ [])) (append-nil made) ((laws.adds entries tick_entry).changes made [] kept.desk.has refl)

    still_going : is_finished (entries ++ tick_entry ∷ []) ≡ is_finished entries
    still_going = (laws.adds entries tick_entry).finished ∙ no_more (is_finished entries) false refl

    abbrev played : List Row
    played = score made units

    abbrev due : List Row
    due = rows_between made units to

    score_is : score made to ≡ played ++ due
    score_is = laws.tick.plays entries who to tick_after made kept.desk.has

    notes_are : tones (score made to) ≡ tones played ++ tones due
    notes_are = ap tones score_is ∙ tones-append played due

    -- the rows that a tick asks for, from where was played up to
    from_here : {X : Type 0} (f : List Row → X) (x : X) → x ≡ f (rows_between made counts.units to) → x ≡ f due
    from_here f x is = is ∙ ap (λ (u : ℕ). f (rows_between made u to)) kept.counted.played

    tick_sends : (wire : Protocol) (new : List (List ℕ)) → sent_of wire (is_finished entries) to (score made to) ≡ sent one kept wire ++ new
        → HasSent wire (entries ++ tick_entry ∷ []) (sent one kept wire ++ new)
    tick_sends wire new is = record {
      changes = made;
      has = tick_trees;
      sent = sym (ap (λ (b : Bool). sent_of wire b (frontier (entries ++ tick_entry ∷ [])) (score made (frontier (entries ++ tick_entry ∷ [])))) still_going
          ∙ ap (λ (u : ℕ). sent_of wire (is_finished entries) u (score made u)) (laws.adds entries tick_entry).frontier ∙ is);
    }

    module _ (packets : List (List ℕ)) (are : packets ≡ packets_of tempo (rows_between made counts.units to)) (time : Rational) (at : time ≡ time_of to)
        (span : List Tone) (notes : span ≡ tones (rows_between made counts.units to)) (messages : List (List ℕ)) (gains : Gains time span queue messages) where
      osc_sent : HasSent (osc tempo) (entries ++ tick_entry ∷ []) (sent one kept (osc tempo) ++ packets)
      osc_sent =
          tick_sends (osc tempo) packets
          (ap (packets_of tempo) score_is ∙ packets_of-append tempo played due
          ∙ ap (λ (l : List (List ℕ)). packets_of tempo played ++ l) (sym (from_here (packets_of tempo) packets are)))

      abbrev span_is : span ≡ tones due
      span_is = from_here tones span notes

      is_span : IsSpan (time_of units) time span
      is_span =
          subst (λ (t : Rational). IsSpan (time_of units) t span) (sym at)
          (subst (IsSpan (time_of units) (time_of to)) (sym span_is) (laws.tick.spans entries who to tick_after made kept.desk.has))

      messages_go_on : midi_before (time_of to) (tones (score made to)) ≡ midi_before (time_of units) (tones played) ++ messages
      messages_go_on =
          ap (midi_before (time_of to)) (notes_are ∙ ap (λ (l : List Tone). tones played ++ l) (sym span_is))
          ∙ ap (λ (t : Rational). midi_before t (tones played ++ span)) (sym at)
          ∙ gains (time_of units) (tones played) (laws.tick.begun entries made kept.desk.has) is_span (kept.notes going)

      -- no history that goes on sends what a finish does
      midi_is : (u : ℕ) (rows : List Row) → sent_of midi (is_finished entries) u rows ≡ midi_before (time_of u) (tones rows)
      midi_is u rows = ap (λ (b : Bool). sent_of midi b u rows) going

      midi_sent : HasSent midi (entries ++ tick_entry ∷ []) (sent one kept midi ++ messages)
      midi_sent =
          tick_sends midi messages
          (midi_is to (score made to) ∙ messages_go_on ∙ ap (λ (l : List (List ℕ)). l ++ messages) (sym (midi_is units played)))

      pub kept_after_tick : (state' : Kept Compiled) (queue' : Queue) → StandsFor state' kept.changes → state'.settled ≡ to / tick_units
          → WaitsOn time span queue queue'
          → KeepsHistory tempo (entries ++ tick_entry ∷ []) state' queue' (with_tick counts to (length packets) (length messages))
      kept_after_tick state' queue' stands settled waits = record {
        legal = laws.legal entries tick_entry kept.legal tick_follows;
        changes = kept.changes;
        desk = record { has = tick_trees; stands = stands; settled = settled ∙ ap (λ u. u / tick_units) (sym (laws.adds entries tick_entry).frontier) };
        counted = record {
          played = sym (laws.adds entries tick_entry).frontier;
          performed_are = kept.counted.performed_are ∙ sym ((laws.adds entries tick_entry).performed ∙ plus_none (performed_count entries));
          ticks_are = ap (λ n. n + 1) kept.counted.ticks_are ∙ sym (laws.adds entries tick_entry).ticks;
          finished_is = kept.counted.finished_is ∙ sym still_going;
          counted = omega (arith, one_more entries tick_entry, kept.counted.counted);
          few_performed = kept.counted.few_performed;
          few_ticks = omega (arith, (tick_bounds counts.units counts.ticks to allowed).3);
          to_last = (tick_bounds counts.units counts.ticks to allowed).2;
        };
        packets = more_counted one kept (osc tempo) tick_entry packets counts.packets osc_sent kept.packets;
        messages = more_counted one kept midi tick_entry messages counts.messages midi_sent kept.messages;
        notes = λ _.
            subst (λ (u : ℕ). Waits (time_of u) (tones (score made u)) queue') (sym (laws.adds entries tick_entry).frontier)
            (subst (λ (l : List Tone). Waits (time_of to) l queue') (sym (notes_are ∙ ap (λ (l : List Tone). tones played ++ l) (sym span_is)))
            (subst (λ (t : Rational). Waits t (tones played ++ span) queue') at (waits (time_of units) (tones played) is_span (kept.notes going))));
      }

      pub accepted_tick : (history : List Entry) (n : ℕ) → n ≡ length entries → history ≡ entries ++ tick_entry ∷ []
          → Accepts (record { tempo = tempo; history = entries }) (record { tempo = tempo; history = history }) who (Tick to) (Ticked n packets messages)
      accepted_tick history n count gained = record {
        allowed = sym (allowed ∙ ap (λ u. tick_refusal u counts.ticks to) kept.counted.played
            ∙ ap (λ k. tick_refusal (frontier entries) k to) kept.counted.ticks_are);
        gained = gained ∙ ap (λ u. entries ++ record { who = who; frontier = u; deed = deed.Tick to } ∷ []) kept.counted.played;
        answer = λ changes has. (packets, messages, ap (λ k. Ticked k packets messages) count);
        packets = λ p h. subst (λ (es : List Entry). HasSent (osc tempo) es (p ++ packets)) (sym gained)
            (goes_on one kept (osc tempo) tick_entry packets p osc_sent h);
        messages = λ p h. subst (λ (es : List Entry). HasSent midi es (p ++ messages)) (sym gained) (goes_on one kept midi tick_entry messages p midi_sent h);
        tempo = refl;
      }

  -- ---- the finish
  abbrev finish_entry : Entry
  finish_entry = record { who = who; frontier = counts.units; deed = deed.Finish }

  finish_follows : MayFollow entries finish_entry
  finish_follows = record { frontier = kept.counted.played; deed = record { ticker = may.ticker; going = going } }

  finish_trees : HasChanges (entries ++ finish_entry ∷ []) made
  finish_trees =
      subst (HasChanges (entries ++ finish_entry ∷ [])) (append-nil made) ((laws.adds entries finish_entry).changes made [] kept.desk.has refl)

  finished_now : is_finished (entries ++ finish_entry ∷ []) ≡ true
  finished_now = (laws.adds entries finish_entry).finished ∙ ap (λ (b : Bool). b || true) going

  finish_sends : (wire : Protocol) (new : List (List ℕ)) → sent_of wire true units (score made units) ≡ sent_of wire false units (score made units) ++ new
      → HasSent wire (entries ++ finish_entry ∷ []) (sent one kept wire ++ new)
  finish_sends wire new is = record {
    changes = made;
    has = finish_trees;
    sent = ap (λ (b : Bool). sent_of wire b units (score made units) ++ new) going ∙ sym is
        ∙ ap (λ (b : Bool). sent_of wire b units (score made units)) (sym finished_now)
        ∙ ap (λ (u : ℕ). sent_of wire (is_finished (entries ++ finish_entry ∷ [])) u (score made u)) (sym (laws.adds entries finish_entry).frontier);
  }

  osc_stays : HasSent (osc tempo) (entries ++ finish_entry ∷ []) (sent one kept (osc tempo) ++ [])
  osc_stays = finish_sends (osc tempo) [] (sym (append-nil (packets_of tempo (score made units))))

  module _ (messages : List (List ℕ))
      (left : (frontier : Rational) (played : List Tone) → Waits frontier played queue → messages ≡ map message (offs_left frontier played)) where
    ends_sent : HasSent midi (entries ++ finish_entry ∷ []) (sent one kept midi ++ messages)
    ends_sent =
        finish_sends midi messages
        (finished_midi units (score made units)
        ∙ ap (λ (l : List (List ℕ)). sent_of midi false units (score made units) ++ l)
        (sym (left (time_of units) (tones (score made units)) (kept.notes going))))

    pub kept_after_finish : (queue' : Queue) → KeepsHistory tempo (entries ++ finish_entry ∷ []) state queue' (with_finish counts (length messages))
    kept_after_finish queue' = record {
      legal = laws.legal entries finish_entry kept.legal finish_follows;
      changes = kept.changes;
      desk = record {
        has = finish_trees;
        stands = kept.desk.stands;
        settled = kept.desk.settled ∙ ap (λ u. u / tick_units) (sym (laws.adds entries finish_entry).frontier);
      };
      counted = record {
        played = kept.counted.played ∙ sym (laws.adds entries finish_entry).frontier;
        performed_are = kept.counted.performed_are ∙ sym ((laws.adds entries finish_entry).performed ∙ plus_none (performed_count entries));
        ticks_are = kept.counted.ticks_are ∙ sym ((laws.adds entries finish_entry).ticks ∙ plus_none (tick_count entries));
        finished_is = sym finished_now;
        counted =
            one_more entries finish_entry
            ∙ ap (λ n. n + 1) (kept.counted.counted ∙ ap (λ (b : Bool). counts.performed + counts.ticks + (if b then 1 else 0)) not_finished
            ∙ plus_none (counts.performed + counts.ticks));
        few_performed = kept.counted.few_performed;
        few_ticks = kept.counted.few_ticks;
        to_last = kept.counted.to_last;
      };
      packets = λ p h. sym (plus_none counts.packets) ∙ more_counted one kept (osc tempo) finish_entry [] counts.packets osc_stays kept.packets p h;
      messages = more_counted one kept midi finish_entry messages counts.messages ends_sent kept.messages;
      notes = λ still. absurd (false≢true (sym still ∙ finished_now));
    }

    pub accepted_finish : (history : List Entry) (n : ℕ) → n ≡ length entries → history ≡ entries ++ finish_entry ∷ []
        → Accepts (record { tempo = tempo; history = entries }) (record { tempo = tempo; history = history }) who Finish (Finished n messages)
    accepted_finish history n count gained = record {
      allowed = refl;
      gained = gained ∙ ap (λ u. entries ++ record { who = who; frontier = u; deed = deed.Finish } ∷ []) kept.counted.played;
      answer = λ changes has. (messages, ap (λ k. Finished k messages) count);
      packets = λ p h. subst (λ (es : List Entry). HasSent (osc tempo) es (p ++ [])) (sym gained)
          (goes_on one kept (osc tempo) finish_entry [] p osc_stays h);
      messages = λ p h. subst (λ (es : List Entry). HasSent midi es (p ++ messages)) (sym gained) (goes_on one kept midi finish_entry messages p ends_sent h);
      tempo = refl;
    }
