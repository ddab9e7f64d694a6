-- The lines of the events in an arc, batch by batch.
use Rattle.std.proofs.Common.{◌≡◌, ℕ, ◌+◌, ◌<◌, List, ◌++◌, sym, ap, subst, ◌∙◌, arith}
use Rattle.std.proofs.lemmas.Grind.{flat_map-append}
use Rattle.tdl_fraction.specs.Arc.{Arc}
use Rattle.tdl_event.specs.Event.{line_of, print_of}
use Rattle.tdl_expr.specs.Tree.{Tree}
use Rattle.tdl_meaning.specs.Pattern.{over}
use Rattle.tdl_meaning.specs.Meaning.{cyc}
use Rattle.tdl_meaning.specs.Proper.{HasProperEvents}
use Rattle.tdl_meaning.proofs.Proper.{proper}
use Rattle.tdl_app.specs.declared.batches.Batches.{Batches}
use Rattle.tdl_app.specs.declared.stops.Stop.{Stop}
use Rattle.tdl_answer.specs.Account.{Account}
use Rattle.tdl_app.specs.inside.EventLines.{Streams, BreaksOff}
use Rattle.tdl_app.specs.inside.Batches.{AreBatchesOf, batch_events, front_events}
use Rattle.tdl_answer.proofs.DeviceCalls.{Meets, over as from_to}
use Rattle.tdl_app.proofs.BatchEvents.{more_front, all_events, front_then_rest, rest_events}
use Rattle.tdl_app.proofs.Streams.{streams_then, breaks_then, breaks_longer}

module _ (e : Tree) (s : Batches) (are : AreBatchesOf e s) where
  well : HasProperEvents (cyc e)
  well = proper e are.valid

  more_lines : (k : ℕ) → print_of (front_events (cyc e) s (k + 1)) ≡ print_of (front_events (cyc e) s k) ++ print_of (batch_events (cyc e) s k)
  more_lines k = ap print_of (more_front (cyc e) well s k) ∙ flat_map-append line_of (front_events (cyc e) s k) (batch_events (cyc e) s k)

  -- the lines of one more batch
  pub batch_streams : {before between after : List ℕ} {first second : Account ℕ} (k : ℕ) → Meets first second
      → Streams (print_of (front_events (cyc e) s k)) before between first → Streams (print_of (batch_events (cyc e) s k)) between after second
      → Streams (print_of (front_events (cyc e) s (k + 1))) before after (from_to first second)
  batch_streams {before} {between} {after} {first} {second} k meets one two =
      subst (λ (text : List ℕ). Streams text before after (from_to first second)) (sym (more_lines k)) (streams_then meets one two)

  module _ (arc : Arc) (of_arc : s.arc ≡ arc) where
    -- those of one more batch break off
    pub batch_breaks : {before between : List ℕ} {why : Stop} {first second : Account ℕ} (k : ℕ) → k < s.count → Meets first second
        → Streams (print_of (front_events (cyc e) s k)) before between first → BreaksOff (print_of (batch_events (cyc e) s k)) between why second
        → BreaksOff (print_of (over (cyc e) arc)) before why (from_to first second)
    batch_breaks {before} {between} {why} {first} {second} k below meets one two =
        let rest = rest_events (cyc e) s (k + 1) in
        let all = ap print_of (front_then_rest (cyc e) well s are.cut (k + 1) (omega arith)) ∙ flat_map-append line_of (front_events (cyc e) s (k + 1)) rest
        ∙ ap (λ text. text ++ print_of rest) (more_lines k) in
        subst (λ (text : List ℕ). BreaksOff text before why (from_to first second)) (sym all ∙ ap (λ (a : Arc). print_of (over (cyc e) a)) of_arc)
        (breaks_longer (print_of rest) (breaks_then meets one two))

    -- those of all batches
    pub batches_streamed : {before after : List ℕ} {out : Account ℕ} (k : ℕ) → k ≡ s.count
        → Streams (print_of (front_events (cyc e) s k)) before after out → Streams (print_of (over (cyc e) arc)) before after out
    batches_streamed {before} {after} {out} k last streams =
        let all = ap (front_events (cyc e) s) last ∙ all_events (cyc e) s are.cut in
        subst (λ (text : List ℕ). Streams text before after out) (ap print_of all ∙ ap (λ (a : Arc). print_of (over (cyc e) a)) of_arc) streams
