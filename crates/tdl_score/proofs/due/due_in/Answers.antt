use Rattle.std.proofs.Common.{◌≡◌, ◌-◌, ◌/◌, ℕ, map, subst, arith}
use Rattle.std.specs.List.{flat_map, range_with_len}
use Rattle.std.specs.Int.{div_ceil}
use Rattle.tdl_fraction.specs.Units.{tick_units}
use Rattle.tdl_notes.specs.Notes.{tones as tones_of}
use Rattle.tdl_score.specs.Programs.{dated_tree, due}
use Rattle.tdl_score.specs.Score.{rows as rows_of}
use Rattle.tdl_score.specs.Wires.{packets_of}
use Rattle.tdl_score.proofs.Dues.{packets_on, tones_on}
use Rattle.tdl_score.proofs.due.due_in.Goals as goal

pub loop-cycle-preserved : goal.loop-cycle-preserved
loop-cycle-preserved g c = record {
  osc = λ kept stands.
      packets_on (λ cycle. due c.args.span.from c.args.span.to (rows_of (map dated_tree kept) cycle)) (c.args.span.from / 46080) c.loop-cycle.cycle
      (omega arith) c.args.tempo c.loop-cycle.due.osc _ (c.loop-cycle.invariant.osc kept stands) (c.in_ok-push_cycle.ensures.gained kept stands).osc;
  tones = λ kept stands.
      tones_on (λ cycle. due c.args.span.from c.args.span.to (rows_of (map dated_tree kept) cycle)) (c.args.span.from / 46080) c.loop-cycle.cycle
      (omega arith) c.loop-cycle.due.tones.items _ (c.loop-cycle.invariant.tones kept stands) (c.in_ok-push_cycle.ensures.gained kept stands).tones;
  notes = c.in_ok-push_cycle.ensures.notes c.loop-cycle.invariant.notes;
}

pub returns-clause-osc : goal.returns-clause-osc
returns-clause-osc g c = λ kept stands.
    let all : c.loop-cycle.cycle - c.args.span.from / tick_units ≡ div_ceil c.args.span.to tick_units - c.args.span.from / tick_units = omega arith in
    subst (λ (n : ℕ). c.loop-cycle.due.osc ≡ packets_of c.args.tempo
    (flat_map (λ cycle. due c.args.span.from c.args.span.to (rows_of (map dated_tree kept) cycle)) (range_with_len (c.args.span.from / tick_units) n)))
    all (c.loop-cycle.invariant.osc kept stands)

pub returns-clause-tones : goal.returns-clause-tones
returns-clause-tones g c = λ kept stands.
    let all : c.loop-cycle.cycle - c.args.span.from / tick_units ≡ div_ceil c.args.span.to tick_units - c.args.span.from / tick_units = omega arith in
    subst (λ (n : ℕ). c.loop-cycle.due.tones.items ≡ tones_of
    (flat_map (λ cycle. due c.args.span.from c.args.span.to (rows_of (map dated_tree kept) cycle)) (range_with_len (c.args.span.from / tick_units) n)))
    all (c.loop-cycle.invariant.tones kept stands)
