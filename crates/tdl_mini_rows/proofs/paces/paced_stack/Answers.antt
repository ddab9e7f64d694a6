use Rattle.std.proofs.Common.{List, length, arith, ap, ◌∙◌, sym, subst, take, take_all}
use Rattle.std.proofs.lemmas.List.{length-map, map-append}
use Rattle.tdl_mini_rows.specs.declared.joins.WeightedRow.{WeightedRow}
use Rattle.tdl_expr.specs.Rows.{IsRow}
use Rattle.tdl_rows.specs.Built.{each}
use Rattle.tdl_mini_rows.specs.Lowered.{paced}
use Rattle.tdl_rows.specs.Lowers.{trees_at}
use Rattle.tdl_rows.specs.inside.Views.{LowersIds}
use Rattle.tdl_mini_rows.specs.inside.Views.{step_at, rows_of, AreRows}
use Rattle.tdl_rows.proofs.Gained.{exit_refused, exit_want, Gains-append}
use Rattle.tdl_rows.proofs.Loops.{length-ids}
use Rattle.tdl_mini_rows.proofs.StepRows.{trees_in, All-of_rows}
use Rattle.tdl_mini_rows.proofs.PacedRows.{paced_more, paced_refused, paced_all}
use Rattle.tdl_mini_rows.proofs.paces.paced_stack.Goals as goal

pub loop-sequence-preserved : goal.loop-sequence-preserved
loop-sequence-preserved c =
    paced_more c.args.table.now c.args.rate c.args.sequences.now c.requires.rows c.loop-sequence.table c.loop-sequence.sequence-index _
    c.loop-sequence-test.true _ c.loop-sequence.invariant _ c.in_ok-id.id _
    (ap rows_of c.in_ok-push.ensures.ok ∙ map-append _ c.loop-sequence.stacked.items _) c.in_ok-id.ensures

pub returns-in_err-id : goal.returns-in_err-id
returns-in_err-id c =
    exit_refused _ _ c.from_residual.result c.from_residual.ensures.1
    (paced_refused c.args.table.now c.args.rate c.args.sequences.now c.requires.rows c.loop-sequence.table c.loop-sequence.sequence-index _
    c.loop-sequence-test.true _ c.loop-sequence.invariant _ _ c.in_err-id.ensures)

pub returns-in_err-push : goal.returns-in_err-push
returns-in_err-push c =
    exit_want _ _ c.from_residual-in_err-push.result c.from_residual-in_err-push.ensures.1
    (Gains-append c.loop-sequence.invariant.gains c.in_ok-id.ensures.gains)

pub stack_of-requires-clause-rows : goal.stack_of-requires-clause-rows
stack_of-requires-clause-rows c =
    subst (AreRows c.loop-sequence.table) (sym c.deref.ensures)
    (All-of_rows (IsRow c.loop-sequence.table) c.loop-sequence.stacked.items c.loop-sequence.invariant.rows)

pub stack_of-requires-clause-few : goal.stack_of-requires-clause-few
stack_of-requires-clause-few c =
    let whole = take_all c.loop-sequence.sequence-index c.args.sequences.now c.loop-sequence-test.false in
    let done = take c.loop-sequence.sequence-index c.args.sequences.now in
    let ids = length-ids (λ s. paced c.args.rate (step_at c.args.table.now s)) done (rows_of c.loop-sequence.stacked.items) c.loop-sequence.invariant in
    omega (
      arith,
      c.requires.sequences.few,
      ids,
      ap (λ (ss : List WeightedRow). length ss) whole,
      ap
          (λ (ss : List WeightedRow). length ss) c.deref.ensures,
      length-map c.loop-sequence.stacked.items (λ (s : WeightedRow). s.id),
    )

pub returns : goal.returns
returns c =
    let whole = take_all c.loop-sequence.sequence-index c.args.sequences.now c.loop-sequence-test.false in
    let P : List WeightedRow → Type 0 = λ ss. LowersIds c.args.table.now c.loop-sequence.table (each (λ s. paced c.args.rate (step_at c.args.table.now s)) ss)
    (rows_of c.loop-sequence.stacked.items) in
    paced_all c.args.table.now c.args.rate c.args.sequences.now c.requires.rows c.loop-sequence.table _ _ _ c.stack_of.result
    (subst P whole c.loop-sequence.invariant)
    (trees_in c.loop-sequence.table c.deref.result.now ∙ ap (λ (ss : List WeightedRow). trees_at c.loop-sequence.table (rows_of ss)) c.deref.ensures)
    c.stack_of.ensures
