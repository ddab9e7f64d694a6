use Rattle.std.proofs.Common.{pos, IsTrue, sym, ap, ◌∙◌, subst, arith}
use Rattle.tdl_fraction.specs.Rational.{Rational}
use Rattle.tdl_mini_rows.specs.inside.Bounds.{is_rate}
use Rattle.tdl_mini_rows.proofs.Bounded.{is_rate-whole}
use Rattle.tdl_mini_rows.specs.declared.paces.Finish.{Finish as Way}
use Rattle.tdl_mini_rows.specs.inside.Views.{finish_with, steps_at}
use Rattle.tdl_rows.proofs.Gained.{LowersTo-same}
use Rattle.tdl_mini_rows.proofs.PacedRows.{even_cat, uneven_pace}
use Rattle.tdl_mini_rows.proofs.WeightSums.{shares-few}
use Rattle.tdl_mini_rows.proofs.paces.finished.Goals as goal

pub at_pace-requires-else-is_even-clause-rate : goal.at_pace-requires-else-is_even-clause-rate
at_pace-requires-else-is_even-clause-rate c =
    let P : Rational → Type 0 = λ rate. IsTrue (is_rate rate) in
    subst P (sym c.whole.ensures) (is_rate-whole (pos 1) (omega arith))

pub cat_of-requires-clause-few : goal.cat_of-requires-clause-few
cat_of-requires-clause-few c = shares-few c.args.steps.now c.requires.shares

pub returns-then-is_even : goal.returns-then-is_even
returns-then-is_even c =
    let steps = steps_at c.args.table.now c.args.steps.now in
    let way = ap (λ (f : Way). finish_with f c.args.parts steps) (sym c.in-CycleEach.is) in
    LowersTo-same _ _ _ _ c.cat_of.result (even_cat c.args.table.now c.args.steps.now c.args.parts c.is_even.ensures c.if-is_even.true ∙ way) c.cat_of.ensures

pub returns-else-is_even : goal.returns-else-is_even
returns-else-is_even c =
    let steps = steps_at c.args.table.now c.args.steps.now in
    let way = ap (λ (f : Way). finish_with f c.args.parts steps) (sym c.in-CycleEach.is) in
    LowersTo-same _ _ _ _ c.at_pace-else-is_even.result
    (uneven_pace c.args.table.now c.args.steps.now c.args.parts c.is_even.ensures _ c.whole.ensures c.if-is_even.false ∙ way)
    c.at_pace-else-is_even.ensures
