use Rattle.std.proofs.lemmas.List.{length-map}
use Rattle.tdl_mini_rows.specs.declared.joins.WeightedRow.{WeightedRow}
use Rattle.std.proofs.Common.{ℕ, ◌<◌, ◌≤◌, ◌^◌, List, ◌∙◌, sym, subst, ap, length, arith}
use Rattle.std.specs.List.{All, sum}
use Rattle.tdl_expr.specs.declared.ids.NodeId.{NodeId}
use Rattle.tdl_expr.specs.Tree.{Tree}
use Rattle.tdl_expr.specs.Rows.{IsRow}
use Rattle.tdl_expr.specs.Weights.{lowest}
use Rattle.tdl_rows.specs.Built.{Built}
use Rattle.tdl_rows.specs.Lowers.{LowersTo}
use Rattle.tdl_mini_rows.specs.inside.Views.{counts_of}
use Rattle.tdl_mini_rows.proofs.StepRows.{AreRows-ids, timecat-rows}
use Rattle.tdl_rows.proofs.Pushes.{joined_row}
use Rattle.tdl_mini_rows.proofs.WeightSums.{counts_positive, shares-few}
use Rattle.tdl_mini_rows.proofs.joins.timecat_of.Goals as goal

pub timecat_of_counts-requires-clause-rows : goal.timecat_of_counts-requires-clause-rows
timecat_of_counts-requires-clause-rows c =
    let same = c.deref-2.ensures ∙ c.in_ok-ids.ensures in
    let P : List NodeId → Type 0 = λ ids. All (IsRow c.args.table.now) ids in
    subst P (sym same) (AreRows-ids c.args.table.now c.args.steps.now c.requires.rows)

pub timecat_of_counts-requires-clause-few : goal.timecat_of_counts-requires-clause-few
timecat_of_counts-requires-clause-few c =
    omega (
      arith,
      ap (λ (ids : List NodeId). length ids) (c.deref-2.ensures ∙ c.in_ok-ids.ensures),
      length-map c.args.steps.now
          (λ (s : WeightedRow). s.id),
      shares-few c.args.steps.now c.requires.shares,
    )

pub timecat_of_counts-requires-clause-positive : goal.timecat_of_counts-requires-clause-positive
timecat_of_counts-requires-clause-positive c =
    subst (λ (counts : List ℕ). All (λ count. 0 < count) counts) (sym (c.deref.ensures ∙ c.in_ok-counts.ensures))
    (counts_positive c.args.steps.now c.requires.shares)

pub timecat_of_counts-requires-clause-sum : goal.timecat_of_counts-requires-clause-sum
timecat_of_counts-requires-clause-sum c =
    subst (λ (counts : List ℕ). sum counts ≤ 2 ^ 40) (sym (c.deref.ensures ∙ c.in_ok-counts.ensures))
    (omega (arith, c.requires.shares.sum))

pub returns : goal.returns
returns c =
    let steps = c.args.steps.now in
    let same = c.deref-2.ensures ∙ c.in_ok-ids.ensures in
    let weights = ap lowest (c.deref.ensures ∙ c.in_ok-counts.ensures)
    ∙ sym (c.whole_weights_laws.ensures.of_decimals (counts_of steps) (counts_positive steps c.requires.shares)) in
    let P : Built Tree → Type 0 = λ built. LowersTo c.args.table.now c.timecat_of_counts.new.table built c.timecat_of_counts.result in
    subst P (timecat-rows c.args.table.now steps _ _ same weights)
    (joined_row _ _ _ _ c.timecat_of_counts.result c.timecat_of_counts.ensures.ok c.timecat_of_counts.ensures.refused
    c.timecat_of_counts.ensures.only c.timecat_of_counts.ensures.err)
