use Rattle.std.proofs.Common.{List, ◌∙◌, sym, subst, length, ap, arith}
use Rattle.std.specs.List.{All}
use Rattle.std.proofs.lemmas.List.{length-map}
use Rattle.tdl_expr.specs.declared.ids.NodeId.{NodeId}
use Rattle.tdl_expr.specs.Tree.{Tree}
use Rattle.tdl_expr.specs.Rows.{IsRow}
use Rattle.tdl_rows.specs.Joined.{cat_of}
use Rattle.tdl_rows.specs.Lowers.{LowersTo, trees_at}
use Rattle.tdl_mini_rows.specs.declared.joins.WeightedRow.{WeightedRow}
use Rattle.tdl_mini_rows.proofs.StepRows.{AreRows-ids, trees_in}
use Rattle.tdl_mini_rows.proofs.joins.cat_of.Goals as goal

pub cat_of-requires-clause-rows : goal.cat_of-requires-clause-rows
cat_of-requires-clause-rows c =
    let same = c.deref.ensures ∙ c.in_ok-ids.ensures in
    let P : List NodeId → Type 0 = λ ids. All (IsRow c.args.table.now) ids in
    subst P (sym same) (AreRows-ids c.args.table.now c.args.steps.now c.requires.rows)

pub cat_of-requires-clause-few : goal.cat_of-requires-clause-few
cat_of-requires-clause-few c =
    omega (
      arith,
      ap (λ (ids : List NodeId). length ids) (c.deref.ensures ∙ c.in_ok-ids.ensures),
      length-map c.args.steps.now
          (λ (s : WeightedRow). s.id),
      c.requires.few,
    )

pub returns : goal.returns
returns c =
    let same = ap (trees_at c.args.table.now) (c.deref.ensures ∙ c.in_ok-ids.ensures) ∙ sym (trees_in c.args.table.now c.args.steps.now) in
    let P : List Tree → Type 0 = λ ts. LowersTo c.args.table.now c.cat_of.new.table (cat_of ts) c.cat_of.result in
    subst P same c.cat_of.ensures
