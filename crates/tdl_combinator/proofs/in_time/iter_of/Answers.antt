use Rattle.std.proofs.Common.{List, length, ap, ◌∙◌, subst, arith}
use Rattle.std.specs.List.{range_with_len}
use Rattle.std.proofs.lemmas.Int.{ints}
use Rattle.std.proofs.lemmas.List.FromFn.{length-range_with_len}
use Rattle.tdl_expr.specs.declared.ids.NodeId.{NodeId}
use Rattle.tdl_expr.specs.Tree.{Tree}
use Rattle.tdl_expr.specs.Rows.{tree_at}
use Rattle.tdl_rows.specs.Joined.{cat_of}
use Rattle.tdl_rows.specs.Lowers.{LowersTo, trees_at}
use Rattle.tdl_rows.proofs.Gained.{exit_refused, Refused-first, Refused-same, LowersTo-same, LowersTo-then}
use Rattle.tdl_rows.proofs.Loops.{length-ids}
use Rattle.tdl_combinator.specs.Makings.{turned_on, turns_of}
use Rattle.tdl_combinator.proofs.Rounds.{iter_some}
use Rattle.tdl_combinator.proofs.in_time.iter_of.Goals as goal

pub returns-in_err-turns : goal.returns-in_err-turns
returns-in_err-turns c = exit_refused _ _ c.from_residual.result c.from_residual.ensures.1
    (Refused-same _ _ _ _ _ (iter_some c.args.count.num c.size.result (tree_at c.args.table.now c.args.child)
    (omega (arith, ints, c.numerator.ensures.value, c.if-numerator-le0.false)) c.size.ensures.value) (Refused-first _ c.in_err-turns.ensures))

pub cat_of-requires-clause-few : goal.cat_of-requires-clause-few
cat_of-requires-clause-few c =
    let count = length-ids (turned_on c.size.result (tree_at c.args.table.now c.args.child)) (range_with_len 0 c.size.result) c.in_ok-turns.turns.items
    c.in_ok-turns.ensures in
    omega (arith, ap (λ (ids : List NodeId). length ids) c.deref.ensures.value, count, length-range_with_len 0 c.size.result, c.size.ensures.few)

pub returns : goal.returns
returns c =
    let P : List Tree → Type 0 = λ ts. LowersTo c.turns_of.new.table c.cat_of.new.table (cat_of ts) c.cat_of.result in
    LowersTo-same _ _ _ _ c.cat_of.result (iter_some c.args.count.num c.size.result (tree_at c.args.table.now c.args.child)
    (omega (arith, ints, c.numerator.ensures.value, c.if-numerator-le0.false)) c.size.ensures.value)
    (LowersTo-then _ (turns_of c.size.result (tree_at c.args.table.now c.args.child)) (λ ts. cat_of ts) c.in_ok-turns.ensures.gains c.cat_of.result
    (subst P (ap (trees_at c.turns_of.new.table) c.deref.ensures.value ∙ c.in_ok-turns.ensures.are) c.cat_of.ensures))
