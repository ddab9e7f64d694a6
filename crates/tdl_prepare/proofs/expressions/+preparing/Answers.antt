use Rattle.std.proofs.Common.{List, length, refl, ap, ap₂, sym, ◌∙◌, subst, arith, take_all}
use Rattle.std.specs.List.{All}
use Rattle.tdl_fraction.specs.Rational.{Rational}
use Rattle.tdl_expr.specs.declared.ids.NodeId.{NodeId}
use Rattle.tdl_expr.specs.Rows.{IsRow}
use Rattle.tdl_expr.specs.Tree.{Tree}
use Rattle.tdl_rows.specs.Built.{Built, kept, ◌▸◌}
use Rattle.tdl_rows.specs.Joined.{timecat_of}
use Rattle.tdl_rows.specs.inside.Views.{LowersIds}
use Rattle.tdl_rows.specs.Stays.{row_after}
use Rattle.tdl_rows.proofs.Gained.{exit_refused, exit_want, Gains-append, LowersTo-same, LowersTo-after, Refused-append, Refused-first, Refused-same}
use Rattle.tdl_rows.proofs.Loops.{length-ids}
use Rattle.tdl_combinator.specs.declared.funs.Fun.TheVariants.{Const, Section}
use Rattle.tdl_combinator.specs.TreeFun as made
use Rattle.tdl_combinator.proofs.FunRows.{fun_row}
use Rattle.tdl_command.specs.declared.tree.Expr.{Expr}
use Rattle.tdl_command.specs.declared.tree.Fun.{Fun}
use Rattle.tdl_command.specs.declared.tree.Part.{Part}
use Rattle.tdl_command.specs.Tree as tree
use Rattle.tdl_prepare.specs.Numbers.{count_built, ratio_built}
use Rattle.tdl_prepare.specs.Built.{built, fun_built, shift_built, applied_built, joined_trees, list_of, bare_fun, cycle_fun, layer_fun}
use Rattle.tdl_command.specs.Valid.{IsValidExpr, IsValidPart}
use Rattle.tdl_command.specs.View.{count_of, ratio_of, expr_of, fun_of}
use Rattle.tdl_prepare.specs.inside.Parts.{rows_built, part_rows_built, steps_at, weights_of}
use Rattle.tdl_prepare.proofs.Depths.{item_depth, part_depth, list_depth, timecat_depth}
use Rattle.tdl_prepare.proofs.ListViews.{list_is, list_valid, timecat_is, timecat_valid}
use Rattle.tdl_prepare.proofs.Rows.{rows_more, rows_refused, rows_few, joined_rows_are}
use Rattle.tdl_prepare.proofs.Sequences.{of_number_fun, of_numbers_fun, of_fun, of_fun_after, of_row, then_applied, then_joined, then_expr, then_chain}
use Rattle.tdl_prepare.proofs.Sequences.{LowersFun-same, RefusedFun-same, LowersToFun-same}
use Rattle.tdl_prepare.proofs.Sizes.{built_some}
use Rattle.tdl_prepare.proofs.Variants.{called_is, expr_is, fun_is, bare_made}
use Rattle.tdl_prepare.proofs.expressions.+preparing.Goals as goal

-- ---- a function and its operand
pub applied_row-apply-requires-clause-fun : goal.applied_row-apply-requires-clause-fun
applied_row-apply-requires-clause-fun t c = fun_row c.in_ok-child.ensures.gains c.args.made.now c.requires.made

pub applied_row-returns-in_err-child : goal.applied_row-returns-in_err-child
applied_row-returns-in_err-child t c = exit_refused _ _ c.from_residual.result c.from_residual.ensures.1 (Refused-first _ c.in_err-child.ensures)

pub applied_row-returns : goal.applied_row-returns
applied_row-returns t c =
    then_applied _ (built (expr_of c.args.expr.now)) c.in_ok-child.child c.in_ok-child.ensures c.apply.result c.args.made.now c.requires.made c.apply.ensures

pub shifted_row-returns-in_err-made : goal.shifted_row-returns-in_err-made
shifted_row-returns-in_err-made t c = exit_refused _ _ c.from_residual.result c.from_residual.ensures.1 (Refused-first _ c.in_err-made.ensures)

pub shifted_row-returns : goal.shifted_row-returns
shifted_row-returns t c =
    then_expr _ (shift_built (ratio_of c.args.by.now) c.args.way) (built (expr_of c.args.expr.now)) c.in_ok-made.made c.applied_row.result
    c.in_ok-made.ensures c.applied_row.ensures

pub joined_row-apply-requires-clause-row : goal.joined_row-apply-requires-clause-row
joined_row-apply-requires-clause-row t c = row_after c.in_ok-right.ensures.gains c.args.left c.requires.left

pub joined_row-returns-in_err-right : goal.joined_row-returns-in_err-right
joined_row-returns-in_err-right t c = exit_refused _ _ c.from_residual.result c.from_residual.ensures.1 (Refused-first _ c.in_err-right.ensures)

pub joined_row-returns : goal.joined_row-returns
joined_row-returns t c =
    then_joined _ (built (expr_of c.args.right.now)) c.in_ok-right.right c.in_ok-right.ensures c.apply.result c.args.operator c.args.left c.requires.left
    c.apply.ensures

-- ---- lists
pub rows_of-expr_row-requires : goal.rows_of-expr_row-requires
rows_of-expr_row-requires t c =
    let valid : IsValidExpr c.expr-item.result =
    subst IsValidExpr (sym c.expr-item.is) (c.requires c.loop-expr.expr-index c.expr-item.result c.loop-expr-test.true) in
    let depth = item_depth c.args.exprs.now c.loop-expr.expr-index c.expr-item.result c.loop-expr-test.true c.expr-item.is in
    (omega (arith, c.decreases, depth), valid)

pub rows_of-loop-expr-preserved : goal.rows_of-loop-expr-preserved
rows_of-loop-expr-preserved t c =
    rows_more (λ (e : Expr). built (expr_of e)) c.args.exprs.now c.loop-expr.expr-index c.expr-item.result c.loop-expr-test.true c.expr-item.is
    c.loop-expr.invariant _ c.in_ok-push.ensures.items c.in_ok-id.ensures

pub rows_of-returns-in_err-id : goal.rows_of-returns-in_err-id
rows_of-returns-in_err-id t c =
    exit_refused _ _ c.from_residual.result c.from_residual.ensures.1
    (rows_refused (λ (e : Expr). built (expr_of e)) c.args.exprs.now c.loop-expr.expr-index c.expr-item.result c.loop-expr-test.true c.expr-item.is
    c.loop-expr.invariant c.in_err-id.ensures)

pub rows_of-returns-in_err-push : goal.rows_of-returns-in_err-push
rows_of-returns-in_err-push t c =
    exit_want _ _ c.from_residual-in_err-push.result c.from_residual-in_err-push.ensures.1 (Gains-append c.loop-expr.invariant.gains c.in_ok-id.ensures.gains)

pub rows_of-returns : goal.rows_of-returns
rows_of-returns t c =
    let P : List Expr → Type 0 = λ es. LowersIds c.args.table.now c.loop-expr.table (rows_built es) c.loop-expr.ids.items in
    subst P (take_all c.loop-expr.expr-index c.args.exprs.now c.loop-expr-test.false) c.loop-expr.invariant

pub part_rows-expr_row-requires : goal.part_rows-expr_row-requires
part_rows-expr_row-requires t c =
    let valid : IsValidPart c.part-item.result =
    subst IsValidPart (sym c.part-item.is) (c.requires c.loop-part.part-index c.part-item.result c.loop-part-test.true) in
    let depth = part_depth c.args.parts.now c.loop-part.part-index c.part-item.result c.loop-part-test.true c.part-item.is in
    (omega (arith, c.decreases, depth), valid.1)

pub part_rows-loop-part-preserved : goal.part_rows-loop-part-preserved
part_rows-loop-part-preserved t c =
    rows_more (λ (p : Part). built (expr_of p.expr)) c.args.parts.now c.loop-part.part-index c.part-item.result c.loop-part-test.true c.part-item.is
    c.loop-part.invariant _ c.in_ok-push.ensures.items c.in_ok-id.ensures

pub part_rows-returns-in_err-id : goal.part_rows-returns-in_err-id
part_rows-returns-in_err-id t c =
    exit_refused _ _ c.from_residual.result c.from_residual.ensures.1
    (rows_refused (λ (p : Part). built (expr_of p.expr)) c.args.parts.now c.loop-part.part-index c.part-item.result c.loop-part-test.true
    c.part-item.is c.loop-part.invariant c.in_err-id.ensures)

pub part_rows-returns-in_err-push : goal.part_rows-returns-in_err-push
part_rows-returns-in_err-push t c =
    exit_want _ _ c.from_residual-in_err-push.result c.from_residual-in_err-push.ensures.1 (Gains-append c.loop-part.invariant.gains c.in_ok-id.ensures.gains)

pub part_rows-returns : goal.part_rows-returns
part_rows-returns t c =
    let P : List Part → Type 0 = λ ps. LowersIds c.args.table.now c.loop-part.table (part_rows_built ps) c.loop-part.ids.items in
    subst P (take_all c.loop-part.part-index c.args.parts.now c.loop-part-test.false) c.loop-part.invariant

-- ---- functions with others in them
pub layer_of-returns-in_err-part : goal.layer_of-returns-in_err-part
layer_of-returns-in_err-part t c = exit_refused _ _ c.from_residual.result c.from_residual.ensures.1 (Refused-first _ c.in_err-part.ensures)

pub layer_of-returns-in_err-layer : goal.layer_of-returns-in_err-layer
layer_of-returns-in_err-layer t c = exit_want _ _ c.from_residual-in_err-layer.result c.from_residual-in_err-layer.ensures.1 c.in_ok-part.ensures.gains

pub layer_of-returns : goal.layer_of-returns
layer_of-returns t c =
    of_fun c.in_ok-layer.field-0 (fun_built (fun_of c.args.then.now)) (layer_fun c.args.name) c.in_ok-part.part c.in_ok-part.ensures
    (c.in_ok-layer.ensures _)

pub within_of-returns-in_err-part : goal.within_of-returns-in_err-part
within_of-returns-in_err-part t c = exit_refused _ _ c.from_residual.result c.from_residual.ensures.1 (Refused-first _ c.in_err-part.ensures)

pub within_of-returns-in_err-within : goal.within_of-returns-in_err-within
within_of-returns-in_err-within t c = exit_want _ _ c.from_residual-in_err-within.result c.from_residual-in_err-within.ensures.1 c.in_ok-part.ensures.gains

pub within_of-returns : goal.within_of-returns
within_of-returns t c =
    let f = fun_built (fun_of c.args.then.now) in
    LowersFun-same _ _ _ _ _
    (ap₂ (λ (a b : Rational). f ▸ λ g. kept (made.Within a b g)) c.plain_value.ensures.value c.plain_value-2.ensures.value)
    (of_fun c.in_ok-within.field-0 f (made.Within c.plain_value.result c.plain_value-2.result) c.in_ok-part.part c.in_ok-part.ensures
    (c.in_ok-within.ensures _))

pub every_of-returns-in_err-n : goal.every_of-returns-in_err-n
every_of-returns-in_err-n t c = exit_refused _ _ c.from_residual.result c.from_residual.ensures.1 (Refused-first _ c.in_err-n.ensures)

pub every_of-returns-in_err-part : goal.every_of-returns-in_err-part
every_of-returns-in_err-part t c = exit_refused _ _ c.from_residual-in_err-part.result c.from_residual-in_err-part.ensures.1
    (Refused-append c.in_ok-n.ensures.gains (Refused-first _ c.in_err-part.ensures))

pub every_of-returns-in_err-every : goal.every_of-returns-in_err-every
every_of-returns-in_err-every t c = exit_want _ _ c.from_residual-in_err-every.result c.from_residual-in_err-every.ensures.1
    (Gains-append c.in_ok-n.ensures.gains c.in_ok-part.ensures.gains)

pub every_of-returns : goal.every_of-returns
every_of-returns t c =
    of_number_fun c.in_ok-every.field-0 (count_built (count_of c.args.cycles.now)) (fun_built (fun_of c.args.then.now)) made.Every c.in_ok-n.n c.in_ok-part.part
    c.in_ok-n.ensures c.in_ok-part.ensures (c.in_ok-every.ensures _)

pub off_of-returns-in_err-time : goal.off_of-returns-in_err-time
off_of-returns-in_err-time t c = exit_refused _ _ c.from_residual.result c.from_residual.ensures.1 (Refused-first _ c.in_err-time.ensures)

pub off_of-returns-in_err-part : goal.off_of-returns-in_err-part
off_of-returns-in_err-part t c = exit_refused _ _ c.from_residual-in_err-part.result c.from_residual-in_err-part.ensures.1
    (Refused-append c.in_ok-time.ensures.gains (Refused-first _ c.in_err-part.ensures))

pub off_of-returns-in_err-off : goal.off_of-returns-in_err-off
off_of-returns-in_err-off t c = exit_want _ _ c.from_residual-in_err-off.result c.from_residual-in_err-off.ensures.1
    (Gains-append c.in_ok-time.ensures.gains c.in_ok-part.ensures.gains)

pub off_of-returns : goal.off_of-returns
off_of-returns t c =
    of_number_fun c.in_ok-off.field-0 (ratio_built (ratio_of c.args.by.now)) (fun_built (fun_of c.args.then.now)) made.Off c.in_ok-time.time c.in_ok-part.part
    c.in_ok-time.ensures c.in_ok-part.ensures (c.in_ok-off.ensures _)

pub cycle_of-returns-in_err-n : goal.cycle_of-returns-in_err-n
cycle_of-returns-in_err-n t c = exit_refused _ _ c.from_residual.result c.from_residual.ensures.1 (Refused-first _ c.in_err-n.ensures)

pub cycle_of-returns-in_err-place : goal.cycle_of-returns-in_err-place
cycle_of-returns-in_err-place t c = exit_refused _ _ c.from_residual-in_err-place.result c.from_residual-in_err-place.ensures.1
    (Refused-append c.in_ok-n.ensures.gains (Refused-first _ c.in_err-place.ensures))

pub cycle_of-returns-in_err-part : goal.cycle_of-returns-in_err-part
cycle_of-returns-in_err-part t c = exit_refused _ _ c.from_residual-in_err-part.result c.from_residual-in_err-part.ensures.1
    (Refused-append c.in_ok-n.ensures.gains (Refused-append c.in_ok-place.ensures.gains (Refused-first _ c.in_err-part.ensures)))

pub cycle_of-returns-in_err-cycle : goal.cycle_of-returns-in_err-cycle
cycle_of-returns-in_err-cycle t c = exit_want _ _ c.from_residual-in_err-cycle.result c.from_residual-in_err-cycle.ensures.1
    (Gains-append c.in_ok-n.ensures.gains (Gains-append c.in_ok-place.ensures.gains c.in_ok-part.ensures.gains))

pub cycle_of-returns : goal.cycle_of-returns
cycle_of-returns t c =
    of_numbers_fun c.in_ok-cycle.field-0 (count_built (count_of c.args.cycles.now)) (count_built (count_of c.args.from.now))
    (fun_built (fun_of c.args.then.now)) (cycle_fun c.args.name) c.in_ok-n.n c.in_ok-place.place c.in_ok-part.part c.in_ok-n.ensures
    c.in_ok-place.ensures c.in_ok-part.ensures (c.in_ok-cycle.ensures _)

pub chain_of-returns-in_err-made : goal.chain_of-returns-in_err-made
chain_of-returns-in_err-made t c = exit_refused _ _ c.from_residual.result c.from_residual.ensures.1 (Refused-first _ c.in_err-made.ensures)

pub chain_of-returns-in_err-chain : goal.chain_of-returns-in_err-chain
chain_of-returns-in_err-chain t c = exit_want _ _ c.from_residual-in_err-chain.result c.from_residual-in_err-chain.ensures.1 c.in_ok-made.ensures.gains

pub chain_of-returns : goal.chain_of-returns
chain_of-returns t c =
    of_fun_after c.in_ok-chain.field-0 (fun_built (fun_of c.args.first.now)) made.Chain c.in_ok-made.made c.args.next c.in_ok-made.ensures c.requires.next
    (c.in_ok-chain.ensures _)

-- ---- each function
pub fun_of-returns-in-Bare : goal.fun_of-returns-in-Bare
fun_of-returns-in-Bare t c =
    LowersFun-same _ _ _ _ _ (fun_is c.args.fun.now _ c.in-Bare.is)
    (bare_made c.args.table.now c.bare_fun.result (bare_fun c.in-Bare.name) (c.bare_fun.ensures c.args.table.now))

pub fun_of-returns-in-OfRatio : goal.fun_of-returns-in-OfRatio
fun_of-returns-in-OfRatio t c = LowersToFun-same _ _ _ _ c.ratio_fun.result (fun_is c.args.fun.now _ c.in-OfRatio.is) c.ratio_fun.ensures

pub fun_of-returns-in-OfCount : goal.fun_of-returns-in-OfCount
fun_of-returns-in-OfCount t c = LowersToFun-same _ _ _ _ c.count_fun.result (fun_is c.args.fun.now _ c.in-OfCount.is) c.count_fun.ensures

pub fun_of-returns-in-OfBools : goal.fun_of-returns-in-OfBools
fun_of-returns-in-OfBools t c = LowersToFun-same _ _ _ _ c.bools_fun.result (fun_is c.args.fun.now _ c.in-OfBools.is)
    (rw c.deref.ensures at c.bools_fun.ensures)

pub fun_of-returns-in-Euclid : goal.fun_of-returns-in-Euclid
fun_of-returns-in-Euclid t c = LowersToFun-same _ _ _ _ c.euclid_fun.result (fun_is c.args.fun.now _ c.in-Euclid.is) c.euclid_fun.ensures

pub fun_of-returns-in-EuclidOff : goal.fun_of-returns-in-EuclidOff
fun_of-returns-in-EuclidOff t c = LowersToFun-same _ _ _ _ c.euclid_off_fun.result (fun_is c.args.fun.now _ c.in-EuclidOff.is) c.euclid_off_fun.ensures

pub fun_of-returns-in-Shift : goal.fun_of-returns-in-Shift
fun_of-returns-in-Shift t c = LowersToFun-same _ _ _ _ c.shift_fun.result (fun_is c.args.fun.now _ c.in-Shift.is) c.shift_fun.ensures

pub fun_of-returns-in-Layer : goal.fun_of-returns-in-Layer
fun_of-returns-in-Layer t c = LowersToFun-same _ _ _ _ c.layer_of.result
    (ap (λ (f : Fun). fun_built (tree.layer c.in-Layer.fun (fun_of f))) c.deref-in-Layer.ensures ∙ fun_is c.args.fun.now _ c.in-Layer.is)
    c.layer_of.ensures

pub fun_of-returns-in-Every : goal.fun_of-returns-in-Every
fun_of-returns-in-Every t c = LowersToFun-same _ _ _ _ c.every_of.result
    (ap (λ (f : Fun). fun_built (tree.every (count_of c.in-Every.cycles) (fun_of f))) c.deref-in-Every.ensures ∙ fun_is c.args.fun.now _ c.in-Every.is)
    c.every_of.ensures

pub fun_of-returns-in-Cycle : goal.fun_of-returns-in-Cycle
fun_of-returns-in-Cycle t c = LowersToFun-same _ _ _ _ c.cycle_of.result
    (ap (λ (f : Fun). fun_built (tree.cycle c.in-Cycle.fun (count_of c.in-Cycle.cycles) (count_of c.in-Cycle.from) (fun_of f))) c.deref-in-Cycle.ensures
    ∙ fun_is c.args.fun.now _ c.in-Cycle.is)
    c.cycle_of.ensures

pub fun_of-returns-in-Off : goal.fun_of-returns-in-Off
fun_of-returns-in-Off t c = LowersToFun-same _ _ _ _ c.off_of.result
    (ap (λ (f : Fun). fun_built (tree.off (ratio_of c.in-Off.by) (fun_of f))) c.deref-in-Off.ensures ∙ fun_is c.args.fun.now _ c.in-Off.is)
    c.off_of.ensures

pub fun_of-returns-in-Within : goal.fun_of-returns-in-Within
fun_of-returns-in-Within t c = LowersToFun-same _ _ _ _ c.within_of.result
    (ap (λ (f : Fun). fun_built (tree.within c.in-Within.from c.in-Within.to (fun_of f))) c.deref-in-Within.ensures ∙ fun_is c.args.fun.now _ c.in-Within.is)
    c.within_of.ensures

pub fun_of-returns-in_err-other-in-Const : goal.fun_of-returns-in_err-other-in-Const
fun_of-returns-in_err-other-in-Const t c = exit_refused _ _ c.from_residual.result c.from_residual.ensures.1
    (RefusedFun-same _ _ _ _ _
    (ap (λ (e : Expr). fun_built (tree.const (expr_of e))) c.deref-in-Const.ensures ∙ fun_is c.args.fun.now _ c.in-Const.is)
    (Refused-first _ c.in_err-other-in-Const.ensures))

pub fun_of-returns-in_ok-other-in-Const : goal.fun_of-returns-in_ok-other-in-Const
fun_of-returns-in_ok-other-in-Const t c = LowersFun-same _ _ _ _ _
    (ap (λ (e : Expr). fun_built (tree.const (expr_of e))) c.deref-in-Const.ensures ∙ fun_is c.args.fun.now _ c.in-Const.is)
    (of_row (Const c.in_ok-other-in-Const.other) (built (expr_of c.deref-in-Const.result.now)) made.Const c.in_ok-other-in-Const.other
    c.in_ok-other-in-Const.ensures (λ h. record { of_rows = h; is = refl }))

pub fun_of-returns-in_err-right-in-Section : goal.fun_of-returns-in_err-right-in-Section
fun_of-returns-in_err-right-in-Section t c = exit_refused _ _ c.from_residual-in_err-right-in-Section.result c.from_residual-in_err-right-in-Section.ensures.1
    (RefusedFun-same _ _ _ _ _
    (ap (λ (e : Expr). fun_built (tree.section c.in-Section.operator (expr_of e))) c.deref-in-Section.ensures ∙ fun_is c.args.fun.now _ c.in-Section.is)
    (Refused-first _ c.in_err-right-in-Section.ensures))

pub fun_of-returns-in_ok-right-in-Section : goal.fun_of-returns-in_ok-right-in-Section
fun_of-returns-in_ok-right-in-Section t c = LowersFun-same _ _ _ _ _
    (ap (λ (e : Expr). fun_built (tree.section c.in-Section.operator (expr_of e))) c.deref-in-Section.ensures ∙ fun_is c.args.fun.now _ c.in-Section.is)
    (of_row (Section c.in-Section.operator.side c.in-Section.operator.op c.in_ok-right-in-Section.right) (built (expr_of c.deref-in-Section.result.now))
    (made.Section c.in-Section.operator.side c.in-Section.operator.op) c.in_ok-right-in-Section.right c.in_ok-right-in-Section.ensures
    (λ h. record { of_rows = h; is = refl }))

pub fun_of-returns-in-Inside : goal.fun_of-returns-in-Inside
fun_of-returns-in-Inside t c = LowersToFun-same _ _ _ _ c.fun_of.result
    (ap (λ (f : Fun). fun_built (fun_of f)) c.deref-in-Inside.ensures ∙ fun_is c.args.fun.now _ c.in-Inside.is)
    c.fun_of.ensures

pub fun_of-returns-in_err-later-in-Chain : goal.fun_of-returns-in_err-later-in-Chain
fun_of-returns-in_err-later-in-Chain t c = exit_refused _ _ c.from_residual-in_err-later-in-Chain.result c.from_residual-in_err-later-in-Chain.ensures.1
    (RefusedFun-same _ _ _ _ _
    (ap (λ (f : Fun). fun_built (tree.chain (fun_of f) (fun_of c.in-Chain.first.value))) c.deref-in-Chain.ensures ∙ fun_is c.args.fun.now _ c.in-Chain.is)
    (Refused-first _ c.in_err-later-in-Chain.ensures))

pub fun_of-returns-in_ok-later-in-Chain : goal.fun_of-returns-in_ok-later-in-Chain
fun_of-returns-in_ok-later-in-Chain t c = LowersToFun-same _ _ _ _ c.chain_of.result
    (ap (λ (f : Fun). fun_built (tree.chain (fun_of f) (fun_of c.deref-in-Chain-2.result.now))) c.deref-in-Chain.ensures
    ∙ (ap (λ (f : Fun). fun_built (tree.chain (fun_of c.in-Chain.next.value) (fun_of f))) c.deref-in-Chain-2.ensures
    ∙ fun_is c.args.fun.now _ c.in-Chain.is))
    (then_chain _ (fun_built (fun_of c.deref-in-Chain.result.now)) (fun_built (fun_of c.deref-in-Chain-2.result.now)) made.Chain c.in_ok-later-in-Chain.later
    c.chain_of.result c.in_ok-later-in-Chain.ensures c.chain_of.ensures)

-- ---- each expression
pub expr_row-returns-in-Silence : goal.expr_row-returns-in-Silence
expr_row-returns-in-Silence t c = LowersTo-same _ _ _ _ c.silence.result (expr_is c.args.expr.now _ c.in-Silence.is) c.silence.ensures

pub expr_row-returns-in-Control : goal.expr_row-returns-in-Control
expr_row-returns-in-Control t c = LowersTo-same _ _ _ _ c.setting_row.result (expr_is c.args.expr.now _ c.in-Control.is) c.setting_row.ensures

pub expr_row-returns-in-Inside : goal.expr_row-returns-in-Inside
expr_row-returns-in-Inside t c = LowersTo-same _ _ _ _ c.expr_row.result
    (ap (λ (e : Expr). built (expr_of e)) c.deref.ensures ∙ expr_is c.args.expr.now _ c.in-Inside.is) c.expr_row.ensures

pub expr_row-returns-in-Shifted : goal.expr_row-returns-in-Shifted
expr_row-returns-in-Shifted t c = LowersTo-same _ _ _ _ c.shifted_row.result
    (ap (λ (e : Expr). applied_built (shift_built (ratio_of c.in-Shifted.by) c.in-Shifted.way) (built (expr_of e))) c.deref-in-Shifted.ensures
    ∙ expr_is c.args.expr.now _ c.in-Shifted.is) c.shifted_row.ensures

pub expr_row-rows_of-requires : goal.expr_row-rows_of-requires
expr_row-rows_of-requires t c =
    let valid : All IsValidExpr c.deref-in-List.result.now =
    subst (All IsValidExpr) (sym c.deref-in-List.ensures.value) (list_valid c.in-List.shape c.in-List.exprs (subst IsValidExpr c.in-List.is c.requires)) in
    let depth = list_depth c.args.expr.now c.in-List.shape c.in-List.exprs c.deref-in-List.result.now c.in-List.is c.deref-in-List.ensures.value in
    (omega (arith, c.decreases, depth), valid)

pub expr_row-returns-in_err-ids-in-List : goal.expr_row-returns-in_err-ids-in-List
expr_row-returns-in_err-ids-in-List t c = exit_refused _ _ c.from_residual.result c.from_residual.ensures.1
    (Refused-same _ _ _ _ _
    (ap (λ (es : List Expr). rows_built es ▸ λ ts. list_of c.in-List.shape ts) c.deref-in-List.ensures.value
    ∙ (list_is c.in-List.shape c.in-List.exprs ∙ expr_is c.args.expr.now _ c.in-List.is))
    (Refused-first _ c.in_err-ids-in-List.ensures))

pub expr_row-list_of-requires-clause-rows : goal.expr_row-list_of-requires-clause-rows
expr_row-list_of-requires-clause-rows t c =
    let P : List NodeId → Type 0 = λ ids. All (IsRow c.rows_of.new.table) ids in
    subst P (sym c.deref-in-List-2.ensures.value) c.in_ok-ids-in-List.ensures.rows

pub expr_row-list_of-requires-clause-few : goal.expr_row-list_of-requires-clause-few
expr_row-list_of-requires-clause-few t c =
    omega (
      arith,
      ap (λ (ids : List NodeId). length ids) c.deref-in-List-2.ensures.value,
      rows_few (λ (e : Expr). built (expr_of e)) (λ e. built_some (expr_of e)) c.deref-in-List.result.now c.in_ok-ids-in-List.ids.items
          c.in_ok-ids-in-List.ensures,
    )

pub expr_row-returns-in_ok-ids-in-List : goal.expr_row-returns-in_ok-ids-in-List
expr_row-returns-in_ok-ids-in-List t c = LowersTo-same _ _ _ _ c.list_of.result
    (ap (λ (es : List Expr). rows_built es ▸ λ ts. list_of c.in-List.shape ts) c.deref-in-List.ensures.value
    ∙ (list_is c.in-List.shape c.in-List.exprs ∙ expr_is c.args.expr.now _ c.in-List.is))
    (joined_rows_are (λ (e : Expr). built (expr_of e)) c.deref-in-List.result.now (λ ts. list_of c.in-List.shape ts) c.in_ok-ids-in-List.ids.items
    c.deref-in-List-2.result.now _ c.list_of.result c.in_ok-ids-in-List.ensures c.deref-in-List-2.ensures.value c.list_of.ensures)

pub expr_row-part_rows-requires : goal.expr_row-part_rows-requires
expr_row-part_rows-requires t c =
    let valid : All IsValidPart c.deref-in-Timecat.result.now =
    subst (All IsValidPart) (sym c.deref-in-Timecat.ensures.value) (timecat_valid c.in-Timecat.parts (subst IsValidExpr c.in-Timecat.is c.requires)) in
    let depth = timecat_depth c.args.expr.now c.in-Timecat.parts c.deref-in-Timecat.result.now c.in-Timecat.is c.deref-in-Timecat.ensures.value in
    (omega (arith, c.decreases, depth), valid)

pub expr_row-returns-in_err-ids-in-Timecat : goal.expr_row-returns-in_err-ids-in-Timecat
expr_row-returns-in_err-ids-in-Timecat t c = exit_refused _ _ c.from_residual-in_err-ids-in-Timecat.result c.from_residual-in_err-ids-in-Timecat.ensures.1
    (Refused-same _ _ _ _ _
    (ap (λ (ps : List Part). part_rows_built ps ▸ λ ts. timecat_of (steps_at (weights_of ps) ts)) c.deref-in-Timecat.ensures.value
    ∙ (timecat_is c.in-Timecat.parts ∙ expr_is c.args.expr.now _ c.in-Timecat.is))
    (Refused-first _ c.in_err-ids-in-Timecat.ensures))

pub expr_row-timecat_of-requires-clause-parts : goal.expr_row-timecat_of-requires-clause-parts
expr_row-timecat_of-requires-clause-parts t c =
    let valid = subst (All IsValidPart) (sym c.deref-in-Timecat-2.ensures.value)
    (timecat_valid c.in-Timecat.parts (subst IsValidExpr c.in-Timecat.is c.requires)) in
    λ k d lt. (valid k d lt).0

pub expr_row-timecat_of-requires-clause-rows : goal.expr_row-timecat_of-requires-clause-rows
expr_row-timecat_of-requires-clause-rows t c =
    let P : List NodeId → Type 0 = λ ids. All (IsRow c.part_rows.new.table) ids in
    subst P (sym c.deref-in-Timecat-3.ensures.value) c.in_ok-ids-in-Timecat.ensures.rows

pub expr_row-timecat_of-requires-clause-each : goal.expr_row-timecat_of-requires-clause-each
expr_row-timecat_of-requires-clause-each t c =
    omega (
      arith,
      ap (λ (ids : List NodeId). length ids) c.deref-in-Timecat-3.ensures.value,
      ap (λ (ps : List Part). length ps) c.deref-in-Timecat.ensures.value,
      ap (λ (ps : List Part). length ps) c.deref-in-Timecat-2.ensures.value,
      length-ids (λ (p : Part). built (expr_of p.expr)) c.deref-in-Timecat.result.now c.in_ok-ids-in-Timecat.ids.items c.in_ok-ids-in-Timecat.ensures,
    )

pub expr_row-timecat_of-requires-clause-few : goal.expr_row-timecat_of-requires-clause-few
expr_row-timecat_of-requires-clause-few t c =
    omega (
      arith,
      ap (λ (ids : List NodeId). length ids) c.deref-in-Timecat-3.ensures.value,
      rows_few (λ (p : Part). built (expr_of p.expr)) (λ p. built_some (expr_of p.expr)) c.deref-in-Timecat.result.now c.in_ok-ids-in-Timecat.ids.items
          c.in_ok-ids-in-Timecat.ensures,
    )

pub expr_row-returns-in_ok-ids-in-Timecat : goal.expr_row-returns-in_ok-ids-in-Timecat
expr_row-returns-in_ok-ids-in-Timecat t c =
    let steps : List Part → Built Tree = λ ps. part_rows_built c.deref-in-Timecat.result.now ▸ λ ts. timecat_of (steps_at (weights_of ps) ts) in
    LowersTo-same _ _ _ _ c.timecat_of.result
    (ap steps (c.deref-in-Timecat-2.ensures.value ∙ sym c.deref-in-Timecat.ensures.value)
    ∙ (ap (λ (ps : List Part). part_rows_built ps ▸ λ ts. timecat_of (steps_at (weights_of ps) ts)) c.deref-in-Timecat.ensures.value
    ∙ (timecat_is c.in-Timecat.parts ∙ expr_is c.args.expr.now _ c.in-Timecat.is)))
    (joined_rows_are (λ (p : Part). built (expr_of p.expr)) c.deref-in-Timecat.result.now
    (λ ts. timecat_of (steps_at (weights_of c.deref-in-Timecat-2.result.now) ts)) c.in_ok-ids-in-Timecat.ids.items c.deref-in-Timecat-3.result.now _
    c.timecat_of.result c.in_ok-ids-in-Timecat.ensures c.deref-in-Timecat-3.ensures.value c.timecat_of.ensures)

pub expr_row-returns-in_err-made-in-Called : goal.expr_row-returns-in_err-made-in-Called
expr_row-returns-in_err-made-in-Called t c = exit_refused _ _ c.from_residual-in_err-made-in-Called.result c.from_residual-in_err-made-in-Called.ensures.1
    (Refused-same _ _ _ _ _
    (ap (λ (f : Fun). applied_built (fun_built (fun_of f)) (built (expr_of c.in-Called.expr.value))) c.deref-in-Called.ensures
    ∙ called_is c.args.expr.now _ _ c.in-Called.is)
    (Refused-first _ c.in_err-made-in-Called.ensures))

pub expr_row-returns-in_ok-made-in-Called : goal.expr_row-returns-in_ok-made-in-Called
expr_row-returns-in_ok-made-in-Called t c = LowersTo-same _ _ _ _ c.applied_row.result
    (ap (λ (f : Fun). applied_built (fun_built (fun_of f)) (built (expr_of c.deref-in-Called-2.result.now))) c.deref-in-Called.ensures
    ∙ (ap (λ (e : Expr). applied_built (fun_built (fun_of c.in-Called.fun.value)) (built (expr_of e))) c.deref-in-Called-2.ensures
    ∙ called_is c.args.expr.now _ _ c.in-Called.is))
    (then_expr _ (fun_built (fun_of c.deref-in-Called.result.now)) (built (expr_of c.deref-in-Called-2.result.now)) c.in_ok-made-in-Called.made
    c.applied_row.result c.in_ok-made-in-Called.ensures c.applied_row.ensures)

pub expr_row-returns-in_err-first-in-Joined : goal.expr_row-returns-in_err-first-in-Joined
expr_row-returns-in_err-first-in-Joined t c = exit_refused _ _ c.from_residual-in_err-first-in-Joined.result c.from_residual-in_err-first-in-Joined.ensures.1
    (Refused-same _ _ _ _ _
    (ap (λ (d : Expr). built (expr_of d) ▸ λ p. built (expr_of c.in-Joined.right.value) ▸ λ q. joined_trees c.in-Joined.operator p q)
    c.deref-in-Joined.ensures ∙ expr_is c.args.expr.now _ c.in-Joined.is)
    (Refused-first _ c.in_err-first-in-Joined.ensures))

pub expr_row-returns-in_ok-first-in-Joined : goal.expr_row-returns-in_ok-first-in-Joined
expr_row-returns-in_ok-first-in-Joined t c = LowersTo-same _ _ _ _ c.joined_row.result
    (ap (λ (d : Expr). built (expr_of d) ▸ λ p. built (expr_of c.deref-in-Joined-2.result.now) ▸ λ q. joined_trees c.in-Joined.operator p q)
    c.deref-in-Joined.ensures
    ∙ (ap (λ (e : Expr). built (expr_of c.in-Joined.left.value) ▸ λ p. built (expr_of e) ▸ λ q. joined_trees c.in-Joined.operator p q)
    c.deref-in-Joined-2.ensures
    ∙ expr_is c.args.expr.now _ c.in-Joined.is))
    (LowersTo-after _ (built (expr_of c.deref-in-Joined.result.now))
    (λ p. built (expr_of c.deref-in-Joined-2.result.now) ▸ λ q. joined_trees c.in-Joined.operator p q) c.in_ok-first-in-Joined.ensures c.joined_row.result
    c.joined_row.ensures)
