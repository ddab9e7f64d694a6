use Rattle.std.proofs.Common.{true, ap, ◌∙◌, arith}
use Rattle.std.proofs.lemmas.Int.{ints}
use Rattle.tdl_control.specs.declared.leaves.Leaf.TheVariants as leaf
use Rattle.tdl_fraction.specs.Rational.{whole}
use Rattle.tdl_expr.specs.Tree.{Tree, Pure}
use Rattle.tdl_expr.specs.Rows.{tree_at}
use Rattle.tdl_rows.specs.Built.{Built, one_row, ◌▸◌}
use Rattle.tdl_rows.specs.Joined.{fast_of}
use Rattle.tdl_rows.specs.Stays.{row_after}
use Rattle.tdl_rows.proofs.Gained.{exit_refused, Refused-first, Refused-same, LowersTo-same}
use Rattle.tdl_combinator.specs.Makings.{struct_of}
use Rattle.tdl_combinator.proofs.Rounds.{segment_is}
use Rattle.tdl_combinator.proofs.Sequels.{next_row, next_refused}
use Rattle.tdl_combinator.proofs.of_events.segment_of.Goals as goal

pub returns-in_err-pieces : goal.returns-in_err-pieces
returns-in_err-pieces c =
    let rate = c.whole.result in
    let pieces : Tree → Tree → Built Tree = λ t p. fast_of rate t ▸ λ s. struct_of s p in
    let times = c.size-times.result in
    exit_refused _ _ c.from_residual-in_err-pieces.result c.from_residual-in_err-pieces.ensures.1
    (Refused-same _ _ _ _ _
    (segment_is c.args.count.num times rate (tree_at c.args.table.now c.args.child) c.size-times.ensures.value (omega (arith, c.if-times-eq0.false))
    (c.whole.ensures ∙ ap whole (omega (arith, ints, c.from.ensures, c.size-times.ensures.few))))
    (next_refused _ (one_row 0 (Pure (leaf.Truth true))) pieces c.args.child c.requires.row c.in_ok-whole.ensures _ (Refused-first _ c.in_err-pieces.ensures)))

pub returns : goal.returns
returns c =
    let rate = c.whole.result in
    let pieces : Tree → Tree → Built Tree = λ t p. fast_of rate t ▸ λ s. struct_of s p in
    let times = c.size-times.result in
    LowersTo-same _ _ _ _ c.struct_of.result
    (segment_is c.args.count.num times rate (tree_at c.args.table.now c.args.child) c.size-times.ensures.value (omega (arith, c.if-times-eq0.false))
    (c.whole.ensures ∙ ap whole (omega (arith, ints, c.from.ensures, c.size-times.ensures.few))))
    (next_row _ (one_row 0 (Pure (leaf.Truth true))) pieces c.args.child c.requires.row c.in_ok-whole.ensures c.struct_of.result
    (next_row _ _ (λ s p. struct_of s p) c.args.child (row_after c.in_ok-whole.ensures.gains c.args.child c.requires.row) c.in_ok-pieces.ensures
    c.struct_of.result c.struct_of.ensures))
