use Rattle.std.proofs.Common.{◌<◌, List, Ok, Option, length, sym, ap, ◌∙◌, subst, arith, take_all}
use Rattle.tdl_fraction.specs.Rational.{Rational}
use Rattle.tdl_expr.specs.Tree.{When}
use Rattle.tdl_expr.specs.Rows.{tree_at}
use Rattle.tdl_rows.specs.Arguments.{argument_at}
use Rattle.tdl_rows.specs.Built.{one_row, each}
use Rattle.tdl_rows.specs.Joined.{choose}
use Rattle.tdl_rows.specs.Stays.{row_after}
use Rattle.tdl_rows.specs.inside.Views.{LowersIds}
use Rattle.tdl_rows.proofs.ChosenRows.{chosen_more, chosen_refused, chosen_all, chosen_is, selector_row, selector_few, few_ids}
use Rattle.tdl_rows.proofs.Gained.{exit_refused, LowersTo-same, Refused-same, Refused-first, Refused-append, LowersTo-after, Lowers-same, Gains-append}
use Rattle.tdl_combinator.specs.Applied.{applied}
use Rattle.tdl_combinator.specs.Funs.{fun_at}
use Rattle.tdl_combinator.specs.TreeFun.{TreeFun}
use Rattle.tdl_combinator.specs.Makings.{two, chain_of, when_of, within_of, superimpose_of, jux_of}
use Rattle.tdl_combinator.specs.declared.applying.How.TheVariants as how
use Rattle.tdl_combinator.specs.declared.funs.Fun.{Fun}
use Rattle.tdl_combinator.specs.declared.by_cycle.Round.{Round}
use Rattle.tdl_expr.specs.declared.args.Arg.TheVariants.{Plain}
use Rattle.tdl_combinator.specs.inside.Numbered.{with_first, with_second}
use Rattle.tdl_combinator.proofs.FunRows.{chosen_bounded, unused_number, part_of, fun_row, fun_after, number_row, second_after, first_after, fun_is, IsFun-of}
use Rattle.tdl_combinator.proofs.Sequels.{next_row, kept_row}
use Rattle.tdl_combinator.proofs.PartRows.{jux_row, jux_refused, off_row, off_refused, within_row}
use Rattle.tdl_combinator.proofs.Depths.{every_deeper, off_deeper, chain_deeper}
use Rattle.tdl_combinator.proofs.applying.+applying.Goals as goal

-- ---- with one function in them
pub superimpose_of-returns : goal.superimpose_of-returns
superimpose_of-returns t c =
    next_row _ (applied (fun_at c.args.table.now c.args.part.now) (tree_at c.args.table.now c.args.child)) (λ q p. two p q) c.args.child
    c.requires.row c.in_ok-made.ensures c.two.result c.two.ensures

pub superimpose_of-returns-in_err-made : goal.superimpose_of-returns-in_err-made
superimpose_of-returns-in_err-made t c = exit_refused _ _ c.from_residual.result c.from_residual.ensures.1 (Refused-first _ c.in_err-made.ensures)

pub jux_of-returns : goal.jux_of-returns
jux_of-returns t c =
    let same = fun_after (Gains-append c.in_ok-left.ensures.gains c.in_ok-right.ensures.gains) c.args.part.now c.requires.part in
    jux_row (applied (fun_at c.args.table.now c.args.part.now)) c.args.child _ _ c.requires.row c.in_ok-left.ensures c.in_ok-right.ensures _ c.two.result
    (Lowers-same _ _ _ _ _ (ap (λ (f : TreeFun). applied f (tree_at c.panned-2.new.table c.in_ok-right.right)) same) c.in_ok-made.ensures) c.two.ensures

pub jux_of-returns-in_err-left : goal.jux_of-returns-in_err-left
jux_of-returns-in_err-left t c = exit_refused _ _ c.from_residual.result c.from_residual.ensures.1 (Refused-first _ c.in_err-left.ensures)

pub jux_of-returns-in_err-right : goal.jux_of-returns-in_err-right
jux_of-returns-in_err-right t c = exit_refused _ _ c.from_residual-in_err-right.result c.from_residual-in_err-right.ensures.1
    (Refused-append c.in_ok-left.ensures.gains (Refused-first _ c.in_err-right.ensures))

pub jux_of-returns-in_err-made : goal.jux_of-returns-in_err-made
jux_of-returns-in_err-made t c =
    let same = fun_after (Gains-append c.in_ok-left.ensures.gains c.in_ok-right.ensures.gains) c.args.part.now c.requires.part in
    exit_refused _ _ c.from_residual-in_err-made.result c.from_residual-in_err-made.ensures.1
    (jux_refused (applied (fun_at c.args.table.now c.args.part.now)) c.args.child _ _ c.requires.row c.in_ok-left.ensures c.in_ok-right.ensures _ _
    (Refused-same _ _ _ _ _ (ap (λ (f : TreeFun). applied f (tree_at c.panned-2.new.table c.in_ok-right.right)) same) c.in_err-made.ensures))

pub off_of-returns : goal.off_of-returns
off_of-returns t c =
    let same = fun_after c.in_ok-later.ensures.gains c.args.part.now c.requires.part in
    off_row (applied (fun_at c.args.table.now c.args.part.now)) c.args.by c.args.child _ c.requires.row c.in_ok-later.ensures _ c.two.result
    (Lowers-same _ _ _ _ _ (ap (λ (f : TreeFun). applied f (tree_at c.shift.new.table c.in_ok-later.later)) same) c.in_ok-made.ensures) c.two.ensures

pub off_of-returns-in_err-later : goal.off_of-returns-in_err-later
off_of-returns-in_err-later t c = exit_refused _ _ c.from_residual.result c.from_residual.ensures.1 (Refused-first _ c.in_err-later.ensures)

pub off_of-returns-in_err-made : goal.off_of-returns-in_err-made
off_of-returns-in_err-made t c =
    let same = fun_after c.in_ok-later.ensures.gains c.args.part.now c.requires.part in
    exit_refused _ _ c.from_residual-in_err-made.result c.from_residual-in_err-made.ensures.1
    (off_refused (applied (fun_at c.args.table.now c.args.part.now)) c.args.by c.args.child _ c.requires.row c.in_ok-later.ensures _ _
    (Refused-same _ _ _ _ _ (ap (λ (f : TreeFun). applied f (tree_at c.shift.new.table c.in_ok-later.later)) same) c.in_err-made.ensures))

pub within_of-returns : goal.within_of-returns
within_of-returns t c =
    within_row c.args.from c.args.to (applied (fun_at c.args.table.now c.args.part.now)) c.args.child _ c.requires.row c.in_ok-made.ensures
    c.in_ok-inner.ensures _ c.two.result c.in_ok-outer.ensures c.two.ensures

pub within_of-returns-in_err-made : goal.within_of-returns-in_err-made
within_of-returns-in_err-made t c = exit_refused _ _ c.from_residual.result c.from_residual.ensures.1 (Refused-first _ c.in_err-made.ensures)

pub within_of-returns-in_err-inner : goal.within_of-returns-in_err-inner
within_of-returns-in_err-inner t c = exit_refused _ _ c.from_residual-in_err-inner.result c.from_residual-in_err-inner.ensures.1
    (Refused-append c.in_ok-made.ensures.gains (Refused-first _ c.in_err-inner.ensures))

pub within_of-returns-in_err-outer : goal.within_of-returns-in_err-outer
within_of-returns-in_err-outer t c = exit_refused _ _ c.from_residual-in_err-outer.result c.from_residual-in_err-outer.ensures.1
    (Refused-append c.in_ok-made.ensures.gains (Refused-append c.in_ok-inner.ensures.gains (Refused-first _ c.in_err-outer.ensures)))

-- ---- with numbers
pub at_second-loop-i-preserved : goal.at_second-loop-i-preserved
at_second-loop-i-preserved t c =
    let made = with_second c.args.table.now c.args.how c.args.part.now c.args.child c.args.first in
    let lt : c.loop-i.i < length c.in-Chosen.values = omega arith in
    chosen_more c.args.table.now made c.in-Chosen.values c.loop-i.table c.loop-i.i c.get-number.result.now lt
    (sym (c.get-number.ensures c.get-number.result.now)) _ c.loop-i.invariant _ c.in_ok-id-in-Chosen.id _ c.in_ok-push-in-Chosen.ensures.ok _
    (second_after c.loop-i.invariant.gains c.args.how c.args.part.now c.args.child c.args.first c.get-number.result.now c.requires.part c.requires.row)
    c.in_ok-id-in-Chosen.ensures

pub at_first-loop-i-preserved : goal.at_first-loop-i-preserved
at_first-loop-i-preserved t c =
    let made = with_first c.args.table.now c.args.how c.args.part.now c.args.child c.args.second.now in
    let lt : c.loop-i.i < length c.in-Chosen.values = omega arith in
    chosen_more c.args.table.now made c.in-Chosen.values c.loop-i.table c.loop-i.i c.get-number.result.now lt
    (sym (c.get-number.ensures c.get-number.result.now)) _ c.loop-i.invariant _ c.in_ok-id-in-Chosen.id _ c.in_ok-push-in-Chosen.ensures.ok _
    (first_after c.loop-i.invariant.gains c.args.how c.args.part.now c.args.child c.args.second.now c.get-number.result.now
    c.requires.part c.requires.row c.requires.second) c.in_ok-id-in-Chosen.ensures

-- ---- each function

pub apply-returns-in-Fast : goal.apply-returns-in-Fast
apply-returns-in-Fast t c = LowersTo-same _ _ _ _ c.choose.result
    (fun_is c.args.table.now c.args.fun.now _ (tree_at c.args.table.now c.args.child) c.in-Fast.is) c.choose.ensures

pub apply-returns-in-Slow : goal.apply-returns-in-Slow
apply-returns-in-Slow t c = LowersTo-same _ _ _ _ c.choose-in-Slow.result
    (fun_is c.args.table.now c.args.fun.now _ (tree_at c.args.table.now c.args.child) c.in-Slow.is) c.choose-in-Slow.ensures

pub apply-returns-in-Rev : goal.apply-returns-in-Rev
apply-returns-in-Rev t c = LowersTo-same _ _ _ _ c.rev.result
    (fun_is c.args.table.now c.args.fun.now _ (tree_at c.args.table.now c.args.child) c.in-Rev.is) c.rev.ensures

pub apply-returns-in-Struct : goal.apply-returns-in-Struct
apply-returns-in-Struct t c = LowersTo-same _ _ _ _ c.struct_of.result
    (fun_is c.args.table.now c.args.fun.now _ (tree_at c.args.table.now c.args.child) c.in-Struct.is) c.struct_of.ensures

pub apply-returns-in-Mask : goal.apply-returns-in-Mask
apply-returns-in-Mask t c = LowersTo-same _ _ _ _ c.mask_of.result
    (fun_is c.args.table.now c.args.fun.now _ (tree_at c.args.table.now c.args.child) c.in-Mask.is) c.mask_of.ensures

pub apply-returns-in-Palindrome : goal.apply-returns-in-Palindrome
apply-returns-in-Palindrome t c = LowersTo-same _ _ _ _ c.palindrome_of.result
    (fun_is c.args.table.now c.args.fun.now _ (tree_at c.args.table.now c.args.child) c.in-Palindrome.is) c.palindrome_of.ensures

pub apply-returns-in-Brak : goal.apply-returns-in-Brak
apply-returns-in-Brak t c = LowersTo-same _ _ _ _ c.brak_of.result
    (fun_is c.args.table.now c.args.fun.now _ (tree_at c.args.table.now c.args.child) c.in-Brak.is) c.brak_of.ensures

pub apply-returns-in-Euclid : goal.apply-returns-in-Euclid
apply-returns-in-Euclid t c = LowersTo-same _ _ _ _ c.choose_among.result
    (fun_is c.args.table.now c.args.fun.now _ (tree_at c.args.table.now c.args.child) c.in-Euclid.is) c.choose_among.ensures

pub apply-returns-in-Section : goal.apply-returns-in-Section
apply-returns-in-Section t c = LowersTo-same _ _ _ _ c.section_of.result
    (fun_is c.args.table.now c.args.fun.now _ (tree_at c.args.table.now c.args.child) c.in-Section.is) c.section_of.ensures

pub apply-returns-in-Later : goal.apply-returns-in-Later
apply-returns-in-Later t c = LowersTo-same _ _ _ _ c.changed.result
    (fun_is c.args.table.now c.args.fun.now _ (tree_at c.args.table.now c.args.child) c.in-Later.is) c.changed.ensures

pub apply-returns-in-Earlier : goal.apply-returns-in-Earlier
apply-returns-in-Earlier t c = LowersTo-same _ _ _ _ c.changed-in-Earlier.result
    (fun_is c.args.table.now c.args.fun.now _ (tree_at c.args.table.now c.args.child) c.in-Earlier.is) c.changed-in-Earlier.ensures

pub apply-returns-in-Ply : goal.apply-returns-in-Ply
apply-returns-in-Ply t c = LowersTo-same _ _ _ _ c.changed-in-Ply.result
    (fun_is c.args.table.now c.args.fun.now _ (tree_at c.args.table.now c.args.child) c.in-Ply.is) c.changed-in-Ply.ensures

pub apply-returns-in-Segment : goal.apply-returns-in-Segment
apply-returns-in-Segment t c = LowersTo-same _ _ _ _ c.changed-in-Segment.result
    (fun_is c.args.table.now c.args.fun.now _ (tree_at c.args.table.now c.args.child) c.in-Segment.is) c.changed-in-Segment.ensures

pub apply-returns-in-Iter : goal.apply-returns-in-Iter
apply-returns-in-Iter t c = LowersTo-same _ _ _ _ c.changed-in-Iter.result
    (fun_is c.args.table.now c.args.fun.now _ (tree_at c.args.table.now c.args.child) c.in-Iter.is) c.changed-in-Iter.ensures

pub apply-returns-in-Same : goal.apply-returns-in-Same
apply-returns-in-Same t c = LowersTo-same c.args.table.now c.args.table.now _ _ (Ok c.args.child)
    (fun_is c.args.table.now c.args.fun.now _ (tree_at c.args.table.now c.args.child) c.in-Same.is)
    (kept_row c.args.table.now c.args.child c.requires.row)

pub apply-returns-in-Const : goal.apply-returns-in-Const
apply-returns-in-Const t c = LowersTo-same c.args.table.now c.args.table.now _ _ (Ok c.in-Const.other)
    (fun_is c.args.table.now c.args.fun.now _ (tree_at c.args.table.now c.args.child) c.in-Const.is)
    (kept_row c.args.table.now c.in-Const.other (IsFun-of c.args.table.now c.args.fun.now _ c.in-Const.is c.requires.fun))

pub apply-returns-in-Superimpose : goal.apply-returns-in-Superimpose
apply-returns-in-Superimpose t c = LowersTo-same _ _ _ _ c.superimpose_of.result
    (ap (λ (g : Fun). superimpose_of (applied (fun_at c.args.table.now g)) (tree_at c.args.table.now c.args.child)) c.deref-in-Superimpose.ensures
    ∙ fun_is c.args.table.now c.args.fun.now _ (tree_at c.args.table.now c.args.child) c.in-Superimpose.is) c.superimpose_of.ensures

pub apply-returns-in-Jux : goal.apply-returns-in-Jux
apply-returns-in-Jux t c = LowersTo-same _ _ _ _ c.jux_of.result
    (ap (λ (g : Fun). jux_of (applied (fun_at c.args.table.now g)) (tree_at c.args.table.now c.args.child)) c.deref-in-Jux.ensures
    ∙ fun_is c.args.table.now c.args.fun.now _ (tree_at c.args.table.now c.args.child) c.in-Jux.is) c.jux_of.ensures

pub apply-returns-in-Within : goal.apply-returns-in-Within
apply-returns-in-Within t c = LowersTo-same _ _ _ _ c.within_of.result
    (ap (λ (g : Fun). within_of c.in-Within.from c.in-Within.to (applied (fun_at c.args.table.now g)) (tree_at c.args.table.now c.args.child))
    c.deref-in-Within.ensures
    ∙ fun_is c.args.table.now c.args.fun.now _ (tree_at c.args.table.now c.args.child) c.in-Within.is) c.within_of.ensures

pub apply-returns-in-Every : goal.apply-returns-in-Every
apply-returns-in-Every t c = LowersTo-same _ _ _ _ c.at_first.result
    (ap (λ (g : Fun). choose (argument_at c.args.table.now c.in-Every.n) (with_first c.args.table.now how.Every g c.args.child (Plain c.whole.result)))
    c.deref.ensures
    ∙ fun_is c.args.table.now c.args.fun.now _ (tree_at c.args.table.now c.args.child) c.in-Every.is) c.at_first.ensures

pub apply-returns-in-EveryAt : goal.apply-returns-in-EveryAt
apply-returns-in-EveryAt t c = LowersTo-same _ _ _ _ c.at_first-in-EveryAt.result
    (ap (λ (g : Fun). choose (argument_at c.args.table.now c.in-EveryAt.n) (with_first c.args.table.now how.EveryAt g c.args.child c.in-EveryAt.place))
    c.deref-in-EveryAt.ensures
    ∙ fun_is c.args.table.now c.args.fun.now _ (tree_at c.args.table.now c.args.child) c.in-EveryAt.is) c.at_first-in-EveryAt.ensures

pub apply-returns-in-WhenMod : goal.apply-returns-in-WhenMod
apply-returns-in-WhenMod t c = LowersTo-same _ _ _ _ c.at_first-in-WhenMod.result
    (ap (λ (g : Fun). choose (argument_at c.args.table.now c.in-WhenMod.a) (with_first c.args.table.now how.WhenMod g c.args.child c.in-WhenMod.b))
    c.deref-in-WhenMod.ensures
    ∙ fun_is c.args.table.now c.args.fun.now _ (tree_at c.args.table.now c.args.child) c.in-WhenMod.is) c.at_first-in-WhenMod.ensures

pub apply-returns-in-Off : goal.apply-returns-in-Off
apply-returns-in-Off t c = LowersTo-same _ _ _ _ c.at_first-in-Off.result
    (ap (λ (g : Fun). choose (argument_at c.args.table.now c.in-Off.by) (with_first c.args.table.now how.Off g c.args.child (Plain c.whole.result)))
    c.deref-in-Off.ensures
    ∙ fun_is c.args.table.now c.args.fun.now _ (tree_at c.args.table.now c.args.child) c.in-Off.is) c.at_first-in-Off.ensures

-- ---- with numbers that are chosen
pub at_second-returns-in_err-id-in-Chosen : goal.at_second-returns-in_err-id-in-Chosen
at_second-returns-in_err-id-in-Chosen t c =
    let made = with_second c.args.table.now c.args.how c.args.part.now c.args.child c.args.first in
    let lt : c.loop-i.i < length c.in-Chosen.values = omega arith in
    exit_refused _ _ c.from_residual.result c.from_residual.ensures.1
    (Refused-same c.args.table.now _ _ _ _ (chosen_is c.args.table.now c.args.second.now _ _ made c.in-Chosen.is)
    (chosen_refused c.args.table.now made c.in-Chosen.values c.loop-i.table c.loop-i.i c.get-number.result.now lt
    (sym (c.get-number.ensures c.get-number.result.now)) _ c.loop-i.invariant _ _ _ _
    (second_after c.loop-i.invariant.gains c.args.how c.args.part.now c.args.child c.args.first c.get-number.result.now c.requires.part c.requires.row)
    c.in_err-id-in-Chosen.ensures))

pub at_first-returns-in_err-id-in-Chosen : goal.at_first-returns-in_err-id-in-Chosen
at_first-returns-in_err-id-in-Chosen t c =
    let made = with_first c.args.table.now c.args.how c.args.part.now c.args.child c.args.second.now in
    let lt : c.loop-i.i < length c.in-Chosen.values = omega arith in
    exit_refused _ _ c.from_residual.result c.from_residual.ensures.1
    (Refused-same c.args.table.now _ _ _ _ (chosen_is c.args.table.now c.args.first.now _ _ made c.in-Chosen.is)
    (chosen_refused c.args.table.now made c.in-Chosen.values c.loop-i.table c.loop-i.i c.get-number.result.now lt
    (sym (c.get-number.ensures c.get-number.result.now)) _ c.loop-i.invariant _ _ _ _
    (first_after c.loop-i.invariant.gains c.args.how c.args.part.now c.args.child c.args.second.now c.get-number.result.now
    c.requires.part c.requires.row c.requires.second) c.in_err-id-in-Chosen.ensures))

pub at_second-pick_of-requires-clause-selector : goal.at_second-pick_of-requires-clause-selector
at_second-pick_of-requires-clause-selector t c = row_after c.loop-i.invariant.gains c.in-Chosen.selector
    (selector_row c.args.table.now c.args.second.now _ _ c.in-Chosen.is c.requires.second.is)

pub at_first-pick_of-requires-clause-selector : goal.at_first-pick_of-requires-clause-selector
at_first-pick_of-requires-clause-selector t c = row_after c.loop-i.invariant.gains c.in-Chosen.selector
    (selector_row c.args.table.now c.args.first.now _ _ c.in-Chosen.is c.requires.first.is)

pub at_second-pick_of-requires-clause-few : goal.at_second-pick_of-requires-clause-few
at_second-pick_of-requires-clause-few t c =
    let made = with_second c.args.table.now c.args.how c.args.part.now c.args.child c.args.first in
    few_ids made c.in-Chosen.values c.loop-i.i c.loop-i.children c.loop-i.invariant
    (selector_few c.args.table.now c.args.second.now _ _ c.in-Chosen.is c.requires.second.is)

pub at_first-pick_of-requires-clause-few : goal.at_first-pick_of-requires-clause-few
at_first-pick_of-requires-clause-few t c =
    let made = with_first c.args.table.now c.args.how c.args.part.now c.args.child c.args.second.now in
    few_ids made c.in-Chosen.values c.loop-i.i c.loop-i.children c.loop-i.invariant
    (selector_few c.args.table.now c.args.first.now _ _ c.in-Chosen.is c.requires.first.is)

pub at_second-returns-after-loop-i : goal.at_second-returns-after-loop-i
at_second-returns-after-loop-i t c =
    let made = with_second c.args.table.now c.args.how c.args.part.now c.args.child c.args.first in
    let whole = take_all c.loop-i.i c.in-Chosen.values (omega arith) in
    let P : List Rational → Type 0 = λ values. LowersIds c.args.table.now c.loop-i.table (each made values) c.loop-i.children in
    LowersTo-same _ _ _ _ c.pick_of.result (chosen_is c.args.table.now c.args.second.now _ _ made c.in-Chosen.is)
    (chosen_all c.args.table.now made c.in-Chosen.values c.loop-i.table _ _ c.in-Chosen.selector c.pick_of.result
    (selector_row c.args.table.now c.args.second.now _ _ c.in-Chosen.is c.requires.second.is) (subst P whole c.loop-i.invariant) c.pick_of.ensures)

pub at_first-returns-after-loop-i : goal.at_first-returns-after-loop-i
at_first-returns-after-loop-i t c =
    let made = with_first c.args.table.now c.args.how c.args.part.now c.args.child c.args.second.now in
    let whole = take_all c.loop-i.i c.in-Chosen.values (omega arith) in
    let P : List Rational → Type 0 = λ values. LowersIds c.args.table.now c.loop-i.table (each made values) c.loop-i.children in
    LowersTo-same _ _ _ _ c.pick_of.result (chosen_is c.args.table.now c.args.first.now _ _ made c.in-Chosen.is)
    (chosen_all c.args.table.now made c.in-Chosen.values c.loop-i.table _ _ c.in-Chosen.selector c.pick_of.result
    (selector_row c.args.table.now c.args.first.now _ _ c.in-Chosen.is c.requires.first.is) (subst P whole c.loop-i.invariant) c.pick_of.ensures)

pub at_second-with_numbers-requires-in-loop-i : goal.at_second-with_numbers-requires-in-loop-i
at_second-with_numbers-requires-in-loop-i t c =
    let gains = c.loop-i.invariant.gains in
    let bounded = chosen_bounded c.args.table.now c.args.second.now _ c.in-Chosen.values c.loop-i.i c.get-number.result.now c.in-Chosen.is c.requires.second
    (omega arith)
    (sym (c.get-number.ensures c.get-number.result.now)) in
    (omega arith, (c.requires.first, (bounded, (fun_row gains c.args.part.now c.requires.part, row_after gains c.args.child c.requires.row))))

pub at_first-at_second-requires-in-loop-i : goal.at_first-at_second-requires-in-loop-i
at_first-at_second-requires-in-loop-i t c =
    let gains = c.loop-i.invariant.gains in
    let bounded = chosen_bounded c.args.table.now c.args.first.now _ c.in-Chosen.values c.loop-i.i c.get-number.result.now c.in-Chosen.is c.requires.first
    (omega arith)
    (sym (c.get-number.ensures c.get-number.result.now)) in
    let number = number_row gains c.args.second.now c.requires.second in
    (omega arith, (bounded, (number, (fun_row gains c.args.part.now c.requires.part, row_after gains c.args.child c.requires.row))))

pub jux_of-apply-requires : goal.jux_of-apply-requires
jux_of-apply-requires t c = (
  omega arith,
  (
    fun_row (Gains-append c.in_ok-left.ensures.gains c.in_ok-right.ensures.gains) c.args.part.now c.requires.part,
    c.in_ok-right.ensures.row,
  ),
)

pub off_of-apply-requires : goal.off_of-apply-requires
off_of-apply-requires t c =
    (omega arith, (fun_row c.in_ok-later.ensures.gains c.args.part.now c.requires.part, c.in_ok-later.ensures.row))

pub when_of-returns-in_err-made-in-Some : goal.when_of-returns-in_err-made-in-Some
when_of-returns-in_err-made-in-Some t c = exit_refused _ _ c.from_residual.result c.from_residual.ensures.1
    (Refused-same _ _ _ _ _
    (ap (λ (r : Option Round). when_of r (applied (fun_at c.args.table.now c.args.part.now)) (tree_at c.args.table.now c.args.child)) (sym c.in-Some.is))
    (Refused-first _ c.in_err-made-in-Some.ensures))

pub when_of-returns-in_ok-made-in-Some : goal.when_of-returns-in_ok-made-in-Some
when_of-returns-in_ok-made-in-Some t c = LowersTo-same _ _ _ _ c.when.result
    (ap (λ (r : Option Round). when_of r (applied (fun_at c.args.table.now c.args.part.now)) (tree_at c.args.table.now c.args.child)) (sym c.in-Some.is))
    (next_row _ (applied (fun_at c.args.table.now c.args.part.now) (tree_at c.args.table.now c.args.child))
    (λ q p. one_row 2 (When c.in-Some.known.modulus c.in-Some.known.test q p)) c.args.child c.requires.row c.in_ok-made-in-Some.ensures
    c.when.result c.when.ensures)

pub apply-returns-in_err-made-in-Chain : goal.apply-returns-in_err-made-in-Chain
apply-returns-in_err-made-in-Chain t c = exit_refused _ _ c.from_residual.result c.from_residual.ensures.1
    (Refused-same _ _ _ _ _
    (ap (λ (g : Fun). chain_of (applied (fun_at c.args.table.now g)) (applied (fun_at c.args.table.now c.in-Chain.next.value)) (tree_at c.args.table.now
    c.args.child)) c.deref-in-Chain.ensures
    ∙ fun_is c.args.table.now c.args.fun.now _ (tree_at c.args.table.now c.args.child) c.in-Chain.is)
    (Refused-first _ c.in_err-made-in-Chain.ensures))

pub apply-returns : goal.apply-returns
apply-returns t c =
    let mid = c.apply.new.table in
    let next = c.in-Chain.next.value in
    let made = c.in_ok-made-in-Chain.made in
    let is = IsFun-of c.args.table.now c.args.fun.now _ c.in-Chain.is c.requires.fun in
    LowersTo-same _ _ _ _ c.apply-in-Chain.result
    (ap (λ (g : Fun). chain_of (applied (fun_at c.args.table.now g)) (applied (fun_at c.args.table.now next)) (tree_at c.args.table.now c.args.child))
    c.deref-in-Chain.ensures
    ∙ fun_is c.args.table.now c.args.fun.now _ (tree_at c.args.table.now c.args.child) c.in-Chain.is)
    (LowersTo-after _ (applied (fun_at c.args.table.now c.deref-in-Chain.result.now) (tree_at c.args.table.now c.args.child)) (applied (fun_at
    c.args.table.now next))
    c.in_ok-made-in-Chain.ensures c.apply-in-Chain.result
    (LowersTo-same _ _ _ _ c.apply-in-Chain.result
    (ap (λ (g : Fun). applied (fun_at mid g) (tree_at mid made)) c.deref-in-Chain-2.ensures
    ∙ ap (λ (f : TreeFun). applied f (tree_at mid made)) (fun_after c.in_ok-made-in-Chain.ensures.gains next is.1)) c.apply-in-Chain.ensures))

pub apply-apply-requires-in-Chain : goal.apply-apply-requires-in-Chain
apply-apply-requires-in-Chain t c =
    let is = IsFun-of c.args.table.now c.args.fun.now _ c.in-Chain.is c.requires.fun in
    let next = c.in-Chain.next.value in (
      omega (arith, c.decreases, chain_deeper _ _ _ _ _ _ c.in-Chain.is c.deref-in-Chain-2.ensures),
      (
        part_of _ _ next c.deref-in-Chain-2.ensures (fun_row
            c.in_ok-made-in-Chain.ensures.gains next is.1),
        c.in_ok-made-in-Chain.ensures.row,
      ),
    )

pub apply-at_first-requires : goal.apply-at_first-requires
apply-at_first-requires t c =
    let is = IsFun-of c.args.table.now c.args.fun.now _ c.in-Every.is c.requires.fun in (
      omega (arith, c.decreases, every_deeper _ _ _ _ _ c.in-Every.is c.deref.ensures),
      (
        is.0,
        (
          unused_number c.args.table.now c.whole.result c.whole.ensures,
          (part_of _ _ c.in-Every.then.value c.deref.ensures is.1, c.requires.row),
        ),
      ),
    )

pub apply-at_first-requires-in-Off : goal.apply-at_first-requires-in-Off
apply-at_first-requires-in-Off t c =
    let is = IsFun-of c.args.table.now c.args.fun.now _ c.in-Off.is c.requires.fun in (
      omega (arith, c.decreases, off_deeper _ _ _ _ _ c.in-Off.is c.deref-in-Off.ensures),
      (
        is.0,
        (
          unused_number c.args.table.now c.whole.result
              c.whole.ensures,
          (part_of _ _ c.in-Off.then.value c.deref-in-Off.ensures is.1, c.requires.row),
        ),
      ),
    )

pub apply-choose_among-requires-clause-takes : goal.apply-choose_among-requires-clause-takes
apply-choose_among-requires-clause-takes t c = (IsFun-of c.args.table.now c.args.fun.now _ c.in-Euclid.is c.requires.fun).each
