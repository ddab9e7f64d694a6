use Rattle.std.proofs.Common.{◌<◌, List, length, sym, subst, arith, take, take_all}
use Rattle.tdl_fraction.specs.Rational.{Rational}
use Rattle.tdl_rows.specs.Built.{each}
use Rattle.tdl_rows.specs.Arguments.{argument_at}
use Rattle.tdl_rows.specs.Joined.{choose}
use Rattle.tdl_rows.specs.Lowers.{Lowers}
use Rattle.tdl_rows.specs.inside.Views.{LowersIds}
use Rattle.tdl_rows.specs.Stays.{row_after}
use Rattle.tdl_rows.proofs.Gained.{exit_refused, LowersTo-same, Refused-same}
use Rattle.tdl_rows.proofs.ChosenRows.{chosen_more, chosen_refused, chosen_all, chosen_is, selector_row, selector_few, few_ids}
use Rattle.tdl_rows.proofs.choices.choose.Goals as goal

pub loop-i-preserved : goal.loop-i-preserved
loop-i-preserved g c =
    let made = g.M.ByNumber.made c.args.table.now c.args.made.now in
    let lt : c.loop-i.i < length c.in-Chosen.values = omega arith in
    let rows = (each made (take c.loop-i.i c.in-Chosen.values)).rows in
    let stays = g.met.M.ByNumber.stays c.args.table.now c.loop-i.table rows c.args.made.now c.loop-i.invariant.gains c.requires.stands in
    chosen_more c.args.table.now made c.in-Chosen.values c.loop-i.table c.loop-i.i c.get.result.now lt
    (sym (c.get.ensures c.get.result.now)) _ c.loop-i.invariant _ c.in_ok-id-in-Chosen.id _ c.in_ok-push-in-Chosen.ensures.ok _
    (stays.same c.get.result.now) c.in_ok-id-in-Chosen.ensures

pub row-requires-in-loop-i-clause-stands : goal.row-requires-in-loop-i-clause-stands
row-requires-in-loop-i-clause-stands g c =
    let made = g.M.ByNumber.made c.args.table.now c.args.made.now in
    let rows = (each made (take c.loop-i.i c.in-Chosen.values)).rows in
    (g.met.M.ByNumber.stays c.args.table.now c.loop-i.table rows c.args.made.now c.loop-i.invariant.gains c.requires.stands).stands

pub returns-in_err-id-in-Chosen : goal.returns-in_err-id-in-Chosen
returns-in_err-id-in-Chosen g c =
    let made = g.M.ByNumber.made c.args.table.now c.args.made.now in
    let lt : c.loop-i.i < length c.in-Chosen.values = omega arith in
    let rows = (each made (take c.loop-i.i c.in-Chosen.values)).rows in
    let stays = g.met.M.ByNumber.stays c.args.table.now c.loop-i.table rows c.args.made.now c.loop-i.invariant.gains c.requires.stands in
    exit_refused (Lowers c.args.table.now c.row-in-loop-i.new.table (choose (argument_at c.args.table.now c.args.argument.now)
    made)) _ c.from_residual.result c.from_residual.ensures.1
    (Refused-same c.args.table.now _ _ _ _ (chosen_is c.args.table.now c.args.argument.now _ _ made c.in-Chosen.is)
    (chosen_refused c.args.table.now made c.in-Chosen.values c.loop-i.table c.loop-i.i c.get.result.now lt
    (sym (c.get.ensures c.get.result.now)) _ c.loop-i.invariant _ _ _ _ (stays.same c.get.result.now) c.in_err-id-in-Chosen.ensures))

pub pick_of-requires-clause-selector : goal.pick_of-requires-clause-selector
pick_of-requires-clause-selector g c =
    row_after c.loop-i.invariant.gains c.in-Chosen.selector
    (selector_row c.args.table.now c.args.argument.now _ _ c.in-Chosen.is c.requires.argument)

pub pick_of-requires-clause-few : goal.pick_of-requires-clause-few
pick_of-requires-clause-few g c =
    let made = g.M.ByNumber.made c.args.table.now c.args.made.now in
    few_ids made c.in-Chosen.values c.loop-i.i c.loop-i.children c.loop-i.invariant
    (selector_few c.args.table.now c.args.argument.now _ _ c.in-Chosen.is c.requires.argument)

pub returns-after-loop-i : goal.returns-after-loop-i
returns-after-loop-i g c =
    let made = g.M.ByNumber.made c.args.table.now c.args.made.now in
    let whole = take_all c.loop-i.i c.in-Chosen.values (omega arith) in
    let P : List Rational → Type 0 = λ values. LowersIds c.args.table.now c.loop-i.table
    (each made values) c.loop-i.children in
    LowersTo-same _ _ _ _ c.pick_of.result
    (chosen_is c.args.table.now c.args.argument.now _ _ made c.in-Chosen.is)
    (chosen_all c.args.table.now made c.in-Chosen.values c.loop-i.table _ _ c.in-Chosen.selector
    c.pick_of.result (selector_row c.args.table.now c.args.argument.now _ _ c.in-Chosen.is c.requires.argument) (subst P whole c.loop-i.invariant)
    c.pick_of.ensures)
