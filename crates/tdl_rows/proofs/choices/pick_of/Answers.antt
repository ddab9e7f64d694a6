use Rattle.std.proofs.Common.{◌≤◌, length, arith}
use Rattle.std.proofs.lemmas.Grind.{common_steps}
use Rattle.tdl_rows.proofs.Pushes.{picked_row}
use Rattle.tdl_rows.proofs.choices.pick_of.Goals as goal

pub returns : goal.returns
returns c =
    let some : 1 ≤ length c.args.children = grind (arith, common_steps) in
    picked_row _ _ _ _ c.push-2.result some c.push-2.ensures.ok c.push-2.ensures.refused c.push-2.ensures.only c.push-2.ensures.err
