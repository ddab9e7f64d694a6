use Rattle.std.proofs.Common.{◌+◌, ◌≤◌, pos, arith}
use Rattle.std.proofs.lemmas.Int.{ints}
use Rattle.tdl_fraction.specs.Units.{last_cycle}
use Rattle.tdl_fraction.proofs.Order.{≤ℚ_trans, <ℚ-≤ℚ_trans, whole-le}
use Rattle.tdl_score.proofs.due.push_row.Goals as goal

pub packet-requires-clause-from_zero : goal.packet-requires-clause-from_zero
packet-requires-clause-from_zero c =
    ≤ℚ_trans ((whole-le (pos 0) (pos c.args.cycle)).0 (omega (arith, ints))) c.requires.known.from

pub packet-requires-clause-below_end : goal.packet-requires-clause-below_end
packet-requires-clause-below_end c =
    let next : c.args.cycle + 1 ≤ last_cycle = omega arith in
    <ℚ-≤ℚ_trans c.requires.known.until ((whole-le (pos (c.args.cycle + 1)) (pos last_cycle)).0 (omega (arith, ints)))
