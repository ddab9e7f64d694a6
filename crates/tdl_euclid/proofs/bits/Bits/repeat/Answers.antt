use Rattle.std.proofs.Common.{◌+◌, ◌*◌, ◌≤◌, length, ap, arith}
use Rattle.std.proofs.Math.Nat.{mul-le-mul_right}
use Rattle.tdl_euclid.proofs.ListLemmas.{length-flat-replicate}
use Rattle.tdl_euclid.proofs.bits.Bits.repeat.Goals as goal

pub append-all-requires : goal.append-all-requires
append-all-requires c =
    let upper : (c.loop.counter + 1) * length c.args.self ≤ c.args.count * length c.args.self = mul-le-mul_right (length c.args.self) (omega arith) in
    omega (arith, ap (λ xs. length xs) c.loop.invariant, length-flat-replicate c.loop.counter c.args.self)
