use Rattle.std.proofs.Common.{arith}
use Rattle.tdl_script.proofs.TokenLoop.{byte_small}
use Rattle.tdl_script.proofs.lines.at_byte.Goals as goal

pub overflow_add-result : goal.overflow_add-result
overflow_add-result c =
    let small = byte_small c.args.tokens.now c.in-At.kind c.in-At.place c.args.fault c.get.result.now c.in-At.is c.requires c.get.ensures in
    omega (arith, small)
