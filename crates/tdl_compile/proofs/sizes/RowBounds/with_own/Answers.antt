use Rattle.std.proofs.Common.{◌≡◌, ◌+◌, max, arith}
use Rattle.tdl_compile.specs.Compiled.{capped}
use Rattle.tdl_compile.proofs.Growing.{whole_grows}
use Rattle.tdl_compile.proofs.sizes.RowBounds.with_own.Goals as goal

pub returns : goal.returns
returns c = λ e s below.
    let further : c.with.result.further ≡ max c.args.self.growth.further (capped (capped c.args.self.hang + 1)) = omega arith in
    let grows = whole_grows e c.args.self c.with.result s below c.with.ensures.finer further in
    record { bounds = record { count = s.count; load = s.load; wide = s.wide; hang = s.hang; grid = s.grid }; grows = grows }
