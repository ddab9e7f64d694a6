use Rattle.std.proofs.Common.{◌≡◌, ◌<◌, ◌≤◌, length, min, rules, arith}
use Rattle.std.proofs.lemmas.List.{length-take}
use Rattle.tdl_lines.proofs.ChunkLemmas.{fills}
use Rattle.tdl_lines.proofs.chunk.Chunk.fill.Goals as goal

pub returns-clause-ok : goal.returns-clause-ok
returns-clause-ok g c =
    let size : length c.self.inside.bytes ≡ 16384 = search rules in
    let short = length-take c.min-room.result c.self.inside.bytes in
    let room : length c.pull.new.into ≡ min c.args.left 16384 = omega (arith, c.pull.auto.into, c.min-room.ensures, short) in
    let told = c.in_ok-count.ensures in
    let most : c.in_ok-count.count ≤ c.args.left = omega (arith, told.fits) in
    let some : 0 < length c.pull.new.into = omega arith in
    fills c.args.left c.in_ok-count.count c.min-self-inside.result c.pull.new.into _ _ told.ok told.gave told.fits most some c.min-self-inside.ensures told.end
