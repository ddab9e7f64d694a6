use Rattle.std.proofs.Common.{ℕ, Option, None, ap, subst, arith}
use Rattle.std.specs.Prelude.{slice_range}
use Rattle.memchr.specs.Find.{IsFirstByte, is_byte}
use Rattle.tdl_lines.specs.inside.ChunkState.{ChunkState}
use Rattle.tdl_lines.proofs.ChunkLemmas.{feed_found, feed_missing, reads_same}
use Rattle.tdl_lines.proofs.chunk.Chunk.read.Goals as goal

pub returns-in-Some : goal.returns-in-Some
returns-in-Some c =
    reads_same (ap (λ (chunk : ChunkState). chunk.unread) c.self.view_is)
    (feed_found c.self.inside.bytes c.self.inside.unread_start c.self.inside.unread_end c.in-Some.count (omega arith) (omega arith) c.in-Some.ensures)

pub returns : goal.returns
returns c =
    let start = c.self.inside.unread_start in
    let end = c.self.inside.unread_end in
    let none : IsFirstByte (is_byte 10) (slice_range c.self.inside.bytes start end) None =
    subst (λ (r : Option ℕ). IsFirstByte (is_byte 10) (slice_range c.self.inside.bytes start end) r) c.in_default.is c.memchr-found.ensures in
    reads_same (ap (λ (chunk : ChunkState). chunk.unread) c.self.view_is) (feed_missing c.self.inside.bytes start end none)
