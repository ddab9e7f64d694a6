-- A chunk of the bytes of a source, as contracts see it.
use Rattle.std.specs.Prelude.{ℕ, List}

pub record ChunkState : Type 0 where
  -- the bytes that were read last
  pub front : List ℕ
  -- the bytes that are not read yet
  pub unread : List ℕ
