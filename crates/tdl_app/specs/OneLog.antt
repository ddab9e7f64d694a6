-- Runs with one log.
--     GainedTheSame    two devices gained the same
--     SentTheSame      so did both wires of two runs
use Rattle.std.specs.Prelude.{List}
use Rattle.tdl_io.specs.Told.{GainedExactly}
use Rattle.tdl_answer.specs.Account.{Account, WireAccounts}

pub record GainedTheSame {A : Type 0} (one other : Account A) : Type 0 where
  pub gained : List A
  pub first : GainedExactly one.told_before one.told_after gained
  pub second : GainedExactly other.told_before other.told_after gained

pub record SentTheSame (one other : WireAccounts) : Type 0 where
  pub packets : GainedTheSame one.osc other.osc
  pub messages : GainedTheSame one.midi other.midi
