-- The input and the output of a run in one, from before a call to after it.
--     KeepsOut      a call of the input leaves the output as it is
--     KeepsInput    a call of the output leaves the input as it is
use Rattle.std.specs.Prelude.{◌≡◌}
use Rattle.tdl_app.specs.declared.console.Console.{Console}

pub record KeepsOut {S K : Type 0} (old new : Console S K) : Type 0 where
  pub out : new.out.now ≡ old.out.now
  pub out_name : new.out.ghost_name ≡ old.out.ghost_name
  pub input_name : new.input.ghost_name ≡ old.input.ghost_name

pub record KeepsInput {S K : Type 0} (old new : Console S K) : Type 0 where
  pub input : new.input.now ≡ old.input.now
  pub input_name : new.input.ghost_name ≡ old.input.ghost_name
  pub out_name : new.out.ghost_name ≡ old.out.ghost_name
