-- The names of the kinds of faults, as replies print them.
use Rattle.std.specs.Prelude.{ℕ, List, codes}
use Rattle.tdl_mini_tree.specs.declared.faults.MiniKind.{MiniKind}
use Rattle.tdl_mini_tree.specs.declared.faults.MiniKind.TheVariants.{
  NotAscii,
  UnknownSign,
  NumberTooLarge,
  WordTooLong,
  Unexpected,
  Random,
  Variable,
  FloatValue,
  BadEuclid,
  BadFactor,
  TooDeep,
  TooManySteps,
}

abbrev pub kind_name : MiniKind → List ℕ
kind_name NotAscii = codes "NotAscii"
kind_name UnknownSign = codes "UnknownSign"
kind_name NumberTooLarge = codes "NumberTooLarge"
kind_name WordTooLong = codes "WordTooLong"
kind_name Unexpected = codes "Unexpected"
kind_name Random = codes "Random"
kind_name Variable = codes "Variable"
kind_name FloatValue = codes "FloatValue"
kind_name BadEuclid = codes "BadEuclid"
kind_name BadFactor = codes "BadFactor"
kind_name TooDeep = codes "TooDeep"
kind_name TooManySteps = codes "TooManySteps"
