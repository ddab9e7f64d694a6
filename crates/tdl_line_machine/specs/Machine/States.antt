-- What a machine of the tokens of lines keeps: what is open, what is pending in it, and between which tokens it stands.
--     Spot             where an expression, an operand or a function begins
--     CountCall, FunCall    functions that want a further argument
--     Pending          what waits for what follows it in an expression
--     Hole, Frame      what is open, and what is pending round it
--     Stage            between which tokens the machine stands
--     Core, State      what is kept, and the stage
--     going, refused, obeying    it goes on, stops, or goes on where a rule holds
use Rattle.std.specs.Prelude.{ℕ, suc, Bool, Option, Ok, Err, List}
use Rattle.std.specs.Prelude.{[]}
use Rattle.tdl_grammar.specs.Machine.{Taken, wrong, checked, all_checked}
use Rattle.tdl_control.specs.declared.keys.Key.{Key}
use Rattle.tdl_mini_tree.specs.declared.leaves.Number.{Number}
use Rattle.tdl_mini_tree.specs.declared.faults.MiniKind.TheVariants.{BadFactor}
use Rattle.tdl_mini_tree.specs.Numbers.{is_ratio}
use Rattle.tdl_line_machine.specs.declared.faults.LineKind.{LineKind}
use Rattle.tdl_line_machine.specs.declared.faults.LineKind.TheVariants.{Mini}
use Rattle.tdl_command.specs.declared.names.Flag.{Flag}
use Rattle.tdl_command.specs.declared.names.Shape.{Shape}
use Rattle.tdl_line_machine.specs.declared.calls.RatioCall.{RatioCall}
use Rattle.tdl_command.specs.declared.names.CountFun.{CountFun}
use Rattle.tdl_command.specs.declared.names.BoolsFun.{BoolsFun}
use Rattle.tdl_command.specs.declared.names.LayerFun.{LayerFun}
use Rattle.tdl_command.specs.declared.names.CycleFun.{CycleFun}
use Rattle.tdl_command.specs.declared.marks.Operator.{Operator}
use Rattle.tdl_command.specs.declared.marks.Way.{Way}
use Rattle.tdl_command.specs.declared.tree.Plain.{Plain}
use Rattle.tdl_line_machine.specs.Tokens.{Tok}
use Rattle.tdl_command.specs.Tree.{Ratio, Count, Expr, Exprs, Parts, Fun, Line, Whole}
use Rattle.tdl_mini_tree.specs.Reading.{Reading}
use Rattle.tdl_line_machine.specs.Pieces.{reading_rules}
use Rattle.tdl_line_machine.specs.declared.goals.Goal.{Goal}
use Rattle.tdl_line_machine.specs.declared.goals.Goal.TheVariants.{Line as a_line, Pattern as a_pattern}
use Rattle.tdl_line_machine.specs.Pieces.{Place, test_at, tests_from}
use Rattle.tdl_line_machine.specs.WrongTokens.{wrong_token}

pub data Spot : Type 0 where
  -- an expression begins, or a function alone where no expression may stand
  first : Spot
  at_operand : Spot
  -- after this function and a `.`
  after_dot : Fun → Spot

pub data CountCall : Type 0 where
  count_of : CountFun → CountCall
  every_in : CountCall
  cycles_of : CycleFun → CountCall
  cycles_from : CycleFun → Count → CountCall
  hits_of : CountCall
  steps_of : Count → CountCall
  off_hits : CountCall
  off_steps : Count → CountCall
  off_from : Count → Count → CountCall

pub data FunCall : Type 0 where
  layer_of : LayerFun → FunCall
  every_of : Count → FunCall
  cycle_of : CycleFun → Count → Count → FunCall
  off_of : Ratio → FunCall
  within_of : Plain → Plain → FunCall

-- a function with a further argument: it wants another, or is whole
pub data Called : Type 0 where
  wants_count : CountCall → Called
  wants_fun : FunCall → Called
  made_of : Fun → Called

pub data Pending : Type 0 where
  applies : Fun → Pending
  joins : Expr → Operator → Pending
  calls : Fun → Pending
  shifts : Ratio → Way → Pending

-- what may stand in a round bracket
pub data Bracketed : Type 0 where
  anything : Bracketed
  expr_or_number : Bracketed
  fun_or_number : Bracketed
  fun_after : Fun → Bracketed
  argument : Spot → FunCall → Bracketed

pub data Hole : Type 0 where
  round : Bracketed → Hole
  section : Bracketed → Operator → Hole
  measure : Spot → RatioCall → Hole
  -- the bracket of `within`, and one with its first or second number
  bounds : Spot → Hole
  bound : Option Plain → Hole
  setting : Key → Hole
  -- no bracket
  constant : Spot → Hole
  list : Shape → Exprs → Hole
  timecat : Parts → Hole
  -- a part of `timecat`, before its `,` and after
  unweighed : Hole
  weighed : Number → Hole

-- what is pending and how many brackets are open round what is open; the last pending comes first
pub record Frame : Type 0 where
  pub level : List Pending
  pub depth : ℕ
  pub hole : Hole

-- what an expression at the top is for
pub data Front : Type 0 where
  alone : Front
  plays : Option ℕ → Front
  jumps : ℕ → ℕ → Front

pub data Stage : Type 0 where
  -- before a line; after the name of a flag; after `dK`; after `jumpMod`, its orbit and its cycles
  beginning : Stage
  flagging : Flag → Stage
  addressed : Option ℕ → Stage
  jumping : Stage
  jumping_at : ℕ → Stage
  jumped : ℕ → ℕ → Stage
  -- only the end may follow; after the end
  done : Line → Stage
  ended : Whole → Stage
  -- something begins; directly after a `(`; after a number there, with the number of its token
  wanting : Spot → Stage
  opening : Stage
  opened : Number → ℕ → Stage
  -- after a ratio; after `<~` or `~>`
  measured : Ratio → Stage
  shifted : Ratio → Way → Stage
  -- after an operand, with those before it
  expressed : Expr → Stage
  -- after a function with a name, which an operand may follow; after another
  named : Fun → Stage
  chained : Fun → Stage
  -- after a key; after the `(` there; after its `-`; after the number
  keyed : Key → Stage
  set : Stage
  negating : Stage
  negated : Number → Stage
  -- after the name of a list; after its `[`
  listing : Shape → Stage
  list_open : Stage
  -- after `timecat`; its `[`; a `,`; a part; the `(` of a part; its weight
  timing : Stage
  parts_open : Stage
  part_wanted : Stage
  part_read : Stage
  weighing : Stage
  weighted : Number → Stage
  -- an argument is wanted
  asking_ratio : Spot → RatioCall → Stage
  asking_count : Spot → CountCall → Stage
  asking_bools : Spot → BoolsFun → Stage
  asking_fun : Spot → FunCall → Stage
  asking_bounds : Spot → Stage
  bounding : Option Plain → Stage
  bounded : Option Plain → Plain → Stage
  -- in a bracket with a number: after the `(`; a `-`; the number, with the number of its token; a `/`; the end
  fraction : Stage
  minus : Stage
  above : Bool → Number → ℕ → Stage
  slash : Bool → Number → Stage
  closing : Plain → Stage

pub record Core : Type 0 where
  pub frames : List Frame
  pub level : List Pending
  pub depth : ℕ
  pub front : Front
  pub read : ℕ

pub record State : Type 0 where
  pub core : Core
  pub stage : Stage

abbrev pub Step : Type 0
Step = Taken State LineKind Place

abbrev pub first_core : Core
first_core = record { frames = []; level = []; depth = 0; front = alone; read = 0 }

abbrev pub first_stage : Goal → Stage
first_stage a_line = beginning
first_stage a_pattern = wanting first

abbrev pub first_state : Goal → State
first_state goal = record { core = first_core; stage = first_stage goal }

abbrev pub read_on : Core → Core
read_on c = record { frames = c.frames; level = c.level; depth = c.depth; front = c.front; read = suc c.read }

abbrev pub with_level : Core → List Pending → Core
with_level c level = record { frames = c.frames; level = level; depth = c.depth; front = c.front; read = c.read }

abbrev pub with_front : Core → Front → Core
with_front c front = record { frames = c.frames; level = c.level; depth = c.depth; front = front; read = c.read }

-- the token is read, and the stage after it
abbrev pub going : Core → Stage → Step
going c p = Ok (record { core = read_on c; stage = p })

abbrev pub refused : Core → Tok → Step
refused c t = Err (wrong (wrong_token c.depth t) (record { token = c.read; offset = 0 }))

-- a rule on the token
abbrev pub obeying : Bool → Core → LineKind → Bool → Step → Step
obeying tested c kind holds next = checked tested (test_at c.read (record { kind = kind; offset = 0; more = 0; holds = holds })) next

abbrev pub fitting : Bool → Core → Number → Step → Step
fitting tested c n next = obeying tested c (Mini BadFactor) (is_ratio n) next

-- the token is a text that is read
abbrev pub reading : Bool → Core → Reading → Step → Step
reading tested c r next = all_checked tested (tests_from c.read (reading_rules r)) next
