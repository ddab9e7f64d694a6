-- What a machine of the tokens of a text keeps: the open brackets, and what is finished in each.
--     Role             what an operand is in a step
--     Stage            what may follow in a step
--     Level            what is read of the innermost bracket
--     Hole, Frame      an open bracket: the level round it, and what the bracket is in it
--     State            the whole; first_state, before the first token, and final_state, after a whole text
--     refused          it stops at a token with which nothing goes on
--     pending          the step as it is so far, where a change may follow
pub use Rattle.tdl_grammar.specs.Machine.{failed, wrong, stop_kind as fault_kind, stop_at as fault_at, and_then, checked, all_checked}
use Rattle.std.specs.Prelude.{ℕ, suc, Bool, true, false, Option, Some, None, Err, List, [], length}
use Rattle.tdl_grammar.specs.Machine as generic
use Rattle.tdl_mini_tree.specs.declared.faults.MiniKind.{MiniKind}
use Rattle.tdl_mini_tree.specs.declared.leaves.Number.{Number}
use Rattle.tdl_mini_tree.specs.declared.leaves.Bracket.{Bracket}
use Rattle.tdl_mini_tree.specs.declared.leaves.Bracket.TheVariants.{Square, Angle, Brace}
use Rattle.tdl_mini_tree.specs.declared.leaves.Kind.{Kind}
use Rattle.tdl_mini_machine.specs.Tokens.{Tok}
use Rattle.tdl_mini_machine.specs.WrongTokens.{wrong_token}
use Rattle.tdl_mini_tree.specs.Tree.{sound, number, Layers, no_layer, layer, Sequence, no_group, group, Group, no_element, MiniStep, begins, fast, slow}
use Rattle.tdl_mini_tree.specs.Tree.{value, bracketed, Operand, nested, Braces}

-- what an operand is in a step: its term, or the factor of a further change
pub data Role : Type 0 where
  term : Role
  faster : MiniStep → Role
  slower : MiniStep → Role

pub data Stage : Type 0 where
  -- between elements
  ready : Stage
  -- after a word or digits, where `:` may follow; after that `:`
  voiced : List ℕ → Stage
  sampling : List ℕ → Stage
  -- after a number, where `..` may follow; after that `..`
  numbered : Number → Stage
  ranging : Number → Stage
  -- after a `}`, where `%` may follow; where a factor is wanted
  braced : Role → Braces → Layers → Stage
  wanting : Role → Braces → Stage
  -- after a term or a change; after `@`; after the weight
  stepping : MiniStep → Stage
  weighing : MiniStep → Stage
  weighted : MiniStep → Number → Stage
  -- after a `!`; a count may follow where a step without one ends before it
  repeating : (takes_count : Bool) → Stage
  -- after the text's end
  ended : Stage

-- the finished layers, groups of the sequence, and elements of the group, and where the element began whose
-- size is to be tested
pub record Level : Type 0 where
  pub kind : Kind
  pub layers : Layers
  pub groups : Sequence
  pub group : Group
  pub start : ℕ

-- an operand's bracket after some braces, or the arguments of a Euclid after those that are finished
pub data Hole : Type 0 where
  operand : Role → Braces → Bracket → Hole
  hits : MiniStep → Hole
  steps : MiniStep → Layers → Hole
  from : MiniStep → Layers → Layers → Hole

pub record Frame : Type 0 where
  pub level : Level
  pub hole : Hole

-- the innermost frame comes first
pub record State : Type 0 where
  pub frames : List Frame
  pub level : Level
  pub stage : Stage
  pub read : ℕ

abbrev pub Fault : Type 0
Fault = generic.Stop MiniKind ℕ

abbrev pub Taken : Type 0
Taken = generic.Taken State MiniKind ℕ

abbrev pub first_level : Kind → Level
first_level kind = record { kind = kind; layers = no_layer; groups = no_group; group = no_element; start = 0 }

abbrev pub first_state : Kind → State
first_state kind = record { frames = []; level = first_level kind; stage = ready; read = 0 }

abbrev pub is_same_bracket : Bracket → Bracket → Bool
is_same_bracket Square Square = true
is_same_bracket Square Angle = false
is_same_bracket Square Brace = false
is_same_bracket Angle Square = false
is_same_bracket Angle Angle = true
is_same_bracket Angle Brace = false
is_same_bracket Brace Square = false
is_same_bracket Brace Angle = false
is_same_bracket Brace Brace = true

-- the state at another stage, with the token read or not
abbrev pub at_place : State → Stage → State
at_place s p = record { frames = s.frames; level = s.level; stage = p; read = s.read }

abbrev pub past : State → Stage → State
past s p = record { frames = s.frames; level = s.level; stage = p; read = suc s.read }

abbrev pub with_group : Level → Group → Level
with_group l g = record { kind = l.kind; layers = l.layers; groups = l.groups; group = g; start = l.start }

abbrev pub begun_at : Level → ℕ → Level
begun_at l at = record { kind = l.kind; layers = l.layers; groups = l.groups; group = l.group; start = at }

-- the level's layers with the sequence that is being read
abbrev pub closed_layers : Level → Layers
closed_layers l = layer l.layers (group l.groups l.group)

abbrev pub refused : State → Tok → Taken
refused s t = Err (wrong (wrong_token (length s.frames) t) s.read)

-- the step as it is so far, where a change may follow
abbrev pub step_by_role : Role → Operand → MiniStep
step_by_role term o = begins (bracketed o)
step_by_role (faster s) o = fast s o
step_by_role (slower s) o = slow s o

abbrev pub pending : Stage → Option MiniStep
pending ready = None
pending (voiced text) = Some (begins (value (sound text None)))
pending (sampling text) = None
pending (numbered n) = Some (begins (value (number n)))
pending (ranging a) = None
pending (braced role bs ls) = Some (step_by_role role (nested bs Brace ls))
pending (wanting role bs) = None
pending (stepping s) = Some s
pending (weighing s) = None
pending (weighted s n) = None
pending (repeating takes_count) = None
pending ended = None

-- a step begins with this token
abbrev pub begun : State → Stage → State
begun s p = record { frames = s.frames; level = begun_at s.level s.read; stage = p; read = suc s.read }

-- a level where these layers are read, and nothing after them
abbrev pub final_level : Kind → Layers → Level
final_level kind ls = record { kind = kind; layers = ls; groups = no_group; group = no_element; start = 0 }

-- a step without a count ends here
abbrev pub ends_step : Stage → Bool
ends_step ready = false
ends_step (voiced text) = true
ends_step (sampling text) = false
ends_step (numbered n) = true
ends_step (ranging n) = false
ends_step (braced role bs ls) = true
ends_step (wanting role bs) = false
ends_step (stepping step) = true
ends_step (weighing step) = false
ends_step (weighted step n) = true
ends_step (repeating takes_count) = false
ends_step ended = false

-- the state after a whole text of so many tokens
abbrev pub final_state : Kind → Layers → ℕ → State
final_state kind ls n = record { frames = []; level = final_level kind ls; stage = ended; read = n }
