-- Syntax trees of the mini-notation. Lists grow at their end, as a text is read from left to right.
use Rattle.std.specs.Prelude.{ℕ, Bool, true, false, ℤ, Option, List}
use Rattle.tdl_mini_tree.specs.declared.leaves.Kind.{Kind}
use Rattle.tdl_mini_tree.specs.declared.leaves.Kind.TheVariants.{Ratio}
use Rattle.tdl_mini_tree.specs.declared.leaves.Number.{Number}
use Rattle.tdl_mini_tree.specs.declared.leaves.Bracket.{Bracket}

-- what a step may play
pub data Value : Type 0 where
  -- a word or plain digits, and the number after `:` if one is written
  sound : List ℕ → Option Number → Value
  name : List ℕ → Value
  note : ℤ → Value
  truth : Bool → Value
  number : Number → Value

mutual
  -- sequences with commas between them
  pub data Layers : Type 0 where
    no_layer : Layers
    layer : Layers → Sequence → Layers

  -- groups with dots between them
  pub data Sequence : Type 0 where
    no_group : Sequence
    group : Sequence → Group → Sequence

  pub data Group : Type 0 where
    no_element : Group
    element : Group → Element → Group

  pub data Element : Type 0 where
    -- a step, with the weight after `@` and the count after `!` where they are written
    played : MiniStep → Option Number → Option Number → Element
    -- the whole numbers from one to another
    range : Number → Number → Element
    -- `_`
    hold : Element
    -- `!` without a count
    repeat : Element

  -- a term and the changes after it; each argument of a Euclid is one sequence
  pub data MiniStep : Type 0 where
    begins : Term → MiniStep
    fast : MiniStep → Operand → MiniStep
    slow : MiniStep → Operand → MiniStep
    euclid : MiniStep → Layers → Layers → MiniStep
    euclid_from : MiniStep → Layers → Layers → Layers → MiniStep

  pub data Term : Type 0 where
    value : Value → Term
    rest : Term
    bracketed : Operand → Term

  -- Braces with a `%` after each, and then a number or a bracket. What follows the `%` of a brace is its
  -- factor. So a number alone, or brackets alone, are here too.
  pub data Operand : Type 0 where
    scaled : Braces → Number → Operand
    nested : Braces → Bracket → Layers → Operand

  pub data Braces : Type 0 where
    no_brace : Braces
    brace : Braces → Layers → Braces

abbrev pub is_empty_group : Group → Bool
is_empty_group no_element = true
is_empty_group (element g e) = false

-- the kind of the text in a bracket after such braces: a factor is read in kind Ratio
abbrev pub kind_after : Kind → Braces → Kind
kind_after kind no_brace = kind
kind_after kind (brace bs ls) = Ratio
