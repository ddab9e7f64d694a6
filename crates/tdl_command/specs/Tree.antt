-- Syntax trees of performers' lines. Lists grow at their end, as a line is read from left to right.
--     Expr, Fun       an expression and a function
--     Line, Whole     a line; a line, or an expression alone
--     PatternTree     a pattern alone: mini-notation of sounds, or an expression
use Rattle.std.specs.Prelude.{ℕ, Option}
use Rattle.tdl_control.specs.declared.keys.Key.{Key}
use Rattle.tdl_mini_tree.specs.declared.leaves.Number.{Number}
use Rattle.tdl_mini_tree.specs.Reading.{Reading}
use Rattle.tdl_mini_tree.specs.Tree.{Layers}
use Rattle.tdl_command.specs.declared.marks.Operator.{Operator}
use Rattle.tdl_command.specs.declared.marks.Way.{Way}
use Rattle.tdl_command.specs.declared.names.Order.{Order}
use Rattle.tdl_command.specs.declared.names.Flag.{Flag}
use Rattle.tdl_command.specs.declared.names.Shape.{Shape}
use Rattle.tdl_command.specs.declared.names.BareFun.{BareFun}
use Rattle.tdl_command.specs.declared.names.RatioFun.{RatioFun}
use Rattle.tdl_command.specs.declared.names.CountFun.{CountFun}
use Rattle.tdl_command.specs.declared.names.BoolsFun.{BoolsFun}
use Rattle.tdl_command.specs.declared.names.LayerFun.{LayerFun}
use Rattle.tdl_command.specs.declared.names.CycleFun.{CycleFun}
use Rattle.tdl_command.specs.declared.tree.Plain.{Plain}

pub data Ratio : Type 0 where
  plain : Plain → Ratio
  measured : Reading → Ratio

pub data Count : Type 0 where
  whole : ℕ → Count
  counted : Reading → Count

-- what a key is set to
pub data Setting : Type 0 where
  quoted : Reading → Setting
  numeral : Number → Setting
  negative : Number → Setting

mutual
  pub data Expr : Type 0 where
    -- operands
    silence : Expr
    control : Key → Setting → Expr
    inside : Expr → Expr
    shifted : Ratio → Way → Expr → Expr
    list : Shape → Exprs → Expr
    timecat : Parts → Expr
    called : Fun → Expr → Expr
    -- operands with operators between them
    joined : Expr → Operator → Expr → Expr
    -- a function, `$`, and an expression
    applied : Fun → Expr → Expr

  pub data Exprs : Type 0 where
    no_expr : Exprs
    further : Exprs → Expr → Exprs

  -- expressions with their weights
  pub data Parts : Type 0 where
    no_part : Parts
    part : Parts → Number → Expr → Parts

  pub data Fun : Type 0 where
    -- functions with a name
    bare : BareFun → Fun
    of_ratio : RatioFun → Ratio → Fun
    every : Count → Fun → Fun
    cycle : CycleFun → Count → Count → Fun → Fun
    off : Ratio → Fun → Fun
    layer : LayerFun → Fun → Fun
    of_count : CountFun → Count → Fun
    of_bools : BoolsFun → Reading → Fun
    within : Plain → Plain → Fun → Fun
    euclid : Count → Count → Fun
    euclid_off : Count → Count → Count → Fun
    const : Expr → Fun
    -- functions in round brackets
    paren : Fun → Fun
    section : Operator → Expr → Fun
    shift : Ratio → Way → Fun
    -- a function after another, with `.` between them
    chain : Fun → Fun → Fun

-- an orbit of a name is none where its number is no orbit
pub data Line : Type 0 where
  nothing : Line
  order : Order → Line
  flag : Flag → (orbit : ℕ) → Line
  play : (orbit : Option ℕ) → Expr → Line
  still : (orbit : Option ℕ) → Line
  jump : (orbit : ℕ) → (every : ℕ) → Expr → Line

pub data Whole : Type 0 where
  line : Line → Whole
  pattern : Expr → Whole

pub data PatternTree : Type 0 where
  sounds : Layers → PatternTree
  expression : Expr → PatternTree
