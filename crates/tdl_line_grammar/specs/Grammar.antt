-- Which trees the grammar has, the rules on numbers, texts, orbits and nesting apart.
--     Formed           its conditions on an expression
--     Reads            the tokens of a text, its end too, are spelled by a tree of the grammar
use Rattle.std.specs.Prelude.{Bool, true, false, not, ◌&&◌, List, IsTrue}
use Rattle.std.specs.List.{AllZip}
use Rattle.tdl_control.specs.declared.keys.Key.{Key}
use Rattle.tdl_control.specs.Key.{takes_word}
use Rattle.tdl_mini_tree.specs.Numbers.{is_whole}
use Rattle.tdl_line_machine.specs.declared.goals.Goal.{Goal}
use Rattle.tdl_line_machine.specs.declared.goals.Goal.TheVariants.{Line as a_line, Pattern as a_pattern}
use Rattle.tdl_line_machine.specs.Tokens.{Tok}
use Rattle.tdl_line_grammar.specs.Spelling.{IsTokenOf, terminals, spell}
use Rattle.tdl_command.specs.Tree as tree

-- operands, and operands with operators between them
abbrev pub is_operand : tree.Expr → Bool
is_operand (tree.joined a operator b) = false
is_operand (tree.applied f e) = false
is_operand _ = true

abbrev pub is_joined : tree.Expr → Bool
is_joined (tree.applied f e) = false
is_joined _ = true

-- functions in round brackets, functions with a name, and what is between two dots
abbrev pub is_paren : tree.Fun → Bool
is_paren (tree.paren f) = true
is_paren (tree.section operator e) = true
is_paren (tree.shift r way) = true
is_paren _ = false

abbrev pub is_single : tree.Fun → Bool
is_single (tree.chain next f) = false
is_single _ = true

abbrev pub is_named : tree.Fun → Bool
is_named f = is_single f && not (is_paren f)

-- a function that is an argument
abbrev pub is_argument : tree.Fun → Bool
is_argument (tree.bare f) = true
is_argument (tree.paren f) = true
is_argument (tree.section operator e) = true
is_argument (tree.shift r way) = true
is_argument _ = false

-- a word is no number, unless that has `.` or `%`
abbrev pub FormedSetting : Key → tree.Setting → Type 0
FormedSetting key (tree.quoted reading) = Unit {0}
FormedSetting key (tree.numeral n) = IsTrue (not (takes_word key && is_whole n))
FormedSetting key (tree.negative n) = IsTrue (not (takes_word key))

abbrev mutual
  pub Formed : tree.Expr → Type 0
  Formed tree.silence = Unit {0}
  Formed (tree.control key setting) = FormedSetting key setting
  Formed (tree.inside e) = Formed e
  Formed (tree.shifted r way e) = IsTrue (is_operand e) × Formed e
  Formed (tree.list shape es) = FormedExprs es
  Formed (tree.timecat ps) = FormedParts ps
  Formed (tree.called f e) = IsTrue (is_named f) × FormedFun f × IsTrue (is_operand e) × Formed e
  Formed (tree.joined a operator b) = IsTrue (is_joined a) × Formed a × IsTrue (is_operand b) × Formed b
  Formed (tree.applied f e) = FormedFun f × Formed e

  pub FormedExprs : tree.Exprs → Type 0
  FormedExprs tree.no_expr = Unit {0}
  FormedExprs (tree.further es e) = FormedExprs es × Formed e

  pub FormedParts : tree.Parts → Type 0
  FormedParts tree.no_part = Unit {0}
  FormedParts (tree.part ps n e) = FormedParts ps × Formed e

  pub FormedFun : tree.Fun → Type 0
  FormedFun (tree.bare f) = Unit {0}
  FormedFun (tree.of_ratio f r) = Unit {0}
  FormedFun (tree.every n f) = IsTrue (is_argument f) × FormedFun f
  FormedFun (tree.cycle g n o f) = IsTrue (is_argument f) × FormedFun f
  FormedFun (tree.off r f) = IsTrue (is_argument f) × FormedFun f
  FormedFun (tree.layer g f) = IsTrue (is_argument f) × FormedFun f
  FormedFun (tree.of_count f n) = Unit {0}
  FormedFun (tree.of_bools f reading) = Unit {0}
  FormedFun (tree.within from to f) = IsTrue (is_argument f) × FormedFun f
  FormedFun (tree.euclid k n) = Unit {0}
  FormedFun (tree.euclid_off k n r) = Unit {0}
  FormedFun (tree.const e) = IsTrue (is_operand e) × Formed e
  FormedFun (tree.paren f) = FormedFun f
  FormedFun (tree.section operator e) = IsTrue (is_joined e) × Formed e
  FormedFun (tree.shift r way) = Unit {0}
  FormedFun (tree.chain next f) = FormedFun next × IsTrue (is_single f) × FormedFun f

abbrev pub FormedLine : tree.Line → Type 0
FormedLine (tree.play o e) = Formed e
FormedLine (tree.jump n every e) = Formed e
FormedLine _ = Unit {0}

abbrev pub FormedWhole : Goal → tree.Whole → Type 0
FormedWhole a_line (tree.line l) = FormedLine l
FormedWhole a_line (tree.pattern e) = ⊥
FormedWhole a_pattern (tree.line l) = ⊥
FormedWhole a_pattern (tree.pattern e) = Formed e

pub record Reads (goal : Goal) (tokens : List Tok) (w : tree.Whole) : Type 0 where
  pub spelled : AllZip IsTokenOf (terminals (spell w)) tokens
  pub formed : FormedWhole goal w
