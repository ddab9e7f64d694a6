-- The syntax trees that the program's values stand for.
--     expr_of, fun_of     of an expression, of a function; exprs_of, parts_of: of lists
--     line_of, whole_of   of a command; of a command, or of an expression alone
--     pattern_of          of a pattern alone
use Rattle.std.specs.Prelude.{Option, Some, None, List}
use Rattle.std.specs.List.{fold}
use Rattle.tdl_mini_tree.specs.Reading.{Reading, read}
use Rattle.tdl_mini_tree.specs.Syntax.{syntax_of}
use Rattle.tdl_mini_tree.specs.declared.tree.Tree.{Tree}
use Rattle.tdl_command.specs.Tree as tree
use Rattle.tdl_command.specs.declared.tree.Ratio.{Ratio}
use Rattle.tdl_command.specs.declared.tree.Ratio.TheVariants as ratio
use Rattle.tdl_command.specs.declared.tree.Count.{Count}
use Rattle.tdl_command.specs.declared.tree.Count.TheVariants as count
use Rattle.tdl_command.specs.declared.tree.Setting.{Setting}
use Rattle.tdl_command.specs.declared.tree.Setting.TheVariants as setting
use Rattle.tdl_command.specs.declared.tree.Expr.{Expr, Row_of-Expr, end_of-Expr, more_of-Expr, Row_of-Part, end_of-Part, more_of-Part}
use Rattle.tdl_command.specs.declared.tree.Expr as expr
use Rattle.tdl_command.specs.declared.tree.Part.{Part}
use Rattle.tdl_command.specs.declared.tree.Fun.{Fun}
use Rattle.tdl_command.specs.declared.tree.Fun as fun
use Rattle.tdl_command.specs.declared.tree.Command.{Command}
use Rattle.tdl_command.specs.declared.tree.Command.TheVariants as command
use Rattle.tdl_command.specs.declared.tree.Whole.{Whole}
use Rattle.tdl_command.specs.declared.tree.Whole.TheVariants as whole
use Rattle.tdl_command.specs.declared.read.Source.{Source}
use Rattle.tdl_command.specs.declared.read.Source.TheVariants as source

abbrev pub reading_of : Tree → Reading
reading_of t = read t.kind (syntax_of t)

abbrev pub ratio_of : Ratio → tree.Ratio
ratio_of (ratio.Plain p) = tree.plain p.value
ratio_of (ratio.Text t) = tree.measured (reading_of t.value)

abbrev pub count_of : Count → tree.Count
count_of (count.Whole n) = tree.whole n
count_of (count.Text t) = tree.counted (reading_of t.value)

abbrev pub setting_of : Setting → tree.Setting
setting_of (setting.Text t) = tree.quoted (reading_of t.value)
setting_of (setting.Number n) = tree.numeral n
setting_of (setting.Negative n) = tree.negative n

abbrev mutual
  pub expr_of : Expr → tree.Expr
  expr_of expr.Silence = tree.silence
  expr_of (expr.Control key s) = tree.control key (setting_of s)
  expr_of (expr.Inside' at e) = tree.inside (expr_of e)
  expr_of (expr.Shifted' r way at e) = tree.shifted (ratio_of r) way (expr_of e)
  expr_of (expr.List' shape form row) = tree.list shape (exprs_on tree.no_expr row)
  expr_of (expr.Timecat' form row) = tree.timecat (parts_on tree.no_part row)
  expr_of (expr.Called' f_at f e_at e) = tree.called (fun_of f) (expr_of e)
  expr_of (expr.Joined' a_at a operator b_at b) = tree.joined (expr_of a) operator (expr_of b)
  expr_of (expr.Applied' f_at f e_at e) = tree.applied (fun_of f) (expr_of e)

  pub exprs_on : {m : _} → tree.Exprs → Row_of-Expr m → tree.Exprs
  exprs_on es end_of-Expr = es
  exprs_on es (more_of-Expr e row) = exprs_on (tree.further es (expr_of e)) row

  pub parts_on : {m : _} → tree.Parts → Row_of-Part m → tree.Parts
  parts_on ps end_of-Part = ps
  parts_on ps (more_of-Part weight e row) = parts_on (tree.part ps weight (expr_of e)) row

  pub fun_of : Fun → tree.Fun
  fun_of (fun.Bare f) = tree.bare f
  fun_of (fun.OfRatio f r) = tree.of_ratio f (ratio_of r)
  fun_of (fun.OfCount f n) = tree.of_count f (count_of n)
  fun_of (fun.OfBools f t) = tree.of_bools f (reading_of t.value)
  fun_of (fun.Layer' g at f) = tree.layer g (fun_of f)
  fun_of (fun.Every' n at f) = tree.every (count_of n) (fun_of f)
  fun_of (fun.Cycle' g n from at f) = tree.cycle g (count_of n) (count_of from) (fun_of f)
  fun_of (fun.Off' r at f) = tree.off (ratio_of r) (fun_of f)
  fun_of (fun.Within' from to at f) = tree.within from to (fun_of f)
  fun_of (fun.Euclid k n) = tree.euclid (count_of k) (count_of n)
  fun_of (fun.EuclidOff k n r) = tree.euclid_off (count_of k) (count_of n) (count_of r)
  fun_of (fun.Const' at e) = tree.const (expr_of e)
  fun_of (fun.Inside' at f) = tree.paren (fun_of f)
  fun_of (fun.Section' operator at e) = tree.section operator (expr_of e)
  fun_of (fun.Shift r way) = tree.shift (ratio_of r) way
  fun_of (fun.Chain' next_at next at f) = tree.chain (fun_of next) (fun_of f)

abbrev pub exprs_of : List Expr → tree.Exprs
exprs_of es = fold (λ all e. tree.further all (expr_of e)) tree.no_expr es

abbrev pub parts_of : List Part → tree.Parts
parts_of ps = fold (λ all p. tree.part all p.weight (expr_of p.expr)) tree.no_part ps

abbrev pub line_of : Command → tree.Line
line_of command.Nothing = tree.nothing
line_of (command.Order o) = tree.order o
line_of (command.Flag f orbit) = tree.flag f orbit
line_of (command.Play orbit e) = tree.play (Some orbit) (expr_of e)
line_of (command.Silence orbit) = tree.still (Some orbit)
line_of (command.Jump orbit every e) = tree.jump orbit every (expr_of e)

abbrev pub whole_of : Whole → tree.Whole
whole_of (whole.Line c) = tree.line (line_of c)
whole_of (whole.Pattern e) = tree.pattern (expr_of e)

abbrev pub pattern_of : Source → tree.PatternTree
pattern_of (source.Mini t) = tree.sounds (syntax_of t)
pattern_of (source.Expr e) = tree.expression (expr_of e)
