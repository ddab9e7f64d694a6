-- That something read is valid has one proof at most.
use Rattle.std.specs.Prelude.{IsTrue}
use Rattle.std.proofs.Props.{props}
use Rattle.tdl_control.specs.declared.keys.Key.{Key}
use Rattle.tdl_command.specs.declared.tree.Plain.{Plain}
use Rattle.tdl_command.specs.declared.tree.Plain.TheVariants.{Bare, Signed, Quotient}
use Rattle.tdl_command.specs.declared.tree.Ratio.{Ratio}
use Rattle.tdl_command.specs.declared.tree.Ratio.TheVariants as ratio
use Rattle.tdl_command.specs.declared.tree.Count.{Count}
use Rattle.tdl_command.specs.declared.tree.Count.TheVariants as count
use Rattle.tdl_command.specs.declared.tree.Setting.{Setting}
use Rattle.tdl_command.specs.declared.tree.Setting.TheVariants as setting
use Rattle.tdl_command.specs.declared.tree.Expr.{Expr, Row_of-Expr, end_of-Expr, more_of-Expr, Row_of-Part, end_of-Part, more_of-Part}
use Rattle.tdl_command.specs.declared.tree.Expr.TheVariants as expr
use Rattle.tdl_command.specs.declared.tree.Fun.{Fun}
use Rattle.tdl_command.specs.declared.tree.Fun.TheVariants as fun
use Rattle.tdl_command.specs.declared.tree.Command.{Command}
use Rattle.tdl_command.specs.declared.tree.Command.TheVariants as command
use Rattle.tdl_command.specs.declared.read.Source.{Source}
use Rattle.tdl_command.specs.declared.read.Source.TheVariants as source
use Rattle.tdl_command.specs.Valid.{IsValidPlain, IsValidRatio, IsValidCount, IsValidSetting, AreHits, AreHitsFrom}
use Rattle.tdl_command.specs.Valid.{IsValidExpr, AreValidExprs, AreValidParts, IsValidFun, IsValidCommand, IsValidSource}

plain_once : (p : Plain) → IsProp (IsValidPlain p)
plain_once (Bare n) = hlevel props
plain_once (Signed negative n) = hlevel props
plain_once (Quotient negative above below) = hlevel props

ratio_once : (r : Ratio) → IsProp (IsValidRatio r)
ratio_once (ratio.Plain plain) = plain_once plain.value
ratio_once (ratio.Text text) = hlevel props

count_once : (c : Count) → IsProp (IsValidCount c)
count_once (count.Whole n) = hlevel props
count_once (count.Text text) = hlevel props

setting_once : (key : Key) (s : Setting) → IsProp (IsValidSetting key s)
setting_once key (setting.Text text) = hlevel props
setting_once key (setting.Number n) = hlevel props
setting_once key (setting.Negative n) = hlevel props

hits_once : (k n : Count) → IsProp (AreHits k n)
hits_once k n = hlevel (props, count_once)

hits_from_once : (k n r : Count) → IsProp (AreHitsFrom k n r)
hits_from_once k n r = hlevel (props, count_once)

mutual
  expr_once : (e : Expr) → IsProp (IsValidExpr e)
  expr_once expr.Silence = hlevel props
  expr_once (expr.Control key to) = setting_once key to
  expr_once (expr.Inside' at e) = expr_once e
  expr_once (expr.Shifted' by way at e) = hlevel (ratio_once by, expr_once e)
  expr_once (expr.List' shape list es) = exprs_once es
  expr_once (expr.Timecat' list ps) = parts_once ps
  expr_once (expr.Called' fun_at f at e) = hlevel (fun_once f, expr_once e)
  expr_once (expr.Joined' left_at d operator right_at e) = hlevel (expr_once d, expr_once e)
  expr_once (expr.Applied' fun_at f at e) = hlevel (fun_once f, expr_once e)

  exprs_once : {m : _} (row : Row_of-Expr m) → IsProp (AreValidExprs row)
  exprs_once end_of-Expr = hlevel props
  exprs_once (more_of-Expr e rest) = hlevel (expr_once e, exprs_once rest)

  parts_once : {m : _} (row : Row_of-Part m) → IsProp (AreValidParts row)
  parts_once end_of-Part = hlevel props
  parts_once (more_of-Part weight e rest) = hlevel (props, expr_once e, parts_once rest)

  fun_once : (f : Fun) → IsProp (IsValidFun f)
  fun_once (fun.Bare f) = hlevel props
  fun_once (fun.OfRatio f r) = ratio_once r
  fun_once (fun.OfCount f n) = count_once n
  fun_once (fun.OfBools f text) = hlevel props
  fun_once (fun.Layer' how at f) = fun_once f
  fun_once (fun.Every' n at f) = hlevel (count_once n, fun_once f)
  fun_once (fun.Cycle' how n place at f) = hlevel (count_once n, count_once place, fun_once f)
  fun_once (fun.Off' by at f) = hlevel (ratio_once by, fun_once f)
  fun_once (fun.Within' from to at f) = hlevel (plain_once from, plain_once to, fun_once f)
  fun_once (fun.Euclid k n) = hits_once k n
  fun_once (fun.EuclidOff k n r) = hits_from_once k n r
  fun_once (fun.Const' at e) = expr_once e
  fun_once (fun.Inside' at f) = fun_once f
  fun_once (fun.Section' operator at e) = expr_once e
  fun_once (fun.Shift by way) = ratio_once by
  fun_once (fun.Chain' next_at f first_at g) = hlevel (fun_once f, fun_once g)

pub command_once : (c : Command) → IsProp (IsValidCommand c)
command_once command.Nothing = hlevel props
command_once (command.Order o) = hlevel props
command_once (command.Flag f orbit) = hlevel props
command_once (command.Play orbit e) = hlevel (props, expr_once e)
command_once (command.Silence orbit) = hlevel props
command_once (command.Jump orbit every e) = hlevel (props, expr_once e)

pub source_once : (s : Source) → IsProp (IsValidSource s)
source_once (source.Mini text) = hlevel props
source_once (source.Expr e) = expr_once e
