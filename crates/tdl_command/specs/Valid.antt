-- What is known of an expression that was read: its numbers keep the rules, each text is of the kind of its place,
-- and there is a rhythm for each choice of a Euclid's counts.
--     IsTextOf                            a text of a kind
--     IsValidPlain, IsValidRatio,         numbers, and texts in their place
--     IsValidCount
--     IsValidSetting                      what a key is set to
--     AreHits, AreHitsFrom                the counts of a Euclid
--     IsValidExpr, IsValidFun             expressions and functions
--     IsValidCommand, IsValidSource       lines, and patterns alone
use Rattle.std.specs.Prelude.{◌≡◌, ◌≤◌, false, ◌&&◌, IsTrue}
use Rattle.tdl_control.specs.declared.keys.Key.{Key}
use Rattle.tdl_control.specs.Key.{takes_word}
use Rattle.tdl_mini_tree.specs.declared.leaves.Kind.{Kind}
use Rattle.tdl_mini_tree.specs.declared.leaves.Kind.TheVariants as kind
use Rattle.tdl_mini_tree.specs.declared.leaves.Number.{Number}
use Rattle.tdl_mini_tree.specs.declared.tree.Tree.{Tree}
use Rattle.tdl_mini_tree.specs.Limits.{max_ratio}
use Rattle.tdl_mini_tree.specs.Numbers.{is_ratio, is_weight}
use Rattle.tdl_mini_tree.specs.Valid.{is_factor, is_integer, is_small}
use Rattle.tdl_command.specs.declared.tree.Plain.{Plain}
use Rattle.tdl_command.specs.declared.tree.Plain.TheVariants.{Bare, Signed, Quotient}
use Rattle.tdl_command.specs.declared.tree.Ratio.{Ratio}
use Rattle.tdl_command.specs.declared.tree.Ratio.TheVariants as ratio
use Rattle.tdl_command.specs.declared.tree.Count.{Count}
use Rattle.tdl_command.specs.declared.tree.Count.TheVariants as count
use Rattle.tdl_command.specs.declared.tree.Setting.{Setting}
use Rattle.tdl_command.specs.declared.tree.Setting.TheVariants as setting
use Rattle.tdl_command.specs.declared.tree.Expr.{Expr, Row_of-Expr, end_of-Expr, more_of-Expr, Row_of-Part, end_of-Part, more_of-Part}
use Rattle.tdl_command.specs.declared.tree.Expr.TheVariants as expr
use Rattle.tdl_command.specs.declared.tree.Fun.{Fun}
use Rattle.tdl_command.specs.declared.tree.Fun.TheVariants as fun
use Rattle.tdl_command.specs.declared.tree.Part.{Part}
use Rattle.tdl_command.specs.declared.tree.Command.{Command}
use Rattle.tdl_command.specs.declared.tree.Command.TheVariants as command
use Rattle.tdl_command.specs.declared.read.Source.{Source}
use Rattle.tdl_command.specs.declared.read.Source.TheVariants as source
use Rattle.tdl_command.specs.Rules.{is_below, is_orbit, is_every, kind_of, has_rhythms, has_rhythms_from}
use Rattle.tdl_command.specs.View.{count_of}

abbrev pub IsTextOf : Kind → Tree → Type 0
IsTextOf kind text = text.kind ≡ kind

abbrev pub IsValidPlain : Plain → Type 0
IsValidPlain (Bare n) = IsTrue (is_factor n)
IsValidPlain (Signed negative n) = IsTrue (is_factor n)
IsValidPlain (Quotient negative above below) = IsTrue (is_ratio above) × IsTrue (is_below below)

abbrev pub IsValidRatio : Ratio → Type 0
IsValidRatio (ratio.Plain plain) = IsValidPlain plain.value
IsValidRatio (ratio.Text text) = IsTextOf kind.Ratio text.value

abbrev pub IsValidCount : Count → Type 0
IsValidCount (count.Whole n) = n ≤ max_ratio
IsValidCount (count.Text text) = IsTextOf kind.Count text.value

-- a key that takes no word has a whole number
abbrev pub IsNumberOf : Key → Number → Type 0
IsNumberOf key n = (takes_word key ≡ false) × IsTrue (is_integer n)

abbrev pub IsValidSetting : Key → Setting → Type 0
IsValidSetting key (setting.Text text) = IsTextOf (kind_of key) text.value
IsValidSetting key (setting.Number n) = IsNumberOf key n
IsValidSetting key (setting.Negative n) = IsNumberOf key n

pub record AreHits (hits steps : Count) : Type 0 where
  pub hits_valid : IsValidCount hits
  pub steps_valid : IsValidCount steps
  pub rhythms : IsTrue (has_rhythms (count_of hits) (count_of steps))

pub record AreHitsFrom (hits steps from : Count) : Type 0 where
  pub hits_valid : IsValidCount hits
  pub steps_valid : IsValidCount steps
  pub from_valid : IsValidCount from
  pub rhythms : IsTrue (has_rhythms_from (count_of hits) (count_of steps) (count_of from))

abbrev pub IsValidWeight : Number → Type 0
IsValidWeight n = IsTrue (is_weight n && is_small n)

abbrev mutual
  pub IsValidExpr : Expr → Type 0
  IsValidExpr expr.Silence = Unit {0}
  IsValidExpr (expr.Control key to) = IsValidSetting key to
  IsValidExpr (expr.Inside' at e) = IsValidExpr e
  IsValidExpr (expr.Shifted' by way at e) = IsValidRatio by × IsValidExpr e
  IsValidExpr (expr.List' shape list es) = AreValidExprs es
  IsValidExpr (expr.Timecat' list ps) = AreValidParts ps
  IsValidExpr (expr.Called' fun_at f at e) = IsValidFun f × IsValidExpr e
  IsValidExpr (expr.Joined' left_at d operator right_at e) = IsValidExpr d × IsValidExpr e
  IsValidExpr (expr.Applied' fun_at f at e) = IsValidFun f × IsValidExpr e

  pub AreValidExprs : {m : _} → Row_of-Expr m → Type 0
  AreValidExprs end_of-Expr = Unit {0}
  AreValidExprs (more_of-Expr e rest) = IsValidExpr e × AreValidExprs rest

  pub AreValidParts : {m : _} → Row_of-Part m → Type 0
  AreValidParts end_of-Part = Unit {0}
  AreValidParts (more_of-Part weight e rest) = IsValidWeight weight × (IsValidExpr e × AreValidParts rest)

  pub IsValidFun : Fun → Type 0
  IsValidFun (fun.Bare f) = Unit {0}
  IsValidFun (fun.OfRatio f r) = IsValidRatio r
  IsValidFun (fun.OfCount f n) = IsValidCount n
  IsValidFun (fun.OfBools f text) = IsTextOf kind.Bool text.value
  IsValidFun (fun.Layer' how at f) = IsValidFun f
  IsValidFun (fun.Every' n at f) = IsValidCount n × IsValidFun f
  IsValidFun (fun.Cycle' how n place at f) = IsValidCount n × (IsValidCount place × IsValidFun f)
  IsValidFun (fun.Off' by at f) = IsValidRatio by × IsValidFun f
  IsValidFun (fun.Within' from to at f) = IsValidPlain from × (IsValidPlain to × IsValidFun f)
  IsValidFun (fun.Euclid k n) = AreHits k n
  IsValidFun (fun.EuclidOff k n r) = AreHitsFrom k n r
  IsValidFun (fun.Const' at e) = IsValidExpr e
  IsValidFun (fun.Inside' at f) = IsValidFun f
  IsValidFun (fun.Section' operator at e) = IsValidExpr e
  IsValidFun (fun.Shift by way) = IsValidRatio by
  IsValidFun (fun.Chain' next_at f first_at g) = IsValidFun f × IsValidFun g

-- a part of a list with weights
abbrev pub IsValidPart : Part → Type 0
IsValidPart part = IsValidWeight part.weight × IsValidExpr part.expr

abbrev pub IsValidCommand : Command → Type 0
IsValidCommand (command.Flag f orbit) = IsTrue (is_orbit orbit)
IsValidCommand (command.Play orbit e) = IsTrue (is_orbit orbit) × IsValidExpr e
IsValidCommand (command.Silence orbit) = IsTrue (is_orbit orbit)
IsValidCommand (command.Jump orbit every e) = IsTrue (is_orbit orbit) × (IsTrue (is_every every) × IsValidExpr e)
IsValidCommand _ = Unit {0}

abbrev pub IsValidSource : Source → Type 0
IsValidSource (source.Mini text) = IsTextOf kind.Sound text
IsValidSource (source.Expr e) = IsValidExpr e
