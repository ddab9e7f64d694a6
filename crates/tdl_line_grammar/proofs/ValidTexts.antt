-- What was read keeps the rules: its numbers are in range, each text is of the kind of its place, and there is a
-- rhythm for each choice of a Euclid's counts.
--     valid_expr           an expression of such pieces is valid; valid_fun: a function
--     valid_whole          so is a line, or a pattern
use Rattle.std.specs.Prelude.{IsTrue}
use Rattle.std.proofs.Common.{◌≡◌, Bool, true, false, not, ◌&&◌, nat_le, List, [], ◌∷◌, ◌++◌, refl, sym, arith}
use Rattle.std.proofs.lemmas.Bool.{and_parts, and_from}
use Rattle.std.proofs.lemmas.Bool.Decides.{nat_tests}
use Rattle.tdl_control.specs.declared.keys.Key.{Key}
use Rattle.tdl_control.specs.Key.{takes_word}
use Rattle.tdl_mini_tree.specs.declared.leaves.Number.{Number}
use Rattle.tdl_mini_tree.specs.Numbers.{is_ratio, is_whole, is_weight}
use Rattle.tdl_mini_tree.specs.Valid.{is_small}
use Rattle.tdl_command.specs.declared.tree.Plain.{Plain}
use Rattle.tdl_command.specs.declared.tree.Plain.TheVariants.{Bare, Signed, Quotient}
use Rattle.tdl_command.specs.declared.tree.Ratio.{Ratio}
use Rattle.tdl_command.specs.declared.tree.Ratio.TheVariants as ratio
use Rattle.tdl_command.specs.declared.tree.Count.{Count}
use Rattle.tdl_command.specs.declared.tree.Count.TheVariants as count
use Rattle.tdl_command.specs.declared.tree.Setting.{Setting}
use Rattle.tdl_command.specs.declared.tree.Setting.TheVariants as setting
use Rattle.tdl_command.specs.declared.tree.Expr.{Expr, Row_of-Expr, end_of-Expr, more_of-Expr, Row_of-Part, end_of-Part, more_of-Part}
use Rattle.tdl_command.specs.declared.tree.Expr.TheVariants as expr
use Rattle.tdl_command.specs.declared.tree.Fun.{Fun}
use Rattle.tdl_command.specs.declared.tree.Fun.TheVariants as fun
use Rattle.tdl_command.specs.Tree as tree
use Rattle.tdl_command.specs.View.{ratio_of, count_of, setting_of, expr_of, exprs_on, parts_on, fun_of}
use Rattle.tdl_command.specs.Rules.{kind_of, has_rhythms, has_rhythms_from}
use Rattle.tdl_command.specs.Valid.{IsValidPlain, IsValidRatio, IsValidCount, IsValidSetting, IsValidExpr}
use Rattle.tdl_command.specs.Valid.{AreValidExprs, AreValidParts, IsValidFun}
use Rattle.tdl_mini_tree.specs.declared.faults.MiniKind.TheVariants.{BadEuclid}
use Rattle.tdl_line_machine.specs.declared.faults.LineKind.TheVariants.{Mini}
use Rattle.tdl_line_machine.specs.declared.marks.Mark.TheVariants as mark
use Rattle.tdl_line_machine.specs.Pieces.{Piece}
use Rattle.tdl_line_grammar.specs.Spelling.{rule, sign, minus, number_pieces, plain_pieces}
use Rattle.tdl_line_grammar.specs.Spelling.{ratio_pieces, count_with, count_pieces, last_count, setting_pieces, comma_after, comma_after_parts}
use Rattle.tdl_line_grammar.specs.Spelling.{expr_pieces, exprs_pieces, parts_pieces, fun_pieces}
use Rattle.tdl_line_grammar.specs.inside.Kept.{AllKept}
use Rattle.tdl_line_grammar.specs.Grammar.{Formed, FormedExprs, FormedParts, FormedFun, FormedSetting}

-- ---- pieces one after another
pub left : (a b : List Piece) → AllKept (a ++ b) → AllKept a
left [] b h = tt
left (p ∷ a) b h = (h.0, left a b h.1)

pub right : (a b : List Piece) → AllKept (a ++ b) → AllKept b
right [] b h = h
right (p ∷ a) b h = right a b h.1

-- ---- numbers and texts
truths : (a b : Bool) → IsTrue a → IsTrue b → IsTrue (a && b)
truths a b x y = and_from a b x y

valid_plain : (p : Plain) → AllKept (plain_pieces p) → IsValidPlain p
valid_plain (Bare n) h = truths (is_ratio n) (is_small n) h.0 h.1.0
valid_plain (Signed negative n) h =
    let inner = left (number_pieces n) (sign mark.CloseRound ∷ []) (right (minus negative) _ h.1) in
    truths (is_ratio n) (is_small n) inner.0 inner.1.0
valid_plain (Quotient negative a b) h = let inner = right (minus negative) _ h.1 in (inner.0, inner.1.1.1.1.0)

valid_ratio : (r : Ratio) → AllKept (ratio_pieces (ratio_of r)) → IsValidRatio r
valid_ratio (ratio.Plain p) h = valid_plain p.value h
valid_ratio (ratio.Text t) h = h.0.0

-- a count after further rules on it
valid_with : (rules : List Piece) (c : Count) → AllKept (count_with rules (count_of c)) → IsValidCount c
valid_with rules (count.Whole n) h =
    let whole = (and_parts (nat_le n 65535) _ h.0).0 in grind (arith, nat_tests, whole)
valid_with rules (count.Text t) h = (right rules _ h).0.0

ruled : (rules : List Piece) (c : Count) → AllKept (count_with rules (count_of c)) → AllKept rules
ruled rules (count.Whole n) h = left rules _ h.1
ruled rules (count.Text t) h = left rules _ h

-- the last count of a Euclid
valid_last : (rhythms : Bool) (c : Count) → AllKept (last_count rhythms (count_of c)) → IsValidCount c × IsTrue rhythms
valid_last rhythms c h =
    let rules = rule (Mini BadEuclid) rhythms ∷ [] in (valid_with rules c h, (ruled rules c h).0)

valid_count : (c : Count) → AllKept (count_pieces (count_of c)) → IsValidCount c
valid_count c h = valid_with [] c h

integer : (n : Number) → IsTrue (is_whole n) → IsTrue (is_small n) → IsTrue (is_whole n && is_small n)
integer n whole small = truths (is_whole n) (is_small n) whole small

is_no : (b : Bool) → IsTrue (not b) → b ≡ false
is_no true h = sym h
is_no false h = refl

-- a key that takes a word is set to no whole number
numbered : (key : Key) (n : Number) → IsTrue (not (takes_word key && is_whole n)) → IsTrue (is_whole n) → takes_word key ≡ false
numbered key n h whole = here (takes_word key) (is_whole n) h whole
  where
    here : (a b : Bool) → IsTrue (not (a && b)) → IsTrue b → a ≡ false
    here true true h whole = sym h
    here true false h whole = sym whole
    here false b h whole = refl

valid_setting : (key : Key) (s : Setting)
    → FormedSetting key (setting_of s) → AllKept (setting_pieces (kind_of key) (setting_of s)) → IsValidSetting key s
valid_setting key (setting.Text t) formed h = h.0.0
valid_setting key (setting.Number n) formed h = (numbered key n formed h.0, integer n h.0 h.1.0)
valid_setting key (setting.Negative n) formed h = (is_no (takes_word key) formed, integer n h.1.1.0 h.1.1.1.0)

-- ---- expressions and functions
first_exprs : {m : _} (es : tree.Exprs) (row : Row_of-Expr m) → FormedExprs (exprs_on es row) × AllKept (exprs_pieces (exprs_on es row))
    → FormedExprs es × AllKept (exprs_pieces es)
first_exprs es end_of-Expr h = h
first_exprs es (more_of-Expr e row) h =
    let before = first_exprs (tree.further es (expr_of e)) row h in (before.0.0, left (exprs_pieces es) _ before.1)

first_parts : {m : _} (ps : tree.Parts) (row : Row_of-Part m) → FormedParts (parts_on ps row) × AllKept (parts_pieces (parts_on ps row))
    → FormedParts ps × AllKept (parts_pieces ps)
first_parts ps end_of-Part h = h
first_parts ps (more_of-Part n e row) h =
    let before = first_parts (tree.part ps n (expr_of e)) row h in (before.0.0, left (parts_pieces ps) _ before.1)

mutual
  pub valid_expr : (e : Expr) → Formed (expr_of e) → AllKept (expr_pieces (expr_of e)) → IsValidExpr e
  valid_expr expr.Silence formed h = tt
  valid_expr (expr.Control key s) formed h = valid_setting key s formed h.1
  valid_expr (expr.Inside' at e) formed h = valid_expr e formed (left (expr_pieces (expr_of e)) _ h.1)
  valid_expr (expr.Shifted' r way at e) formed h =
      (valid_ratio r (left (ratio_pieces (ratio_of r)) _ h), valid_expr e formed.1 (right (ratio_pieces (ratio_of r)) _ h).1)
  valid_expr (expr.List' shape form row) formed h =
      valid_exprs tree.no_expr row formed (left (exprs_pieces (exprs_on tree.no_expr row)) _ h.1.1)
  valid_expr (expr.Timecat' form row) formed h =
      valid_parts tree.no_part row formed (left (parts_pieces (parts_on tree.no_part row)) _ h.1.1)
  valid_expr (expr.Called' f_at f e_at e) formed h =
      (valid_fun f formed.1 (left (fun_pieces (fun_of f)) _ h), valid_expr e formed.3 (right (fun_pieces (fun_of f)) _ h))
  valid_expr (expr.Joined' a_at a operator b_at b) formed h =
      (valid_expr a formed.1 (left (expr_pieces (expr_of a)) _ h), valid_expr b formed.3 (right (expr_pieces (expr_of a)) _ h).1)
  valid_expr (expr.Applied' f_at f e_at e) formed h =
      (valid_fun f formed.0 (left (fun_pieces (fun_of f)) _ h), valid_expr e formed.1 (right (fun_pieces (fun_of f)) _ h).1)

  valid_exprs : {m : _} (es : tree.Exprs) (row : Row_of-Expr m) → FormedExprs (exprs_on es row) → AllKept (exprs_pieces (exprs_on es row))
      → AreValidExprs row
  valid_exprs es end_of-Expr formed h = tt
  valid_exprs es (more_of-Expr e row) formed h =
      let here = first_exprs (tree.further es (expr_of e)) row (formed, h) in
      let its = right (comma_after es) _ (right (exprs_pieces es) _ here.1) in
      (valid_expr e here.0.1 its, valid_exprs (tree.further es (expr_of e)) row formed h)

  valid_parts : {m : _} (ps : tree.Parts) (row : Row_of-Part m) → FormedParts (parts_on ps row) → AllKept (parts_pieces (parts_on ps row))
      → AreValidParts row
  valid_parts ps end_of-Part formed h = tt
  valid_parts ps (more_of-Part n e row) formed h =
      let here = first_parts (tree.part ps n (expr_of e)) row (formed, h) in
      let its = right (comma_after_parts ps) _ (right (parts_pieces ps) _ here.1) in (
        truths (is_weight n) (is_small n) its.1.0 its.1.1.0,
        (
          valid_expr e here.0.1 (left (expr_pieces (expr_of e)) _ its.1.1.1.1),
          valid_parts (tree.part ps n (expr_of e)) row formed h,
        ),
      )

  pub valid_fun : (f : Fun) → FormedFun (fun_of f) → AllKept (fun_pieces (fun_of f)) → IsValidFun f
  valid_fun (fun.Bare f) formed h = tt
  valid_fun (fun.OfRatio f r) formed h = valid_ratio r h.1
  valid_fun (fun.OfCount f n) formed h = valid_count n h.1
  valid_fun (fun.OfBools f t) formed h = h.1.0.0
  valid_fun (fun.Layer' g at f) formed h = valid_fun f formed.1 h.1
  valid_fun (fun.Every' n at f) formed h =
      (valid_count n (left (count_pieces (count_of n)) _ h.1), valid_fun f formed.1 (right (count_pieces (count_of n)) _ h.1))
  valid_fun (fun.Cycle' g n o at f) formed h =
      let behind = right (count_pieces (count_of n)) _ h.1 in (
        valid_count n (left (count_pieces (count_of n)) _ h.1),
        (valid_count o (left (count_pieces (count_of o)) _ behind), valid_fun f formed.1 (right (count_pieces (count_of o)) _ behind)),
      )
  valid_fun (fun.Off' r at f) formed h =
      (valid_ratio r (left (ratio_pieces (ratio_of r)) _ h.1), valid_fun f formed.1 (right (ratio_pieces (ratio_of r)) _ h.1))
  valid_fun (fun.Within' from to at f) formed h =
      let behind = right (plain_pieces from) _ h.1.1 in
      let last = right (plain_pieces to) _ behind.1 in
      (valid_plain from (left (plain_pieces from) _ h.1.1), (valid_plain to (left (plain_pieces to) _ behind.1), valid_fun f formed.1 last.1))
  valid_fun (fun.Euclid k n) formed h =
      let last = valid_last (has_rhythms (count_of k) (count_of n)) n (right (count_pieces (count_of k)) _ h.1) in
      record {
        hits_valid = valid_count k (left (count_pieces (count_of k)) _ h.1);
        steps_valid = last.0;
        rhythms = last.1;
      }
  valid_fun (fun.EuclidOff k n r) formed h =
      let behind = right (count_pieces (count_of k)) _ h.1 in
      let last = valid_last (has_rhythms_from (count_of k) (count_of n) (count_of r)) r (right (count_pieces (count_of n)) _ behind) in
      record {
        hits_valid = valid_count k (left (count_pieces (count_of k)) _ h.1);
        steps_valid = valid_count n (left (count_pieces (count_of n)) _ behind);
        from_valid = last.0;
        rhythms = last.1;
      }
  valid_fun (fun.Const' at e) formed h = valid_expr e formed.1 h.1
  valid_fun (fun.Inside' at f) formed h = valid_fun f formed (left (fun_pieces (fun_of f)) _ h.1)
  valid_fun (fun.Section' operator at e) formed h = valid_expr e formed.1 (left (expr_pieces (expr_of e)) _ h.1.1)
  valid_fun (fun.Shift r way) formed h = valid_ratio r (left (ratio_pieces (ratio_of r)) _ h.1)
  valid_fun (fun.Chain' next_at next at f) formed h =
      (valid_fun next formed.0 (left (fun_pieces (fun_of next)) _ h), valid_fun f formed.2 (right (fun_pieces (fun_of next)) _ h).1)
