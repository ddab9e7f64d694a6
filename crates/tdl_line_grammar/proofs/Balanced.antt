-- Each bracket that a tree opens it closes: as many are open after its pieces as before.
use Rattle.std.proofs.Common.{◌≡◌, ℕ, suc, Bool, true, false, List, [], ◌∷◌, ◌++◌, refl, ap, ◌∙◌}
use Rattle.tdl_mini_tree.specs.declared.leaves.Kind.{Kind}
use Rattle.tdl_line_machine.specs.declared.marks.Mark.TheVariants as mark
use Rattle.tdl_command.specs.declared.marks.Way.{Way}
use Rattle.tdl_command.specs.declared.tree.Plain.{Plain}
use Rattle.tdl_command.specs.declared.tree.Plain.TheVariants.{Bare, Signed, Quotient}
use Rattle.tdl_command.specs.Tree as tree
use Rattle.tdl_command.specs.Tree.{Ratio, Count, Setting, Expr, Exprs, no_expr, further, Parts, no_part, part, Fun}
use Rattle.tdl_mini_tree.specs.Reading.{Reading, read, unread}
use Rattle.tdl_line_machine.specs.Pieces.{Piece}
use Rattle.tdl_line_grammar.specs.Spelling.{sign, text_pieces, plain_pieces, ratio_pieces, count_pieces, last_count, setting_pieces}
use Rattle.tdl_line_grammar.specs.Spelling.{comma_after, comma_after_parts, expr_pieces, exprs_pieces, parts_pieces, fun_pieces}
use Rattle.tdl_line_grammar.proofs.Running.{deep, deep-append}

-- pieces that open what they close, before others
pub deep_past : (d e : ℕ) (a b : List Piece) → deep d a ≡ d → deep d b ≡ e → deep d (a ++ b) ≡ e
deep_past d e a b h k = deep-append d a b ∙ ap (λ (n : ℕ). deep n b) h ∙ k

pub text_deep : (d : ℕ) (kind : Kind) (r : Reading) → deep d (text_pieces kind r) ≡ d
text_deep d kind (read k ls) = refl
text_deep d kind (unread fault at) = refl

pub plain_deep : (d : ℕ) (p : Plain) → deep d (plain_pieces p) ≡ d
plain_deep d (Bare n) = refl
plain_deep d (Signed true n) = refl
plain_deep d (Signed false n) = refl
plain_deep d (Quotient true a b) = refl
plain_deep d (Quotient false a b) = refl

pub ratio_deep : (d : ℕ) (r : Ratio) → deep d (ratio_pieces r) ≡ d
ratio_deep d (tree.plain p) = plain_deep d p
ratio_deep d (tree.measured (read k ls)) = refl
ratio_deep d (tree.measured (unread fault at)) = refl

pub shift_deep : (d : ℕ) (r : Ratio) (way : Way) → deep d (ratio_pieces r ++ sign (mark.Shift way) ∷ []) ≡ d
shift_deep d r way = deep_past d d (ratio_pieces r) (sign (mark.Shift way) ∷ []) (ratio_deep d r) refl

pub count_deep : (d : ℕ) (c : Count) → deep d (count_pieces c) ≡ d
count_deep d (tree.whole n) = refl
count_deep d (tree.counted (read k ls)) = refl
count_deep d (tree.counted (unread fault at)) = refl

last_deep : (d : ℕ) (b : Bool) (c : Count) → deep d (last_count b c) ≡ d
last_deep d b (tree.whole n) = refl
last_deep d b (tree.counted (read k ls)) = refl
last_deep d b (tree.counted (unread fault at)) = refl

setting_deep : (d : ℕ) (kind : Kind) (s : Setting) → deep d (setting_pieces kind s) ≡ d
setting_deep d kind (tree.quoted r) = text_deep d kind r
setting_deep d kind (tree.numeral n) = refl
setting_deep d kind (tree.negative n) = refl

comma_deep : (d : ℕ) (es : Exprs) → deep d (comma_after es) ≡ d
comma_deep d no_expr = refl
comma_deep d (further es e) = refl

parts_comma_deep : (d : ℕ) (ps : Parts) → deep d (comma_after_parts ps) ≡ d
parts_comma_deep d no_part = refl
parts_comma_deep d (part ps n e) = refl

mutual
  pub expr_deep : (d : ℕ) (e : Expr) → deep d (expr_pieces e) ≡ d
  expr_deep d tree.silence = refl
  expr_deep d (tree.control key s) = setting_deep d _ s
  expr_deep d (tree.inside e) = deep_past (suc d) d (expr_pieces e) _ (expr_deep (suc d) e) refl
  expr_deep d (tree.shifted r way e) = deep_past d d (ratio_pieces r) _ (ratio_deep d r) (expr_deep d e)
  expr_deep d (tree.list shape es) = deep_past (suc d) d (exprs_pieces es) _ (exprs_deep (suc d) es) refl
  expr_deep d (tree.timecat ps) = deep_past (suc d) d (parts_pieces ps) _ (parts_deep (suc d) ps) refl
  expr_deep d (tree.called f e) = deep_past d d (fun_pieces f) (expr_pieces e) (fun_deep d f) (expr_deep d e)
  expr_deep d (tree.joined a operator b) = deep_past d d (expr_pieces a) _ (expr_deep d a) (expr_deep d b)
  expr_deep d (tree.applied f e) = deep_past d d (fun_pieces f) _ (fun_deep d f) (expr_deep d e)

  pub exprs_deep : (d : ℕ) (es : Exprs) → deep d (exprs_pieces es) ≡ d
  exprs_deep d no_expr = refl
  exprs_deep d (further es e) =
      deep_past d d (exprs_pieces es) _ (exprs_deep d es) (deep_past d d (comma_after es) (expr_pieces e) (comma_deep d es) (expr_deep d e))

  pub parts_deep : (d : ℕ) (ps : Parts) → deep d (parts_pieces ps) ≡ d
  parts_deep d no_part = refl
  parts_deep d (part ps n e) =
      deep_past d d (parts_pieces ps) _ (parts_deep d ps) (deep_past d d (comma_after_parts ps) _ (parts_comma_deep d ps)
      (deep_past (suc d) d (expr_pieces e) _ (expr_deep (suc d) e) refl))

  pub fun_deep : (d : ℕ) (f : Fun) → deep d (fun_pieces f) ≡ d
  fun_deep d (tree.bare f) = refl
  fun_deep d (tree.of_ratio f r) = ratio_deep d r
  fun_deep d (tree.every n f) = deep_past d d (count_pieces n) _ (count_deep d n) (fun_deep d f)
  fun_deep d (tree.cycle g n o f) = deep_past d d (count_pieces n) _ (count_deep d n) (deep_past d d (count_pieces o) _ (count_deep d o) (fun_deep d f))
  fun_deep d (tree.off r f) = deep_past d d (ratio_pieces r) _ (ratio_deep d r) (fun_deep d f)
  fun_deep d (tree.layer g f) = fun_deep d f
  fun_deep d (tree.of_count f n) = count_deep d n
  fun_deep d (tree.of_bools f r) = text_deep d _ r
  fun_deep d (tree.within from to f) =
      deep_past (suc d) d (plain_pieces from) _ (plain_deep (suc d) from) (deep_past (suc d) d (plain_pieces to) _ (plain_deep (suc d) to) (fun_deep d f))
  fun_deep d (tree.euclid k n) = deep_past d d (count_pieces k) _ (count_deep d k) (last_deep d _ n)
  fun_deep d (tree.euclid_off k n r) =
      deep_past d d (count_pieces k) _ (count_deep d k) (deep_past d d (count_pieces n) _ (count_deep d n) (last_deep d _ r))
  fun_deep d (tree.const e) = expr_deep d e
  fun_deep d (tree.paren f) = deep_past (suc d) d (fun_pieces f) _ (fun_deep (suc d) f) refl
  fun_deep d (tree.section operator e) = deep_past (suc d) d (expr_pieces e) _ (expr_deep (suc d) e) refl
  fun_deep d (tree.shift r way) = deep_past (suc d) d (ratio_pieces r) _ (ratio_deep (suc d) r) refl
  fun_deep d (tree.chain next f) = deep_past d d (fun_pieces next) _ (fun_deep d next) (fun_deep d f)
