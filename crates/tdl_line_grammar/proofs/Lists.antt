-- How the machine reads lists, and functions in round brackets that begin with an operator.
use Rattle.std.specs.Prelude.{IsTrue}
use Rattle.std.proofs.Common.{◌≡◌, ℕ, suc, Bool, true, false, Ok, List, [], ◌∷◌, ◌++◌, refl, ap, sym, ◌∙◌}
use Rattle.tdl_mini_tree.specs.declared.faults.MiniKind.TheVariants.{BadFactor}
use Rattle.tdl_mini_tree.specs.declared.leaves.Number.{Number}
use Rattle.tdl_mini_tree.specs.Numbers.{is_weight}
use Rattle.tdl_line_machine.specs.declared.faults.LineKind.TheVariants.{Mini}
use Rattle.tdl_line_machine.specs.declared.names.Name.TheVariants as name
use Rattle.tdl_command.specs.declared.names.Shape.{Shape}
use Rattle.tdl_line_machine.specs.declared.marks.Mark.TheVariants as mark
use Rattle.tdl_command.specs.declared.marks.Operator.{Operator}
use Rattle.tdl_line_machine.specs.Tokens.{number}
use Rattle.tdl_line_machine.specs.Tokens as token
use Rattle.tdl_command.specs.Tree as tree
use Rattle.tdl_command.specs.Tree.{Expr, Exprs, no_expr, further, Parts, no_part, part, Fun}
use Rattle.tdl_line_grammar.specs.Spelling.{sign, numeral, rule, expr_pieces, exprs_pieces, parts_pieces}
use Rattle.tdl_line_grammar.specs.Grammar.{Formed, FormedExprs, FormedParts}
use Rattle.tdl_line_machine.specs.Machine.States.{Stage, Spot, first, at_operand}
use Rattle.tdl_line_machine.specs.Machine.States.{Pending, section, constant, list, timecat, unweighed, weighed, wanting, expressed, list_open}
use Rattle.tdl_line_machine.specs.Machine.Expressions.{may_begin_operand, operand, applied}
use Rattle.tdl_line_machine.specs.Machine.Open.{round_has_funs}
use Rattle.tdl_line_machine.specs.Machine.States.{parts_open, part_wanted, part_read, weighing}
use Rattle.tdl_line_machine.specs.Machine.Open.{opened_to}
use Rattle.tdl_line_grammar.proofs.Running.{step, steps, Runs, runs_token, runs_then, runs_and, runs_to, after, after-append}
use Rattle.tdl_line_grammar.proofs.Balanced.{expr_deep, exprs_deep, parts_deep}
use Rattle.tdl_line_grammar.proofs.Kept.{Kept, core, at, leveled, within, after_round, in_round_is, after_operand, operand_is}
use Rattle.tdl_line_grammar.proofs.Leaves.{if_true, sign_runs}
use Rattle.tdl_line_grammar.proofs.Facts.{first_begins, operand_begins, list_begins, RoundRead, OperandRead, JoinedRead, WholeRead}
use Rattle.tdl_line_grammar.proofs.Functions.{after_word}
use Rattle.tdl_line_grammar.proofs.Expressions.{may_begin, inner_settled}

-- ---- an operator and its right side in round brackets
pub section_round : (operator : Operator) (e : Expr) → JoinedRead e → RoundRead (tree.section operator e)
section_round operator e read tested k r funs formed from =
    let inside = within k (section r operator) in
    runs_then (sign (mark.Operator operator) ∷ []) (expr_pieces e ++ sign mark.CloseRound ∷ []) refl
    (sign_runs (mark.Operator operator)
    (steps _ _ _ (if_true (round_has_funs r) _ _ (is_true (round_has_funs r) funs))))
    (runs_and (expr_pieces e) (sign mark.CloseRound ∷ []) (expr_deep _ e) (after_round k r (tree.section operator e))
    (read tested inside (wanting at_operand) inside at_operand (operand_begins tested inside refl)
    (inner_settled k (section r operator) (suc k.depth) (λ s e. never s e)) formed.1
    (suc from))
    (sign_runs mark.CloseRound (steps _ _ _ (in_round_is k _ (token.mark mark.CloseRound) r (tree.section operator e) funs))))
  where
    is_true : (b : Bool) → b ≡ true → IsTrue b
    is_true true e = refl
    is_true false e = cc

    never : (s : Spot) → section r operator ≡ constant s → ⊥
    never s e = cc

-- ---- `stack`, `cat`, `fastcat`
-- inside `[`, after the last of some expressions that are not none
pub record ListRead (tested : Bool) (k : Kept) (shape : Shape) (es : Exprs) (from : ℕ) : Type 0 where
  pub before : Exprs
  pub level : List Pending
  pub last : Expr
  pub same : further before (applied level last) ≡ es
  pub runs : Runs tested from (suc k.depth) (at (within k (list shape no_expr)) list_open from) (exprs_pieces es)
      (at (leveled (within k (list shape before)) level) (expressed last) (after from (exprs_pieces es)))

abbrev pub ListFacts : Exprs → Type 0
ListFacts no_expr = Unit {0}
ListFacts (further es e) =
    (tested : Bool) (k : Kept) (shape : Shape) → FormedExprs (further es e) → (from : ℕ)
    → ListRead tested k shape (further es e) from

never_list : (shape : Shape) (es : Exprs) (s : Spot) → list shape es ≡ constant s → ⊥
never_list shape es s e = cc

pub first_in_list : (e : Expr) → WholeRead e → ListFacts (further no_expr e)
first_in_list e read tested k shape formed from =
    let inside = within k (list shape no_expr) in
    let whole = read tested inside list_open inside (list_begins tested inside refl)
    (inner_settled k (list shape no_expr) (suc k.depth) (never_list shape no_expr)) formed.1 from in
    record {
      before = no_expr;
      level = whole.level;
      last = whole.last;
      same = ap (further no_expr) whole.same;
      runs = whole.runs;
    }

pub next_in_list : (es : Exprs) (x e : Expr) → ListFacts (further es x) → WholeRead e → ListFacts (further (further es x) e)
next_in_list es x e before_read read tested k shape formed from =
    let before = before_read tested k shape formed.0 from in
    let inside = within k (list shape (further es x)) in
    let whole = read tested inside (wanting first) inside (first_begins tested inside refl)
    (inner_settled k (list shape (further es x)) (suc k.depth) (never_list shape (further es x))) formed.1 (suc (after from (exprs_pieces (further es x)))) in
    record {
      before = further es x;
      level = whole.level;
      last = whole.last;
      same = ap (further (further es x)) whole.same;
      runs = runs_and (exprs_pieces (further es x)) (sign mark.Comma ∷ expr_pieces e) (exprs_deep _ (further es x))
          (at (leveled inside whole.level) (expressed whole.last)) before.runs
          (runs_then (sign mark.Comma ∷ []) (expr_pieces e) refl
          (sign_runs mark.Comma
          (steps _ _ _ (ap (λ z. Ok (at (within k (list shape z)) (wanting first) (suc (after from (exprs_pieces (further es x)))))) before.same)))
          whole.runs);
    }

pub list_operand : (shape : Shape) (es : Exprs) → ListFacts es → OperandRead (tree.list shape es)
list_operand shape no_expr facts tested k begin kept spot b formed from =
    after_word (name.List shape) (sign mark.OpenSquare ∷ sign mark.CloseSquare ∷ []) _ (after_operand kept (tree.list shape no_expr))
    (b.funs.names (name.List shape) from ∙ if_true (may_begin_operand (core kept from) spot) _ _ (may_begin from b))
    (runs_then (sign mark.OpenSquare ∷ []) (sign mark.CloseSquare ∷ []) refl
    (sign_runs mark.OpenSquare (steps _ _ _ refl))
    (sign_runs mark.CloseSquare (steps _ _ _ (operand_is kept (suc (suc from)) (tree.list shape no_expr)))))
list_operand shape (further es e) facts tested k begin kept spot b formed from =
    let read = facts tested kept shape formed (suc (suc from)) in
    after_word (name.List shape) (sign mark.OpenSquare ∷ (exprs_pieces (further es e) ++ sign mark.CloseSquare ∷ [])) _
    (after_operand kept (tree.list shape (further es e)))
    (b.funs.names (name.List shape) from ∙ if_true (may_begin_operand (core kept from) spot) _ _ (may_begin from b))
    (runs_then (sign mark.OpenSquare ∷ []) (exprs_pieces (further es e) ++ sign mark.CloseSquare ∷ []) refl
    (sign_runs mark.OpenSquare (steps _ _ _ refl))
    (runs_and (exprs_pieces (further es e)) (sign mark.CloseSquare ∷ []) (exprs_deep _ (further es e))
    (after_operand kept (tree.list shape (further es e))) read.runs
    (sign_runs mark.CloseSquare
    (steps _ _ _ (ap (λ z. operand (core kept (after (suc (suc from)) (exprs_pieces (further es e)))) (tree.list shape z)) read.same
    ∙ operand_is kept _ (tree.list shape (further es e)))))))

-- ---- `timecat`
-- inside its `[`, after the last of some parts that are not none
abbrev pub PartsFacts : Parts → Type 0
PartsFacts no_part = Unit {0}
PartsFacts (part ps w e) =
    (tested : Bool) (k : Kept) → FormedParts (part ps w e) → (from : ℕ)
    → Runs tested from (suc k.depth) (at (within k (timecat no_part)) parts_open from) (parts_pieces (part ps w e))
    (at (within k (timecat (part ps w e))) part_read (after from (parts_pieces (part ps w e))))

-- a part after those before it
part_runs :
    (tested : Bool) (k : Kept) (ps : Parts) (w : Number) (e : Expr) (p : Stage) → WholeRead e → Formed e →
    ((m : ℕ) → step tested (at (within k (timecat ps)) p m) (token.mark mark.OpenRound)
    ≡ opened_to tested (core (within k (timecat ps)) m) unweighed weighing) → (from : ℕ) →
    Runs tested from (suc k.depth) (at (within k (timecat ps)) p from) (sign mark.OpenRound ∷ rule (Mini BadFactor) (is_weight w) ∷ numeral w ∷ sign mark.Comma
    ∷ (expr_pieces e ++ sign mark.CloseRound ∷ []))
    (at (within k (timecat (part ps w e))) part_read (suc (after (suc (suc (suc from))) (expr_pieces e))))
part_runs tested k ps w e p read formed opens from =
    let outside = within k (timecat ps) in
    let inside = within outside (weighed w) in
    let whole = read tested inside (wanting first) inside (first_begins tested inside refl)
    (inner_settled outside (weighed w) (suc (suc k.depth)) never) formed (suc (suc (suc from))) in
    runs_then (sign mark.OpenRound ∷ []) (rule (Mini BadFactor) (is_weight w) ∷ numeral w ∷ sign mark.Comma ∷ (expr_pieces e ++ sign mark.CloseRound ∷ [])) refl
    (sign_runs mark.OpenRound (opens from))
    (runs_then (rule (Mini BadFactor) (is_weight w) ∷ numeral w ∷ []) (sign mark.Comma ∷ (expr_pieces e ++ sign mark.CloseRound ∷ [])) refl
    (runs_token (rule (Mini BadFactor) (is_weight w) ∷ numeral w ∷ []) (number w) refl (steps _ _ _ refl))
    (runs_then (sign mark.Comma ∷ []) (expr_pieces e ++ sign mark.CloseRound ∷ []) refl
    (sign_runs mark.Comma (steps _ _ _ refl))
    (runs_then (expr_pieces e) (sign mark.CloseRound ∷ []) (expr_deep _ e) whole.runs
    (sign_runs mark.CloseRound
    (steps _ _ _ (ap (λ z. Ok (at (within k (timecat (part ps w z))) part_read (suc (after (suc (suc (suc from))) (expr_pieces e))))) whole.same))))))
  where
    never : (s : Spot) → weighed w ≡ constant s → ⊥
    never s e = cc

pub parts_operand_none : OperandRead (tree.timecat no_part)
parts_operand_none tested k begin kept spot b formed from =
    after_word name.Timecat (sign mark.OpenSquare ∷ sign mark.CloseSquare ∷ []) _ (after_operand kept (tree.timecat no_part))
    (b.funs.names name.Timecat from ∙ if_true (may_begin_operand (core kept from) spot) _ _ (may_begin from b))
    (runs_then (sign mark.OpenSquare ∷ []) (sign mark.CloseSquare ∷ []) refl
    (sign_runs mark.OpenSquare (steps _ _ _ refl))
    (sign_runs mark.CloseSquare (steps _ _ _ (operand_is kept (suc (suc from)) (tree.timecat no_part)))))

pub parts_operand : (ps : Parts) (w : Number) (e : Expr) → PartsFacts (part ps w e) → OperandRead (tree.timecat (part ps w e))
parts_operand ps w e facts tested k begin kept spot b formed from =
    after_word name.Timecat (sign mark.OpenSquare ∷ (parts_pieces (part ps w e) ++ sign mark.CloseSquare ∷ [])) _
    (after_operand kept (tree.timecat (part ps w e)))
    (b.funs.names name.Timecat from ∙ if_true (may_begin_operand (core kept from) spot) _ _ (may_begin from b))
    (runs_then (sign mark.OpenSquare ∷ []) (parts_pieces (part ps w e) ++ sign mark.CloseSquare ∷ []) refl
    (sign_runs mark.OpenSquare (steps _ _ _ refl))
    (runs_and (parts_pieces (part ps w e)) (sign mark.CloseSquare ∷ []) (parts_deep _ (part ps w e)) (after_operand kept (tree.timecat (part ps w e)))
    (facts tested kept formed (suc (suc from))) (sign_runs mark.CloseSquare (steps _ _ _ (operand_is kept _ (tree.timecat (part ps w e)))))))

pub first_part : (w : Number) (e : Expr) → WholeRead e → PartsFacts (part no_part w e)
first_part w e read tested k formed from =
    runs_to (at (within k (timecat (part no_part w e))) part_read) (sym (after-append (suc (suc (suc from))) (expr_pieces e) (sign mark.CloseRound ∷ [])))
    (part_runs tested k no_part w e parts_open read formed.1 (λ m. steps _ _ _ refl) from)

pub next_part : (ps : Parts) (v : Number) (x : Expr) (w : Number) (e : Expr) → PartsFacts (part ps v x) → WholeRead e → PartsFacts (part (part ps v x) w e)
next_part ps v x w e before read tested k formed from =
    let there = after from (parts_pieces (part ps v x)) in
    let here = suc there in
    runs_and (parts_pieces (part ps v x)) (sign mark.Comma ∷ sign mark.OpenRound ∷ rule (Mini BadFactor) (is_weight w) ∷ numeral w ∷ sign mark.Comma
    ∷ (expr_pieces e ++ sign mark.CloseRound ∷ [])) (parts_deep _ (part ps v x)) (at (within k (timecat (part (part ps v x) w e))) part_read)
    (before tested k formed.0 from)
    (runs_then (sign mark.Comma ∷ []) (sign mark.OpenRound ∷ rule (Mini BadFactor) (is_weight w) ∷ numeral w ∷ sign mark.Comma
    ∷ (expr_pieces e ++ sign mark.CloseRound ∷ [])) refl (sign_runs mark.Comma (steps _ _ _ refl))
    (runs_to (at (within k (timecat (part (part ps v x) w e))) part_read)
    (sym (after-append (suc (suc (suc here))) (expr_pieces e) (sign mark.CloseRound ∷ [])))
    (part_runs tested k (part ps v x) w e part_wanted read formed.1 (λ m. steps _ _ _ refl) here)))
