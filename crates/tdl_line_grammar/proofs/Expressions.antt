-- How the machine reads expressions, from how it reads what is in them.
use Rattle.std.specs.Prelude.{if◌then◌else◌, ◌&&◌, not, IsTrue}
use Rattle.std.proofs.Common.{◌≡◌, ℕ, suc, inl, inr, Bool, true, false, Ok, List, [], ◌∷◌, ◌++◌, refl, ap, sym, ◌∙◌, subst, append_assoc}
use Rattle.tdl_grammar.specs.Machine.{all_checked}
use Rattle.tdl_control.specs.declared.keys.Key.{Key}
use Rattle.tdl_control.specs.Key.{takes_word}
use Rattle.tdl_mini_tree.specs.declared.faults.MiniKind.TheVariants.{FloatValue}
use Rattle.tdl_mini_tree.specs.Numbers.{is_whole}
use Rattle.tdl_line_machine.specs.declared.faults.LineKind.TheVariants.{Mini}
use Rattle.tdl_line_machine.specs.declared.names.Name.TheVariants as name
use Rattle.tdl_line_machine.specs.declared.marks.Mark.TheVariants as mark
use Rattle.tdl_command.specs.declared.marks.Operator.{Operator}
use Rattle.tdl_command.specs.declared.marks.Way.{Way}
use Rattle.tdl_line_machine.specs.Tokens.{number}
use Rattle.tdl_line_machine.specs.Tokens as token
use Rattle.tdl_command.specs.Tree as tree
use Rattle.tdl_command.specs.Tree.{Ratio, Setting, Expr, Exprs, no_expr, further, Parts, no_part, part, Fun}
use Rattle.tdl_command.specs.Rules.{kind_of}
use Rattle.tdl_line_machine.specs.Pieces.{reading_rules}
use Rattle.tdl_line_grammar.specs.Spelling.{sign, numeral, rule, setting_pieces, ratio_pieces, expr_pieces}
use Rattle.tdl_line_grammar.specs.Spelling.{fun_pieces}
use Rattle.tdl_line_grammar.specs.Grammar.{FormedSetting}
use Rattle.tdl_line_machine.specs.Pieces.{tests_from}
use Rattle.tdl_line_machine.specs.Machine.States.{Step, Stage, Spot, first, at_operand, after_dot, Pending, applies, joins, calls, shifts, Bracketed, anything}
use Rattle.tdl_line_machine.specs.Machine.States.{expr_or_number, fun_or_number, round, section, constant, setting, list, timecat, unweighed, weighed, opening}
use Rattle.tdl_line_machine.specs.Machine.States.{wanting, named}
use Rattle.tdl_line_machine.specs.Machine.States.{shifted, expressed, keyed}
use Rattle.tdl_line_machine.specs.Machine.Expressions.{may_begin_ratio, may_begin_operand, round_at, operand, applied, expr_hole}
use Rattle.tdl_line_machine.specs.Machine.Open.{has_exprs, round_has_exprs}
use Rattle.tdl_line_machine.specs.Machine.States.{reading}
use Rattle.tdl_line_machine.specs.Machine.States.{argument, fun_after, Hole, measure, bounds, bound}
use Rattle.tdl_line_machine.specs.Machine.Expressions.{with_pending}
use Rattle.tdl_line_grammar.proofs.Running.{step, steps, Runs, runs_token, runs_then, runs_and, runs_to, after}
use Rattle.tdl_line_grammar.proofs.Balanced.{expr_deep, fun_deep, shift_deep}
use Rattle.tdl_line_grammar.proofs.Kept.{Kept, core, at, leveled, pending, inner, within, after_made, after_joined, after_operand, operand_is}
use Rattle.tdl_line_grammar.proofs.Leaves.{if_true, sign_runs, word_runs, text_runs, text_after}
use Rattle.tdl_line_grammar.proofs.Facts.{Begins, first_begins, operand_begins, opening_begins, named_begins, shifted_begins, shift_runs, NamedRead}
use Rattle.tdl_line_grammar.proofs.Facts.{AfterFun, WholeFunRead, IsBase, Settled, OperandRead, JoinedRead, WholeRead}
use Rattle.tdl_line_grammar.proofs.Functions.{after_word}

pub untrue : false ≡ true → ⊥
untrue e = cc

if_false : (b : Bool) (x y : Step) → IsTrue (not b) → (if b then x else y) ≡ y
if_false true x y h = cc
if_false false x y h = refl

both : (a b : Bool) → IsTrue a → IsTrue b → IsTrue (a && b)
both true b h k = k
both false b h k = h

-- an operand may begin here
pub may_begin : {tested : Bool} {k kept : Kept} {begin : Stage} {spot : Spot} (n : ℕ) → Begins tested k begin kept spot
    → IsTrue (may_begin_operand (core kept n) spot)
may_begin {tested} {k} {kept} {begin} {spot} n b = both (may_begin_ratio spot) (has_exprs kept.frames) b.ratios.may b.exprs

-- ---- where nothing waits
pub settled_level : (k : Kept) → Settled k → (e : Expr) (n : ℕ) → after_operand k e n ≡ at k (expressed e) n
settled_level k s e n = by_level k.level s.base refl
  where
    by_level : (level : List Pending) → IsBase level → k.level ≡ level → after_operand k e n ≡ at k (expressed e) n
    by_level [] base same =
        ap (λ l. after_joined (leveled k (with_pending l e).level) k.frames (with_pending l e).expr n) same ∙ s.open_ [] e n
        ∙ ap (λ l. at (leveled k l) (expressed e) n) (sym same)
    by_level (applies f ∷ level) base same =
        ap (λ l. after_joined (leveled k (with_pending l e).level) k.frames (with_pending l e).expr n) same ∙ s.open_ (applies f ∷ level) e n
        ∙ ap (λ l. at (leveled k l) (expressed e) n) (sym same)
    by_level (joins a operator ∷ level) base same = absurd base
    by_level (calls f ∷ level) base same = absurd base
    by_level (shifts r way ∷ level) base same = absurd base

-- in a bracket, and at the top
pub inner_settled : (k : Kept) (hole : Hole) (depth : ℕ) → ((spot : Spot) → hole ≡ constant spot → ⊥) → Settled (inner k hole depth)
inner_settled k (constant spot) depth h = absurd (h spot refl)
inner_settled k (round r) depth h = record { base = tt; open_ = λ level e n. refl }
inner_settled k (section r operator) depth h = record { base = tt; open_ = λ level e n. refl }
inner_settled k (measure spot call) depth h = record { base = tt; open_ = λ level e n. refl }
inner_settled k (bounds spot) depth h = record { base = tt; open_ = λ level e n. refl }
inner_settled k (bound from) depth h = record { base = tt; open_ = λ level e n. refl }
inner_settled k (setting key) depth h = record { base = tt; open_ = λ level e n. refl }
inner_settled k (list shape es) depth h = record { base = tt; open_ = λ level e n. refl }
inner_settled k (timecat ps) depth h = record { base = tt; open_ = λ level e n. refl }
inner_settled k unweighed depth h = record { base = tt; open_ = λ level e n. refl }
inner_settled k (weighed w) depth h = record { base = tt; open_ = λ level e n. refl }

-- ---- operands
pub silence_operand : OperandRead tree.silence
silence_operand tested k begin kept spot b formed from =
    word_runs name.Silence (b.funs.names name.Silence from ∙ if_true (may_begin_operand (core kept from) spot) _ _ (may_begin from b)
    ∙ operand_is kept from tree.silence)

setting_runs :
    (tested : Bool) (kept : Kept) (key : Key) (s : Setting) → FormedSetting key s → (from : ℕ) →
    Runs tested from kept.depth (at kept (keyed key) from) (setting_pieces (kind_of key) s)
    (after_operand kept (tree.control key s) (after from (setting_pieces (kind_of key) s)))
setting_runs tested kept key (tree.quoted r) formed from =
    runs_to (after_operand kept (tree.control key (tree.quoted r))) (sym (text_after (kind_of key) r from))
    (text_runs (kind_of key) r (λ readings same. steps _ _ _
    (ap (λ x. reading tested (core kept from) x (operand (core kept from) (tree.control key (tree.quoted x)))) same
    ∙ ap (all_checked tested (tests_from from (reading_rules r))) (operand_is kept from (tree.control key (tree.quoted r))))))
setting_runs tested kept key (tree.numeral n) formed from =
    runs_token (rule (Mini FloatValue) (is_whole n) ∷ numeral n ∷ []) (number n) refl
    (steps _ _ _ (if_false (takes_word key && is_whole n) _ _ formed
    ∙ ap (all_checked tested (tests_from from (rule (Mini FloatValue) (is_whole n) ∷ []))) (operand_is kept from (tree.control key (tree.numeral n)))))
setting_runs tested kept key (tree.negative n) formed from =
    let inside = within kept (setting key) in
    runs_then (sign mark.OpenRound ∷ []) (sign mark.Minus ∷ rule (Mini FloatValue) (is_whole n) ∷ numeral n ∷ sign mark.CloseRound ∷ []) refl
    (sign_runs mark.OpenRound (steps _ _ _ (if_false (takes_word key) _ _ formed)))
    (runs_then (sign mark.Minus ∷ []) (rule (Mini FloatValue) (is_whole n) ∷ numeral n ∷ sign mark.CloseRound ∷ []) refl
    (sign_runs mark.Minus (steps _ _ _ refl))
    (runs_then (rule (Mini FloatValue) (is_whole n) ∷ numeral n ∷ []) (sign mark.CloseRound ∷ []) refl
    (runs_token (rule (Mini FloatValue) (is_whole n) ∷ numeral n ∷ []) (number n) refl (steps _ _ _ refl))
    (sign_runs mark.CloseRound (steps _ _ _ (operand_is kept (suc (suc (suc from))) (tree.control key (tree.negative n)))))))

pub control_operand : (key : Key) (s : Setting) → OperandRead (tree.control key s)
control_operand key s tested k begin kept spot b formed from =
    after_word (name.Key key) (setting_pieces (kind_of key) s) _ (after_operand kept (tree.control key s))
    (b.funs.names (name.Key key) from ∙ if_true (may_begin_operand (core kept from) spot) _ _ (may_begin from b))
    (setting_runs tested kept key s formed (suc from))

-- what a round bracket with an expression in it closes to
expr_round : (k : Kept) (n : ℕ) (t : token.Tok) (e : Expr) (r : Bracketed) → round_has_exprs r ≡ true
    → expr_hole t e (core k n) (round r) ≡ operand (core k n) (tree.inside e)
expr_round k n t e anything h = refl
expr_round k n t e expr_or_number h = refl
expr_round k n t e fun_or_number h = cc
expr_round k n t e (fun_after g) h = cc
expr_round k n t e (argument spot call) h = cc

chosen_exprs : (b : Bool) → IsTrue b → round_has_exprs (if b then anything else fun_or_number) ≡ true
chosen_exprs true h = refl
chosen_exprs false h = h

spot_exprs : {tested : Bool} {k kept : Kept} {begin : Stage} {spot : Spot} (n : ℕ) → Begins tested k begin kept spot
    → round_has_exprs (round_at (core kept n) spot) ≡ true
spot_exprs {tested} {k} {kept} {begin} {spot} n b = by_spot spot b.ratios.may
  where
    by_spot : (spot : Spot) → IsTrue (may_begin_ratio spot) → round_has_exprs (round_at (core kept n) spot) ≡ true
    by_spot first h = chosen_exprs (has_exprs kept.frames) b.exprs
    by_spot at_operand h = refl
    by_spot (after_dot g) h = h

is_true : (b : Bool) → b ≡ true → IsTrue b
is_true true e = refl
is_true false e = cc

pub inside_operand : (e : Expr) → WholeRead e → OperandRead (tree.inside e)
inside_operand e read tested k begin kept spot b formed from =
    let r = round_at (core kept from) spot in
    let exprs = spot_exprs from b in
    let inside = within kept (round r) in
    let whole = read tested inside opening inside (opening_begins tested inside (is_true (round_has_exprs r) exprs))
    (inner_settled kept (round r) (suc kept.depth) (λ s e. round_constant r s e))
    formed (suc from) in
    runs_then (sign mark.OpenRound ∷ []) (expr_pieces e ++ sign mark.CloseRound ∷ []) refl
    (sign_runs mark.OpenRound (b.funs.opens from))
    (runs_and (expr_pieces e) (sign mark.CloseRound ∷ []) (expr_deep _ e) (after_operand kept (tree.inside e)) whole.runs
    (sign_runs mark.CloseRound
    (steps _ _ _ (expr_round kept _ (token.mark mark.CloseRound) (applied whole.level whole.last) r exprs
    ∙ ap (λ x. operand (core kept (after (suc from) (expr_pieces e))) (tree.inside x)) whole.same
    ∙ operand_is kept _ (tree.inside e)))))
  where
    round_constant : (r : Bracketed) (s : Spot) → round r ≡ constant s → ⊥
    round_constant r s e = cc

pub shifted_operand : (r : Ratio) (way : Way) (e : Expr) → OperandRead e → OperandRead (tree.shifted r way e)
shifted_operand r way e read tested k begin kept spot b formed from =
    subst (λ a. Runs tested from kept.depth (at k begin from) a (after_operand kept (tree.shifted r way e) (after from a)))
    (append_assoc (ratio_pieces r) (sign (mark.Shift way) ∷ []) (expr_pieces e))
    (runs_and (ratio_pieces r ++ sign (mark.Shift way) ∷ []) (expr_pieces e) (shift_deep _ r way) (after_operand kept (tree.shifted r way e))
    (shift_runs tested k begin kept spot b.ratios r way from)
    (read tested kept (shifted r way) (pending kept (shifts r way)) at_operand (shifted_begins tested kept r way b.exprs) formed.1 _))

pub called_operand : (f : Fun) (e : Expr) → NamedRead f → OperandRead e → OperandRead (tree.called f e)
called_operand f e name_read read tested k begin kept spot b formed from =
    runs_and (fun_pieces f) (expr_pieces e) (fun_deep _ f) (after_operand kept (tree.called f e))
    (name_read tested k begin kept spot b.funs formed.1 from) (by_spot spot b.ratios.may)
  where
    by_spot : (spot : Spot) → IsTrue (may_begin_ratio spot)
        → Runs tested (after from (fun_pieces f)) kept.depth (after_made kept spot f (after from (fun_pieces f))) (expr_pieces e)
        (after_operand kept (tree.called f e) (after (after from (fun_pieces f)) (expr_pieces e)))
    by_spot first h = read tested kept (named f) (pending kept (calls f)) at_operand (named_begins tested kept f b.exprs) formed.3 _
    by_spot at_operand h =
        read tested (pending kept (calls f)) (wanting at_operand) (pending kept (calls f)) at_operand
        (operand_begins tested (pending kept (calls f)) b.exprs) formed.3 _
    by_spot (after_dot g) h = absurd (untrue h)

-- ---- operands with operators between them
pub operand_joined : (e : Expr) → OperandRead e → JoinedRead e
operand_joined e read tested k begin kept spot b s formed from =
    subst (λ x. Runs tested from kept.depth (at k begin from) (expr_pieces e) x) (settled_level kept s e _) (read tested k begin kept spot b formed from)

pub joined_joined : (a : Expr) (operator : Operator) (b : Expr) → JoinedRead a → OperandRead b → JoinedRead (tree.joined a operator b)
joined_joined x operator y left right tested k begin kept spot b s formed from =
    let beside = pending kept (joins x operator) in
    let there = suc (after from (expr_pieces x)) in
    runs_and (expr_pieces x) (sign (mark.Operator operator) ∷ expr_pieces y) (expr_deep _ x) (at kept (expressed (tree.joined x operator y)))
    (left tested k begin kept spot b s formed.1 from)
    (runs_then (sign (mark.Operator operator) ∷ []) (expr_pieces y) refl (sign_runs (mark.Operator operator) (steps _ _ _ refl))
    (subst (λ z. Runs tested there beside.depth (at beside (wanting at_operand) there) (expr_pieces y) z)
    (s.open_ kept.level (tree.joined x operator y) (after there (expr_pieces y)))
    (right tested beside (wanting at_operand) beside at_operand (operand_begins tested beside b.exprs) formed.3 there)))

pub joined_whole : (e : Expr) → JoinedRead e → WholeRead e
joined_whole e read tested k begin kept b s formed from = record {
  level = kept.level;
  last = e;
  same = refl;
  runs = read tested k begin kept first b s formed from;
}

-- ---- a function, `$`, and an expression
dollar_is :
    (tested : Bool) (k : Kept) (f : Fun) (p : Stage) (n : ℕ) → AfterFun f p → IsTrue (has_exprs k.frames) →
    step tested (at k p n) (token.mark mark.Dollar) ≡ Ok (at (pending k (applies f)) (wanting first) (suc n))
dollar_is tested k f p n (inl same) h = ap (λ q. step tested (at k q n) (token.mark mark.Dollar)) same ∙ steps _ _ _ (if_true (has_exprs k.frames) _ _ h)
dollar_is tested k f p n (inr same) h = ap (λ q. step tested (at k q n) (token.mark mark.Dollar)) same ∙ steps _ _ _ (if_true (has_exprs k.frames) _ _ h)

pub applied_whole : (f : Fun) (e : Expr) → WholeFunRead f → WholeRead e → WholeRead (tree.applied f e)
applied_whole f e fun_read read tested k begin kept b s formed from =
    let fun = fun_read tested k begin kept b.funs formed.0 from in
    let beside = pending kept (applies f) in
    let rest = read tested beside (wanting first) beside (first_begins tested beside b.exprs) (record { base = tt; open_ = s.open_ }) formed.1
    (suc (after from (fun_pieces f))) in record {
      level = rest.level;
      last = rest.last;
      same = rest.same;
      runs = runs_and (fun_pieces f) (sign mark.Dollar ∷ expr_pieces e) (fun_deep _ f) (at (leveled kept rest.level) (expressed rest.last)) fun.runs
          (runs_then (sign mark.Dollar ∷ []) (expr_pieces e) refl (sign_runs mark.Dollar (dollar_is tested kept f fun.stage _ fun.is b.exprs)) rest.runs);
    }

-- ---- functions with expressions in them
pub const_named : (e : Expr) → OperandRead e → NamedRead (tree.const e)
const_named e read tested k begin kept spot names formed from =
    let inside = inner kept (constant spot) kept.depth in
    after_word name.Const (expr_pieces e) _ (after_made kept spot (tree.const e)) (names.names name.Const from)
    (read tested inside (wanting at_operand) inside at_operand (operand_begins tested inside refl) formed.1 (suc from))
