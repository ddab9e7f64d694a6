-- What is to be shown of functions and expressions: from where they begin the machine reads them.
--     Names, Measures, Begins      a stage where a function, a ratio, an expression may begin, with what is kept
--     FunFacts, ExprFacts          how functions and expressions are read
use Rattle.std.specs.Prelude.{if◌then◌else◌, IsTrue}
use Rattle.std.proofs.Common.{◌≡◌, ℕ, suc, ◌⊎◌, Bool, true, false, Ok, List, [], ◌∷◌, ◌++◌, refl, ap, sym, ◌∙◌, subst}
use Rattle.tdl_grammar.specs.Machine.{all_checked}
use Rattle.tdl_mini_tree.specs.declared.leaves.Kind.{Kind}
use Rattle.tdl_mini_tree.specs.declared.leaves.Kind.TheVariants.{Ratio as Ratios}
use Rattle.tdl_mini_tree.specs.declared.leaves.Number.{Number}
use Rattle.tdl_line_machine.specs.declared.names.Name.{Name}
use Rattle.tdl_line_machine.specs.declared.marks.Mark.TheVariants as mark
use Rattle.tdl_command.specs.declared.marks.Way.{Way}
use Rattle.tdl_command.specs.declared.tree.Plain.{Plain}
use Rattle.tdl_command.specs.declared.tree.Plain.TheVariants.{Bare, Signed, Quotient}
use Rattle.tdl_line_machine.specs.Tokens.{quoted}
use Rattle.tdl_line_machine.specs.Tokens as token
use Rattle.tdl_command.specs.Tree as tree
use Rattle.tdl_command.specs.Tree.{Ratio, Expr, Fun}
use Rattle.tdl_mini_tree.specs.Reading.{Reading}
use Rattle.tdl_line_machine.specs.Pieces.{Piece}
use Rattle.tdl_line_grammar.specs.Spelling.{sign, number_pieces, ratio_pieces, expr_pieces, fun_pieces}
use Rattle.tdl_line_grammar.specs.Grammar.{Formed, FormedFun, is_operand, is_joined, is_named, is_argument, is_single}
use Rattle.tdl_line_machine.specs.Pieces.{tests_from}
use Rattle.tdl_line_machine.specs.Machine.States.{Stage, Spot, first, at_operand, after_dot, FunCall, Pending, applies, joins, calls, shifts, Bracketed}
use Rattle.tdl_line_machine.specs.Machine.States.{anything}
use Rattle.tdl_line_machine.specs.Machine.Expressions.{taken_name}
use Rattle.tdl_line_machine.specs.Machine.Open.{opened_to}
use Rattle.tdl_line_machine.specs.Machine.States.{fun_or_number, expr_or_number, fun_after, argument, round, opening, opened, wanting}
use Rattle.tdl_line_machine.specs.Machine.States.{list_open, named}
use Rattle.tdl_line_machine.specs.Machine.Expressions.{may_begin_ratio, round_at}
use Rattle.tdl_line_machine.specs.Machine.Open.{has_exprs, round_has_funs}
use Rattle.tdl_line_machine.specs.Machine.States.{chained, shifted, measured, expressed, asking_fun}
use Rattle.tdl_line_machine.specs.Machine.Open.{round_has_numbers}
use Rattle.tdl_line_machine.specs.Machine.Arguments.{number_hole}
use Rattle.tdl_line_machine.specs.Machine.Expressions.{wanted, applied}
use Rattle.tdl_line_machine.specs.Machine.Calls.{with_fun}
use Rattle.tdl_line_machine.specs.Machine.States.{reading, going}
use Rattle.tdl_line_grammar.proofs.Running.{step, steps, Runs, runs_then, runs_and, after, deep}
use Rattle.tdl_line_grammar.proofs.Balanced.{plain_deep, ratio_deep}
use Rattle.tdl_line_grammar.proofs.Kept.{Kept, core, at, leveled, pending, within, after_made, after_round, after_joined, after_operand}
use Rattle.tdl_line_grammar.proofs.Leaves.{if_true, sign_runs, number_runs, text_runs, text_after, HasBrackets, in_brackets, brackets_run, opening_digits}

-- ---- where something begins
pub record Names (tested : Bool) (k : Kept) (begin : Stage) (kept : Kept) (spot : Spot) : Type 0 where
  pub names : (n : Name) (m : ℕ) → step tested (at k begin m) (token.name n) ≡ taken_name (core kept m) (token.name n) spot n
  pub opens : (m : ℕ) → step tested (at k begin m) (token.mark mark.OpenRound)
      ≡ opened_to tested (core kept m) (round (round_at (core kept m) spot)) opening

pub record Measures (tested : Bool) (k : Kept) (begin : Stage) (kept : Kept) (spot : Spot) : Type 0 where
  pub may : IsTrue (may_begin_ratio spot)
  pub opens : (m : ℕ) → step tested (at k begin m) (token.mark mark.OpenRound)
      ≡ opened_to tested (core kept m) (round (round_at (core kept m) spot)) opening
  pub texts : (readings : Kind → Reading) (m : ℕ) → step tested (at k begin m) (quoted readings)
      ≡ reading tested (core kept m) (readings Ratios) (going (core kept m) (measured (tree.measured (readings Ratios))))
  pub bares : (from : ℕ) (n : Number) (way : Way) → Runs tested from kept.depth (at k begin from) (number_pieces n ++ sign (mark.Shift way) ∷ [])
      (at kept (shifted (tree.plain (Bare n)) way) (suc (suc from)))

pub record Begins (tested : Bool) (k : Kept) (begin : Stage) (kept : Kept) (spot : Spot) : Type 0 where
  pub funs : Names tested k begin kept spot
  pub ratios : Measures tested k begin kept spot
  pub exprs : IsTrue (has_exprs kept.frames)

-- a ratio and `<~` or `~>`
abbrev pub Shifts : Bool → Kept → Stage → Kept → Ratio → Way → ℕ → Type 0
Shifts tested k begin kept r way from =
    Runs tested from kept.depth (at k begin from) (ratio_pieces r ++ sign (mark.Shift way) ∷ [])
    (at kept (shifted r way) (after from (ratio_pieces r ++ sign (mark.Shift way) ∷ [])))

-- ---- functions
abbrev pub AfterFun : Fun → Stage → Type 0
AfterFun f p = (p ≡ named f) ⊎ (p ≡ chained f)

pub record FunRead (tested : Bool) (k : Kept) (begin : Stage) (kept : Kept) (f : Fun) (from : ℕ) : Type 0 where
  pub stage : Stage
  pub is : AfterFun f stage
  pub runs : Runs tested from kept.depth (at k begin from) (fun_pieces f) (at kept stage (after from (fun_pieces f)))

-- what stands behind the `(` of a function in brackets
abbrev pub paren_tail : Fun → List Piece
paren_tail (tree.paren f) = fun_pieces f ++ sign mark.CloseRound ∷ []
paren_tail (tree.section operator e) = sign (mark.Operator operator) ∷ (expr_pieces e ++ sign mark.CloseRound ∷ [])
paren_tail (tree.shift r way) = ratio_pieces r ++ sign (mark.Shift way) ∷ sign mark.CloseRound ∷ []
paren_tail _ = []

abbrev pub NamedRead : Fun → Type 0
NamedRead f =
    (tested : Bool) (k : Kept) (begin : Stage) (kept : Kept) (spot : Spot) → Names tested k begin kept spot → FormedFun f → (from : ℕ)
    → Runs tested from kept.depth (at k begin from) (fun_pieces f) (after_made kept spot f (after from (fun_pieces f)))

abbrev pub ArgumentRead : Fun → Type 0
ArgumentRead f =
    (tested : Bool) (k : Kept) (spot : Spot) (call : FunCall) → FormedFun f → (from : ℕ)
    → Runs tested from k.depth (at k (asking_fun spot call) from) (fun_pieces f) (after_made k spot (with_fun call f) (after from (fun_pieces f)))

abbrev pub RoundRead : Fun → Type 0
RoundRead f =
    (tested : Bool) (k : Kept) (r : Bracketed) → round_has_funs r ≡ true → FormedFun f → (from : ℕ)
    → Runs tested from (suc k.depth) (at (within k (round r)) opening from) (paren_tail f) (after_round k r f (after from (paren_tail f)))

abbrev pub WholeFunRead : Fun → Type 0
WholeFunRead f =
    (tested : Bool) (k : Kept) (begin : Stage) (kept : Kept) → Names tested k begin kept first → FormedFun f → (from : ℕ)
    → FunRead tested k begin kept f from

-- after a function and a `.`
abbrev pub SingleRead : Fun → Type 0
SingleRead f =
    (tested : Bool) (k : Kept) (next : Fun) → FormedFun f → (from : ℕ)
    → Runs tested from k.depth (at k (wanting (after_dot next)) from) (fun_pieces f) (at k (chained (tree.chain next f)) (after from (fun_pieces f)))

abbrev pub NameFact : Fun → Type 0
NameFact f = IsTrue (is_named f) → NamedRead f

abbrev pub ArgumentFact : Fun → Type 0
ArgumentFact f = IsTrue (is_argument f) → ArgumentRead f

pub record FunFacts (f : Fun) : Type 0 where
  pub by_name : NameFact f
  pub as_argument : ArgumentFact f
  pub as_single : IsTrue (is_single f) → SingleRead f
  pub whole : WholeFunRead f

-- ---- expressions
-- an operand is whole, and no `const` waits for it
abbrev pub IsBase : List Pending → Type 0
IsBase [] = Unit {0}
IsBase (applies f ∷ level) = Unit {0}
IsBase (joins a operator ∷ level) = ⊥
IsBase (calls f ∷ level) = ⊥
IsBase (shifts r way ∷ level) = ⊥

pub record Settled (k : Kept) : Type 0 where
  pub base : IsBase k.level
  pub open_ : (level : List Pending) (e : Expr) (n : ℕ) → after_joined (leveled k level) k.frames e n ≡ at (leveled k level) (expressed e) n

abbrev pub OperandRead : Expr → Type 0
OperandRead e =
    (tested : Bool) (k : Kept) (begin : Stage) (kept : Kept) (spot : Spot) → Begins tested k begin kept spot → Formed e → (from : ℕ)
    → Runs tested from kept.depth (at k begin from) (expr_pieces e) (after_operand kept e (after from (expr_pieces e)))

abbrev pub JoinedRead : Expr → Type 0
JoinedRead e =
    (tested : Bool) (k : Kept) (begin : Stage) (kept : Kept) (spot : Spot) → Begins tested k begin kept spot → Settled kept → Formed e → (from : ℕ)
    → Runs tested from kept.depth (at k begin from) (expr_pieces e) (at kept (expressed e) (after from (expr_pieces e)))

-- an expression is read, but that functions and `$` before it wait
pub record ExprRead (tested : Bool) (k : Kept) (begin : Stage) (kept : Kept) (e : Expr) (from : ℕ) : Type 0 where
  pub level : List Pending
  pub last : Expr
  pub same : applied level last ≡ applied kept.level e
  pub runs : Runs tested from kept.depth (at k begin from) (expr_pieces e) (at (leveled kept level) (expressed last) (after from (expr_pieces e)))

abbrev pub WholeRead : Expr → Type 0
WholeRead e =
    (tested : Bool) (k : Kept) (begin : Stage) (kept : Kept) → Begins tested k begin kept first → Settled kept → Formed e → (from : ℕ)
    → ExprRead tested k begin kept e from

pub record ExprFacts (e : Expr) : Type 0 where
  pub as_operand : IsTrue (is_operand e) → OperandRead e
  pub as_joined : IsTrue (is_joined e) → JoinedRead e
  pub whole : WholeRead e

-- ---- stages where something begins
pub wanting_names : (tested : Bool) (k : Kept) (spot : Spot) → Names tested k (wanting spot) k spot
wanting_names tested k spot = record { names = λ n m. steps _ _ _ refl; opens = λ m. steps _ _ _ refl }

pub opening_names : (tested : Bool) (k : Kept) → Names tested k opening k first
opening_names tested k = record { names = λ n m. steps _ _ _ refl; opens = λ m. steps _ _ _ refl }

pub list_names : (tested : Bool) (k : Kept) → Names tested k list_open k first
list_names tested k = record { names = λ n m. steps _ _ _ refl; opens = λ m. steps _ _ _ refl }

pub named_names : (tested : Bool) (k : Kept) (f : Fun) → IsTrue (has_exprs k.frames) → Names tested k (named f) (pending k (calls f)) at_operand
named_names tested k f h = record {
  names = λ n m. steps _ _ _ (if_true (has_exprs k.frames) _ _ h);
  opens = λ m. steps _ _ _ (if_true (has_exprs k.frames) _ _ h);
}

pub shifted_names :
    (tested : Bool) (k : Kept) (r : Ratio) (way : Way) → IsTrue (has_exprs k.frames) → Names tested k (shifted r way) (pending k (shifts r way)) at_operand
shifted_names tested k r way h = record {
  names = λ n m. steps _ _ _ (if_true (has_exprs k.frames) _ _ h);
  opens = λ m. steps _ _ _ (if_true (has_exprs k.frames) _ _ h);
}

-- a bare number before `<~` or `~>`, by where the number leads
bare_shift :
    {tested : Bool} {k kept : Kept} {begin : Stage} (p : Stage) (from : ℕ) (n : Number) (way : Way) →
    step tested (at k begin from) (token.number n) ≡ all_checked tested (tests_from from (number_pieces n)) (Ok (at kept p (suc from))) →
    step tested (at kept p (suc from)) (token.mark (mark.Shift way)) ≡ Ok (at kept (shifted (tree.plain (Bare n)) way) (suc (suc from))) →
    Runs tested from kept.depth (at k begin from) (number_pieces n ++ sign (mark.Shift way) ∷ []) (at kept (shifted (tree.plain (Bare n)) way) (suc (suc from)))
bare_shift p from n way h e = runs_then (number_pieces n) (sign (mark.Shift way) ∷ []) refl (number_runs n h) (sign_runs (mark.Shift way) e)

wanting_may : (tested : Bool) (k : Kept) (spot : Spot) → IsTrue (may_begin_ratio spot) → Measures tested k (wanting spot) k spot
wanting_may tested k spot h = record {
  may = h;
  opens = λ m. steps _ _ _ refl;
  texts = λ readings m. steps _ _ _ (if_true (may_begin_ratio spot) _ _ h);
  bares = λ from n way. bare_shift (measured (tree.plain (Bare n))) from n way (steps _ _ _ (if_true (may_begin_ratio spot) _ _ h)) (steps _ _ _ refl);
}

pub opening_measures : (tested : Bool) (k : Kept) → Measures tested k opening k first
opening_measures tested k = record {
  may = refl;
  opens = λ m. steps _ _ _ refl;
  texts = λ readings m. steps _ _ _ refl;
  bares = λ from n way. bare_shift (opened n from) from n way (steps _ _ _ refl) (steps _ _ _ refl);
}

pub list_measures : (tested : Bool) (k : Kept) → Measures tested k list_open k first
list_measures tested k = record {
  may = refl;
  opens = λ m. steps _ _ _ refl;
  texts = λ readings m. steps _ _ _ refl;
  bares = λ from n way. bare_shift (measured (tree.plain (Bare n))) from n way (steps _ _ _ refl) (steps _ _ _ refl);
}

-- an operand begins at a stage after which one may
record Lends (tested : Bool) (k : Kept) (begin : Stage) (kept : Kept) : Type 0 where
  numbers : (n : Number) (m : ℕ) → step tested (at k begin m) (token.number n) ≡ wanted tested (core kept m) (token.number n) at_operand
  texts : (readings : Kind → Reading) (m : ℕ) → step tested (at k begin m) (quoted readings) ≡ wanted tested (core kept m) (quoted readings) at_operand

lent : (tested : Bool) (k kept : Kept) (begin : Stage) → Lends tested k begin kept → Names tested k begin kept at_operand
    → Measures tested k begin kept at_operand
lent tested k kept begin l names = record {
  may = refl;
  opens = names.opens;
  texts = l.texts;
  bares = λ from n way. bare_shift (measured (tree.plain (Bare n))) from n way (l.numbers n from) (steps _ _ _ refl);
}

pub first_begins : (tested : Bool) (k : Kept) → IsTrue (has_exprs k.frames) → Begins tested k (wanting first) k first
first_begins tested k h = record { funs = wanting_names tested k first; ratios = wanting_may tested k first refl; exprs = h }

pub operand_begins : (tested : Bool) (k : Kept) → IsTrue (has_exprs k.frames) → Begins tested k (wanting at_operand) k at_operand
operand_begins tested k h = record { funs = wanting_names tested k at_operand; ratios = wanting_may tested k at_operand refl; exprs = h }

pub opening_begins : (tested : Bool) (k : Kept) → IsTrue (has_exprs k.frames) → Begins tested k opening k first
opening_begins tested k h = record { funs = opening_names tested k; ratios = opening_measures tested k; exprs = h }

pub list_begins : (tested : Bool) (k : Kept) → IsTrue (has_exprs k.frames) → Begins tested k list_open k first
list_begins tested k h = record { funs = list_names tested k; ratios = list_measures tested k; exprs = h }

pub named_begins : (tested : Bool) (k : Kept) (f : Fun) → IsTrue (has_exprs k.frames) → Begins tested k (named f) (pending k (calls f)) at_operand
named_begins tested k f h = record {
  funs = named_names tested k f h;
  ratios = lent tested k (pending k (calls f)) (named f)
      (record { numbers = λ n m. steps _ _ _ (if_true (has_exprs k.frames) _ _ h); texts = λ readings m. steps _ _ _ (if_true (has_exprs k.frames) _ _ h) })
      (named_names tested k f h);
  exprs = h;
}

pub shifted_begins :
    (tested : Bool) (k : Kept) (r : Ratio) (way : Way) → IsTrue (has_exprs k.frames) → Begins tested k (shifted r way) (pending k (shifts r way)) at_operand
shifted_begins tested k r way h = record {
  funs = shifted_names tested k r way h;
  ratios = lent tested k (pending k (shifts r way)) (shifted r way)
      (record { numbers = λ n m. steps _ _ _ (if_true (has_exprs k.frames) _ _ h); texts = λ readings m. steps _ _ _ (if_true (has_exprs k.frames) _ _ h) })
      (shifted_names tested k r way h);
  exprs = h;
}

-- ---- a ratio and `<~` or `~>`
-- a round bracket with a number in it
number_round : (k : Kept) (j : ℕ) (t : token.Tok) (p : Plain) (r : Bracketed) → round_has_numbers r ≡ true → number_hole t p (core k j) (round r)
    ≡ Ok (at k (measured (tree.plain p)) (suc j))
number_round k j t p anything e = refl
number_round k j t p expr_or_number e = refl
number_round k j t p fun_or_number e = refl
number_round k j t p (fun_after g) e = cc
number_round k j t p (argument spot call) e = cc

either_numbers : (b : Bool) → round_has_numbers (if b then anything else fun_or_number) ≡ true
either_numbers true = refl
either_numbers false = refl

spot_numbers : (k : Kept) (m : ℕ) (spot : Spot) → IsTrue (may_begin_ratio spot) → round_has_numbers (round_at (core k m) spot) ≡ true
spot_numbers k m first h = either_numbers (has_exprs k.frames)
spot_numbers k m at_operand h = refl
spot_numbers k m (after_dot g) h = h

is_true : (b : Bool) → b ≡ true → IsTrue b
is_true true e = refl
is_true false e = cc

brackets_deep : (d : ℕ) (p : Plain) → HasBrackets p → deep d (sign mark.OpenRound ∷ in_brackets p) ≡ d
brackets_deep d (Bare n) h = absurd h
brackets_deep d (Signed negative n) h = plain_deep d (Signed negative n)
brackets_deep d (Quotient negative a b) h = plain_deep d (Quotient negative a b)

bracketed_shifts :
    (tested : Bool) (k : Kept) (begin : Stage) (kept : Kept) (spot : Spot) → Measures tested k begin kept spot →
    (from : ℕ) (p : Plain) (way : Way) → HasBrackets p →
    Runs tested from kept.depth (at k begin from) ((sign mark.OpenRound ∷ in_brackets p) ++ sign (mark.Shift way) ∷ [])
    (at kept (shifted (tree.plain p) way) (after from ((sign mark.OpenRound ∷ in_brackets p) ++ sign (mark.Shift way) ∷ [])))
bracketed_shifts tested k begin kept spot h from p way brackets =
    let r = round_at (core kept from) spot in
    let numbers = spot_numbers kept from spot h.may in
    let inside = within kept (round r) in
    runs_and (sign mark.OpenRound ∷ in_brackets p) (sign (mark.Shift way) ∷ []) (brackets_deep _ p brackets) (at kept (shifted (tree.plain p) way))
    (runs_then (sign mark.OpenRound ∷ []) (in_brackets p) refl
    (sign_runs mark.OpenRound (h.opens from))
    (brackets_run tested inside opening (opening_digits tested inside (is_true (round_has_numbers r) numbers))
    (λ m. steps _ _ _ (if_true (round_has_numbers r) _ _ (is_true (round_has_numbers r) numbers)))
    (λ q. at kept (measured (tree.plain q))) (λ q j. number_round kept j (token.mark mark.CloseRound) q r numbers) (suc from) p brackets))
    (sign_runs (mark.Shift way) (steps _ _ _ refl))

pub shift_runs :
    (tested : Bool) (k : Kept) (begin : Stage) (kept : Kept) (spot : Spot) → Measures tested k begin kept spot → (r : Ratio) (way : Way) →
    (from : ℕ) → Shifts tested k begin kept r way from
shift_runs tested k begin kept spot h (tree.plain (Bare n)) way from = h.bares from n way
shift_runs tested k begin kept spot h (tree.plain (Signed negative n)) way from =
    bracketed_shifts tested k begin kept spot h from (Signed negative n) way tt
shift_runs tested k begin kept spot h (tree.plain (Quotient negative a b)) way from =
    bracketed_shifts tested k begin kept spot h from (Quotient negative a b) way tt
shift_runs tested k begin kept spot h (tree.measured r) way from =
    runs_and (ratio_pieces (tree.measured r)) (sign (mark.Shift way) ∷ []) (ratio_deep _ (tree.measured r)) (at kept (shifted (tree.measured r) way))
    (text_runs Ratios r (λ readings same. h.texts readings from
    ∙ ap (λ x. reading tested (core kept from) x (going (core kept from) (measured (tree.measured x)))) same))
    (moved (text_after Ratios r from))
  where
    moved : {n : ℕ} → n ≡ suc from → Runs tested n kept.depth (at kept (measured (tree.measured r)) (suc from)) (sign (mark.Shift way) ∷ [])
        (at kept (shifted (tree.measured r) way) (suc n))
    moved {n} e = moved_to n (sym e)
      where
        moved_to : (n : ℕ) → suc from ≡ n → Runs tested n kept.depth (at kept (measured (tree.measured r)) (suc from)) (sign (mark.Shift way) ∷ [])
            (at kept (shifted (tree.measured r) way) (suc n))
        moved_to n e = subst (λ j. Runs tested j kept.depth (at kept (measured (tree.measured r)) (suc from)) (sign (mark.Shift way) ∷ [])
            (at kept (shifted (tree.measured r) way) (suc j))) e (sign_runs (mark.Shift way) (steps _ _ _ refl))
