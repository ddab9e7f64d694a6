-- How the machine reads functions, from how it reads what is in them.
use Rattle.std.specs.Prelude.{if◌then◌else◌, ◌&&◌, IsTrue}
use Rattle.std.proofs.Common.{◌≡◌, ℕ, suc, inl, inr, Bool, true, false, Ok, Option, Some, None, List, [], ◌∷◌, ◌++◌, refl, ap, sym, ◌∙◌, subst, append_assoc}
use Rattle.tdl_grammar.specs.Machine.{all_checked}
use Rattle.tdl_mini_tree.specs.declared.leaves.Kind.TheVariants.{Bool as Truths}
use Rattle.tdl_line_machine.specs.declared.names.Name.{Name}
use Rattle.tdl_line_machine.specs.declared.names.Name.TheVariants as name
use Rattle.tdl_command.specs.declared.names.BareFun.{BareFun}
use Rattle.tdl_command.specs.declared.names.RatioFun.{RatioFun}
use Rattle.tdl_command.specs.declared.names.CountFun.{CountFun}
use Rattle.tdl_command.specs.declared.names.BoolsFun.{BoolsFun}
use Rattle.tdl_command.specs.declared.names.LayerFun.{LayerFun}
use Rattle.tdl_command.specs.declared.names.CycleFun.{CycleFun}
use Rattle.tdl_line_machine.specs.declared.marks.Mark.TheVariants as mark
use Rattle.tdl_command.specs.declared.marks.Way.{Way}
use Rattle.tdl_command.specs.declared.tree.Plain.{Plain}
use Rattle.tdl_command.specs.declared.tree.Plain.TheVariants.{Bare, Signed, Quotient}
use Rattle.tdl_line_machine.specs.Tokens as token
use Rattle.tdl_command.specs.Tree as tree
use Rattle.tdl_command.specs.Tree.{Ratio, Count, Expr, Fun}
use Rattle.tdl_mini_tree.specs.Reading.{Reading}
use Rattle.tdl_command.specs.Rules.{has_rhythms, has_rhythms_from}
use Rattle.tdl_line_machine.specs.Pieces.{Piece, reading_rules}
use Rattle.tdl_line_grammar.specs.Spelling.{sign, word, text_pieces, ratio_pieces, plain_pieces, count_pieces, last_count, fun_pieces}
use Rattle.tdl_line_machine.specs.Pieces.{tests_from}
use Rattle.tdl_line_machine.specs.Machine.States.{State, Stage, first, after_dot, layer_of, every_of, cycle_of, off_of, within_of}
use Rattle.tdl_line_machine.specs.Machine.States.{count_of, every_in, cycles_of, cycles_from, hits_of, steps_of, off_hits, off_steps, off_from}
use Rattle.tdl_line_machine.specs.Machine.States.{Bracketed, anything, fun_or_number, fun_after, argument, round, bounds, bound, opening, wanting, named}
use Rattle.tdl_line_machine.specs.Machine.States.{chained}
use Rattle.tdl_line_machine.specs.Machine.Expressions.{round_at}
use Rattle.tdl_line_machine.specs.Machine.Open.{round_has_funs, has_exprs}
use Rattle.tdl_line_machine.specs.Machine.States.{asking_fun, bounding, bounded, fraction}
use Rattle.tdl_line_machine.specs.Machine.Calls.{made, with_fun, may_close_fun}
use Rattle.tdl_line_machine.specs.Machine.States.{reading}
use Rattle.tdl_line_grammar.proofs.Running.{step, steps, Runs, runs_then, runs_and, runs_to, after}
use Rattle.tdl_line_grammar.proofs.Balanced.{fun_deep, ratio_deep, count_deep, plain_deep, shift_deep}
use Rattle.tdl_line_grammar.proofs.Kept.{Kept, core, at, within, after_made, made_is, after_round, in_round_is}
use Rattle.tdl_line_grammar.proofs.Leaves.{if_true, sign_runs, word_runs, number_runs, text_runs, text_after, in_brackets, brackets_run, fraction_digits}
use Rattle.tdl_line_grammar.proofs.Arguments.{ratio_runs, count_runs, last_runs}
use Rattle.tdl_line_grammar.proofs.Facts.{AfterFun, paren_tail, NamedRead, ArgumentRead, RoundRead, SingleRead, WholeFunRead}
use Rattle.tdl_line_grammar.proofs.Facts.{opening_names, opening_measures, shift_runs}
use Rattle.tdl_line_machine.specs.declared.calls.RatioCall.TheVariants as ratio_call

-- ---- functions with a name
-- a name, and what follows it
pub after_word :
    {tested : Bool} {k kept : Kept} {begin : Stage} {from : ℕ} (n : Name) (more : List Piece) (p : Stage) (f : ℕ → State) →
    step tested (at k begin from) (token.name n) ≡ Ok (at kept p (suc from)) →
    Runs tested (suc from) kept.depth (at kept p (suc from)) more (f (after (suc from) more)) →
    Runs tested from kept.depth (at k begin from) (word n ∷ more) (f (after (suc from) more))
after_word n more p f e h = runs_then (word n ∷ []) more refl (word_runs n e) h

pub bare_named : (f : BareFun) → NamedRead (tree.bare f)
bare_named f tested k begin kept spot names formed from =
    word_runs (name.Bare f) (names.names (name.Bare f) from ∙ made_is kept from spot (tree.bare f))

pub bare_argument : (f : BareFun) → ArgumentRead (tree.bare f)
bare_argument f tested k spot call formed from = word_runs (name.Bare f) (steps _ _ _ (made_is k from spot (with_fun call (tree.bare f))))

pub ratio_named : (f : RatioFun) (r : Ratio) → NamedRead (tree.of_ratio f r)
ratio_named f r tested k begin kept spot names formed from =
    after_word (name.OfRatio f) (ratio_pieces r) _ (after_made kept spot (tree.of_ratio f r)) (names.names (name.OfRatio f) from)
    (ratio_runs tested kept spot (ratio_call.Of f) (suc from) r)

pub count_named : (f : CountFun) (n : Count) → NamedRead (tree.of_count f n)
count_named f n tested k begin kept spot names formed from =
    after_word (name.OfCount f) (count_pieces n) _ (after_made kept spot (tree.of_count f n)) (names.names (name.OfCount f) from)
    (count_runs tested kept spot (count_of f) (suc from) n refl)

pub bools_named : (f : BoolsFun) (r : Reading) → NamedRead (tree.of_bools f r)
bools_named f r tested k begin kept spot names formed from =
    after_word (name.OfBools f) (text_pieces Truths r) _ (after_made kept spot (tree.of_bools f r)) (names.names (name.OfBools f) from)
    (runs_to (after_made kept spot (tree.of_bools f r)) (sym (text_after Truths r (suc from)))
    (text_runs Truths r (λ readings same. steps _ _ _
    (ap (λ x. reading tested (core kept (suc from)) x (made (core kept (suc from)) spot (tree.of_bools f x))) same
    ∙ ap (all_checked tested (tests_from (suc from) (reading_rules r))) (made_is kept (suc from) spot (tree.of_bools f r))))))

pub layer_named : (g : LayerFun) (f : Fun) → ArgumentRead f → NamedRead (tree.layer g f)
layer_named g f read tested k begin kept spot names formed from =
    after_word (name.Layer g) (fun_pieces f) _ (after_made kept spot (tree.layer g f)) (names.names (name.Layer g) from)
    (read tested kept spot (layer_of g) formed.1 (suc from))

pub every_named : (n : Count) (f : Fun) → ArgumentRead f → NamedRead (tree.every n f)
every_named n f read tested k begin kept spot names formed from =
    after_word name.Every (count_pieces n ++ fun_pieces f) _ (after_made kept spot (tree.every n f)) (names.names name.Every from)
    (runs_and (count_pieces n) (fun_pieces f) (count_deep _ n) (after_made kept spot (tree.every n f)) (count_runs tested kept spot every_in (suc from) n refl)
    (read tested kept spot (every_of n) formed.1 _))

pub cycle_named : (g : CycleFun) (n o : Count) (f : Fun) → ArgumentRead f → NamedRead (tree.cycle g n o f)
cycle_named g n o f read tested k begin kept spot names formed from =
    after_word (name.Cycle g) (count_pieces n ++ (count_pieces o ++ fun_pieces f)) _ (after_made kept spot (tree.cycle g n o f))
    (names.names (name.Cycle g) from)
    (runs_and (count_pieces n) (count_pieces o ++ fun_pieces f) (count_deep _ n) (after_made kept spot (tree.cycle g n o f))
    (count_runs tested kept spot (cycles_of g) (suc from) n refl)
    (runs_and (count_pieces o) (fun_pieces f) (count_deep _ o) (after_made kept spot (tree.cycle g n o f))
    (count_runs tested kept spot (cycles_from g n) _ o refl)
    (read tested kept spot (cycle_of g n o) formed.1 _)))

pub off_named : (r : Ratio) (f : Fun) → ArgumentRead f → NamedRead (tree.off r f)
off_named r f read tested k begin kept spot names formed from =
    after_word name.Off (ratio_pieces r ++ fun_pieces f) _ (after_made kept spot (tree.off r f)) (names.names name.Off from)
    (runs_and (ratio_pieces r) (fun_pieces f) (ratio_deep _ r) (after_made kept spot (tree.off r f)) (ratio_runs tested kept spot ratio_call.Off (suc from) r)
    (read tested kept spot (off_of r) formed.1 _))

pub euclid_named : (k n : Count) → NamedRead (tree.euclid k n)
euclid_named h n tested k begin kept spot names formed from =
    after_word name.Euclid (count_pieces h ++ last_count (has_rhythms h n) n) _ (after_made kept spot (tree.euclid h n)) (names.names name.Euclid from)
    (runs_and (count_pieces h) (last_count (has_rhythms h n) n) (count_deep _ h) (after_made kept spot (tree.euclid h n))
    (count_runs tested kept spot hits_of (suc from) h refl)
    (last_runs tested kept spot (steps_of h) _ n))

pub euclid_off_named : (k n r : Count) → NamedRead (tree.euclid_off k n r)
euclid_off_named h n r tested k begin kept spot names formed from =
    after_word name.EuclidOff (count_pieces h ++ (count_pieces n ++ last_count (has_rhythms_from h n r) r)) _ (after_made kept spot (tree.euclid_off h n r))
    (names.names name.EuclidOff from)
    (runs_and (count_pieces h) (count_pieces n ++ last_count (has_rhythms_from h n r) r) (count_deep _ h) (after_made kept spot (tree.euclid_off h n r))
    (count_runs tested kept spot off_hits (suc from) h refl)
    (runs_and (count_pieces n) (last_count (has_rhythms_from h n r) r) (count_deep _ n) (after_made kept spot (tree.euclid_off h n r))
    (count_runs tested kept spot (off_steps h) _ n refl) (last_runs tested kept spot (off_from h n) _ r)))

-- ---- functions in round brackets
is_true : (b : Bool) → b ≡ true → IsTrue b
is_true true e = refl
is_true false e = cc

both_true : (a b : Bool) → a ≡ true → b ≡ true → IsTrue (a && b)
both_true true true e h = refl
both_true true false e h = cc
both_true false b e h = cc

-- a function alone in a bracket, and its end
fun_ends :
    (tested : Bool) (k : Kept) (r : Bracketed) (f : Fun) (p : Stage) (n : ℕ) → AfterFun f p → round_has_funs r ≡ true →
    step tested (at (within k (round r)) p n) (token.mark mark.CloseRound) ≡ Ok (after_round k r (tree.paren f) (suc n))
fun_ends tested k r f p n (inl same) e =
    ap (λ q. step tested (at (within k (round r)) q n) (token.mark mark.CloseRound)) same ∙ steps _ _ _
    (if_true (may_close_fun (core (within k (round r)) n)) _ _ (both_true (round_has_funs r) true e refl)
    ∙ in_round_is k n (token.mark mark.CloseRound) r (tree.paren f) e)
fun_ends tested k r f p n (inr same) e =
    ap (λ q. step tested (at (within k (round r)) q n) (token.mark mark.CloseRound)) same ∙ steps _ _ _
    (if_true (may_close_fun (core (within k (round r)) n)) _ _ (both_true (round_has_funs r) true e refl)
    ∙ in_round_is k n (token.mark mark.CloseRound) r (tree.paren f) e)

pub paren_round : (f : Fun) → WholeFunRead f → RoundRead (tree.paren f)
paren_round f read tested k r funs formed from =
    let inside = within k (round r) in
    let whole = read tested inside opening inside (opening_names tested inside) formed from in
    runs_and (fun_pieces f) (sign mark.CloseRound ∷ []) (fun_deep _ f) (after_round k r (tree.paren f)) whole.runs
    (sign_runs mark.CloseRound (fun_ends tested k r f whole.stage (after from (fun_pieces f)) whole.is funs))

-- ---- what a function in round brackets is elsewhere
pub paren_argument :
    (f : Fun) (tail : List Piece) → fun_pieces f ≡ sign mark.OpenRound ∷ tail → paren_tail f ≡ tail →
    RoundRead f → ArgumentRead f
paren_argument f tail e same read tested k spot call formed from =
    subst (λ a. Runs tested from k.depth (at k (asking_fun spot call) from) a (after_made k spot (with_fun call f) (after from a))) (sym e)
    (runs_then (sign mark.OpenRound ∷ []) tail refl
    (sign_runs mark.OpenRound (steps _ _ _ refl))
    (subst (λ a. Runs tested (suc from) (suc k.depth) (at (within k (round (argument spot call))) opening (suc from)) a
    (after_made k spot (with_fun call f) (after (suc from) a)))
    same (read tested k (argument spot call) refl formed (suc from))))

-- ---- `within`
bound_runs :
    (tested : Bool) (k : Kept) (before : Option Plain) (p : Plain) (from : ℕ) →
    Runs tested from k.depth (at k (bounding before) from) (plain_pieces p) (at k (bounded before p) (after from (plain_pieces p)))
bound_runs tested k before (Bare n) from = number_runs n (steps _ _ _ refl)
bound_runs tested k before (Signed negative n) from =
    runs_then (sign mark.OpenRound ∷ []) (in_brackets (Signed negative n)) refl
    (sign_runs mark.OpenRound (steps _ _ _ refl))
    (brackets_run tested (within k (bound before)) fraction (fraction_digits tested (within k (bound before))) (λ m. steps _ _ _ refl)
    (λ q. at k (bounded before q))
    (λ q j. refl) (suc from) (Signed negative n) tt)
bound_runs tested k before (Quotient negative a b) from =
    runs_then (sign mark.OpenRound ∷ []) (in_brackets (Quotient negative a b)) refl
    (sign_runs mark.OpenRound (steps _ _ _ refl))
    (brackets_run tested (within k (bound before)) fraction (fraction_digits tested (within k (bound before))) (λ m. steps _ _ _ refl)
    (λ q. at k (bounded before q))
    (λ q j. refl) (suc from) (Quotient negative a b) tt)

pub within_named : (a b : Plain) (f : Fun) → ArgumentRead f → NamedRead (tree.within a b f)
within_named a b f read tested k begin kept spot names formed from =
    let inside = within kept (bounds spot) in
    after_word name.Within (sign mark.OpenRound ∷ (plain_pieces a ++ sign mark.Comma ∷ (plain_pieces b ++ sign mark.CloseRound ∷ fun_pieces f))) _
    (after_made kept spot (tree.within a b f)) (names.names name.Within from)
    (runs_then (sign mark.OpenRound ∷ []) (plain_pieces a ++ sign mark.Comma ∷ (plain_pieces b ++ sign mark.CloseRound ∷ fun_pieces f)) refl
    (sign_runs mark.OpenRound (steps _ _ _ refl))
    (runs_and (plain_pieces a) (sign mark.Comma ∷ (plain_pieces b ++ sign mark.CloseRound ∷ fun_pieces f)) (plain_deep _ a)
    (after_made kept spot (tree.within a b f))
    (bound_runs tested inside None a (suc (suc from)))
    (runs_then (sign mark.Comma ∷ []) (plain_pieces b ++ sign mark.CloseRound ∷ fun_pieces f) refl (sign_runs mark.Comma (steps _ _ _ refl))
    (runs_and (plain_pieces b) (sign mark.CloseRound ∷ fun_pieces f) (plain_deep _ b) (after_made kept spot (tree.within a b f))
    (bound_runs tested inside (Some a) b _)
    (runs_then (sign mark.CloseRound ∷ []) (fun_pieces f) refl (sign_runs mark.CloseRound (steps _ _ _ refl))
    (read tested kept spot (within_of a b) formed.1 _))))))

-- ---- a shift in round brackets
pub shift_round : (r : Ratio) (way : Way) → RoundRead (tree.shift r way)
shift_round r way tested k round_ funs formed from =
    let inside = within k (round round_) in
    subst (λ a. Runs tested from inside.depth (at inside opening from) a (after_round k round_ (tree.shift r way) (after from a)))
    (append_assoc (ratio_pieces r) (sign (mark.Shift way) ∷ []) (sign mark.CloseRound ∷ []))
    (runs_and (ratio_pieces r ++ sign (mark.Shift way) ∷ []) (sign mark.CloseRound ∷ []) (shift_deep _ r way) (after_round k round_ (tree.shift r way))
    (shift_runs tested inside opening inside first (opening_measures tested inside) r way from)
    (sign_runs mark.CloseRound
    (steps _ _ _ (if_true (may_close_fun (core inside (after from (ratio_pieces r ++ sign (mark.Shift way) ∷ [])))) _ _
    (both_true (round_has_funs round_) true funs refl)
    ∙ in_round_is k _ (token.mark mark.CloseRound) round_ (tree.shift r way) funs))))

-- ---- whole functions
pub named_whole : (f : Fun) → NamedRead f → WholeFunRead f
named_whole f read tested k begin kept names formed from = record {
  stage = named f;
  is = inl refl;
  runs = read tested k begin kept first names formed from;
}

either_funs : (b : Bool) → round_has_funs (if b then anything else fun_or_number) ≡ true
either_funs true = refl
either_funs false = refl

either_chained : (k : Kept) (f : Fun) (n : ℕ) (b : Bool) → after_round k (if b then anything else fun_or_number) f n ≡ at k (chained f) n
either_chained k f n true = refl
either_chained k f n false = refl

pub paren_whole :
    (f : Fun) (tail : List Piece) → fun_pieces f ≡ sign mark.OpenRound ∷ tail → paren_tail f ≡ tail →
    RoundRead f → WholeFunRead f
paren_whole f tail e same read tested k begin kept names formed from = record {
  stage = chained f;
  is = inr refl;
  runs = subst (λ a. Runs tested from kept.depth (at k begin from) a (at kept (chained f) (after from a))) (sym e)
      (runs_then (sign mark.OpenRound ∷ []) tail refl
      (sign_runs mark.OpenRound (names.opens from))
      (subst (λ s. Runs tested (suc from) (suc kept.depth) (at (within kept (round (round_at (core kept from) first))) opening (suc from)) tail s)
      (either_chained kept f (after (suc from) tail) (has_exprs kept.frames))
      (subst (λ a. Runs tested (suc from) (suc kept.depth) (at (within kept (round (round_at (core kept from) first))) opening (suc from)) a
      (after_round kept (round_at (core kept from) first) f (after (suc from) a))) same
      (read tested kept (round_at (core kept from) first) (either_funs (has_exprs kept.frames)) formed (suc from)))));
}

-- ---- functions one after another
dot_is : (tested : Bool) (k : Kept) (f : Fun) (p : Stage) (n : ℕ) → AfterFun f p
    → step tested (at k p n) (token.mark mark.Dot) ≡ Ok (at k (wanting (after_dot f)) (suc n))
dot_is tested k f p n (inl same) = ap (λ q. step tested (at k q n) (token.mark mark.Dot)) same ∙ steps _ _ _ refl
dot_is tested k f p n (inr same) = ap (λ q. step tested (at k q n) (token.mark mark.Dot)) same ∙ steps _ _ _ refl

pub named_single : (f : Fun) → NamedRead f → SingleRead f
named_single f read tested k next formed from =
    read tested k (wanting (after_dot next)) k (after_dot next) (record { names = λ n m. steps _ _ _ refl; opens = λ m. steps _ _ _ refl }) formed from

pub paren_single :
    (f : Fun) (tail : List Piece) → fun_pieces f ≡ sign mark.OpenRound ∷ tail → paren_tail f ≡ tail →
    RoundRead f → SingleRead f
paren_single f tail e same read tested k next formed from =
    subst (λ a. Runs tested from k.depth (at k (wanting (after_dot next)) from) a (at k (chained (tree.chain next f)) (after from a))) (sym e)
    (runs_then (sign mark.OpenRound ∷ []) tail refl
    (sign_runs mark.OpenRound (steps _ _ _ refl))
    (subst (λ a. Runs tested (suc from) (suc k.depth) (at (within k (round (fun_after next))) opening (suc from)) a
    (at k (chained (tree.chain next f)) (after (suc from) a)))
    same (read tested k (fun_after next) refl formed (suc from))))

pub chain_whole : (next f : Fun) → WholeFunRead next → SingleRead f → WholeFunRead (tree.chain next f)
chain_whole next f read single tested k begin kept names formed from =
    let before = read tested k begin kept names formed.0 from in record {
      stage = chained (tree.chain next f);
      is = inr refl;
      runs = runs_and (fun_pieces next) (sign mark.Dot ∷ fun_pieces f) (fun_deep _ next) (at kept (chained (tree.chain next f))) before.runs
          (runs_then (sign mark.Dot ∷ []) (fun_pieces f) refl (sign_runs mark.Dot (dot_is tested kept next before.stage _ before.is))
          (single tested kept next formed.2 _));
    }
