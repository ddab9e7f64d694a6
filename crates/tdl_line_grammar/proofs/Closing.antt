-- Each state that is reached goes on to a text: what is wanted is read, and what is open is closed.
--     Ends             tokens lead to the end of a text
--     Closes           from each stage in these frames where an expression or a function is read, to the end
--     state_ends       from each state that is reached, to the end
use Rattle.std.proofs.Common.{◌≡◌, ℕ, suc, Bool, true, false, if◌then◌else◌, not, ◌&&◌, Ok, List, [], ◌∷◌, IsTrue, refl, sym, subst}
use Rattle.std.specs.Prelude.{◌||◌}
use Rattle.tdl_grammar.specs.Machine.{run}
use Rattle.tdl_grammar.proofs.Runs.{goes_on}
use Rattle.tdl_mini_tree.specs.declared.leaves.Kind.{Kind}
use Rattle.tdl_mini_tree.specs.declared.leaves.Number.{Number}
use Rattle.tdl_mini_tree.specs.Tree.{no_layer}
use Rattle.tdl_line_machine.specs.declared.names.Name.TheVariants as name
use Rattle.tdl_command.specs.declared.names.BareFun.TheVariants.{Rev}
use Rattle.tdl_line_machine.specs.declared.marks.Mark.TheVariants as mark
use Rattle.tdl_line_machine.specs.Tokens.{Tok, number, quoted, end}
use Rattle.tdl_command.specs.Rules.{whole_number}
use Rattle.tdl_line_machine.specs.Tokens as token
use Rattle.tdl_command.specs.Tree as tree
use Rattle.tdl_command.specs.Tree.{Ratio, Count, Expr, Exprs, Parts, Fun, Line, Whole}
use Rattle.tdl_mini_tree.specs.Reading.{Reading}
use Rattle.tdl_mini_tree.specs.Reading as reading
use Rattle.tdl_line_machine.specs.Machine.States.{Spot, first, at_operand, after_dot}
use Rattle.tdl_line_machine.specs.Machine.States.{Pending, applies}
use Rattle.tdl_line_machine.specs.Machine.States.{calls}
use Rattle.tdl_line_machine.specs.Machine.States.{Bracketed, anything, expr_or_number, fun_or_number, fun_after, argument, Hole, round, section}
use Rattle.tdl_line_machine.specs.Machine.States.{constant, list, timecat, weighed, Frame, Front, Stage, Core, State, Step}
use Rattle.tdl_line_machine.specs.Machine.Open.{has_exprs}
use Rattle.tdl_line_machine.specs.Machine.Calls.{is_nil, may_close_fun, made}
use Rattle.tdl_line_machine.specs.Machine.Open.{round_has_exprs, round_has_funs, hole_has_exprs}
use Rattle.tdl_line_machine.specs.Machine.Calls.{with_fun, in_round}
use Rattle.tdl_line_machine.specs.Machine.Expressions.{with_pending, applied, operand, operand_hole, part_hole}
use Rattle.tdl_line_machine.specs.Machine.Calls.{in_hole}
use Rattle.tdl_line_machine.specs.Machine.Open.{closed}
use Rattle.tdl_line_machine.specs.Machine.{taken}
use Rattle.tdl_line_machine.specs.Machine.Expressions.{whole_of}
use Rattle.tdl_line_machine.specs.Machine as machine
use Rattle.tdl_line_grammar.specs.inside.Laws.{IsEnded}
use Rattle.tdl_line_grammar.proofs.Reached.{IsInner, IsTimecat, IsBracket, Top, TopOrNone, Open, SpotFits, RoundFits}
use Rattle.tdl_line_grammar.proofs.Reached.{Fits}

abbrev pub core : List Frame → List Pending → ℕ → Front → ℕ → Core
core frames level depth front n = record { frames = frames; level = level; depth = depth; front = front; read = n }

abbrev pub at : Core → Stage → State
at c p = record { core = c; stage = p }

abbrev pub frame : List Pending → ℕ → Hole → Frame
frame level depth hole = record { level = level; depth = depth; hole = hole }

-- the end of a text is read after some tokens
abbrev pub Ends : State → Type 0
Ends s = (more : List Tok) × (f : State) × (run (taken false) s more ≡ Ok f) × IsEnded f

abbrev pub EndsBy : Step → Type 0
EndsBy r = (s : State) × (r ≡ Ok s) × Ends s

-- ---- the tokens
abbrev pub one : Number
one = whole_number 1

abbrev pub silence : Tok
silence = token.name name.Silence

abbrev pub rev : Tok
rev = token.name (name.Bare Rev)

abbrev pub close : Tok
close = token.mark mark.CloseRound

abbrev pub close_square : Tok
close_square = token.mark mark.CloseSquare

-- a text that is nothing
abbrev pub nothing : Kind → Reading
nothing kind = reading.read kind no_layer

-- ---- steps
pub untrue : false ≡ true → ⊥
untrue h = cc

pub by_token : (s : State) (t : Tok) → EndsBy (taken false s t) → Ends s
by_token s t h = (t ∷ h.2.0, h.2.1, goes_on (taken false) s t h.2.0 h.0 (Ok h.2.1) h.1 h.2.2, h.2.3)

pub goes : (s : State) → Ends s → EndsBy (Ok s)
goes s h = (s, refl, h)

pub at_last : (s : State) → IsEnded s → Ends s
at_last s h = ([], s, refl, h)

pub chosen : (b : Bool) (r v : Step) → IsTrue b → EndsBy r → EndsBy (if b then r else v)
chosen true r v h k = k
chosen false r v h k = absurd (untrue h)

-- one way where a test is true, and another where it is not
pub either_way : (s : State) (b : Bool) → (IsTrue b → Ends s) → (IsTrue (not b) → Ends s) → Ends s
either_way s true h k = h refl
either_way s false h k = k refl

-- ---- what closes in some frames
pub record Closes (frames : List Frame) : Type 0 where
  pub expr : (level : List Pending) (depth : ℕ) (front : Front) (n : ℕ) (e : Expr) → Fits frames depth → IsTrue (has_exprs frames)
      → TopOrNone IsInner frames → TopOrNone IsBracket frames → Ends (at (core frames level depth front n) (machine.expressed e))
  pub operand_ : (level : List Pending) (depth : ℕ) (front : Front) (n : ℕ) (e : Expr) → Fits frames depth → IsTrue (has_exprs frames)
      → TopOrNone IsInner frames → EndsBy (operand (core frames level depth front n) e)
  pub named : (level : List Pending) (depth : ℕ) (front : Front) (n : ℕ) (f : Fun) → Fits frames depth → Open frames level
      → Ends (at (core frames level depth front n) (machine.named f))
  pub chained : (level : List Pending) (depth : ℕ) (front : Front) (n : ℕ) (f : Fun) → Fits frames depth → Open frames level
      → Ends (at (core frames level depth front n) (machine.chained f))
  pub made_ : (level : List Pending) (depth : ℕ) (front : Front) (n : ℕ) (spot : Spot) (f : Fun) → Fits frames depth → Open frames level
      → SpotFits spot frames → EndsBy (made (core frames level depth front n) spot f)

-- in some frames, and in those round them
abbrev pub All : List Frame → Type 0
All [] = Closes []
All (f ∷ frames) = Closes (f ∷ frames) × All frames

-- in those round some frames
abbrev pub Below : List Frame → Type 0
Below [] = Unit {0}
Below (f ∷ frames) = All frames

innermost : (frames : List Frame) → All frames → Closes frames
innermost [] h = h
innermost (f ∷ frames) h = h.0

-- ---- operands that are wanted
abbrev pub OperandEnds : List Frame → Type 0
OperandEnds frames = (level : List Pending) (depth : ℕ) (front : Front) (n : ℕ) (e : Expr) → Fits frames depth → IsTrue (has_exprs frames)
    → TopOrNone IsInner frames → EndsBy (operand (core frames level depth front n) e)

pub first_ends : (frames : List Frame) → OperandEnds frames → (level : List Pending) (depth : ℕ) (front : Front) (n : ℕ) → Fits frames depth
    → IsTrue (has_exprs frames) → TopOrNone IsInner frames → Ends (at (core frames level depth front n) (machine.wanting first))
first_ends frames read level depth front n fits h inner =
    by_token (at (core frames level depth front n) (machine.wanting first)) silence
    (chosen (has_exprs frames) (operand (core frames level depth front n) tree.silence) (machine.refused (core frames level depth front n) silence) h
    (read level depth front n tree.silence fits h inner))

pub second_ends : (frames : List Frame) → OperandEnds frames → (level : List Pending) (depth : ℕ) (front : Front) (n : ℕ) → Fits frames depth
    → IsTrue (has_exprs frames) → TopOrNone IsInner frames → Ends (at (core frames level depth front n) (machine.wanting at_operand))
second_ends frames read level depth front n fits h inner =
    by_token (at (core frames level depth front n) (machine.wanting at_operand)) silence
    (chosen (has_exprs frames) (operand (core frames level depth front n) tree.silence) (machine.refused (core frames level depth front n) silence) h
    (read level depth front n tree.silence fits h inner))

-- ---- functions that are whole
-- a function is closed in a round bracket
round_ends : (frames : List Frame) → Closes frames → (level : List Pending) (depth : ℕ) (front : Front) (n : ℕ) (t : Tok) (r : Bracketed) (f : Fun)
    → Fits frames depth
    → Open frames level → RoundFits r frames → IsTrue (round_has_funs r) → EndsBy (in_round (core frames level depth front n) t r f)
round_ends frames closes level depth front n t anything f fits open_ h funs =
    goes (at (core frames level depth front (suc n)) (machine.chained f)) (closes.chained level depth front (suc n) f fits open_)
round_ends frames closes level depth front n t expr_or_number f fits open_ h funs = absurd (untrue funs)
round_ends frames closes level depth front n t fun_or_number f fits open_ h funs =
    goes (at (core frames level depth front (suc n)) (machine.chained f)) (closes.chained level depth front (suc n) f fits open_)
round_ends frames closes level depth front n t (fun_after g) f fits open_ h funs =
    goes (at (core frames level depth front (suc n)) (machine.chained (tree.chain g f))) (closes.chained level depth front (suc n) (tree.chain g f) fits open_)
round_ends frames closes level depth front n t (argument spot call) f fits open_ h funs =
    closes.made_ level depth front n spot (with_fun call f) fits open_ h

no_exprs : (a b : Bool) → IsTrue (a || b) → IsTrue (not b) → IsTrue a
no_exprs true b h k = refl
no_exprs false true h k = cc
no_exprs false false h k = h

both : (a b : Bool) → IsTrue a → IsTrue b → IsTrue (a && b)
both true b h k = k
both false b h k = cc

-- a function alone, where no expression may stand, and its bracket's end
pub alone_ends :
    (frames : List Frame) → Below frames → (level : List Pending) (depth : ℕ) (front : Front) (n : ℕ) (f : Fun) (v : Step) → Fits frames depth
    → Open frames level
    → IsTrue (not (has_exprs frames))
    → EndsBy (if may_close_fun (core frames level depth front n) then closed frames (core frames level depth front n) close (in_hole close f) else v)
alone_ends [] all level depth front n f v fits open_ h = absurd (untrue h)
alone_ends (g ∷ frames) all level depth front n f v fits open_ h = by_hole g.level g.depth g.hole fits open_ h
  where
    by_hole : (l : List Pending) (d : ℕ) (hole : Hole) → Fits (frame l d hole ∷ frames) depth → Open (frame l d hole ∷ frames) level
        → IsTrue (not (hole_has_exprs hole))
        → EndsBy (if may_close_fun (core (frame l d hole ∷ frames) level depth front n)
        then closed (frame l d hole ∷ frames) (core (frame l d hole ∷ frames) level depth front n) close (in_hole close f) else v)
    by_hole l d (round r) fits open_ h = by_round r fits open_ h
      where
        by_round : (r : Bracketed) → Fits (frame l d (round r) ∷ frames) depth → Open (frame l d (round r) ∷ frames) level → IsTrue (not (round_has_exprs r))
            → EndsBy (if may_close_fun (core (frame l d (round r) ∷ frames) level depth front n)
            then closed (frame l d (round r) ∷ frames) (core (frame l d (round r) ∷ frames) level depth front n) close (in_hole close f) else v)
        by_round anything fits open_ h = absurd (untrue h)
        by_round expr_or_number fits open_ h = absurd (untrue h)
        by_round r fits open_ h =
            chosen (may_close_fun (core (frame l d (round r) ∷ frames) level depth front n))
            (closed (frame l d (round r) ∷ frames) (core (frame l d (round r) ∷ frames) level depth front n) close (in_hole close f)) v
            (both (round_has_funs r) (is_nil level) refl (no_exprs (is_nil level) (round_has_exprs r) open_.alone h))
            (round_ends frames (innermost frames all) l d front n close r f fits.2 fits.1.0 fits.1.1 refl)
    by_hole l d hole fits open_ h = absurd (untrue h)

-- after a function, with a `$` or with the bracket's end
fun_ends :
    (frames : List Frame) → Below frames → OperandEnds frames → (level : List Pending) (depth : ℕ) (front : Front) (n : ℕ) (p : Stage) (f : Fun)
    → (taken false (at (core frames level depth front n) p) (token.mark mark.Dollar) ≡ machine.chained_mark (core frames level depth front n)
    (token.mark mark.Dollar) f mark.Dollar)
    → (taken false (at (core frames level depth front n) p) close ≡ machine.chained_mark (core frames level depth front n) close f mark.CloseRound)
    → Fits frames depth → Open frames level → Ends (at (core frames level depth front n) p)
fun_ends frames all read level depth front n p f dollar shut fits open_ =
    either_way (at (core frames level depth front n) p) (has_exprs frames)
    (λ h. by_token (at (core frames level depth front n) p) (token.mark mark.Dollar)
    (subst EndsBy (sym dollar)
    (chosen (has_exprs frames) (machine.going (core frames (applies f ∷ level) depth front n) (machine.wanting first))
    (machine.refused (core frames level depth front n) (token.mark mark.Dollar)) h
    (goes (at (core frames (applies f ∷ level) depth front (suc n)) (machine.wanting first))
    (first_ends frames read (applies f ∷ level) depth front (suc n) fits h open_.inner)))))
    (λ h. by_token (at (core frames level depth front n) p) close
    (subst EndsBy (sym shut)
    (alone_ends frames all level depth front n (tree.paren f) (machine.refused (core frames level depth front n) close) fits open_ h)))

-- ---- expressions that are whole
abbrev pub ExprEnds : List Frame → Type 0
ExprEnds frames = (level : List Pending) (depth : ℕ) (front : Front) (n : ℕ) (e : Expr) → Fits frames depth → IsTrue (has_exprs frames)
    → TopOrNone IsInner frames → TopOrNone IsBracket frames → Ends (at (core frames level depth front n) (machine.expressed e))

-- at the top the end follows
expr_end : ExprEnds []
expr_end level depth front n e fits h inner bracket =
    let last : State = at (core [] [] depth front (suc n)) (machine.ended (whole_of front (applied level e))) in
    by_token (at (core [] level depth front n) (machine.expressed e)) end (goes last (at_last last refl))

-- after a part of `timecat`, in the frames round its brackets
pub part_ends : (frames : List Frame) → Closes frames → (l : List Pending) (d depth : ℕ) (front : Front) (n : ℕ) (ps : Parts) → Fits frames d → Open frames l
    → IsTrue (has_exprs frames) → Ends (at (core (frame l d (timecat ps) ∷ frames) [] depth front n) machine.part_read)
part_ends frames closes l d depth front n ps fits open_ h =
    by_token (at (core (frame l d (timecat ps) ∷ frames) [] depth front n) machine.part_read) close_square
    (closes.operand_ l d front n (tree.timecat ps) fits h open_.inner)

-- the end of a part's expression
weighed_ends : (frames : List Frame) → All frames → (level : List Pending) (depth : ℕ) (front : Front) (n : ℕ) (w : Number) (e : Expr) → Fits frames depth
    → Top IsTimecat frames → EndsBy (closed frames (core frames level depth front n) close (part_hole close depth w e))
weighed_ends [] all level depth front n w e fits top = absurd top
weighed_ends (g ∷ frames) all level depth front n w e fits top = by_hole g.level g.depth g.hole fits top
  where
    by_hole : (l : List Pending) (d : ℕ) (hole : Hole) → Fits (frame l d hole ∷ frames) depth → IsTimecat hole
        → EndsBy (part_hole close depth w e (core frames l d front n) hole)
    by_hole l d (timecat ps) fits top =
        goes (at (core (frame l d (timecat (tree.part ps w e)) ∷ frames) [] depth front (suc n)) machine.part_read)
        (part_ends frames (innermost frames all.1) l d depth front (suc n) (tree.part ps w e) fits.2 fits.1.0 fits.1.1)
    by_hole l d hole fits top = absurd top

expr_ends : (g : Frame) (frames : List Frame) → All frames → ExprEnds (g ∷ frames)
expr_ends g frames all level depth front n e fits h inner bracket = by_hole g.level g.depth g.hole fits h inner bracket
  where
    closes : Closes frames
    closes = innermost frames all

    by_hole : (l : List Pending) (d : ℕ) (hole : Hole) → Fits (frame l d hole ∷ frames) depth → IsTrue (hole_has_exprs hole) → IsInner hole → IsBracket hole
        → Ends (at (core (frame l d hole ∷ frames) level depth front n) (machine.expressed e))
    by_hole l d (round anything) fits h inner bracket =
        by_token (at (core (frame l d (round anything) ∷ frames) level depth front n) (machine.expressed e)) close
        (closes.operand_ l d front n (tree.inside (applied level e)) fits.2 fits.1.1 fits.1.0.inner)
    by_hole l d (round expr_or_number) fits h inner bracket =
        by_token (at (core (frame l d (round expr_or_number) ∷ frames) level depth front n) (machine.expressed e)) close
        (closes.operand_ l d front n (tree.inside (applied level e)) fits.2 fits.1.1 fits.1.0.inner)
    by_hole l d (round r) fits h inner bracket = absurd (untrue h)
    by_hole l d (section r operator) fits h inner bracket =
        by_token (at (core (frame l d (section r operator) ∷ frames) level depth front n) (machine.expressed e)) close
        (round_ends frames closes l d front n close r (tree.section operator (applied level e)) fits.2 fits.1.0 fits.1.1 fits.1.2)
    by_hole l d (list shape es) fits h inner bracket =
        by_token (at (core (frame l d (list shape es) ∷ frames) level depth front n) (machine.expressed e)) close_square
        (closes.operand_ l d front n (tree.list shape (tree.further es (applied level e))) fits.2 fits.1.1 fits.1.0.inner)
    by_hole l d (weighed w) fits h inner bracket =
        by_token (at (core (frame l d (weighed w) ∷ frames) level depth front n) (machine.expressed e)) close
        (weighed_ends frames all l d front n w (applied level e) fits.2 fits.1)
    by_hole l d (constant spot) fits h inner bracket = absurd bracket
    by_hole l d hole fits h inner bracket = absurd inner

-- ---- operands that are whole
operand_end : OperandEnds []
operand_end level depth front n e fits h inner =
    goes (at (core [] (with_pending level e).level depth front (suc n)) (machine.expressed (with_pending level e).expr))
    (expr_end (with_pending level e).level depth front (suc n) (with_pending level e).expr fits h inner tt)

operand_ends : (g : Frame) (frames : List Frame) → All frames → ExprEnds (g ∷ frames) → OperandEnds (g ∷ frames)
operand_ends g frames all whole level depth front n e fits h inner = by_hole g.level g.depth g.hole fits h inner whole
  where
    by_hole : (l : List Pending) (d : ℕ) (hole : Hole) → Fits (frame l d hole ∷ frames) depth → IsTrue (hole_has_exprs hole) → IsInner hole
        → ExprEnds (frame l d hole ∷ frames)
        → EndsBy (operand_hole (core (frame l d hole ∷ frames) (with_pending level e).level depth front n) (frame l d hole) frames
        (with_pending level e).expr hole)
    by_hole l d (constant spot) fits h inner whole =
        (innermost frames all).made_ l d front n spot (tree.const (with_pending level e).expr) fits.2 fits.1.0 fits.1.1
    by_hole l d hole fits h inner whole =
        goes (at (core (frame l d hole ∷ frames) (with_pending level e).level depth front (suc n)) (machine.expressed (with_pending level e).expr))
        (whole (with_pending level e).level depth front (suc n) (with_pending level e).expr fits h inner tt)

-- ---- each frame
closes_of : (frames : List Frame) → Below frames → ExprEnds frames → OperandEnds frames → Closes frames
closes_of frames below whole read = record {
  expr = whole;
  operand_ = read;
  named = by_name;
  chained = by_chain;
  made_ = by_spot;
}
  where
    by_name : (level : List Pending) (depth : ℕ) (front : Front) (n : ℕ) (f : Fun) → Fits frames depth → Open frames level
        → Ends (at (core frames level depth front n) (machine.named f))
    by_name level depth front n f fits open_ = fun_ends frames below read level depth front n (machine.named f) f refl refl fits open_

    by_chain : (level : List Pending) (depth : ℕ) (front : Front) (n : ℕ) (f : Fun) → Fits frames depth → Open frames level
        → Ends (at (core frames level depth front n) (machine.chained f))
    by_chain level depth front n f fits open_ = fun_ends frames below read level depth front n (machine.chained f) f refl refl fits open_

    by_spot : (level : List Pending) (depth : ℕ) (front : Front) (n : ℕ) (spot : Spot) (f : Fun) → Fits frames depth → Open frames level
        → SpotFits spot frames → EndsBy (made (core frames level depth front n) spot f)
    by_spot level depth front n first f fits open_ h =
        goes (at (core frames level depth front (suc n)) (machine.named f)) (by_name level depth front (suc n) f fits open_)
    by_spot level depth front n at_operand f fits open_ h =
        goes (at (core frames (calls f ∷ level) depth front (suc n)) (machine.wanting at_operand))
        (second_ends frames read (calls f ∷ level) depth front (suc n) fits h open_.inner)
    by_spot level depth front n (after_dot g) f fits open_ h =
        goes (at (core frames level depth front (suc n)) (machine.chained (tree.chain g f))) (by_chain level depth front (suc n) (tree.chain g f) fits open_)

all_close : (frames : List Frame) → All frames
all_close [] = closes_of [] tt expr_end operand_end
all_close (f ∷ frames) =
    let below = all_close frames in
    let whole = expr_ends f frames below in
    (closes_of (f ∷ frames) below whole (operand_ends f frames below whole), below)

pub below : (frames : List Frame) → Below frames
below [] = tt
below (f ∷ frames) = all_close frames

pub closes : (frames : List Frame) → Closes frames
closes frames = innermost frames (all_close frames)
