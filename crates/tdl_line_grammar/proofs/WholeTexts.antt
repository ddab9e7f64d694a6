-- The machine reads exactly what whole lines and patterns spell.
use Rattle.std.specs.List.{AllZip}
use Rattle.std.proofs.Common.{◌≡◌, ℕ, suc, ◌+◌, Bool, Ok, List, [], ◌∷◌, ◌++◌, length, refl, ap, ◌∙◌, arith}
use Rattle.tdl_grammar.specs.Machine.{all_checked, run}
use Rattle.tdl_line_machine.specs.declared.faults.LineKind.TheVariants.{BadOrbit, BadEvery}
use Rattle.tdl_line_machine.specs.declared.names.Name.TheVariants as name
use Rattle.tdl_line_machine.specs.declared.marks.Mark.TheVariants as mark
use Rattle.tdl_line_machine.specs.Tokens.{Tok, number, end}
use Rattle.tdl_command.specs.Rules.{whole_number}
use Rattle.tdl_line_machine.specs.Tokens as token
use Rattle.tdl_command.specs.Tree as tree
use Rattle.tdl_command.specs.Tree.{Expr, Line, Whole}
use Rattle.tdl_command.specs.Rules.{is_orbit, is_every}
use Rattle.tdl_line_machine.specs.Pieces.{Piece, spells, obeys, fixed}
use Rattle.tdl_line_grammar.specs.Spelling.{IsTokenOf, sign, word, expr_pieces, line_pieces, whole_pieces, named_orbit, terminals, spell}
use Rattle.tdl_line_machine.specs.declared.goals.Goal.{Goal}
use Rattle.tdl_line_machine.specs.declared.goals.Goal.TheVariants.{Line as a_line, Pattern as a_pattern}
use Rattle.tdl_line_grammar.specs.Grammar.{Formed, FormedLine, FormedWhole, Reads}
use Rattle.tdl_line_grammar.specs.Faults.{tests}
use Rattle.tdl_line_machine.specs.Machine.States.{Front, alone, plays, jumps, first, done, ended}
use Rattle.tdl_line_machine.specs.Machine.{taken}
use Rattle.tdl_line_machine.specs.Machine.Expressions.{whole_of}
use Rattle.tdl_line_machine.specs.Machine.States.{wanting, first_state}
use Rattle.tdl_line_grammar.specs.inside.Laws.{final_state}
use Rattle.tdl_line_grammar.proofs.Running.{steps, run_steps, Runs, runs_token, runs_then, runs_and, after}
use Rattle.tdl_line_grammar.proofs.Balanced.{expr_deep}
use Rattle.tdl_line_grammar.proofs.Kept.{Kept, at}
use Rattle.tdl_line_grammar.proofs.Leaves.{sign_runs, word_runs}
use Rattle.tdl_line_grammar.proofs.Facts.{Settled, first_begins}
use Rattle.tdl_line_grammar.proofs.Exact.{expr_facts}

abbrev top : Front → Kept
top front = record { frames = []; level = []; depth = 0; front = front }

top_settled : (front : Front) → Settled (top front)
top_settled front = record { base = tt; open_ = λ level e n. refl }

-- an expression, and the end
expr_end :
    (tested : Bool) (front : Front) (e : Expr) → Formed e → (from : ℕ) →
    Runs tested from 0 (at (top front) (wanting first) from) (expr_pieces e ++ spells (fixed end) ∷ [])
    (at (top front) (ended (whole_of front e)) (after from (expr_pieces e ++ spells (fixed end) ∷ [])))
expr_end tested front e formed from =
    let whole = (expr_facts e).whole tested (top front) (wanting first) (top front) (first_begins tested (top front) refl) (top_settled front) formed from in
    runs_and (expr_pieces e) (spells (fixed end) ∷ []) (expr_deep _ e) (at (top front) (ended (whole_of front e))) whole.runs
    (runs_token (spells (fixed end) ∷ []) end refl
    (steps _ _ _ (ap (λ x. Ok (at (top front) (ended (whole_of front x)) (suc (after from (expr_pieces e))))) whole.same)))

-- a line that is whole, and the end
line_end : (tested : Bool) (l : Line) (from : ℕ)
    → Runs tested from 0 (at (top alone) (done l) from) (spells (fixed end) ∷ []) (at (top alone) (ended (tree.line l)) (suc from))
line_end tested l from = runs_token (spells (fixed end) ∷ []) end refl (steps _ _ _ refl)

line_runs :
    (tested : Bool) (l : Line) → FormedLine l →
    Runs tested 0 0 (first_state a_line) (line_pieces l ++ spells (fixed end) ∷ [])
    (final_state (tree.line l) (after 0 (line_pieces l ++ spells (fixed end) ∷ [])))
line_runs tested tree.nothing formed = runs_token (spells (fixed end) ∷ []) end refl (steps _ _ _ refl)
line_runs tested (tree.order o) formed =
    runs_then (word (name.Order o) ∷ []) (spells (fixed end) ∷ []) refl (word_runs (name.Order o) (steps _ _ _ refl)) (line_end tested (tree.order o) 1)
line_runs tested (tree.flag f n) formed =
    runs_then (word (name.Flag f) ∷ []) (whole_pieces is_orbit BadOrbit n ++ spells (fixed end) ∷ []) refl (word_runs (name.Flag f) (steps _ _ _ refl))
    (runs_then (whole_pieces is_orbit BadOrbit n) (spells (fixed end) ∷ []) refl
    (runs_token (whole_pieces is_orbit BadOrbit n) (number (whole_number n)) refl (steps _ _ _ refl))
    (line_end tested (tree.flag f n) 2))
line_runs tested (tree.play o e) formed =
    runs_then (named_orbit o) (sign mark.Dollar ∷ (expr_pieces e ++ spells (fixed end) ∷ [])) refl
    (runs_token (named_orbit o) (token.name (name.Orbit o)) refl (steps _ _ _ refl))
    (runs_then (sign mark.Dollar ∷ []) (expr_pieces e ++ spells (fixed end) ∷ []) refl (sign_runs mark.Dollar (steps _ _ _ refl))
    (expr_end tested (plays o) e formed 2))
line_runs tested (tree.still o) formed =
    runs_then (named_orbit o) (word name.Silence ∷ spells (fixed end) ∷ []) refl
    (runs_token (named_orbit o) (token.name (name.Orbit o)) refl (steps _ _ _ refl))
    (runs_then (word name.Silence ∷ []) (spells (fixed end) ∷ []) refl (word_runs name.Silence (steps _ _ _ refl)) (line_end tested (tree.still o) 2))
line_runs tested (tree.jump n every e) formed =
    runs_then (word name.JumpMod ∷ [])
    (whole_pieces is_orbit BadOrbit n ++ (whole_pieces is_every BadEvery every ++ sign mark.Dollar ∷ (expr_pieces e ++ spells (fixed end) ∷ []))) refl
    (word_runs name.JumpMod (steps _ _ _ refl))
    (runs_then (whole_pieces is_orbit BadOrbit n) (whole_pieces is_every BadEvery every ++ sign mark.Dollar ∷ (expr_pieces e ++ spells (fixed end) ∷ [])) refl
    (runs_token (whole_pieces is_orbit BadOrbit n) (number (whole_number n)) refl (steps _ _ _ refl))
    (runs_then (whole_pieces is_every BadEvery every) (sign mark.Dollar ∷ (expr_pieces e ++ spells (fixed end) ∷ [])) refl
    (runs_token (whole_pieces is_every BadEvery every) (number (whole_number every)) refl (steps _ _ _ refl))
    (runs_then (sign mark.Dollar ∷ []) (expr_pieces e ++ spells (fixed end) ∷ []) refl (sign_runs mark.Dollar (steps _ _ _ refl))
    (expr_end tested (jumps n every) e formed 4))))

whole_runs :
    (tested : Bool) (goal : Goal) (w : Whole) → FormedWhole goal w →
    Runs tested 0 0 (first_state goal) (spell w) (final_state w (after 0 (spell w)))
whole_runs tested a_line (tree.line l) formed = line_runs tested l formed
whole_runs tested a_line (tree.pattern e) formed = absurd formed
whole_runs tested a_pattern (tree.line l) formed = absurd formed
whole_runs tested a_pattern (tree.pattern e) formed = expr_end tested alone e formed 0

-- how many tokens stand at pieces
after_length : (n : ℕ) (a : List Piece) (tokens : List Tok) → AllZip IsTokenOf (terminals a) tokens → after n a ≡ n + length tokens
after_length n [] [] h = omega arith
after_length n [] (t ∷ tokens) h = absurd h
after_length n (spells x ∷ a) [] h = absurd h
after_length n (spells x ∷ a) (t ∷ tokens) h = let e : after (suc n) a ≡ suc n + length tokens = after_length (suc n) a tokens h.1 in omega (arith, e)
after_length n (obeys r ∷ a) tokens h = after_length n a tokens h

pub reads_run :
    (goal : Goal) (tested : Bool) (tokens : List Tok) (w : Whole) → Reads goal tokens w →
    run (taken tested) (first_state goal) tokens ≡ all_checked tested (tests w) (Ok (final_state w (length tokens)))
reads_run goal tested tokens w h =
    let read : after 0 (spell w) ≡ length tokens = omega (arith, after_length 0 (spell w) tokens h.spelled) in
    run_steps _ _ _ ((whole_runs tested goal w h.formed).all tokens h.spelled)
    ∙ ap (λ n. all_checked tested (tests w) (Ok (final_state w n))) read
