-- The machine is one of the grammar of lines, and reads it exactly.
--     line_machine     it
--     is_exact         what it reads is what the grammar has, test by test
use Rattle.std.specs.Prelude.{if◌then◌else◌}
use Rattle.std.proofs.Common.{◌≡◌, ℕ, ◌+◌, Bool, true, false, inr, ◌⊎◌, Ok, Err, List, [], ◌∷◌, ◌++◌, length, refl, sym, ap, ◌∙◌, subst, arith}
use Rattle.tdl_grammar.specs.Faults.{GoesOn}
use Rattle.tdl_grammar.specs.Machine.{failed, wrong, run}
use Rattle.tdl_grammar.specs.inside.TokenMachine.{TokenMachine, Early, Late, IsExact}
use Rattle.tdl_grammar.proofs.Runs as runs
use Rattle.tdl_line_machine.specs.declared.faults.LineKind.{LineKind}
use Rattle.tdl_line_machine.specs.Tokens.{Tok, end}
use Rattle.tdl_command.specs.Tree.{Expr, Whole}
use Rattle.tdl_line_machine.specs.declared.goals.Goal.{Goal}
use Rattle.tdl_line_machine.specs.Pieces.{Place}
use Rattle.tdl_line_machine.specs.WrongTokens.{depth_from, wrong_token}
use Rattle.tdl_line_grammar.specs.Faults.{lines}
use Rattle.tdl_line_machine.specs.Machine.Expressions.{wanted, at_end, applied}
use Rattle.tdl_line_machine.specs.Machine.Open.{has_exprs}
use Rattle.tdl_line_machine.specs.Machine.States.{Frame, Pending, Core, State, Stage, Step, refused, with_level, at_operand}
use Rattle.tdl_line_machine.specs.Machine.Functions.{pending_before}
use Rattle.tdl_line_machine.specs.Machine.{taken_at, taken}
use Rattle.tdl_line_machine.specs.Machine.States.{calls, shifts, first_state}
use Rattle.tdl_line_machine.specs.Machine as machine
use Rattle.tdl_line_grammar.specs.inside.Laws.{final_state, tree_of, IsEnded}
use Rattle.tdl_line_grammar.proofs.WholeTexts.{reads_run}
use Rattle.tdl_line_grammar.proofs.Sound.{sound}
use Rattle.tdl_line_machine.proofs.Counting.{LineTest, Counted, Onward, pair, untested, is_counted, refuses}
use Rattle.tdl_line_grammar.proofs.Reaching.{first_reached, run-reached}
use Rattle.tdl_line_grammar.proofs.Ending.{state_ends}

-- no test waits for the token after it
abbrev pub line_machine : (goal : Goal) → TokenMachine (lines goal)
line_machine goal = record {
  State = State;
  first = first_state goal;
  take = taken;
  read = λ s. s.core.read;
  Owes = λ s test. ⊥;
  IsEnd = λ t. t ≡ end;
  IsEnded = IsEnded;
  tree = tree_of;
  final = final_state;
}

-- ---- one token
pub wrong_here : (s : State) (t : Tok) (kind : LineKind) (at : Place) → taken true s t ≡ Err (wrong kind at)
    → (kind ≡ wrong_token s.core.depth t) × (at ≡ record { token = s.core.read; offset = 0 })
wrong_here s t kind at e = subst (Counted s.core.read s.core.depth t) (refuses s t kind at e) (pair s t).counted

pub fails : (goal : Goal) (s : State) (t : Tok) (test : LineTest) → taken true s t ≡ Err (failed test)
    → Early (line_machine goal) s t test ⊎ Late (line_machine goal) s t test
fails goal s t test e =
    let o = subst (λ (x : Step). Onward s.core.read x (taken false s t)) e (pair s t).onward in
    inr (record { ends = o.0; made = o.1; after = o.2; goes = o.3 })

-- ---- the fault of a token
answers : (goal : Goal) (front : List Tok) (s : State) (t : Tok) (kind : LineKind) (at : Place) → run (taken true) (first_state goal) front ≡ Ok s
    → taken true s t ≡ Err (wrong kind at) → (kind ≡ wrong_token (depth_from 0 front) t) × (at ≡ record { token = length front; offset = 0 })
answers goal front s t kind at e stops =
    let here = wrong_here s t kind at stops in
    let reached = run-reached front (first_state goal) s (first_reached goal)
    (runs.run-untested (taken true) (taken false) untested front (first_state goal) s e) in
    let read = runs.run-read (taken true) (λ (x : State). x.core.read) (λ x f u is. is_counted x f u (untested x f u is)) front (first_state goal) s e in (
      here.0 ∙ ap (λ (n : ℕ). wrong_token n t) reached.1,
      here.1 ∙ ap (λ (n : ℕ). record { token = n; offset = 0 }) (read ∙ none_before (length front)),
    )
  where
    none_before : (n : ℕ) → 0 + n ≡ n
    none_before n = omega arith

-- ---- ends
abbrev AtEnd : Step → Type 0
AtEnd (Ok f) = IsEnded f
AtEnd (Err (failed test)) = ⊥
AtEnd (Err (wrong kind at)) = Unit {0}

pending_end : (c : Core) (p : Pending) → AtEnd (pending_before true c end p)
pending_end c p = by_test (has_exprs c.frames)
  where
    by_test : (b : Bool) → AtEnd (if b then wanted true (with_level c (p ∷ c.level)) end at_operand else refused c end)
    by_test true = tt
    by_test false = tt

top_end : (c : Core) (frames : List Frame) (e : Expr) → AtEnd (at_end c end frames e)
top_end c [] e = refl
top_end c (f ∷ frames) e = tt

end_at : (c : Core) (p : Stage) → AtEnd (taken_at true c end p)
end_at c machine.beginning = refl
end_at c (machine.done l) = refl
end_at c (machine.expressed e) = top_end c c.frames (applied c.level e)
end_at c (machine.named f) = pending_end c (calls f)
end_at c (machine.shifted r way) = pending_end c (shifts r way)
end_at c p = tt

ended_at : (s : State) (t : Tok) (r : Step) → t ≡ end → taken true s t ≡ r → AtEnd r
ended_at s t r is e = subst AtEnd (sym (ap (taken true s) is) ∙ e) (end_at s.core s.stage)

-- ---- texts that go on
pub text_after : (goal : Goal) (front : List Tok) (s : State) → run (taken false) (first_state goal) front ≡ Ok s
    → (w : Whole) × GoesOn (lines goal) front w
text_after goal front s e =
    let h = state_ends s (run-reached front (first_state goal) s (first_reached goal) e).0 in
    (tree_of h.1, (h.0, sound goal (front ++ h.0) h.1 (runs.run-append (taken false) front h.0 (first_state goal) s e ∙ h.2) h.3))

pub is_exact : (goal : Goal) → IsExact (line_machine goal)
is_exact goal = record {
  starts = refl;
  counts = is_counted;
  goes = untested;
  refuses = refuses;
  fails = fails goal;
  answers = answers goal;
  owed_ends = λ s test h. absurd h;
  owed_once = λ s a b h k. absurd h;
  owed_first = λ s t test kind at h e. absurd h;
  owed_closes = λ front s test e h. absurd h;
  end_fails = λ s t test is e. absurd (ended_at s t (Err (failed test)) is e);
  end_ends = λ s f t is e. ended_at s t (Ok f) is e;
  exact = λ tested tokens w reads. reads_run goal tested tokens w reads;
  sound = sound goal;
  opens = text_after goal;
  final_tree = λ w n. refl;
}
