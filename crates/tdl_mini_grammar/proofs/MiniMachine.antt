-- The machine is one of the grammar, and reads it exactly.
--     mini_machine     it
--     is_exact         what it reads is what the grammar has, test by test
use Rattle.std.proofs.Common.{◌≡◌, ℕ, true, false, inl, inr, ⊎_elim, ◌⊎◌, Ok, Err, List, [], ◌∷◌, ◌++◌, length, IsTrue, refl, sym, ap, ◌∙◌, subst}
use Rattle.std.proofs.Common.{append-nil, not, ◌+◌, arith}
use Rattle.tdl_grammar.specs.Faults.{GoesOn}
use Rattle.tdl_grammar.specs.inside.TokenMachine.{TokenMachine, Early as EarlyIn, Late as LateIn, Closes, IsExact}
use Rattle.tdl_grammar.proofs.Tests.{ok_is, ok_fails, failed_is}
use Rattle.tdl_grammar.proofs.Runs.{run-append}
use Rattle.tdl_mini_tree.specs.declared.faults.MiniKind.{MiniKind}
use Rattle.tdl_mini_tree.specs.declared.leaves.Kind.{Kind}
use Rattle.tdl_mini_machine.specs.Tokens.{Tok, end}
use Rattle.tdl_mini_grammar.specs.Grammar.{Reads}
use Rattle.tdl_mini_machine.specs.Rules.{Test}
use Rattle.tdl_mini_grammar.specs.Faults.{mini}
use Rattle.tdl_mini_machine.specs.WrongTokens.{depth_from, wrong_token}
use Rattle.tdl_mini_tree.specs.Tree.{Layers}
use Rattle.tdl_mini_machine.specs.Machine.States.{State, Frame, Stage, ready, voiced, sampling, numbered, ranging, braced, wanting, stepping, weighing}
use Rattle.tdl_mini_machine.specs.Machine.States.{weighted, repeating, ended, failed, wrong, Taken, and_then, first_state, final_state}
use Rattle.tdl_mini_machine.specs.Machine.Running.{at_end, taken, run}
use Rattle.tdl_mini_machine.specs.Machine.Settling.{settled}
use Rattle.tdl_mini_grammar.proofs.Exact.{exact}
use Rattle.tdl_mini_machine.proofs.Counting.{Early, is_off, apart}
use Rattle.tdl_mini_machine.proofs.Counts.{taken_counts, taken-untested, taken-failed, taken-wrong, end_failed, early_off, run-read, run-depth}
use Rattle.tdl_mini_grammar.proofs.Sound.{spells_front, sound}
use Rattle.tdl_mini_grammar.proofs.Closing.{closing, closing_ends, closes_failing, failing_unended}

abbrev pub mini_machine : (kind : Kind) → TokenMachine (mini kind)
mini_machine kind = record {
  State = State;
  first = first_state kind;
  take = taken;
  read = λ s. s.read;
  Owes = Early;
  IsEnd = λ t. t ≡ end;
  IsEnded = λ s. s.stage ≡ ended;
  tree = λ s. s.level.layers;
  final = final_state kind;
}

-- ---- texts that go on
-- a text is at its end, or not
stage_ends : (p : Stage) → (p ≡ ended) ⊎ (p ≡ ended → ⊥)
stage_ends ended = inl refl
stage_ends ready = inr (λ e. cc)
stage_ends (voiced text) = inr (λ e. cc)
stage_ends (sampling text) = inr (λ e. cc)
stage_ends (numbered n) = inr (λ e. cc)
stage_ends (ranging n) = inr (λ e. cc)
stage_ends (braced role bs ls) = inr (λ e. cc)
stage_ends (wanting role bs) = inr (λ e. cc)
stage_ends (stepping s) = inr (λ e. cc)
stage_ends (weighing s) = inr (λ e. cc)
stage_ends (weighted s n) = inr (λ e. cc)
stage_ends (repeating b) = inr (λ e. cc)

closed_text : (kind : Kind) (front : List Tok) (s : State) → run false (first_state kind) front ≡ Ok s → (s.stage ≡ ended → ⊥) → (ls : Layers)
    × Reads kind (front ++ closing s) ls
closed_text kind front s e unended =
    let h = closing_ends kind s (spells_front kind front s e).fit unended in
    (h.0.level.layers, sound kind (front ++ closing s) h.0 (run-append (taken false) front (closing s) (first_state kind) s e ∙ h.1) h.2)

text_after : (kind : Kind) (front : List Tok) (s : State) → run false (first_state kind) front ≡ Ok s → (ls : Layers) × GoesOn (mini kind) front ls
text_after kind front s e =
    ⊎_elim
    (λ is. (s.level.layers, ([], subst (λ (ts : List Tok). Reads kind ts s.level.layers) (sym (append-nil front)) (sound kind front s e is))))
    (λ unended. let h = closed_text kind front s e unended in (h.0, (closing s, h.1)))
    (stage_ends s.stage)

closed_failing : (kind : Kind) (front : List Tok) (s : State) (test : Test) → run false (first_state kind) front ≡ Ok s → Early s test
    → Closes (mini_machine kind) front s test
closed_failing kind front s test e early =
    let text = closed_text kind front s e (failing_unended s test early) in
    record { more = closing s; text = text.0; reads = text.1; fails = closes_failing s test early }

-- ---- one token
failed_in : (kind : Kind) (s : State) (t : Tok) (test : Test) → taken true s t ≡ Err (failed test)
    → EarlyIn (mini_machine kind) s t test ⊎ LateIn (mini_machine kind) s t test
failed_in kind s t test e =
    ⊎_elim
    (λ early. inl (record { owed = early.0; made = early.1 }))
    (λ late. inr (record { ends = late.ends; made = late.made; after = late.after; goes = late.goes }))
    (taken-failed s t test e)

answer : (kind : Kind) (front : List Tok) (s : State) (t : Tok) (fault : MiniKind) (at : ℕ) → run true (first_state kind) front ≡ Ok s
    → taken true s t ≡ Err (wrong fault at) → (fault ≡ wrong_token (depth_from 0 front) t) × (at ≡ length front)
answer kind front s t fault at e stops =
    let counted = taken-wrong true s t fault at stops in (
      counted.0 ∙ ap (λ (n : ℕ). wrong_token n t) (run-depth true front (first_state kind) s e),
      counted.1 ∙ run-read true front (first_state kind) s e ∙ none_before (length front),
    )
  where
    none_before : (n : ℕ) → 0 + n ≡ n
    none_before n = omega arith

-- ---- ends
at_end_ends : (s f : State) (frames : List Frame) → at_end s end frames ≡ Ok f → f.stage ≡ ended
at_end_ends s f [] e = sym (ap (λ (x : State). x.stage) (ok_is (at_end s end []) _ f refl e))
at_end_ends s f (frame ∷ frames) e = absurd (ok_fails (at_end s end (frame ∷ frames)) f _ e refl)

end_by : (r : Taken) (f : State) → and_then r (λ s. at_end s end s.frames) ≡ Ok f → f.stage ≡ ended
end_by (Ok s) f e = at_end_ends s f s.frames e
end_by (Err fault) f e = absurd (ok_fails (Err fault) f fault e refl)

pub end_at : (s f : State) → taken true s end ≡ Ok f → f.stage ≡ ended
end_at s f e = end_by (settled true s end) f e

end_is : (s f : State) (t : Tok) → t ≡ end → taken true s t ≡ Ok f → f.stage ≡ ended
end_is s f t is e = end_at s f (subst (λ (x : Tok). taken true s x ≡ Ok f) is e)

end_fails : (kind : Kind) (s : State) (t : Tok) (test : Test) → t ≡ end → taken true s t ≡ Err (failed test) → EarlyIn (mini_machine kind) s t test
end_fails kind s t test is e =
    let early = end_failed s test (subst (λ (x : Tok). taken true s x ≡ Err (failed test)) is e) in
    record { owed = early; made = subst (λ (x : Tok). IsTrue (not (is_off test x))) (sym is) (apart s end refl test early) }

pub is_exact : (kind : Kind) → IsExact (mini_machine kind)
is_exact kind = record {
  starts = refl;
  counts = λ s f t e. (taken_counts false s f t e).0;
  goes = taken-untested;
  refuses = λ s t fault at e. (taken-wrong true s t fault at e).2;
  fails = failed_in kind;
  answers = answer kind;
  owed_ends = λ s test early. early.ends;
  owed_once = λ s a b x y. failed_is (settled true s end) a b (x.settled end) (y.settled end);
  owed_first = λ s t test fault at early e. early_off s t fault at test e early;
  owed_closes = closed_failing kind;
  end_fails = end_fails kind;
  end_ends = end_is;
  exact = λ tested tokens ls reads. exact kind tokens ls tested reads;
  sound = sound kind;
  opens = text_after kind;
  final_tree = λ ls n. refl;
}
