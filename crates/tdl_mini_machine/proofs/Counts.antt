-- What the machine counts, and what its tests change.
--     run-read, run-depth          the tokens that are read, and the brackets that are open after them
--     run-untested                 what the tested machine reads, the untested one reads too
--     taken-failed                 a test that fails is of the step that the token finishes, or of the token
--     taken-wrong                  a token that is refused is refused by the untested machine too
use Rattle.std.proofs.Common.{◌≡◌, ℕ, suc, ◌+◌, ◌⊎◌, inl, inr, ⊎_elim, Bool, true, false, not, Ok, Err, List, [], ◌∷◌, length, IsTrue, refl, sym, ap, ◌∙◌}
use Rattle.std.proofs.Common.{subst}
use Rattle.tdl_grammar.proofs.Tests.{failed_is, ok_is, ok_fails, wrong_fails}
use Rattle.tdl_grammar.proofs.Runs as runs
use Rattle.tdl_mini_tree.specs.declared.faults.MiniKind.{MiniKind}
use Rattle.tdl_mini_machine.specs.Tokens.{Tok, end}
use Rattle.tdl_mini_machine.specs.Rules.{Test}
use Rattle.tdl_mini_machine.specs.WrongTokens.{opened, depth_from, wrong_token}
use Rattle.tdl_mini_machine.specs.Machine.States.{Frame, State, failed, wrong, Taken, and_then}
use Rattle.tdl_mini_machine.specs.Machine.Running.{at_end, taken, run}
use Rattle.tdl_mini_machine.specs.Machine.Settling.{settled}
use Rattle.tdl_mini_machine.proofs.Counting.{Counted, Onward, Early, is_off, Refuses, StepsAlike, Settling, goes, stops, fails, settling, step}

-- ---- one step
onward_of : (s : State) (t : Tok) (r u : Taken) → StepsAlike s t r u
    → Onward s r u ⊎ ((test : Test) × (r ≡ Err (failed test)) × Early s test × IsTrue (not (is_off test t)))
onward_of s t r u h = h.goes

same_ok : (s f : State) (t : Tok) (r u : Taken) → StepsAlike s t r u → r ≡ Ok f → u ≡ Ok f
same_ok s f t r u h e = ⊎_elim (λ o. subst (λ (x : Taken). Onward s x u) e o) (λ early. absurd (ok_fails r f (failed early.0) e early.1)) h.goes

pub taken-untested : (s f : State) (t : Tok) → taken true s t ≡ Ok f → taken false s t ≡ Ok f
taken-untested s f t e = same_ok s f t (taken true s t) (taken false s t) (step s t) e

counted_ok : (s f : State) (t : Tok) → taken false s t ≡ Ok f → Counted s t (Ok f)
counted_ok s f t e = subst (Counted s t) e (step s t).counted

pub taken_counts : (tested : Bool) (s f : State) (t : Tok) → taken tested s t ≡ Ok f → (f.read ≡ suc s.read) × (length f.frames ≡ opened t (length s.frames))
taken_counts true s f t e = counted_ok s f t (taken-untested s f t e)
taken_counts false s f t e = counted_ok s f t e

wrong_in : (s : State) (t : Tok) (kind : MiniKind) (at : ℕ) (r u : Taken) → StepsAlike s t r u → r ≡ Err (wrong kind at) → u ≡ Err (wrong kind at)
wrong_in s t kind at r u h e = ⊎_elim (λ o. subst (λ (x : Taken). Onward s x u) e o) (λ early. absurd (wrong_fails r early.0 kind at early.1 e)) h.goes

counted_wrong : (s : State) (t : Tok) (kind : MiniKind) (at : ℕ) → taken false s t ≡ Err (wrong kind at) → Counted s t (Err (wrong kind at))
counted_wrong s t kind at e = subst (Counted s t) e (step s t).counted

pub taken-wrong : (tested : Bool) (s : State) (t : Tok) (kind : MiniKind) (at : ℕ) → taken tested s t ≡ Err (wrong kind at)
    → (kind ≡ wrong_token (length s.frames) t) × (at ≡ s.read) × (taken false s t ≡ Err (wrong kind at))
taken-wrong true s t kind at e =
    let same = wrong_in s t kind at (taken true s t) (taken false s t) (step s t) e in
    let counted = counted_wrong s t kind at same in
    (counted.0, counted.1, same)
taken-wrong false s t kind at e =
    let counted = counted_wrong s t kind at e in
    (counted.0, counted.1, e)

-- a test of the token itself fails
pub record Late (s : State) (t : Tok) (test : Test) : Type 0 where
  pub fails : test.holds ≡ false
  pub ends : test.ends ≡ suc s.read
  pub made : test.waits ≡ false
  pub after : State
  pub goes : taken false s t ≡ Ok after

pub taken-failed : (s : State) (t : Tok) (test : Test) → taken true s t ≡ Err (failed test)
    → (Early s test × IsTrue (not (is_off test t))) ⊎ Late s t test
taken-failed s t test e =
    ⊎_elim
    (λ o. inr (late (subst (λ (x : Taken). Onward s x (taken false s t)) e o)))
    (λ early. inl (subst (λ (x : Test). Early s x × IsTrue (not (is_off x t))) (failed_is (taken true s t) early.0 test early.1 e) (early.2, early.3)))
    (onward_of s t (taken true s t) (taken false s t) (step s t))
  where
    late : Onward s (Err (failed test)) (taken false s t) → Late s t test
    late o = record { fails = o.0; ends = o.1; made = o.2; after = o.3; goes = o.4 }

-- ---- several
pub run-read : (tested : Bool) (tokens : List Tok) (s f : State) → run tested s tokens ≡ Ok f → f.read ≡ s.read + length tokens
run-read tested tokens s f e = runs.run-read (taken tested) (λ s. s.read) (λ s f t is. (taken_counts tested s f t is).0) tokens s f e

pub run-depth : (tested : Bool) (tokens : List Tok) (s f : State) → run tested s tokens ≡ Ok f → length f.frames ≡ depth_from (length s.frames) tokens
run-depth tested [] s f e = ap (λ (x : State). length x.frames) (sym (ok_is (Ok s) s f refl e))
run-depth tested (t ∷ others) s f e =
    let b = runs.begins (taken tested) s t others f e in
    run-depth tested others b.next f b.more ∙ ap (λ n. depth_from n others) (taken_counts tested s b.next t b.taken).1

pub run-untested : (tokens : List Tok) (s f : State) → run true s tokens ≡ Ok f → run false s tokens ≡ Ok f
run-untested tokens s f e = runs.run-untested (taken true) (taken false) taken-untested tokens s f e

pub failing : (s : State) (t : Tok) (test : Test) → taken true s t ≡ Err (failed test) → (test.holds ≡ false)
    × (((test.ends ≡ s.read) × (settled true s end ≡ Err (failed test))) ⊎ ((test.ends ≡ suc s.read) × (f : State) × (taken false s t ≡ Ok f)))
failing s t test e =
    ⊎_elim
    (λ early. (early.0.fails, inl (early.0.ends, early.0.settled end)))
    (λ late. (late.fails, inr (late.ends, late.after, late.goes)))
    (taken-failed s t test e)

-- ---- tests of the step before
early_in : (s : State) (t : Tok) (test : Test) (r u : Taken) → Settling s t r u → r ≡ Err (failed test) → Early s test
early_in s t test _ _ (goes f d e) is = absurd (ok_fails (Ok f) f (failed test) refl is)
early_in s t test _ _ (stops kind at k a) is = absurd (wrong_fails (Err (wrong kind at)) test kind at is refl)
early_in s t test _ _ (fails other f early d e) is = subst (Early s) (failed_is (Err (failed other)) other test refl is) early

pub early_of : (s : State) (test : Test) → settled true s end ≡ Err (failed test) → Early s test
early_of s test e = early_in s end test (settled true s end) (settled false s end) (settling s end) e

-- a text's end has no test of its own
end_in : (s : State) (test : Test) (r u : Taken) → Settling s end r u → and_then r (λ f. at_end f end f.frames) ≡ Err (failed test) → Early s test
end_in s test _ _ (goes f d e) is = absurd (outermost f.frames is)
  where
    outermost : (frames : List Frame) → at_end f end frames ≡ Err (failed test) → ⊥
    outermost [] x = ok_fails (at_end f end []) _ (failed test) refl x
    outermost (g ∷ frames) x = wrong_fails (at_end f end (g ∷ frames)) test _ f.read x refl
end_in s test _ _ (stops kind at k a) is = absurd (wrong_fails (Err (wrong kind at)) test kind at is refl)
end_in s test _ _ (fails other f early d e) is = subst (Early s) (failed_is (Err (failed other)) other test refl is) early

pub end_failed : (s : State) (test : Test) → taken true s end ≡ Err (failed test) → Early s test
end_failed s test e = end_in s test (settled true s end) (settled false s end) (settling s end) e

-- a token is refused before a test that fails only where that is put off
pub early_off : (s : State) (t : Tok) (kind : MiniKind) (at : ℕ) (test : Test) → taken true s t ≡ Err (wrong kind at) → Early s test
    → IsTrue (is_off test t)
early_off s t kind at test e early = subst (Refuses s t) e (step s t).refuses test early
