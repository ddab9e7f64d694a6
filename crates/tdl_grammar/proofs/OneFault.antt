-- Tokens have one first fault at most, and none where they are a text.
--     fault_run            a machine with tests stops with each fault of the tokens
--     text_run             it reads each text to its end
--     IsFault-unique, IsText-no_fault, Reads-unique
use Rattle.std.proofs.Common.{◌≡◌, ℕ, suc, ◌+◌, ◌<◌, ◌⊎◌, inl, inr, ⊎_elim, Bool, true, false, not, Option, Some, Ok, Err, List, [], ◌∷◌, ◌++◌}
use Rattle.std.proofs.Common.{length, IsTrue, IfSome, refl, sym, ap, ◌∙◌, subst, arith, append_assoc}
use Rattle.tdl_grammar.specs.Grammar.{Grammar}
use Rattle.tdl_grammar.specs.Faults.{TestOf, IsText, GoesOn, first_failing, is_put_off, Fails, IsAhead, later, put_off, IsWrong, Reason, fails, wrong, IsFault}
use Rattle.tdl_grammar.specs.Machine.{Stop, failed, Taken, and_then, all_checked, stop_kind, stop_at, run}
use Rattle.tdl_grammar.specs.Machine as machine
use Rattle.tdl_grammar.specs.inside.TokenMachine.{TokenMachine, runs, IsExact}
use Rattle.tdl_grammar.proofs.Tests.{ok_is, ok_fails, failed_is, stop_is, failing_found, found_failing, never_wrong, all_held, untested-same}
use Rattle.tdl_grammar.proofs.Runs.{goes_on, stops_at, run-append, Split, goes, stops, split, fault_before}
use Rattle.tdl_grammar.proofs.FirstFault.{tested_counts, front_untested, front_read, run_fails, failing_is}

-- a test is not both made and put off
not_both : (b : Bool) → IsTrue (not b) → IsTrue b → ⊥
not_both b d e = cc

-- nor one that does not wait put off
waits_not : (g : Grammar) (test : TestOf g) (next : g.Token) → test.waits ≡ false → IsTrue (is_put_off g test next) → ⊥
waits_not g test next e off = cc

module _ (g : Grammar) (m : TokenMachine g) (h : IsExact m) where
  abbrev Steps : Type 0
  Steps = Taken m.State g.Kind g.Place

  -- of the tokens that are read, or not one to be put off
  abbrev Before : (n : ℕ) → TestOf g → Type 0
  Before n test = (test.ends < n) ⊎ ((test.ends ≡ n) × (test.waits ≡ false))

  within_in : (s : m.State) (t : g.Token) (front : List g.Token) (test : TestOf g) (r : Steps) → m.take true s t ≡ r
      → and_then r (λ next. run (m.take true) next front) ≡ Err (failed test)
      → ((next : m.State) → run (m.take true) next front ≡ Err (failed test) → Before (m.read next + length front) test)
      → Before (m.read s + suc (length front)) test
  within_in s t front test (Ok next) is e each =
      let read : m.read next ≡ suc (m.read s) = tested_counts g m h s next t is in
      ⊎_elim
      (λ (before : test.ends < m.read next + length front). inl (omega arith))
      (λ last. let ends : test.ends ≡ m.read next + length front = last.0 in inr (omega arith, last.1))
      (each next e)
  within_in s t front test (Err fault) is e each =
      ⊎_elim
      (λ early. let ends : test.ends ≡ m.read s = h.owed_ends s test early.owed in inl (omega arith))
      (λ late. let ends : test.ends ≡ suc (m.read s) = late.ends in last front late.made ends)
      (h.fails s t test (is ∙ e))
    where
      last : (rest : List g.Token) → test.waits ≡ false → test.ends ≡ suc (m.read s) → Before (m.read s + suc (length rest)) test
      last [] made ends = inr (omega arith, made)
      last (u ∷ rest) made ends = inl (omega arith)

  -- a test that fails is of what is read
  fails_within : (front : List g.Token) (s : m.State) (test : TestOf g) → run (m.take true) s front ≡ Err (failed test)
      → Before (m.read s + length front) test
  fails_within [] s test e = absurd (ok_fails (Ok s) s (failed test) refl e)
  fails_within (t ∷ front) s test e = within_in s t front test (m.take true s t) refl e (λ next. fails_within front next test)

  -- ---- the machine finds each fault
  pub record Stops (tokens : List g.Token) (kind : g.Kind) (at : g.Place) : Type 0 where
    pub found : Stop g.Kind g.Place
    pub run : runs m true tokens ≡ Err found
    pub kind_is : stop_kind found ≡ kind
    pub at_is : stop_at found ≡ at

  -- the run over a text whose first test to fail is this one
  run_failing : (tokens : List g.Token) (tree : g.Tree) (test : TestOf g) → g.Reads tokens tree → first_failing g tree ≡ Some test
      → runs m true tokens ≡ Err (failed test)
  run_failing tokens tree test reads is = h.exact true tokens tree reads ∙ found_failing (g.tests tree) (m.final tree (length tokens)) test is

  -- the machine without tests goes on with the token: a text does too
  text_with : (front : List g.Token) (next : g.Token) (s f : m.State) → runs m true front ≡ Ok s → m.take false s next ≡ Ok f
      → (tree : g.Tree) × GoesOn g (front ++ next ∷ []) tree
  text_with front next s f e goes_with =
      h.opens (front ++ next ∷ []) f (run-append (m.take false) front (next ∷ []) m.first s (front_untested g m h front s e)
      ∙ goes_on (m.take false) s next [] f (Ok f) goes_with refl)

  stops_at_front : (front others : List g.Token) (next : g.Token) (s : m.State) (stop : Stop g.Kind g.Place) → runs m true front ≡ Ok s
      → m.take true s next ≡ Err stop → runs m true (front ++ next ∷ others) ≡ Err stop
  stops_at_front front others next s stop e is = run-append (m.take true) front (next ∷ others) m.first s e
      ∙ stops_at (m.take true) s next others stop is

  -- an owed test is made
  owed_stops : (front others : List g.Token) (next : g.Token) (s : m.State) (test : TestOf g) (r : Steps) → Fails g front next test
      → runs m true front ≡ Ok s → m.Owes s test → m.take true s next ≡ r → runs m true (front ++ next ∷ others) ≡ Err (failed test)
  owed_stops front others next s test (Ok f) fail e owed is =
      let text = text_with front next s f e (h.goes s f next is) in
      let more = text.1.0 in
      let reads = subst (λ (ts : List g.Token). g.Reads ts text.0) (append_assoc front (next ∷ []) more) text.1.1 in
      let stop = sym (goes_on (m.take true) s next more f (run (m.take true) f more) is refl)
      ∙ sym (run-append (m.take true) front (next ∷ more) m.first s e)
      ∙ run_failing (front ++ next ∷ more) text.0 test reads (fail.each text.0 text.1) in
      let before : test.ends ≡ m.read s = h.owed_ends s test owed in
      let read : m.read f ≡ suc (m.read s) = tested_counts g m h s f next is in
      absurd
      (⊎_elim
      (λ same. let ends : test.ends ≡ m.read f = h.owed_ends f test same in omega arith)
      (λ (ahead : m.read f < test.ends). omega arith)
      (run_fails g m h more f test stop))
  owed_stops front others next s test (Err (failed other)) fail e owed is =
      let same : other ≡ test =
      ⊎_elim
      (λ early. h.owed_once s other test early.owed owed)
      (λ late.
      let text = text_with front next s late.after e late.goes in
      let more = text.1.0 in
      let reads = subst (λ (ts : List g.Token). g.Reads ts text.0) (append_assoc front (next ∷ []) more) text.1.1 in
      failed_is (runs m true (front ++ next ∷ more)) other test (stops_at_front front more next s (failed other) e is)
      (run_failing (front ++ next ∷ more) text.0 test reads (fail.each text.0 text.1)))
      (h.fails s next other is) in
      stops_at_front front others next s (failed other) e is ∙ ap (λ (x : TestOf g). Err (failed x)) same
  owed_stops front others next s test (Err (machine.wrong kind at)) fail e owed is =
      absurd (not_both (is_put_off g test next) fail.made (h.owed_first s next test kind at owed is))

  fails_by : (front others more : List g.Token) (next : g.Token) (test : TestOf g) → Fails g front next test
      → runs m true (front ++ more) ≡ Err (failed test) → Split (m.take true) m.first front more
      → runs m true (front ++ next ∷ others) ≡ Err (failed test)
  fails_by front others more next test fail e (goes s is same) =
      let read : m.read s ≡ length front = front_read g m h front s is in
      let ends : test.ends ≡ length front = fail.ends in
      ⊎_elim
      (λ owed. owed_stops front others next s test (m.take true s next) fail is owed refl)
      (λ (ahead : m.read s < test.ends). absurd (omega arith))
      (run_fails g m h more s test (sym same ∙ e))
  fails_by front others more next test fail e (stops stop is same) = fault_before (m.take true) front (next ∷ others) m.first stop is ∙ sym same ∙ e

  fails_run : (front others : List g.Token) (next : g.Token) (test : TestOf g) → Fails g front next test
      → runs m true (front ++ next ∷ others) ≡ Err (failed test)
  fails_run front others next test fail = fails_by front others fail.shown.0 next test fail
      (run_failing (front ++ fail.shown.0) fail.text test fail.shown.1 fail.failing) (split (m.take true) m.first front fail.shown.0)

  -- what holds of each text that goes on with the front holds of one whose first failing test is known
  held_of : (front more : List g.Token) (next : g.Token) (tree : g.Tree) (test : TestOf g) → IsWrong g front next → g.Reads (front ++ more) tree
      → first_failing g tree ≡ Some test → IsAhead g front next test
  held_of front more next tree test is_wrong reads is =
      subst (λ (o : Option (TestOf g)). IfSome o (IsAhead g front next)) is (is_wrong.held tree (more, reads))

  -- an owed test is put off
  owed_off : (front : List g.Token) (next : g.Token) (s : m.State) (test : TestOf g) → runs m true front ≡ Ok s → m.Owes s test → IsAhead g front next test
      → IsTrue (is_put_off g test next)
  owed_off front next s test e owed (later ahead) =
      let ends : test.ends ≡ m.read s = h.owed_ends s test owed in
      let read : m.read s ≡ length front = front_read g m h front s e in
      absurd (omega (arith, ahead))
  owed_off front next s test e owed (put_off ends off) = off

  wrong_stops : (front others : List g.Token) (next : g.Token) (s : m.State) (r : Steps) → IsWrong g front next
      → runs m true front ≡ Ok s → m.take true s next ≡ r
      → Stops (front ++ next ∷ others) (g.wrong_kind front next) (g.wrong_at front next)
  wrong_stops front others next s (Ok f) is_wrong e is =
      let text = text_with front next s f e (h.goes s f next is) in
      absurd (is_wrong.none text.0 text.1)
  wrong_stops front others next s (Err (failed test)) is_wrong e is =
      absurd
      (⊎_elim
      (λ early.
      let text = h.owed_closes front s test (front_untested g m h front s e) early.owed in
      let first = failing_is g m h front text.more s text.text test e text.fails text.reads in
      not_both (is_put_off g test next) early.made
      (owed_off front next s test e early.owed (held_of front text.more next text.text test is_wrong text.reads first)))
      (λ late. let text = text_with front next s late.after e late.goes in is_wrong.none text.0 text.1)
      (h.fails s next test is))
  wrong_stops front others next s (Err (machine.wrong kind at)) is_wrong e is =
      let answer = h.answers front s next kind at e is in
      record {
        found = machine.wrong kind at;
        run = stops_at_front front others next s (machine.wrong kind at) e is;
        kind_is = answer.0;
        at_is = answer.1;
      }

  -- no test that fails in the front is ahead of it
  never_ahead : (front : List g.Token) (next : g.Token) (test : TestOf g) → runs m true front ≡ Err (failed test) → IsAhead g front next test → ⊥
  never_ahead front next test e (later ahead) =
      let none : m.read m.first ≡ 0 = h.starts in
      ⊎_elim
      (λ (before : test.ends < m.read m.first + length front). omega (arith, ahead))
      (λ last. let ends : test.ends ≡ m.read m.first + length front = last.0 in omega (arith, ahead))
      (fails_within front m.first test e)
  never_ahead front next test e (put_off ends off) =
      let none : m.read m.first ≡ 0 = h.starts in
      ⊎_elim
      (λ (before : test.ends < m.read m.first + length front). omega (arith, ends))
      (λ last. waits_not g test next last.1 off)
      (fails_within front m.first test e)

  wrong_by : (front others more : List g.Token) (next : g.Token) (tree : g.Tree) → IsWrong g front next → g.Reads (front ++ more) tree
      → Split (m.take true) m.first front more → Stops (front ++ next ∷ others) (g.wrong_kind front next) (g.wrong_at front next)
  wrong_by front others more next tree is_wrong reads (goes s is same) = wrong_stops front others next s (m.take true s next) is_wrong is refl
  wrong_by front others more next tree is_wrong reads (stops (failed test) is same) =
      let first = failing_found (g.tests tree) (m.final tree (length (front ++ more))) test (sym (h.exact true (front ++ more) tree reads) ∙ same) in
      absurd (never_ahead front next test is (held_of front more next tree test is_wrong reads first))
  wrong_by front others more next tree is_wrong reads (stops (machine.wrong kind at) is same) =
      absurd (never_wrong (g.tests tree) (m.final tree (length (front ++ more))) kind at (sym (h.exact true (front ++ more) tree reads) ∙ same))

  reason_run : (front others : List g.Token) (next : g.Token) (kind : g.Kind) (at : g.Place) → Reason g front next kind at
      → Stops (front ++ next ∷ others) kind at
  reason_run front others next _ _ (fails test fail) =
      record { found = failed test; run = fails_run front others next test fail; kind_is = refl; at_is = refl }
  reason_run front others next _ _ (wrong is_wrong) =
      wrong_by front others is_wrong.shown.0 next is_wrong.text is_wrong is_wrong.shown.1 (split (m.take true) m.first front is_wrong.shown.0)

  pub fault_run : (tokens : List g.Token) (kind : g.Kind) (at : g.Place) → IsFault g tokens kind at → Stops tokens kind at
  fault_run tokens kind at f = subst (λ (ts : List g.Token). Stops ts kind at) (sym f.joined) (reason_run f.front f.others f.next kind at f.reason)

  pub text_run : (tokens : List g.Token) (tree : g.Tree) → IsText g tokens tree → runs m true tokens ≡ Ok (m.final tree (length tokens))
  text_run tokens tree text = h.exact true tokens tree text.reads ∙ all_held (g.tests tree) (m.final tree (length tokens)) text.held

  -- ---- what there is one of
  pub IsFault-unique : (tokens : List g.Token) (k l : g.Kind) (a b : g.Place) → IsFault g tokens k a → IsFault g tokens l b → (k ≡ l) × (a ≡ b)
  IsFault-unique tokens k l a b d e =
      let x = fault_run tokens k a d in
      let y = fault_run tokens l b e in
      let same = stop_is (runs m true tokens) x.found y.found x.run y.run in
      (sym x.kind_is ∙ ap stop_kind same ∙ y.kind_is, sym x.at_is ∙ ap stop_at same ∙ y.at_is)

  pub IsText-no_fault : (tokens : List g.Token) (tree : g.Tree) (kind : g.Kind) (at : g.Place) → IsText g tokens tree → IsFault g tokens kind at → ⊥
  IsText-no_fault tokens tree kind at text f =
      let stop = fault_run tokens kind at f in
      ok_fails (runs m true tokens) (m.final tree (length tokens)) stop.found (text_run tokens tree text) stop.run

  pub Reads-unique : (tokens : List g.Token) (a b : g.Tree) → g.Reads tokens a → g.Reads tokens b → a ≡ b
  Reads-unique tokens a b d e =
      let same = ok_is (runs m false tokens) (m.final a (length tokens)) (m.final b (length tokens))
      (h.exact false tokens a d ∙ untested-same (g.tests a) _) (h.exact false tokens b e ∙ untested-same (g.tests b) _) in
      sym (h.final_tree a (length tokens)) ∙ ap m.tree same ∙ h.final_tree b (length tokens)
