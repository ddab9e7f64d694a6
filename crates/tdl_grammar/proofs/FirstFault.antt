-- Where a machine with tests stops at a token, its fault is the first.
--     fault_found      the fault that it finds is one
--     text_found       what it reads to its end is a text
--     decided          tokens that end as a text does are a text, or have a first fault
use Rattle.std.proofs.Common.{◌≡◌, suc, ◌+◌, ◌<◌, ◌⊎◌, inl, inr, ⊎_elim, Bool, true, false, not, ◌&&◌, Option, Some, None, Ok, Err}
use Rattle.std.proofs.Common.{List, [], ◌∷◌, ◌++◌, length, IsTrue, IfSome, refl, sym, ap, ◌∙◌, subst, arith, length-append, append_assoc}
use Rattle.tdl_grammar.specs.Grammar.{Grammar}
use Rattle.tdl_grammar.specs.Faults.{TestOf, IsText, GoesOn, first_failing, is_put_off, Fails, IsAhead, later, put_off, IsWrong, Reason, fails, wrong, IsFault}
use Rattle.tdl_grammar.specs.Machine.{Stop, failed, Taken, and_then, all_checked, stop_kind, stop_at, run}
use Rattle.tdl_grammar.specs.Machine as machine
use Rattle.tdl_grammar.specs.inside.TokenMachine.{TokenMachine, runs, Early, Late, IsExact}
use Rattle.tdl_grammar.proofs.Tests.{ok_fails, failing_found, found_failing, held_found, untested-same}
use Rattle.tdl_grammar.proofs.Runs.{goes_on, stops_at, run-append, run-read, run-untested}

-- a test that does not wait is put off before no token
pub made_always : (g : Grammar) (test : TestOf g) (t : g.Token) → test.waits ≡ false → IsTrue (not (is_put_off g test t))
made_always g test t e = ap (λ (b : Bool). not (b && g.is_joined t)) e

module _ (g : Grammar) (m : TokenMachine g) (h : IsExact m) where
  abbrev Steps : Type 0
  Steps = Taken m.State g.Kind g.Place

  -- ---- what is read
  pub tested_counts : (s f : m.State) (t : g.Token) → m.take true s t ≡ Ok f → m.read f ≡ suc (m.read s)
  tested_counts s f t e = h.counts s f t (h.goes s f t e)

  pub front_untested : (front : List g.Token) (s : m.State) → runs m true front ≡ Ok s → runs m false front ≡ Ok s
  front_untested front s e = run-untested (m.take true) (m.take false) h.goes front m.first s e

  pub front_read : (front : List g.Token) (s : m.State) → runs m true front ≡ Ok s → m.read s ≡ length front
  front_read front s e =
      let more : m.read s ≡ m.read m.first + length front = run-read (m.take true) m.read tested_counts front m.first s e in
      let none : m.read m.first ≡ 0 = h.starts in
      omega arith

  fails_in : (s : m.State) (t : g.Token) (more : List g.Token) (test : TestOf g) (r : Steps) → m.take true s t ≡ r
      → and_then r (λ next. run (m.take true) next more) ≡ Err (failed test)
      → ((next : m.State) → run (m.take true) next more ≡ Err (failed test) → m.Owes next test ⊎ (m.read next < test.ends))
      → m.Owes s test ⊎ (m.read s < test.ends)
  fails_in s t more test (Ok next) is e each =
      let read : m.read next ≡ suc (m.read s) = tested_counts s next t is in
      ⊎_elim
      (λ owed. let ends : test.ends ≡ m.read next = h.owed_ends next test owed in inr (omega arith))
      (λ (ahead : m.read next < test.ends). inr (omega arith))
      (each next e)
  fails_in s t more test (Err fault) is e each =
      ⊎_elim
      (λ early. inl early.owed)
      (λ late. let ends : test.ends ≡ suc (m.read s) = late.ends in inr (omega arith))
      (h.fails s t test (is ∙ e))

  -- a test that fails in what follows is owed, or of what ends later
  pub run_fails : (more : List g.Token) (s : m.State) (test : TestOf g) → run (m.take true) s more ≡ Err (failed test)
      → m.Owes s test ⊎ (m.read s < test.ends)
  run_fails [] s test e = absurd (ok_fails (Ok s) s (failed test) refl e)
  run_fails (t ∷ more) s test e = fails_in s t more test (m.take true s t) refl e (λ next. run_fails more next test)

  -- a test that fails in a run is the first of the tree to fail
  pub failing_is : (front more : List g.Token) (s : m.State) (tree : g.Tree) (test : TestOf g) → runs m true front ≡ Ok s
      → run (m.take true) s more ≡ Err (failed test) → g.Reads (front ++ more) tree → first_failing g tree ≡ Some test
  failing_is front more s tree test e is reads =
      failing_found (g.tests tree) (m.final tree (length (front ++ more))) test
      (sym (h.exact true (front ++ more) tree reads) ∙ run-append (m.take true) front more m.first s e ∙ is)

  -- ---- faults
  -- a test of what ends before the token
  early_fails : (front : List g.Token) (next : g.Token) (s : m.State) (test : TestOf g) → runs m true front ≡ Ok s
      → m.take true s next ≡ Err (failed test) → Early m s next test → Fails g front next test
  early_fails front next s test e stops early =
      let read : m.read s ≡ length front = front_read front s e in
      let ends : test.ends ≡ m.read s = h.owed_ends s test early.owed in
      let text = h.owed_closes front s test (front_untested front s e) early.owed in
      record {
        ends = omega arith;
        made = early.made;
        text = text.text;
        shown = (text.more, text.reads);
        failing = failing_is front text.more s text.text test e text.fails text.reads;
        each = λ tree on. failing_is front (next ∷ on.0) s tree test e (stops_at (m.take true) s next on.0 (failed test) stops)
            (subst (λ (ts : List g.Token). g.Reads ts tree) (append_assoc front (next ∷ []) on.0) on.1);
      }

  -- a test of the token
  late_fails : (front : List g.Token) (next after : g.Token) (s : m.State) (test : TestOf g) → runs m true front ≡ Ok s
      → m.take true s next ≡ Err (failed test) → Late m s next test → Fails g (front ++ next ∷ []) after test
  late_fails front next after s test e stops late =
      let read : m.read s ≡ length front = front_read front s e in
      let ends : test.ends ≡ suc (m.read s) = late.ends in
      let size : length (front ++ next ∷ []) ≡ length front + 1 = length-append front (next ∷ []) in
      let text = h.opens (front ++ next ∷ []) late.after (run-append (m.take false) front (next ∷ []) m.first s (front_untested front s e)
      ∙ goes_on (m.take false) s next [] late.after (Ok late.after) late.goes refl) in
      let each : (tree : g.Tree) → GoesOn g (front ++ next ∷ []) tree → first_failing g tree ≡ Some test =
      (λ tree on. failing_is front (next ∷ on.0) s tree test e (stops_at (m.take true) s next on.0 (failed test) stops)
      (subst (λ (ts : List g.Token). g.Reads ts tree) (append_assoc front (next ∷ []) on.0) on.1)) in
      record {
        ends = omega arith;
        made = made_always g test after late.made;
        text = text.0;
        shown = text.1;
        failing = each text.0 text.1;
        each = λ tree on. each tree (after ∷ on.0, subst (λ (ts : List g.Token). g.Reads ts tree) (append_assoc (front ++ next ∷ []) (after ∷ []) on.0) on.1);
      }

  held_in : (front more : List g.Token) (next : g.Token) (s : m.State) (tree : g.Tree) (kind : g.Kind) (at : g.Place) (o : Option (TestOf g))
      → runs m true front ≡ Ok s → m.take true s next ≡ Err (machine.wrong kind at) → g.Reads (front ++ more) tree
      → first_failing g tree ≡ o → IfSome o (IsAhead g front next)
  held_in front more next s tree kind at None e stops reads is = tt
  held_in front more next s tree kind at (Some test) e stops reads is =
      let read : m.read s ≡ length front = front_read front s e in
      let stop = sym (run-append (m.take true) front more m.first s e) ∙ h.exact true (front ++ more) tree reads
      ∙ found_failing (g.tests tree) (m.final tree (length (front ++ more))) test is in
      ⊎_elim
      (λ owed.
      let ends : test.ends ≡ m.read s = h.owed_ends s test owed in
      put_off (omega arith) (h.owed_first s next test kind at owed stops))
      (λ (ahead : m.read s < test.ends). later (omega arith))
      (run_fails more s test stop)

  -- a token with which nothing goes on
  is_wrong : (front : List g.Token) (next : g.Token) (s : m.State) (kind : g.Kind) (at : g.Place) → runs m true front ≡ Ok s
      → m.take true s next ≡ Err (machine.wrong kind at) → IsWrong g front next
  is_wrong front next s kind at e stops =
      let untested = front_untested front s e in
      let text = h.opens front s untested in
      let refused = h.refuses s next kind at stops in
      record {
        text = text.0;
        shown = text.1;
        held = λ tree on. held_in front on.0 next s tree kind at (first_failing g tree) e stops on.1 refl;
        none = λ tree on.
            ok_fails (runs m false ((front ++ next ∷ []) ++ on.0)) (m.final tree (length ((front ++ next ∷ []) ++ on.0)))
            (machine.wrong kind at)
            (h.exact false ((front ++ next ∷ []) ++ on.0) tree on.1 ∙ untested-same (g.tests tree) _)
            (ap (runs m false) (append_assoc front (next ∷ []) on.0) ∙ run-append (m.take false) front (next ∷ on.0) m.first s untested
            ∙ stops_at (m.take false) s next on.0 (machine.wrong kind at) refused);
      }

  wrong_reason : (front : List g.Token) (next : g.Token) (s : m.State) (kind : g.Kind) (at : g.Place) → runs m true front ≡ Ok s
      → m.take true s next ≡ Err (machine.wrong kind at) → Reason g front next kind at
  wrong_reason front next s kind at e stops =
      let answer = h.answers front s next kind at e stops in
      subst (λ (n : g.Place). Reason g front next kind n) (sym answer.1)
      (subst (λ (k : g.Kind). Reason g front next k (g.wrong_at front next)) (sym answer.0) (wrong (is_wrong front next s kind at e stops)))

  early_fault : (front : List g.Token) (next : g.Token) (others : List g.Token) (s : m.State) (test : TestOf g) → runs m true front ≡ Ok s
      → m.take true s next ≡ Err (failed test) → Early m s next test → IsFault g (front ++ next ∷ others) test.kind test.at
  early_fault front next others s test e stops early =
      record { front = front; next = next; others = others; joined = refl; reason = fails test (early_fails front next s test e stops early) }

  failed_fault : (front : List g.Token) (next : g.Token) (others : List g.Token) (s : m.State) (test : TestOf g) → runs m true front ≡ Ok s
      → m.take true s next ≡ Err (failed test) → (others ≡ [] → m.IsEnd next) → Early m s next test ⊎ Late m s next test
      → IsFault g (front ++ next ∷ others) test.kind test.at
  failed_fault front next others s test e stops ends (inl early) = early_fault front next others s test e stops early
  failed_fault front next [] s test e stops ends (inr late) = early_fault front next [] s test e stops (h.end_fails s next test (ends refl) stops)
  failed_fault front next (after ∷ others) s test e stops ends (inr late) =
      record {
        front = front ++ next ∷ [];
        next = after;
        others = others;
        joined = sym (append_assoc front (next ∷ []) (after ∷ others));
        reason = fails test (late_fails front next after s test e stops late);
      }

  pub fault_found : (front : List g.Token) (next : g.Token) (others : List g.Token) (s : m.State) (stop : Stop g.Kind g.Place) → runs m true front ≡ Ok s
      → m.take true s next ≡ Err stop → (others ≡ [] → m.IsEnd next) → IsFault g (front ++ next ∷ others) (stop_kind stop) (stop_at stop)
  fault_found front next others s (failed test) e stops ends = failed_fault front next others s test e stops ends (h.fails s next test stops)
  fault_found front next others s (machine.wrong kind at) e stops ends =
      record { front = front; next = next; others = others; joined = refl; reason = wrong_reason front next s kind at e stops }

  -- the end is read with no fault
  pub text_found : (tokens : List g.Token) (s : m.State) → runs m true tokens ≡ Ok s → m.IsEnded s → IsText g tokens (m.tree s)
  text_found tokens s e is =
      let reads = h.sound tokens s (front_untested tokens s e) is in
      record {
        reads = reads;
        held = held_found (g.tests (m.tree s)) (m.final (m.tree s) (length tokens)) s (sym (h.exact true tokens (m.tree s) reads) ∙ e);
      }

  -- ---- each text is read
  abbrev pub Decided : List g.Token → Type 0
  Decided tokens = ((tree : g.Tree) × IsText g tokens tree) ⊎ ((kind : g.Kind) × (at : g.Place) × IsFault g tokens kind at)

  -- the last of the tokens ends a text
  abbrev pub EndsWell : List g.Token → Type 0
  EndsWell [] = ⊥
  EndsWell (t ∷ []) = m.IsEnd t
  EndsWell (t ∷ u ∷ others) = EndsWell (u ∷ others)

  pub ends_well : (front : List g.Token) (t : g.Token) → m.IsEnd t → EndsWell (front ++ t ∷ [])
  ends_well [] t e = e
  ends_well (x ∷ []) t e = e
  ends_well (x ∷ y ∷ front) t e = ends_well (y ∷ front) t e

  ends_here : (t : g.Token) (others : List g.Token) → EndsWell (t ∷ others) → others ≡ [] → m.IsEnd t
  ends_here t [] ends e = ends
  ends_here t (u ∷ others) ends e = absurd (some_not_none u others e)
    where
      some_not_none : (x : g.Token) (xs : List g.Token) → x ∷ xs ≡ [] → ⊥
      some_not_none x xs d = cc

  one_more : (front : List g.Token) (next : g.Token) (s f : m.State) → runs m true front ≡ Ok s → m.take true s next ≡ Ok f
      → runs m true (front ++ next ∷ []) ≡ Ok f
  one_more front next s f e is = run-append (m.take true) front (next ∷ []) m.first s e ∙ goes_on (m.take true) s next [] f (Ok f) is refl

  decided_by : (front : List g.Token) (t : g.Token) (others : List g.Token) (s : m.State) → runs m true front ≡ Ok s → EndsWell (t ∷ others)
      → ((f : m.State) → runs m true (front ++ t ∷ []) ≡ Ok f → EndsWell others → Decided ((front ++ t ∷ []) ++ others))
      → (r : Steps) → m.take true s t ≡ r → Decided (front ++ t ∷ others)
  decided_by front t others s e ends more (Err stop) is =
      inr (stop_kind stop, stop_at stop, fault_found front t others s stop e is (ends_here t others ends))
  decided_by front t [] s e ends more (Ok f) is =
      inl (m.tree f, text_found (front ++ t ∷ []) f (one_more front t s f e is) (h.end_ends s f t ends is))
  decided_by front t (u ∷ others) s e ends more (Ok f) is =
      subst Decided (append_assoc front (t ∷ []) (u ∷ others)) (more f (one_more front t s f e is) ends)

  decided_from : (others front : List g.Token) (s : m.State) → runs m true front ≡ Ok s → EndsWell others → Decided (front ++ others)
  decided_from [] front s e ends = absurd ends
  decided_from (t ∷ others) front s e ends =
      decided_by front t others s e ends (λ f is last. decided_from others (front ++ t ∷ []) f is last) (m.take true s t) refl

  pub decided : (tokens : List g.Token) → EndsWell tokens → Decided tokens
  decided tokens ends = decided_from tokens [] m.first refl ends
