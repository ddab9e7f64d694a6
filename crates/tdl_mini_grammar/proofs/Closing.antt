-- A text that is not at its end can be closed.
--     closing          tokens that end a text after a state
--     closes           the untested machine reads them to the end
--     closes_failing   where a test of the last step fails, the tested machine stops at the first of them
use Rattle.std.proofs.Common.{◌≡◌, ℕ, suc, true, false, Ok, Err, List, [], ◌∷◌, ◌++◌, codes, IsTrue, refl, ap, ◌∙◌, subst}
use Rattle.tdl_mini_tree.specs.declared.faults.MiniKind.{MiniKind}
use Rattle.tdl_grammar.proofs.Tests.{untested-same}
use Rattle.tdl_grammar.proofs.Runs.{goes_on, stops_at}
use Rattle.tdl_mini_tree.specs.declared.leaves.Number.{Number}
use Rattle.tdl_mini_tree.specs.declared.leaves.Tail.TheVariants.{Whole}
use Rattle.tdl_mini_tree.specs.declared.leaves.Bracket.{Bracket}
use Rattle.tdl_mini_tree.specs.declared.leaves.Bracket.TheVariants.{Square, Angle, Brace}
use Rattle.tdl_mini_tree.specs.declared.leaves.Kind.{Kind}
use Rattle.tdl_mini_tree.specs.declared.leaves.Kind.TheVariants.{Sound, Note, Int, Word, Bool as Truths, Count, Ratio}
use Rattle.tdl_mini_machine.specs.declared.marks.Mark.TheVariants as mark
use Rattle.tdl_mini_machine.specs.Tokens.{Tok, digits, end}
use Rattle.tdl_mini_machine.specs.Tokens as token
use Rattle.tdl_mini_machine.specs.NumberForms.{is_end}
use Rattle.tdl_mini_machine.specs.Rules.{Test, number_tests}
use Rattle.tdl_mini_tree.specs.Tree as tree
use Rattle.tdl_mini_machine.specs.Machine.States.{Role, Stage, ready, voiced, sampling, numbered, ranging, braced, wanting, stepping, weighing, weighted}
use Rattle.tdl_mini_machine.specs.Machine.States.{repeating, ended, Level, Hole, operand, hits, steps, from, Frame, State, failed, wrong, Taken, and_then}
use Rattle.tdl_mini_machine.specs.Machine.States.{closed_layers, first_level, first_state, past, step_by_role}
use Rattle.tdl_mini_machine.specs.Machine.Brackets.{closed, after_bracket, parted, euclid_closed}
use Rattle.tdl_mini_machine.specs.Machine.Running.{at_end, taken, run}
use Rattle.tdl_mini_machine.specs.Machine.Settling.{grown, settled}
use Rattle.tdl_mini_grammar.proofs.Spelled.{Fit}
use Rattle.tdl_mini_machine.proofs.Counting.{Early}
use Rattle.tdl_mini_machine.proofs.Counts.{early_of}
use Rattle.tdl_mini_machine.proofs.Keeping.{state}
use Rattle.tdl_mini_grammar.proofs.Sound.{spells_front}
use Rattle.tdl_mini_grammar.proofs.Settling.{IsOpen}

-- ---- the tokens
abbrev pub one : Number
one = record { is_negative = false; whole = 1; tail = Whole }

abbrev pub one_token : Tok
one_token = digits one (codes "1") false

-- the number that is wanted in a step
abbrev pub stage_closing : Stage → List Tok
stage_closing ready = []
stage_closing (voiced text) = []
stage_closing (sampling text) = one_token ∷ []
stage_closing (numbered n) = []
stage_closing (ranging a) = one_token ∷ []
stage_closing (braced role bs ls) = []
stage_closing (wanting role bs) = one_token ∷ []
stage_closing (stepping s) = []
stage_closing (weighing s) = one_token ∷ []
stage_closing (weighted s n) = []
stage_closing (repeating b) = []
stage_closing ended = []

abbrev pub hole_closing : Hole → List Tok
hole_closing (operand role bs b) = token.mark (mark.Close b) ∷ []
hole_closing (hits s) = token.mark mark.Comma ∷ token.mark mark.CloseRound ∷ []
hole_closing (steps s k) = token.mark mark.CloseRound ∷ []
hole_closing (from s k n) = token.mark mark.CloseRound ∷ []

abbrev pub frames_closing : List Frame → List Tok
frames_closing [] = end ∷ []
frames_closing (f ∷ frames) = hole_closing f.hole ++ frames_closing frames

abbrev pub closing : State → List Tok
closing s = stage_closing s.stage ++ frames_closing s.frames

-- ---- a step that may end
settles : (frames : List Frame) (l : Level) (p : Stage) (n : ℕ) (t : Tok) → IsOpen p → (m : Level)
    × (settled false (state frames l p n) t ≡ Ok (state frames m ready n))
settles frames l ready n t h = (l, refl)
settles frames l (voiced text) n t h = (_, refl)
settles frames l (sampling text) n t h = absurd h
settles frames l (numbered x) n t h = (_, refl)
settles frames l (ranging a) n t h = absurd h
settles frames l (braced role bs ls) n t h = (_, refl)
settles frames l (wanting role bs) n t h = absurd h
settles frames l (stepping s) n t h = (_, refl)
settles frames l (weighing s) n t h = absurd h
settles frames l (weighted s x) n t h = (_, refl)
settles frames l (repeating b) n t h = (_, refl)
settles frames l ended n t h = absurd h

settled_goes : (t : Tok) (next : State → Taken) (s f g : State) → settled false s t ≡ Ok f → next f ≡ Ok g → and_then (settled false s t) next ≡ Ok g
settled_goes t next s f g e k = ap (λ (x : Taken). and_then x next) e ∙ k

-- ---- brackets
-- the end is read after these tokens
abbrev Ends : State → List Tok → Type 0
Ends s more = (f : State) × (run false s more ≡ Ok f) × (f.stage ≡ ended)

ends_after : (s next : State) (t : Tok) (more : List Tok) → taken false s t ≡ Ok next → Ends next more → Ends s (t ∷ more)
ends_after s next t more e h = (h.0, goes_on (taken false) s t more next (Ok h.0) e h.1, h.2)

after_ends : (role : Role) (bs : tree.Braces) (b : Bracket) (ls : tree.Layers) → IsOpen (after_bracket role bs b ls)
after_ends role bs Square ls = tt
after_ends role bs Angle ls = tt
after_ends role bs Brace ls = tt

closed_same : (frames : List Frame) (k m : Level) (n : ℕ) (role : Role) (bs : tree.Braces) (b : Bracket)
    → closed (state (record { level = k; hole = operand role bs b } ∷ frames) m ready n) (token.mark (mark.Close b)) b
    (record { level = k; hole = operand role bs b } ∷ frames) ≡ Ok (state frames k (after_bracket role bs b (closed_layers m)) (suc n))
closed_same frames k m n role bs Square = refl
closed_same frames k m n role bs Angle = refl
closed_same frames k m n role bs Brace = refl

hole_closes : (frames : List Frame) (k l : Level) (p : Stage) (n : ℕ) (hole : Hole) → IsOpen p
    → ((m : Level) (q : Stage) (o : ℕ) → IsOpen q → Ends (state frames m q o) (frames_closing frames))
    → Ends (state (record { level = k; hole = hole } ∷ frames) l p n) (hole_closing hole ++ frames_closing frames)
hole_closes frames k l p n (operand role bs b) h each =
    let s = settles (record { level = k; hole = operand role bs b } ∷ frames) l p n (token.mark (mark.Close b)) h in
    ends_after (state (record { level = k; hole = operand role bs b } ∷ frames) l p n) _ (token.mark (mark.Close b)) (frames_closing frames)
    (settled_goes (token.mark (mark.Close b)) (λ f. closed f (token.mark (mark.Close b)) b f.frames) _ _ _ s.1 (closed_same frames k s.0 n role bs b))
    (each k (after_bracket role bs b (closed_layers s.0)) (suc n) (after_ends role bs b (closed_layers s.0)))
hole_closes frames k l p n (hits step) h each =
    let s = settles (record { level = k; hole = hits step } ∷ frames) l p n (token.mark mark.Comma) h in
    ends_after (state (record { level = k; hole = hits step } ∷ frames) l p n)
    (state (record { level = k; hole = steps step (closed_layers s.0) } ∷ frames) (first_level Count) ready (suc n)) (token.mark mark.Comma)
    (token.mark mark.CloseRound ∷ frames_closing frames)
    (settled_goes (token.mark mark.Comma) (λ f. parted f (token.mark mark.Comma) f.frames) _ _ _ s.1 refl)
    (ends_after (state (record { level = k; hole = steps step (closed_layers s.0) } ∷ frames) (first_level Count) ready (suc n)) _
    (token.mark mark.CloseRound) (frames_closing frames) refl (each _ _ _ tt))
hole_closes frames k l p n (steps step a) h each =
    let s = settles (record { level = k; hole = steps step a } ∷ frames) l p n (token.mark mark.CloseRound) h in
    ends_after (state (record { level = k; hole = steps step a } ∷ frames) l p n)
    (state frames k (stepping (tree.euclid step a (closed_layers s.0))) (suc n)) (token.mark mark.CloseRound) (frames_closing frames)
    (settled_goes (token.mark mark.CloseRound) (λ f. euclid_closed false f (token.mark mark.CloseRound) f.frames) _ _ _ s.1 refl)
    (each k (stepping (tree.euclid step a (closed_layers s.0))) (suc n) tt)
hole_closes frames k l p n (from step a b) h each =
    let s = settles (record { level = k; hole = from step a b } ∷ frames) l p n (token.mark mark.CloseRound) h in
    ends_after (state (record { level = k; hole = from step a b } ∷ frames) l p n)
    (state frames k (stepping (tree.euclid_from step a b (closed_layers s.0))) (suc n)) (token.mark mark.CloseRound) (frames_closing frames)
    (settled_goes (token.mark mark.CloseRound) (λ f. euclid_closed false f (token.mark mark.CloseRound) f.frames) _ _ _ s.1 refl)
    (each k (stepping (tree.euclid_from step a b (closed_layers s.0))) (suc n) tt)

frames_close : (frames : List Frame) (l : Level) (p : Stage) (n : ℕ) → IsOpen p → Ends (state frames l p n) (frames_closing frames)
frames_close [] l p n h =
    let s = settles [] l p n end h in
    let last : State = state [] (record { kind = s.0.kind; layers = closed_layers s.0; groups = tree.no_group; group = tree.no_element; start = 0 }) ended
    (suc n) in (
      last,
      goes_on (taken false) (state [] l p n) end [] last (Ok last)
          (settled_goes end (λ f. at_end f end f.frames) (state [] l p n) (state [] s.0 ready n) last s.1 refl) refl,
      refl,
    )
frames_close (f ∷ frames) l p n h = hole_closes frames f.level l p n f.hole h (frames_close frames)

-- ---- numbers
one_ends : (kind : Kind) (a : Number) → IsTrue (is_end kind a) → IsTrue (is_end kind one)
one_ends Sound a h = h
one_ends (Note key) a h = refl
one_ends (Int key) a h = refl
one_ends (Word key) a h = h
one_ends Truths a h = h
one_ends Count a h = refl
one_ends Ratio a h = refl

range_taken : (frames : List Frame) (l : Level) (a : Number) (n : ℕ) → IsTrue (is_end l.kind a)
    → taken false (state frames l (ranging a) n) one_token ≡ Ok (past (grown (state frames l (ranging a) n) (tree.range a one)) ready)
range_taken frames l a n h =
    rw (one_ends l.kind a h) (untested-same (number_tests l.kind n one) (Ok (past (grown (state frames l (ranging a) n) (tree.range a one)) ready)))

state_closes : (outer : Kind) (frames : List Frame) (l : Level) (p : Stage) (n : ℕ) → Fit outer (state frames l p n) → (p ≡ ended → ⊥)
    → Ends (state frames l p n) (closing (state frames l p n))
state_closes outer frames l ready n h unended = frames_close frames l ready n tt
state_closes outer frames l (voiced text) n h unended = frames_close frames l (voiced text) n tt
state_closes outer frames l (sampling text) n h unended = ends_after (state frames l (sampling text) n) _ one_token (frames_closing frames) refl
    (frames_close frames l _ _ tt)
state_closes outer frames l (numbered x) n h unended = frames_close frames l (numbered x) n tt
state_closes outer frames l (ranging a) n h unended = ends_after (state frames l (ranging a) n) _ one_token (frames_closing frames)
    (range_taken frames l a n h.stage) (frames_close frames _ ready _ tt)
state_closes outer frames l (braced role bs ls) n h unended = frames_close frames l (braced role bs ls) n tt
state_closes outer frames l (wanting role bs) n h unended = ends_after (state frames l (wanting role bs) n) _ one_token (frames_closing frames) refl
    (frames_close frames l (stepping (step_by_role role (tree.scaled bs one))) _ tt)
state_closes outer frames l (stepping s) n h unended = frames_close frames l (stepping s) n tt
state_closes outer frames l (weighing s) n h unended = ends_after (state frames l (weighing s) n) _ one_token (frames_closing frames) refl
    (frames_close frames l (weighted s one) _ tt)
state_closes outer frames l (weighted s x) n h unended = frames_close frames l (weighted s x) n tt
state_closes outer frames l (repeating b) n h unended = frames_close frames l (repeating b) n tt
state_closes outer frames l ended n h unended = absurd (unended refl)

pub closing_ends : (outer : Kind) (s : State) → Fit outer s → (s.stage ≡ ended → ⊥) → (f : State) × (run false s (closing s) ≡ Ok f) × (f.stage ≡ ended)
closing_ends outer s h unended = state_closes outer s.frames s.level s.stage s.read h unended

pub closes : (kind : Kind) (front : List Tok) (s : State) → run false (first_state kind) front ≡ Ok s → (s.stage ≡ ended → ⊥) → (more : List Tok)
    × (f : State) × (run false s more ≡ Ok f) × (f.stage ≡ ended)
closes kind front s e unended =
    let h = closing_ends kind s (spells_front kind front s e).fit unended in
    (closing s, h.0, h.1, h.2)

-- ---- a test of the last step fails
-- the first of these tokens settles
abbrev Settling : State → List Tok → Type 0
Settling s [] = ⊥
Settling s (t ∷ more) = (test : Test) → settled true s t ≡ Err (failed test) → taken true s t ≡ Err (failed test)

settled_fails : (t : Tok) (next : State → Taken) (s : State) (test : Test) → settled true s t ≡ Err (failed test)
    → and_then (settled true s t) next ≡ Err (failed test)
settled_fails t next s test e = ap (λ (x : Taken). and_then x next) e

frames_settle : (s : State) (frames : List Frame) → Settling s (frames_closing frames)
frames_settle s [] = settled_fails end (λ f. at_end f end f.frames) s
frames_settle s (f ∷ frames) = hole_settles f.hole
  where
    hole_settles : (hole : Hole) → Settling s (hole_closing hole ++ frames_closing frames)
    hole_settles (operand role bs b) = settled_fails (token.mark (mark.Close b)) (λ g. closed g (token.mark (mark.Close b)) b g.frames) s
    hole_settles (hits step) = settled_fails (token.mark mark.Comma) (λ g. parted g (token.mark mark.Comma) g.frames) s
    hole_settles (steps step k) = settled_fails (token.mark mark.CloseRound) (λ g. euclid_closed true g (token.mark mark.CloseRound) g.frames) s
    hole_settles (from step k n) = settled_fails (token.mark mark.CloseRound) (λ g. euclid_closed true g (token.mark mark.CloseRound) g.frames) s

refused_fails : (kind : MiniKind) (at : ℕ) (test : Test) (x : Taken) → x ≡ Err (wrong kind at) → x ≡ Err (failed test) → ⊥
refused_fails kind at test x d e = cc

first_settles : (s : State) (test : Test) → Early s test → (more : List Tok) → Settling s more → run true s more ≡ Err (failed test)
first_settles s test early [] h = absurd h
first_settles s test early (t ∷ more) h = stops_at (taken true) s t more (failed test) (h test (early.settled t))

state_fails : (frames : List Frame) (l : Level) (p : Stage) (n : ℕ) (test : Test) → Early (state frames l p n) test
    → run true (state frames l p n) (closing (state frames l p n)) ≡ Err (failed test)
state_fails frames l (sampling text) n test early =
    absurd (refused_fails _ n test (settled true (state frames l (sampling text) n) end) refl (early.settled end))
state_fails frames l (ranging a) n test early = absurd (refused_fails _ n test (settled true (state frames l (ranging a) n) end) refl (early.settled end))
state_fails frames l (wanting role bs) n test early =
    absurd (refused_fails _ n test (settled true (state frames l (wanting role bs) n) end) refl (early.settled end))
state_fails frames l (weighing s) n test early = absurd (refused_fails _ n test (settled true (state frames l (weighing s) n) end) refl (early.settled end))
state_fails frames l p n test early = first_settles (state frames l p n) test early (frames_closing frames) (frames_settle (state frames l p n) frames)

pub closes_failing : (s : State) (test : Test) → Early s test → run true s (closing s) ≡ Err (failed test)
closes_failing s test early = state_fails s.frames s.level s.stage s.read test early

pub failing_unended : (s : State) (test : Test) → Early s test → s.stage ≡ ended → ⊥
failing_unended s test early e =
    let P : Stage → Type 0 = λ p. settled true (state s.frames s.level p s.read) end ≡ Err (failed test) in
    refused_fails _ s.read test (settled true (state s.frames s.level ended s.read) end) refl (subst P e (early.settled end))

pub closes_at_fault : (kind : Kind) (front : List Tok) (s : State) (test : Test) → run false (first_state kind) front ≡ Ok s
    → settled true s end ≡ Err (failed test) → (more : List Tok) × (f : State) × (run false s more ≡ Ok f) × (f.stage ≡ ended)
    × (run true s more ≡ Err (failed test))
closes_at_fault kind front s test e is =
    let early = early_of s test is in
    let h = closing_ends kind s (spells_front kind front s e).fit (failing_unended s test early) in
    (closing s, h.0, h.1, h.2, closes_failing s test early)
