-- One token of the machine: what it counts, and how tests change what it does.
--     Counted          the tokens and open brackets after an untested step, or the token that it refuses
--     Onward           a tested step does as the untested one, or a test of the token itself fails
--     Early            a test of the step before fails, which the token finishes
--     is_off           such a test is put off, since the token is joined to the one before it
--     StepsAlike       all of it; `step` that each token does so
use Rattle.std.proofs.Common.{◌≡◌, ℕ, suc, ◌⊎◌, inl, inr, Bool, true, false, if◌then◌else◌, not, ◌&&◌, nat_lt, Option, Some, None, Ok, Err, List, [], ◌∷◌}
use Rattle.std.proofs.Common.{length, IsTrue, refl, sym, ap, ◌∙◌, subst}
use Rattle.tdl_grammar.proofs.Tests.{ok_fails, failed_is, wrong_fails, untested-same}
use Rattle.tdl_mini_tree.specs.declared.faults.MiniKind.{MiniKind}
use Rattle.tdl_mini_tree.specs.declared.leaves.Number.{Number}
use Rattle.tdl_mini_tree.specs.declared.leaves.Bracket.{Bracket}
use Rattle.tdl_mini_tree.specs.declared.leaves.Bracket.TheVariants.{Brace}
use Rattle.tdl_mini_tree.specs.declared.leaves.Kind.{Kind}
use Rattle.tdl_mini_tree.specs.declared.leaves.Kind.TheVariants.{Sound, Note, Int, Word, Bool as Truths, Count, Ratio}
use Rattle.tdl_mini_machine.specs.declared.marks.Mark.{Mark}
use Rattle.tdl_mini_machine.specs.declared.marks.Mark.TheVariants as mark
use Rattle.tdl_mini_machine.specs.Tokens.{Tok, digits, letters, value_of, is_joined}
use Rattle.tdl_mini_machine.specs.Tokens as token
use Rattle.tdl_mini_machine.specs.NumberForms.{is_end, is_sample}
use Rattle.tdl_mini_tree.specs.Numbers.{is_count}
use Rattle.tdl_mini_tree.specs.Sizes.{size_of, steps_of, is_within}
use Rattle.tdl_mini_machine.specs.Rules.{count_rule, size_rule, Test, test_between, test_at, number_tests, token_tests}
use Rattle.tdl_mini_machine.specs.WrongTokens.{opened, wrong_token}
use Rattle.tdl_mini_tree.specs.Tree as tree
use Rattle.tdl_mini_tree.specs.Tree.{is_empty_group}
use Rattle.tdl_mini_machine.specs.Machine.States.{term, Stage, ready, voiced, sampling, numbered, ranging, braced, wanting, stepping, weighing, weighted}
use Rattle.tdl_mini_machine.specs.Machine.States.{repeating, ended, Level, Hole, operand, hits, steps, from, Frame, State, failed, wrong, Taken, and_then}
use Rattle.tdl_mini_machine.specs.Machine.States.{checked, all_checked, is_same_bracket, pending, step_by_role, begun, begun_at, past, refused, ends_step}
use Rattle.tdl_mini_machine.specs.Machine.Settling.{grown, growth_test, added, settled, unfit, waits}
use Rattle.tdl_mini_machine.specs.Machine.Values.{valued, with_value, with_count, uncounted, with_number, with_counting}
use Rattle.tdl_mini_machine.specs.Machine.Brackets.{opened_at, with_open, closed, closed_hole, parted, parted_hole, euclid_closed, euclid_hole}
use Rattle.tdl_mini_machine.specs.Machine.Brackets.{with_arguments}
use Rattle.tdl_mini_machine.specs.Machine.Marks.{with_dot, with_hold, with_repeat, continued, with_colon, with_range, with_percent, taken_mark}
use Rattle.tdl_mini_machine.specs.Machine.Running.{at_end, taken}
use Rattle.tdl_mini_machine.proofs.Keeping.{state}

abbrev pub Counted : State → Tok → Taken → Type 0
Counted s t (Ok f) = (f.read ≡ suc s.read) × (length f.frames ≡ opened t (length s.frames))
Counted s t (Err (failed test)) = ⊥
Counted s t (Err (wrong kind at)) = (kind ≡ wrong_token (length s.frames) t) × (at ≡ s.read)

abbrev pub Onward : State → Taken → Taken → Type 0
Onward s (Ok f) u = u ≡ Ok f
Onward s (Err (failed test)) u = (test.holds ≡ false) × (test.ends ≡ suc s.read) × (test.waits ≡ false) × (f : State) × (u ≡ Ok f)
Onward s (Err (wrong kind at)) u = u ≡ Err (wrong kind at)

pub record Early (s : State) (test : Test) : Type 0 where
  pub fails : test.holds ≡ false
  pub ends : test.ends ≡ s.read
  pub settled : (x : Tok) → settled true s x ≡ Err (failed test)

abbrev pub is_off : Test → Tok → Bool
is_off test t = test.waits && is_joined t

abbrev pub Made : State → Tok → Type 0
Made s t = (test : Test) → Early s test → IsTrue (not (is_off test t))

-- a token is refused only where each test of the step before that fails is put off
abbrev pub Refuses : State → Tok → Taken → Type 0
Refuses s t (Ok f) = Unit {0}
Refuses s t (Err (failed test)) = Unit {0}
Refuses s t (Err (wrong kind at)) = (test : Test) → Early s test → IsTrue (is_off test t)

-- with tests, and with none
pub record Pair (s : State) (t : Tok) (r u : Taken) : Type 0 where
  pub counted : Counted s t u
  pub onward : Onward s r u

pub record StepsAlike (s : State) (t : Tok) (r u : Taken) : Type 0 where
  pub counted : Counted s t u
  pub goes : Onward s r u ⊎ ((test : Test) × (r ≡ Err (failed test)) × Early s test × IsTrue (not (is_off test t)))
  pub refuses : Refuses s t r

-- ---- how pairs are made
goes_on : (s : State) (t : Tok) (f : State) → Counted s t (Ok f) → Pair s t (Ok f) (Ok f)
goes_on s t f h = record { counted = h; onward = refl }

refuses : (s : State) (t : Tok) → Pair s t (refused s t) (refused s t)
refuses s t = record { counted = (refl, refl); onward = refl }

pair_if : (s : State) (t : Tok) (b : Bool) (r u v w : Taken) → Pair s t r u → Pair s t v w → Pair s t (if b then r else v) (if b then u else w)
pair_if s t true r u v w h k = h
pair_if s t false r u v w h k = k

late_if : (s : State) (t : Tok) (test : Test) (r : Taken) (g : State) (b : Bool) → test.holds ≡ b → test.ends ≡ suc s.read → test.waits ≡ false
    → Pair s t r (Ok g) → Pair s t (if true && not b then Err (failed test) else r) (Ok g)
late_if s t test r g true e ends made h = h
late_if s t test r g false e ends made h = record { counted = h.counted; onward = (e, ends, made, g, refl) }

late : (s : State) (t : Tok) (test : Test) (r : Taken) (g : State) → test.ends ≡ suc s.read → test.waits ≡ false → Pair s t r (Ok g)
    → Pair s t (checked true test r) (Ok g)
late s t test r g ends made h = late_if s t test r g test.holds refl ends made h

abbrev AllLate : ℕ → List Test → Type 0
AllLate n [] = Unit {0}
AllLate n (test ∷ tests) = ((test.ends ≡ suc n) × (test.waits ≡ false)) × AllLate n tests

all_late : (s : State) (t : Tok) (tests : List Test) (r : Taken) (g : State) → AllLate s.read tests → Pair s t r (Ok g)
    → Pair s t (all_checked true tests r) (Ok g)
all_late s t [] r g ends h = h
all_late s t (test ∷ tests) r g ends h = late s t test (all_checked true tests r) g ends.0.0 ends.0.1 (all_late s t tests r g ends.1 h)

late_of : (s : State) (t : Tok) (tests : List Test) (r : Taken) (g : State) → AllLate s.read tests → Pair s t r (Ok g)
    → Pair s t (all_checked true tests r) (all_checked false tests (Ok g))
late_of s t tests r g ends h = subst (λ (u : Taken). Pair s t (all_checked true tests r) u) (sym (untested-same tests (Ok g))) (all_late s t tests r g ends h)

number_late : (kind : Kind) (n : ℕ) (x : Number) → AllLate n (number_tests kind n x)
number_late Sound n x = ((refl, refl), tt)
number_late (Note key) n x = ((refl, refl), tt)
number_late (Int key) n x = ((refl, refl), tt)
number_late (Word key) n x = ((refl, refl), tt)
number_late Truths n x = ((refl, refl), tt)
number_late Count n x = ((refl, refl), ((refl, refl), tt))
number_late Ratio n x = ((refl, refl), tt)

token_late : (kind : Kind) (n : ℕ) (v : tree.Value) → AllLate n (token_tests kind n v)
token_late kind n (tree.sound text x) = tt
token_late kind n (tree.name text) = tt
token_late kind n (tree.note x) = tt
token_late kind n (tree.truth b) = tt
token_late kind n (tree.number x) = number_late kind n x

-- ---- settling
pub data Settling (s : State) (t : Tok) : Taken → Taken → Type 0 where
  goes : (f : State) → f.read ≡ s.read → f.frames ≡ s.frames → Settling s t (Ok f) (Ok f)
  stops : (kind : MiniKind) (at : ℕ) → kind ≡ wrong_token (length s.frames) t → at ≡ s.read → Settling s t (Err (wrong kind at)) (Err (wrong kind at))
  fails : (test : Test) (f : State) → Early s test → f.read ≡ s.read → f.frames ≡ s.frames → Settling s t (Err (failed test)) (Ok f)

added_if : (s : State) (t : Tok) (e : tree.Element) (b : Bool) → (growth_test s e s.read).holds ≡ b → ((x : Tok) → settled true s x ≡ added true s e)
    → Settling s t (if true && not b then Err (failed (growth_test s e s.read)) else Ok (grown s e)) (Ok (grown s e))
added_if s t e true same each = goes (grown s e) refl refl
added_if s t e false same each =
    let fail : added true s e ≡ Err (failed (growth_test s e s.read)) = failing (growth_test s e s.read) (Ok (grown s e)) same in
    fails (growth_test s e s.read) (grown s e) (record { fails = same; ends = refl; settled = λ x. each x ∙ fail }) refl refl
  where
    failing : (test : Test) (next : Taken) → test.holds ≡ false → checked true test next ≡ Err (failed test)
    failing test next e = rw e refl

adds : (s : State) (t : Tok) (e : tree.Element) → ((x : Tok) → settled true s x ≡ added true s e) → Settling s t (added true s e) (added false s e)
adds s t e each = added_if s t e (growth_test s e s.read).holds refl each

settling_in : (frames : List Frame) (l : Level) (n : ℕ) (t : Tok) (p : Stage)
    → Settling (state frames l p n) t (settled true (state frames l p n) t) (settled false (state frames l p n) t)
settling_in frames l n t ready = goes (state frames l ready n) refl refl
settling_in frames l n t (voiced text) = adds (state frames l (voiced text) n) t (tree.played (tree.begins (tree.value (tree.sound text None))) None None)
    (λ x. refl)
settling_in frames l n t (sampling text) = stops _ _ refl refl
settling_in frames l n t (numbered x) = adds (state frames l (numbered x) n) t (tree.played (tree.begins (tree.value (tree.number x))) None None) (λ x. refl)
settling_in frames l n t (ranging a) = stops _ _ refl refl
settling_in frames l n t (braced role bs ls) =
    adds (state frames l (braced role bs ls) n) t (tree.played (step_by_role role (tree.nested bs Brace ls)) None None)
    (λ x. refl)
settling_in frames l n t (wanting role bs) = stops _ _ refl refl
settling_in frames l n t (stepping s) = adds (state frames l (stepping s) n) t (tree.played s None None) (λ x. refl)
settling_in frames l n t (weighing s) = stops _ _ refl refl
settling_in frames l n t (weighted s x) = adds (state frames l (weighted s x) n) t (tree.played s (Some x) None) (λ x. refl)
settling_in frames l n t (repeating b) = adds (state frames l (repeating b) n) t tree.repeat (λ x. refl)
settling_in frames l n t ended = stops _ _ refl refl

counted_at : (s f : State) (t : Tok) (u : Taken) → f.read ≡ s.read → f.frames ≡ s.frames → Counted f t u → Counted s t u
counted_at s f t (Ok g) e d h = (h.0 ∙ ap suc e, h.1 ∙ ap (λ (frames : List Frame). opened t (length frames)) d)
counted_at s f t (Err (failed test)) e d h = h
counted_at s f t (Err (wrong kind at)) e d h = (h.0 ∙ ap (λ (frames : List Frame). wrong_token (length frames) t) d, h.1 ∙ e)

onward_at : (s f : State) (r u : Taken) → f.read ≡ s.read → Onward f r u → Onward s r u
onward_at s f (Ok g) u e h = h
onward_at s f (Err (failed test)) u e h = (h.0, h.1 ∙ ap suc e, h.2, h.3, h.4)
onward_at s f (Err (wrong kind at)) u e h = h

ok_refuses : (s f : State) (t : Tok) (r : Taken) → ((test : Test) → Early s test → Ok f ≡ Err (failed test)) → Refuses s t r
ok_refuses s f t (Ok g) each = tt
ok_refuses s f t (Err (failed test)) each = tt
ok_refuses s f t (Err (wrong kind at)) each = λ test early. absurd (ok_fails (Ok f) f (failed test) refl (each test early))

settling_then : (s : State) (t : Tok) (r u : Taken) (next with_none : State → Taken) → Made s t → Settling s t r u
    → ((test : Test) → Early s test → r ≡ Err (failed test)) → ((f : State) → Pair f t (next f) (with_none f))
    → StepsAlike s t (and_then r next) (and_then u with_none)
settling_then s t _ _ next with_none made (goes f e d) ends each =
    record {
      counted = counted_at s f t (with_none f) e d (each f).counted;
      goes = inl (onward_at s f (next f) (with_none f) e (each f).onward);
      refuses =
          ok_refuses s f t (next f) ends;
    }
settling_then s t _ _ next with_none made (stops kind at k a) ends each =
    record { counted = (k, a); goes = inl refl; refuses = λ test early. absurd (wrong_fails (Err (wrong kind at)) test kind at (ends test early) refl) }
settling_then s t _ _ next with_none made (fails test f early e d) ends each =
    record { counted = counted_at s f t (with_none f) e d (each f).counted; goes = inr (test, refl, early, made test early); refuses = tt }

pub settling : (s : State) (t : Tok) → Settling s t (settled true s t) (settled false s t)
settling s t = settling_in s.frames s.level s.read t s.stage

step_made : (s : State) (t : Tok) (next with_none : State → Taken) → Made s t → ((f : State) → Pair f t (next f) (with_none f))
    → StepsAlike s t (and_then (settled true s t) next) (and_then (settled false s t) with_none)
step_made s t next with_none made each = settling_then s t (settled true s t) (settled false s t) next with_none made (settling s t)
    (λ test early. early.settled t) each

-- nothing is put off before a token that stands apart
pub apart : (s : State) (t : Tok) → is_joined t ≡ false → Made s t
apart s t e test early = never_both test.waits (is_joined t) e
  where
    never_both : (a b : Bool) → b ≡ false → IsTrue (not (a && b))
    never_both true b e = rw e refl
    never_both false b e = refl

step_settled : (s : State) (t : Tok) (next with_none : State → Taken) → is_joined t ≡ false → ((f : State) → Pair f t (next f) (with_none f))
    → StepsAlike s t (and_then (settled true s t) next) (and_then (settled false s t) with_none)
step_settled s t next with_none e each = step_made s t next with_none (apart s t e) each

step_of : (s : State) (t : Tok) (r u : Taken) → Pair s t r u → Refuses s t r → StepsAlike s t r u
step_of s t r u h k = record { counted = h.counted; goes = inl h.onward; refuses = k }

-- a stage where a step cannot end
unsettled : (s : State) (t : Tok) → ((x : Tok) → settled true s x ≡ refused s x) → (r : Taken) → Refuses s t r
unsettled s t each (Ok f) = tt
unsettled s t each (Err (failed test)) = tt
unsettled s t each (Err (wrong kind at)) =
    λ test early. absurd (wrong_fails (settled true s token.end) test _ s.read (early.settled token.end) (each token.end))

step_unfit : (s : State) (t : Tok) → Made s t → StepsAlike s t (unfit true s t) (unfit false s t)
step_unfit s t made = step_made s t (λ f. refused f t) (λ f. refused f t) made (λ f. refuses f t)

mark_unfit : (s : State) (m : Mark) → StepsAlike s (token.mark m) (unfit true s (token.mark m)) (unfit false s (token.mark m))
mark_unfit s m = step_unfit s (token.mark m) (apart s (token.mark m) refl)

-- ---- tests that wait
abbrev is_repeating : Stage → Bool
is_repeating ready = false
is_repeating (voiced text) = false
is_repeating (sampling text) = false
is_repeating (numbered n) = false
is_repeating (ranging n) = false
is_repeating (braced role bs ls) = false
is_repeating (wanting role bs) = false
is_repeating (stepping step) = false
is_repeating (weighing step) = false
is_repeating (weighted step n) = false
is_repeating (repeating b) = true
is_repeating ended = false

added_waits : (s : State) (e : tree.Element) (test : Test) → added true s e ≡ Err (failed test) → test.waits ≡ waits e
added_waits s e test is = by_test (growth_test s e s.read).holds is
  where
    by_test : (b : Bool) → (if true && not b then Err (failed (growth_test s e s.read)) else Ok (grown s e)) ≡ Err (failed test) → test.waits ≡ waits e
    by_test true k = absurd (ok_fails (Ok (grown s e)) (grown s e) (failed test) refl k)
    by_test false k = ap (λ (x : Test). x.waits) (failed_is {State = State} (Err (failed test)) test (growth_test s e s.read) refl (sym k))

refused_waits : (s : State) (t : Tok) (test : Test) (b : Bool) → refused s t ≡ Err (failed test) → test.waits ≡ b
refused_waits s t test b e = absurd (wrong_fails (refused s t) test _ s.read e refl)

-- the test of a `!` waits, and no other
early_waits : (frames : List Frame) (l : Level) (p : Stage) (n : ℕ) (test : Test) → Early (state frames l p n) test → test.waits ≡ is_repeating p
early_waits frames l ready n test early =
    absurd (ok_fails (Ok (state frames l ready n)) (state frames l ready n) (failed test) refl (early.settled token.end))
early_waits frames l (voiced text) n test early = added_waits (state frames l (voiced text) n)
    (tree.played (tree.begins (tree.value (tree.sound text None))) None None) test (early.settled token.end)
early_waits frames l (sampling text) n test early = refused_waits (state frames l (sampling text) n) token.end test false (early.settled token.end)
early_waits frames l (numbered x) n test early = added_waits (state frames l (numbered x) n)
    (tree.played (tree.begins (tree.value (tree.number x))) None None) test (early.settled token.end)
early_waits frames l (ranging x) n test early = refused_waits (state frames l (ranging x) n) token.end test false (early.settled token.end)
early_waits frames l (braced role bs ls) n test early = added_waits (state frames l (braced role bs ls) n)
    (tree.played (step_by_role role (tree.nested bs Brace ls)) None None) test (early.settled token.end)
early_waits frames l (wanting role bs) n test early = refused_waits (state frames l (wanting role bs) n) token.end test false (early.settled token.end)
early_waits frames l (stepping step) n test early = added_waits (state frames l (stepping step) n) (tree.played step None None) test (early.settled token.end)
early_waits frames l (weighing step) n test early = refused_waits (state frames l (weighing step) n) token.end test false (early.settled token.end)
early_waits frames l (weighted step x) n test early = added_waits (state frames l (weighted step x) n) (tree.played step (Some x) None) test
    (early.settled token.end)
early_waits frames l (repeating b) n test early = added_waits (state frames l (repeating b) n) tree.repeat test (early.settled token.end)
early_waits frames l ended n test early = refused_waits (state frames l ended n) token.end test false (early.settled token.end)

unwaiting : (frames : List Frame) (l : Level) (p : Stage) (n : ℕ) (t : Tok) → is_repeating p ≡ false → Made (state frames l p n) t
unwaiting frames l p n t e test early = ap (λ (b : Bool). not (b && is_joined t)) (early_waits frames l p n test early ∙ e)

-- a token that would be a count
uncounted_in : (t : Tok) → is_joined t ≡ true → (frames : List Frame) (l : Level) (n : ℕ) (p : Stage)
    → StepsAlike (state frames l p n) t (uncounted true (state frames l p n) t p) (uncounted false (state frames l p n) t p)
uncounted_in t e frames l n (repeating b) =
    step_of (state frames l (repeating b) n) t _ _ (refuses (state frames l (repeating b) n) t)
    (λ test early. ap (λ (w : Bool). w && is_joined t) (early_waits frames l (repeating b) n test early) ∙ e)
uncounted_in t e frames l n p = step_unfit (state frames l p n) t (unwaiting frames l p n t refl)

-- ---- values and numbers
pub valued_pair : (t : Tok) (f : State) (o : Option tree.Value) → opened t (length f.frames) ≡ length f.frames
    → Pair f t (valued true f t o) (valued false f t o)
valued_pair t f None level = refuses f t
valued_pair t f (Some v) level = late_of f t (token_tests f.level.kind f.read v) _ _ (token_late f.level.kind f.read v) (goes_on f t _ (refl, sym level))

step_value : (t : Tok) (s : State) → is_joined t ≡ false → ((n : ℕ) → opened t n ≡ n) → StepsAlike s t (with_value true s t) (with_value false s t)
step_value t s e level = step_settled s t (λ f. valued true f t (value_of f.level.kind t)) (λ f. valued false f t (value_of f.level.kind t)) e
    (λ f. valued_pair t f (value_of f.level.kind t) (level (length f.frames)))

late_one : (s : State) (t : Tok) (test : Test) (g : State) → test.ends ≡ suc s.read → test.waits ≡ false → Counted s t (Ok g)
    → Pair s t (checked true test (Ok g)) (Ok g)
late_one s t test g ends made h = late s t test (Ok g) g ends made (goes_on s t g h)

number_in : (text : List ℕ) (x : Number) (frames : List Frame) (l : Level) (n : ℕ) (p : Stage)
    → StepsAlike (state frames l p n) (digits x text false) (with_number true (state frames l p n) (digits x text false) x p)
    (with_number false (state frames l p n) (digits x text false) x p)
number_in text x frames l n (sampling word) =
    step_of (state frames l (sampling word) n) (digits x text false) _ _
    (pair_if (state frames l (sampling word) n) (digits x text false) (is_sample x) _ _ _ _
    (late_one (state frames l (sampling word) n) (digits x text false) _ _ refl refl (refl, refl))
    (refuses (state frames l (sampling word) n) (digits x text false)))
    (unsettled (state frames l (sampling word) n) (digits x text false) (λ t. refl) _)
number_in text x frames l n (ranging a) =
    step_of (state frames l (ranging a) n) (digits x text false) _ _
    (pair_if (state frames l (ranging a) n) (digits x text false) (is_end l.kind x) _ _ _ _
    (late_of (state frames l (ranging a) n) (digits x text false) (number_tests l.kind n x) _ _ (number_late l.kind n x)
    (late_one (state frames l (ranging a) n) (digits x text false) _ _ refl refl (refl, refl)))
    (refuses (state frames l (ranging a) n) (digits x text false)))
    (unsettled (state frames l (ranging a) n) (digits x text false) (λ t. refl) _)
number_in text x frames l n (wanting role bs) =
    step_of (state frames l (wanting role bs) n) (digits x text false) _ _
    (late_one (state frames l (wanting role bs) n) (digits x text false) _ _ refl refl (refl, refl))
    (unsettled (state frames l (wanting role bs) n) (digits x text false) (λ t. refl) _)
number_in text x frames l n (weighing step) =
    step_of (state frames l (weighing step) n) (digits x text false) _ _
    (late_one (state frames l (weighing step) n) (digits x text false) _ _ refl refl (refl, refl))
    (unsettled (state frames l (weighing step) n) (digits x text false) (λ t. refl) _)
number_in text x frames l n p = step_value (digits x text false) (state frames l p n) refl (λ m. refl)

-- a test of the token fails, or none
checked_refuses : (s : State) (t : Tok) (test : Test) (r : Taken) (b : Bool) → Refuses s t r
    → Refuses s t (if true && not b then Err (failed test) else r)
checked_refuses s t test r true h = h
checked_refuses s t test r false h = tt

count_at : (text : List ℕ) (x : Number) (s : State)
    → StepsAlike s (digits x text true) (with_counting true s (digits x text true) x (repeating true))
    (with_counting false s (digits x text true) x (repeating true))
count_at text x s =
    step_of s (digits x text true) _ _
    (late s (digits x text true) (test_at s.read (count_rule x)) _ _ refl refl
    (late_one s (digits x text true)
    (test_between s.level.start (suc s.read) (size_rule s.level.groups (with_count s.level.group x))) _ refl refl (refl, refl)))
    (checked_refuses s (digits x text true) (test_at s.read (count_rule x)) _ (is_count x)
    (checked_refuses s (digits x text true)
    (test_between s.level.start (suc s.read) (size_rule s.level.groups (with_count s.level.group x))) _
    (is_within (steps_of s.level.groups) (size_of (with_count s.level.group x))) tt))

count_in : (text : List ℕ) (x : Number) (frames : List Frame) (l : Level) (n : ℕ) (p : Stage)
    → StepsAlike (state frames l p n) (digits x text true) (with_counting true (state frames l p n) (digits x text true) x p)
    (with_counting false (state frames l p n) (digits x text true) x p)
count_in text x frames l n (repeating true) = count_at text x (state frames l (repeating true) n)
count_in text x frames l n p = uncounted_in (digits x text true) refl frames l n p

-- ---- marks
opened_pair : (s : State) (t : Tok) (l : Level) (hole : Hole) (kind : Kind) → ((n : ℕ) → suc n ≡ opened t n)
    → Pair s t (opened_at s t l hole kind) (opened_at s t l hole kind)
opened_pair s t l hole kind deeper = pair_if s t (nat_lt (length s.frames) 16) _ _ _ _ (goes_on s t _ (refl, deeper (length s.frames))) (refuses s t)

open_in : (b : Bracket) (frames : List Frame) (l : Level) (n : ℕ) (p : Stage)
    → StepsAlike (state frames l p n) (token.mark (mark.Open b)) (with_open true (state frames l p n) (token.mark (mark.Open b)) b p)
    (with_open false (state frames l p n) (token.mark (mark.Open b)) b p)
open_in b frames l n (wanting role bs) =
    step_of (state frames l (wanting role bs) n) (token.mark (mark.Open b)) _ _
    (opened_pair (state frames l (wanting role bs) n) (token.mark (mark.Open b)) l (operand role bs b) Ratio (λ m. refl))
    (unsettled (state frames l (wanting role bs) n) (token.mark (mark.Open b)) (λ t. refl) _)
open_in b frames l n p =
    step_settled (state frames l p n) (token.mark (mark.Open b))
    (λ f. opened_at f (token.mark (mark.Open b)) (begun_at f.level f.read) (operand term tree.no_brace b) f.level.kind)
    (λ f. opened_at f (token.mark (mark.Open b)) (begun_at f.level f.read) (operand term tree.no_brace b) f.level.kind)
    refl
    (λ f. opened_pair f (token.mark (mark.Open b)) (begun_at f.level f.read) (operand term tree.no_brace b) f.level.kind (λ n. refl))

hole_closed : (b : Bracket) (l m : Level) (n : ℕ) (p : Stage) (frames : List Frame) (hole : Hole)
    → Pair (state (record { level = m; hole = hole } ∷ frames) l p n) (token.mark (mark.Close b))
    (closed_hole (state (record { level = m; hole = hole } ∷ frames) l p n) (token.mark (mark.Close b)) b m frames hole)
    (closed_hole (state (record { level = m; hole = hole } ∷ frames) l p n) (token.mark (mark.Close b)) b m frames hole)
hole_closed b l m n p frames (operand role bs o) = pair_if _ (token.mark (mark.Close b)) (is_same_bracket b o) _ _ _ _
    (goes_on _ (token.mark (mark.Close b)) _ (refl, refl)) (refuses _ (token.mark (mark.Close b)))
hole_closed b l m n p frames (hits step) = refuses _ (token.mark (mark.Close b))
hole_closed b l m n p frames (steps step k) = refuses _ (token.mark (mark.Close b))
hole_closed b l m n p frames (from step k o) = refuses _ (token.mark (mark.Close b))

closed_pair : (b : Bracket) (l : Level) (n : ℕ) (p : Stage) (frames : List Frame)
    → Pair (state frames l p n) (token.mark (mark.Close b)) (closed (state frames l p n) (token.mark (mark.Close b)) b frames)
    (closed (state frames l p n) (token.mark (mark.Close b)) b frames)
closed_pair b l n p [] = refuses _ (token.mark (mark.Close b))
closed_pair b l n p (f ∷ frames) = hole_closed b l f.level n p frames f.hole

hole_parted : (l m : Level) (n : ℕ) (p : Stage) (frames : List Frame) (hole : Hole)
    → Pair (state (record { level = m; hole = hole } ∷ frames) l p n) (token.mark mark.Comma)
    (parted_hole (state (record { level = m; hole = hole } ∷ frames) l p n) (token.mark mark.Comma) m frames hole)
    (parted_hole (state (record { level = m; hole = hole } ∷ frames) l p n) (token.mark mark.Comma) m frames hole)
hole_parted l m n p frames (operand role bs o) = goes_on _ (token.mark mark.Comma) _ (refl, refl)
hole_parted l m n p frames (hits step) = goes_on _ (token.mark mark.Comma) _ (refl, refl)
hole_parted l m n p frames (steps step k) = goes_on _ (token.mark mark.Comma) _ (refl, refl)
hole_parted l m n p frames (from step k o) = refuses _ (token.mark mark.Comma)

parted_pair : (l : Level) (n : ℕ) (p : Stage) (frames : List Frame)
    → Pair (state frames l p n) (token.mark mark.Comma) (parted (state frames l p n) (token.mark mark.Comma) frames)
    (parted (state frames l p n) (token.mark mark.Comma) frames)
parted_pair l n p [] = goes_on _ (token.mark mark.Comma) _ (refl, refl)
parted_pair l n p (f ∷ frames) = hole_parted l f.level n p frames f.hole

hole_euclid : (l m : Level) (n : ℕ) (p : Stage) (frames : List Frame) (hole : Hole)
    → Pair (state (record { level = m; hole = hole } ∷ frames) l p n) (token.mark mark.CloseRound)
    (euclid_hole true (state (record { level = m; hole = hole } ∷ frames) l p n) (token.mark mark.CloseRound) m frames hole)
    (euclid_hole false (state (record { level = m; hole = hole } ∷ frames) l p n) (token.mark mark.CloseRound) m frames hole)
hole_euclid l m n p frames (operand role bs o) = refuses _ (token.mark mark.CloseRound)
hole_euclid l m n p frames (hits step) = refuses _ (token.mark mark.CloseRound)
hole_euclid l m n p frames (steps step k) = late_one _ (token.mark mark.CloseRound) _ _ refl refl (refl, refl)
hole_euclid l m n p frames (from step k o) = late_one _ (token.mark mark.CloseRound) _ _ refl refl (refl, refl)

euclid_pair : (l : Level) (n : ℕ) (p : Stage) (frames : List Frame)
    → Pair (state frames l p n) (token.mark mark.CloseRound) (euclid_closed true (state frames l p n) (token.mark mark.CloseRound) frames)
    (euclid_closed false (state frames l p n) (token.mark mark.CloseRound) frames)
euclid_pair l n p [] = refuses _ (token.mark mark.CloseRound)
euclid_pair l n p (f ∷ frames) = hole_euclid l f.level n p frames f.hole

end_pair : (l : Level) (n : ℕ) (p : Stage) (frames : List Frame)
    → Pair (state frames l p n) token.end (at_end (state frames l p n) token.end frames) (at_end (state frames l p n) token.end frames)
end_pair l n p [] = goes_on _ token.end _ (refl, refl)
end_pair l n p (f ∷ frames) = refuses _ token.end

hold_pair : (s : State) (t : Tok) → opened t (length s.frames) ≡ length s.frames → Pair s t (with_hold true s t) (with_hold false s t)
hold_pair s t level = pair_if s t (is_empty_group s.level.group) _ _ _ _ (refuses s t) (late_one s t _ _ refl refl (refl, sym level))

repeat_pair : (s : State) (b : Bool) → Pair s (token.mark mark.Repeat) (with_repeat s (token.mark mark.Repeat) b) (with_repeat s (token.mark mark.Repeat) b)
repeat_pair s b =
    pair_if s (token.mark mark.Repeat) (is_empty_group s.level.group) _ _ _ _ (refuses s (token.mark mark.Repeat))
    (goes_on s (token.mark mark.Repeat) _ (refl, refl))

continued_step : (s : State) (m : Mark) (o : Option tree.MiniStep) (next with_none : tree.MiniStep → Taken)
    → ((step : tree.MiniStep) → StepsAlike s (token.mark m) (next step) (with_none step))
    → StepsAlike s (token.mark m) (continued true s (token.mark m) o next) (continued false s (token.mark m) o with_none)
continued_step s m None next with_none each = mark_unfit s m
continued_step s m (Some step) next with_none each = each step

arguments_if : (s : State) (step : tree.MiniStep) (b : Bool) → nat_lt (length s.frames) 16 ≡ b
    → StepsAlike s (token.mark mark.OpenRound)
    (if b then opened_at s (token.mark mark.OpenRound) s.level (hits step) Count else unfit true s (token.mark mark.OpenRound))
    (if b then opened_at s (token.mark mark.OpenRound) s.level (hits step) Count else unfit false s (token.mark mark.OpenRound))
arguments_if s step true e =
    step_of s (token.mark mark.OpenRound) _ _
    (opened_pair s (token.mark mark.OpenRound) s.level (hits step) Count (λ n. refl))
    (rw e tt)
arguments_if s step false e = mark_unfit s mark.OpenRound

arguments_step : (s : State) (step : tree.MiniStep) → StepsAlike s (token.mark mark.OpenRound) (with_arguments true s (token.mark mark.OpenRound) step)
    (with_arguments false s (token.mark mark.OpenRound) step)
arguments_step s step = arguments_if s step (nat_lt (length s.frames) 16) refl

past_step : (s : State) (t : Tok) (p : Stage) → opened t (length s.frames) ≡ length s.frames → StepsAlike s t (Ok (past s p)) (Ok (past s p))
past_step s t p level = step_of s t _ _ (goes_on s t (past s p) (refl, sym level)) tt

colon_in : (s : State) (p : Stage) → StepsAlike s (token.mark mark.Colon) (with_colon true s (token.mark mark.Colon) p)
    (with_colon false s (token.mark mark.Colon) p)
colon_in s (voiced text) = past_step s (token.mark mark.Colon) (sampling text) refl
colon_in s p = mark_unfit s mark.Colon

range_in : (s : State) (p : Stage) → StepsAlike s (token.mark mark.Range) (with_range true s (token.mark mark.Range) p)
    (with_range false s (token.mark mark.Range) p)
range_in s (numbered n) = past_step s (token.mark mark.Range) (ranging n) refl
range_in s p = mark_unfit s mark.Range

percent_in : (s : State) (p : Stage) → StepsAlike s (token.mark mark.Percent) (with_percent true s (token.mark mark.Percent) p)
    (with_percent false s (token.mark mark.Percent) p)
percent_in s (braced role bs ls) = past_step s (token.mark mark.Percent) (wanting role (tree.brace bs ls)) refl
percent_in s p = mark_unfit s mark.Percent

-- ---- any token
mark_step : (s : State) (m : Mark) → StepsAlike s (token.mark m) (taken_mark true s (token.mark m) m) (taken_mark false s (token.mark m) m)
mark_step s mark.Rest = step_settled s (token.mark mark.Rest) _ _ refl
    (λ f. goes_on f (token.mark mark.Rest) (begun f (stepping (tree.begins tree.rest))) (refl, refl))
mark_step s (mark.Open b) = open_in b s.frames s.level s.read s.stage
mark_step s (mark.Close b) = step_settled s (token.mark (mark.Close b)) (λ f. closed f (token.mark (mark.Close b)) b f.frames)
    (λ f. closed f (token.mark (mark.Close b)) b f.frames) refl (λ f. closed_pair b f.level f.read f.stage f.frames)
mark_step s mark.OpenRound = continued_step s mark.OpenRound (pending s.stage) _ _ (arguments_step s)
mark_step s mark.CloseRound = step_settled s (token.mark mark.CloseRound) (λ f. euclid_closed true f (token.mark mark.CloseRound) f.frames)
    (λ f. euclid_closed false f (token.mark mark.CloseRound) f.frames) refl (λ f. euclid_pair f.level f.read f.stage f.frames)
mark_step s mark.Comma = step_settled s (token.mark mark.Comma) (λ f. parted f (token.mark mark.Comma) f.frames)
    (λ f. parted f (token.mark mark.Comma) f.frames) refl (λ f. parted_pair f.level f.read f.stage f.frames)
mark_step s mark.Repeat = step_settled s (token.mark mark.Repeat) (λ f. with_repeat f (token.mark mark.Repeat) (ends_step s.stage))
    (λ f. with_repeat f (token.mark mark.Repeat) (ends_step s.stage)) refl (λ f. repeat_pair f (ends_step s.stage))
mark_step s mark.Star = continued_step s mark.Star (pending s.stage) _ _ (λ step. past_step s (token.mark mark.Star) _ refl)
mark_step s mark.Slash = continued_step s mark.Slash (pending s.stage) _ _ (λ step. past_step s (token.mark mark.Slash) _ refl)
mark_step s mark.At = continued_step s mark.At (pending s.stage) _ _ (λ step. past_step s (token.mark mark.At) _ refl)
mark_step s mark.Colon = colon_in s s.stage
mark_step s mark.Percent = percent_in s s.stage
mark_step s mark.Question = mark_unfit s mark.Question
mark_step s mark.Bar = mark_unfit s mark.Bar
mark_step s mark.Caret = mark_unfit s mark.Caret
mark_step s mark.Hold = step_settled s (token.mark mark.Hold) _ _ refl (λ f. hold_pair f (token.mark mark.Hold) refl)
mark_step s mark.Dot = step_settled s (token.mark mark.Dot) (λ f. with_dot true f) (λ f. with_dot false f) refl
    (λ f. late_one f (token.mark mark.Dot) _ _ refl refl (refl, refl))
mark_step s mark.Range = range_in s s.stage

pub step : (s : State) (t : Tok) → StepsAlike s t (taken true s t) (taken false s t)
step s (digits x text true) = count_in text x s.frames s.level s.read s.stage
step s (digits x text false) = number_in text x s.frames s.level s.read s.stage
step s (letters text true) = uncounted_in (letters text true) refl s.frames s.level s.read s.stage
step s (letters text false) = step_value (letters text false) s refl (λ n. refl)
step s (token.mark m) = mark_step s m
step s token.end = step_settled s token.end (λ f. at_end f token.end f.frames) (λ f. at_end f token.end f.frames) refl
    (λ f. end_pair f.level f.read f.stage f.frames)
