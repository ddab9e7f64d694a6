-- What the machine reads of one token or a few: values, weights, the ends of elements.
use Rattle.std.specs.Prelude.{if◌then◌else◌, IsTrue}
use Rattle.std.proofs.Common.{◌≡◌, ℕ, suc, Bool, true, false, Ok, Option, Some, None, List, [], ◌∷◌, ◌++◌, refl, ap, sym, ◌∙◌, subst, append_assoc}
use Rattle.tdl_mini_tree.specs.declared.leaves.Kind.{Kind}
use Rattle.tdl_mini_tree.specs.declared.leaves.Number.{Number}
use Rattle.tdl_mini_machine.specs.declared.marks.Mark.TheVariants as mark
use Rattle.tdl_mini_machine.specs.Tokens.{Tok, digits, letters, value_of}
use Rattle.tdl_mini_machine.specs.Tokens as token
use Rattle.tdl_mini_machine.specs.Rules.{sample_rule, size_rule, Test, test_between, test_at, number_tests, token_tests}
use Rattle.tdl_mini_grammar.specs.Spelling.{sign, value, numeral, count, terminals, value_pieces, weight_pieces, count_pieces, element_pieces}
use Rattle.tdl_mini_machine.specs.NumberForms.{is_end, is_sample}
use Rattle.tdl_mini_grammar.specs.Grammar.{FormedValue}
use Rattle.tdl_mini_grammar.specs.Tests.{after, tests_from}
use Rattle.tdl_mini_machine.specs.Machine.States.{State, Level, Frame, Role, Stage, ready, voiced, sampling, numbered, ranging, braced, wanting, stepping}
use Rattle.tdl_mini_machine.specs.Machine.States.{weighing, weighted, repeating, ended, Taken, and_then, checked, all_checked, begun_at, pending, ends_step}
use Rattle.tdl_mini_machine.specs.Machine.States.{begun, past}
use Rattle.tdl_mini_machine.specs.Machine.Running.{taken}
use Rattle.tdl_mini_machine.specs.Machine.Settling.{settled_at, added, growth_test, grown}
use Rattle.tdl_mini_machine.specs.Machine.Values.{valued, value_stage}
use Rattle.tdl_mini_machine.specs.Machine.Marks.{continued, with_repeat}
use Rattle.tdl_mini_tree.specs.Tree as tree
use Rattle.tdl_mini_tree.specs.Tree.{Layers, Sequence, Group, Element, MiniStep, no_element, element, is_empty_group, no_brace, begins, rest, hold, repeat}
use Rattle.tdl_mini_tree.specs.Tree.{played, range}
use Rattle.tdl_mini_grammar.proofs.Running.{state, all_checked-append, checked-and_then, Runs, runs_one, runs_sign, runs_mark, runs_then, runs_none}
use Rattle.tdl_mini_grammar.proofs.Settling.{IsOpen, Pends, runs_ready, pends_as}

pub if_true : (b : Bool) (x y : Taken) → IsTrue b → (if b then x else y) ≡ x
if_true true x y h = refl
if_true false x y h = cc

-- the level of a group, and what is read round it
abbrev pub grouped : Kind → Layers → Sequence → Group → ℕ → Level
grouped kind ls seq g start = record { kind = kind; layers = ls; groups = seq; group = g; start = start }

-- ---- numbers as tokens
pub runs_numeral :
    {tested : Bool} {s f : State} {n : Number} {ts : List Test} →
    ((text : List ℕ) → taken tested s (digits n text false) ≡ all_checked tested ts (Ok f)) →
    Runs tested s (numeral n ∷ []) ts f
runs_numeral {tested} {s} h = runs_one (λ t stands. ap (taken tested s) stands.1 ∙ h stands.0)

pub runs_count :
    {tested : Bool} {s f : State} {n : Number} {ts : List Test} →
    ((text : List ℕ) → taken tested s (digits n text true) ≡ all_checked tested ts (Ok f)) →
    Runs tested s (count n ∷ []) ts f
runs_count {tested} {s} h = runs_one (λ t stands. ap (taken tested s) stands.1 ∙ h stands.0)

-- ---- values
none_is_some : (v : tree.Value) → None ≡ Some v → ⊥
none_is_some v e = cc

value_taken :
    (tested : Bool) (frames : List Frame) (l : Level) (from : ℕ) (v : tree.Value) (t : Tok) →
    value_of l.kind t ≡ Some v →
    taken tested (state frames l ready from) t ≡ all_checked tested (token_tests l.kind from v)
    (Ok (state frames (begun_at l from) (value_stage l.kind v) (suc from)))
value_taken tested frames l from v (digits n text true) e = absurd (none_is_some v e)
value_taken tested frames l from v (digits n text false) e = ap (valued tested (state frames l ready from) (digits n text false)) e
value_taken tested frames l from v (letters text true) e = absurd (none_is_some v e)
value_taken tested frames l from v (letters text false) e = ap (valued tested (state frames l ready from) (letters text false)) e
value_taken tested frames l from v (token.mark m) e = absurd (none_is_some v e)
value_taken tested frames l from v token.end e = absurd (none_is_some v e)

pub token_runs :
    (tested : Bool) (frames : List Frame) (l : Level) (from : ℕ) (v : tree.Value) →
    Runs tested (state frames l ready from) (value l.kind v ∷ []) (token_tests l.kind from v) (state frames (begun_at l from) (value_stage l.kind v) (suc from))
token_runs tested frames l from v = runs_one (value_taken tested frames l from v)

sample_runs :
    (tested : Bool) (frames : List Frame) (l : Level) (at : ℕ) (text : List ℕ) (n : Number) →
    IsTrue (is_sample n) →
    Runs tested (state frames l (sampling text) at) (numeral n ∷ []) (test_at at (sample_rule n) ∷ [])
    (state frames l (stepping (begins (tree.value (tree.sound text (Some n))))) (suc at))
sample_runs tested frames l at text n h = runs_numeral (λ word. if_true (is_sample n) _ _ h)

pub value_runs :
    (tested : Bool) (frames : List Frame) (l : Level) (from : ℕ) (v : tree.Value) → FormedValue v →
    Runs tested (state frames l ready from) (terminals (value_pieces l.kind v)) (tests_from from (value_pieces l.kind v))
    (state frames (begun_at l from) (value_stage l.kind v) (after from (value_pieces l.kind v)))
value_runs tested frames l from (tree.sound text None) h = token_runs tested frames l from (tree.sound text None)
value_runs tested frames l from (tree.sound text (Some n)) h =
    runs_then (token_runs tested frames l from (tree.sound text None))
    (runs_then (runs_mark mark.Colon refl) (sample_runs tested frames (begun_at l from) (suc (suc from)) text n h))
value_runs tested frames l from (tree.name text) h = token_runs tested frames l from (tree.name text)
value_runs tested frames l from (tree.note n) h = token_runs tested frames l from (tree.note n)
value_runs tested frames l from (tree.truth b) h = token_runs tested frames l from (tree.truth b)
value_runs tested frames l from (tree.number n) h = token_runs tested frames l from (tree.number n)

-- ---- where a step ends
-- at this stage a step ends, with this weight
pub record Ends (p : Stage) (step : MiniStep) (weight : Option Number) : Type 0 where
  pub settles : (tested : Bool) (s : State) (t : Tok) → settled_at tested s t p ≡ added tested s (played step weight None)
  pub ends : ends_step p ≡ true
  pub is_open : IsOpen p

same_step : (a b : MiniStep) → Some a ≡ Some b → a ≡ b
same_step a b e = cc

no_step : (b : MiniStep) → None ≡ Some b → ⊥
no_step b e = cc

ends_at : (p : Stage) (a b : MiniStep) → Some a ≡ Some b → Ends p a None → Ends p b None
ends_at p a b e h = subst (λ x. Ends p x None) (same_step a b e) h

pub pending_ends : (p : Stage) (step : MiniStep) → pending p ≡ Some step → Ends p step None
pending_ends ready step e = absurd (no_step step e)
pending_ends (voiced text) step e = ends_at (voiced text) _ step e (record { settles = λ tested s t. refl; ends = refl; is_open = tt })
pending_ends (sampling text) step e = absurd (no_step step e)
pending_ends (numbered n) step e = ends_at (numbered n) _ step e (record { settles = λ tested s t. refl; ends = refl; is_open = tt })
pending_ends (ranging a) step e = absurd (no_step step e)
pending_ends (braced role bs ls) step e = ends_at (braced role bs ls) _ step e
    (record { settles = λ tested s t. refl; ends = refl; is_open = tt })
pending_ends (wanting role bs) step e = absurd (no_step step e)
pending_ends (stepping one) step e = ends_at (stepping one) _ step e (record { settles = λ tested s t. refl; ends = refl; is_open = tt })
pending_ends (weighing one) step e = absurd (no_step step e)
pending_ends (weighted one n) step e = absurd (no_step step e)
pending_ends (repeating b) step e = absurd (no_step step e)
pending_ends ended step e = absurd (no_step step e)

weighted_ends : (step : MiniStep) (n : Number) → Ends (weighted step n) step (Some n)
weighted_ends step n = record { settles = λ tested s t. refl; ends = refl; is_open = tt }

-- a mark that goes on with a step
pub star_runs :
    (tested : Bool) (frames : List Frame) (l : Level) (p : Stage) (at : ℕ) (step : MiniStep) → pending p ≡ Some step →
    Runs tested (state frames l p at) (sign mark.Star ∷ []) [] (state frames l (wanting (Role.faster step) no_brace) (suc at))
star_runs tested frames l p at step e =
    runs_mark mark.Star (ap
    (λ o. continued tested (state frames l p at) (token.mark mark.Star) o (λ step. Ok (past (state frames l p at) (wanting (Role.faster step) no_brace))))
    e)

pub slash_runs :
    (tested : Bool) (frames : List Frame) (l : Level) (p : Stage) (at : ℕ) (step : MiniStep) → pending p ≡ Some step →
    Runs tested (state frames l p at) (sign mark.Slash ∷ []) [] (state frames l (wanting (Role.slower step) no_brace) (suc at))
slash_runs tested frames l p at step e = runs_mark mark.Slash
    (ap (λ o. continued tested (state frames l p at) (token.mark mark.Slash) o
    (λ step. Ok (past (state frames l p at) (wanting (Role.slower step) no_brace)))) e)

at_runs :
    (tested : Bool) (frames : List Frame) (l : Level) (p : Stage) (at : ℕ) (step : MiniStep) → pending p ≡ Some step →
    Runs tested (state frames l p at) (sign mark.At ∷ []) [] (state frames l (weighing step) (suc at))
at_runs tested frames l p at step e =
    runs_mark mark.At (ap (λ o. continued tested (state frames l p at) (token.mark mark.At) o (λ step. Ok (past (state frames l p at) (weighing step)))) e)

-- ---- weights
-- the stage after a step and its weight
pub record Weighs (tested : Bool) (frames : List Frame) (l : Level) (p : Stage) (at : ℕ) (step : MiniStep) (weight : Option Number) : Type 0 where
  pub stage : Stage
  pub ends : Ends stage step weight
  pub runs : Runs tested (state frames l p at) (terminals (weight_pieces weight)) (tests_from at (weight_pieces weight))
      (state frames l stage (after at (weight_pieces weight)))

pub weight_weighs :
    (tested : Bool) (frames : List Frame) (l : Level) (p : Stage) (at : ℕ) (step : MiniStep) → pending p ≡ Some step →
    (weight : Option Number) → Weighs tested frames l p at step weight
weight_weighs tested frames l p at step e None = record {
  stage = p;
  ends = pending_ends p step e;
  runs = runs_none tested (state frames l p at);
}
weight_weighs tested frames l p at step e (Some n) = record {
  stage = weighted step n;
  ends = weighted_ends step n;
  runs = runs_then (at_runs tested frames l p at step e) (runs_numeral (λ text. refl));
}

-- ---- elements
-- A step is read, and its weight: the element pends.
pub played_pends :
    (tested : Bool) (frames : List Frame) (kind : Kind) (ls : Layers) (seq : Sequence) (g : Group) (from : ℕ) (p : Stage) (at : ℕ) (step : MiniStep) →
    pending p ≡ Some step → (weight : Option Number) →
    Pends tested (state frames (grouped kind ls seq g from) p at) (terminals (weight_pieces weight))
    (tests_from at (weight_pieces weight)
    ++ test_between from (after at (weight_pieces weight)) (size_rule seq (element g (played step weight None))) ∷ []) frames
    (grouped kind ls seq (element g (played step weight None))) (after at (weight_pieces weight))
played_pends tested frames kind ls seq g from p at step e weight =
    let w = weight_weighs tested frames (grouped kind ls seq g from) p at step e weight in
    let to = after at (weight_pieces weight) in record {
      start = from;
      early = tests_from at (weight_pieces weight);
      late = test_between from to (size_rule seq (element g (played step weight None))) ∷ [];
      there = state frames (grouped kind ls seq g from) w.stage to;
      runs = w.runs;
      settles = λ t. w.ends.settles tested (state frames (grouped kind ls seq g from) w.stage to) t;
      is_open = w.ends.is_open;
      split = refl;
    }

-- with a count after it
counted_runs :
    (tested : Bool) (frames : List Frame) (kind : Kind) (ls : Layers) (seq : Sequence) (g : Group) (step : MiniStep) (weight : Option Number) (n : Number)
    (at : ℕ) →
    Runs tested (state frames (grouped kind ls seq (element g (played step weight None)) at) (repeating true) (suc at)) (count n ∷ [])
    (tests_from at (count_pieces seq (element g (played step weight (Some n))) (Some n)))
    (state frames (grouped kind ls seq (element g (played step weight (Some n))) at) ready (suc (suc at)))
counted_runs tested frames kind ls seq g step weight n at = runs_count (λ text. refl)

again_runs :
    (tested : Bool) (frames : List Frame) (kind : Kind) (ls : Layers) (seq : Sequence) (g : Group) (from at : ℕ) (p : Stage) (step : MiniStep)
    (weight : Option Number) →
    Ends p step weight →
    Runs tested (state frames (grouped kind ls seq g from) p at) (sign mark.Repeat ∷ [])
    (test_between from at (size_rule seq (element g (played step weight None))) ∷ [])
    (state frames (grouped kind ls seq (element g (played step weight None)) at) (repeating true) (suc at))
again_runs tested frames kind ls seq g from at p step weight ends =
    let s = state frames (grouped kind ls seq g from) p at in
    let one = played step weight None in
    let next : State → Taken = λ f. with_repeat f (token.mark mark.Repeat) (ends_step p) in
    runs_sign mark.Repeat
    (ap (λ r. and_then r next) (ends.settles tested s (token.mark mark.Repeat))
    ∙ checked-and_then tested (growth_test s one at) (Ok (grown s one)) next
    ∙ ap (λ b. checked tested (growth_test s one at) (Ok (begun (grown s one) (repeating b)))) ends.ends)

pub counted_pends :
    (tested : Bool) (frames : List Frame) (kind : Kind) (ls : Layers) (seq : Sequence) (g : Group) (from : ℕ) (p : Stage) (at : ℕ) (step : MiniStep) →
    pending p ≡ Some step → (weight : Option Number) (n : Number) →
    Pends tested (state frames (grouped kind ls seq g from) p at) (terminals (weight_pieces weight) ++ sign mark.Repeat ∷ count n ∷ [])
    (tests_from at (weight_pieces weight)
    ++ test_between from (after at (weight_pieces weight)) (size_rule seq (element g (played step weight None)))
    ∷ tests_from (after at (weight_pieces weight)) (count_pieces seq (element g (played step weight (Some n))) (Some n))) frames
    (grouped kind ls seq (element g (played step weight (Some n)))) (suc (suc (after at (weight_pieces weight))))
counted_pends tested frames kind ls seq g from p at step e weight n =
    let w = weight_weighs tested frames (grouped kind ls seq g from) p at step e weight in
    let to = after at (weight_pieces weight) in
    runs_ready (grouped kind ls seq (element g (played step weight (Some n)))) to
    (runs_then w.runs
    (runs_then (again_runs tested frames kind ls seq g from to w.stage step weight w.ends) (counted_runs tested frames kind ls seq g step weight n to)))

-- ranges
range_begins :
    (tested : Bool) (frames : List Frame) (l : Level) (from : ℕ) (a : Number) → IsTrue (is_end l.kind a) →
    Runs tested (state frames l ready from) (value l.kind (tree.number a) ∷ []) (number_tests l.kind from a)
    (state frames (begun_at l from) (numbered a) (suc from))
range_begins tested frames l from a h =
    subst (λ p. Runs tested (state frames l ready from) (value l.kind (tree.number a) ∷ []) (number_tests l.kind from a)
    (state frames (begun_at l from) p (suc from))) (stage_true (is_end l.kind a) (numbered a) _ h) (token_runs tested frames l from (tree.number a))
  where
    stage_true : (b : Bool) (x y : Stage) → IsTrue b → (if b then x else y) ≡ x
    stage_true true x y e = refl
    stage_true false x y e = cc

range_ends :
    (tested : Bool) (frames : List Frame) (kind : Kind) (ls : Layers) (seq : Sequence) (g : Group) (from at : ℕ) (a b : Number) →
    IsTrue (is_end kind b) →
    Runs tested (state frames (grouped kind ls seq g from) (ranging a) at) (numeral b ∷ [])
    (number_tests kind at b ++ test_between from (suc at) (size_rule seq (element g (range a b))) ∷ [])
    (state frames (grouped kind ls seq (element g (range a b)) from) ready (suc at))
range_ends tested frames kind ls seq g from at a b h =
    runs_numeral
    (λ text. if_true (is_end kind b) _ _ h
    ∙ sym (all_checked-append tested (number_tests kind at b) (test_between from (suc at) (size_rule seq (element g (range a b))) ∷ []) _))

pub range_pends :
    (tested : Bool) (frames : List Frame) (kind : Kind) (ls : Layers) (seq : Sequence) (g : Group) (start from : ℕ) (a b : Number) →
    IsTrue (is_end kind a) → IsTrue (is_end kind b) →
    Pends tested (state frames (grouped kind ls seq g start) ready from) (terminals (element_pieces kind seq g (range a b)))
    (tests_from from (element_pieces kind seq g (range a b))) frames (grouped kind ls seq (element g (range a b)))
    (after from (element_pieces kind seq g (range a b)))
range_pends tested frames kind ls seq g start from a b h k =
    pends_as
    (runs_ready (grouped kind ls seq (element g (range a b))) from
    (runs_then (range_begins tested frames (grouped kind ls seq g start) from a h)
    (runs_then (runs_mark mark.Range refl) (range_ends tested frames kind ls seq g from (suc (suc from)) a b k))))
    refl
    (sym (append_assoc (number_tests kind from a) (number_tests kind (suc (suc from)) b) _))
