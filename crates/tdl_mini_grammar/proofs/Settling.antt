-- An element is finished at the token after it: what is read of a group, and of a group and more.
use Rattle.std.specs.List.{AllZip}
use Rattle.std.proofs.Common.{◌≡◌, ℕ, Bool, true, false, Ok, Some, None, List, [], ◌∷◌, ◌++◌, refl, ap, sym, ◌∙◌, subst, append_assoc, append-nil}
use Rattle.tdl_mini_tree.specs.declared.leaves.Kind.{Kind}
use Rattle.tdl_mini_tree.specs.declared.leaves.Bracket.{Bracket}
use Rattle.tdl_mini_machine.specs.declared.marks.Mark.{Mark}
use Rattle.tdl_mini_machine.specs.declared.marks.Mark.TheVariants as mark
use Rattle.tdl_mini_machine.specs.Tokens.{Tok, digits, letters, value_of}
use Rattle.tdl_mini_machine.specs.Tokens as token
use Rattle.tdl_mini_machine.specs.Rules.{Test}
use Rattle.tdl_mini_grammar.specs.Spelling.{Terminal, IsTokenOf, sign, value, numeral, count}
use Rattle.tdl_mini_grammar.specs.Spelling as spelling
use Rattle.tdl_mini_machine.specs.Machine.States.{State, Level, Frame, Stage, ready, voiced, sampling, numbered, ranging, braced, wanting, stepping}
use Rattle.tdl_mini_machine.specs.Machine.States.{weighing, weighted, repeating, ended, operand, term, Taken, and_then, all_checked, begun_at, begun}
use Rattle.tdl_mini_machine.specs.Machine.Running.{taken, run, at_end}
use Rattle.tdl_mini_machine.specs.Machine.Settling.{settled}
use Rattle.tdl_mini_machine.specs.Machine.Values.{valued}
use Rattle.tdl_mini_machine.specs.Machine.Brackets.{opened_at, closed, euclid_closed, parted}
use Rattle.tdl_mini_machine.specs.Machine.Marks.{with_dot, with_hold}
use Rattle.tdl_mini_tree.specs.Tree as tree
use Rattle.tdl_mini_tree.specs.Tree.{no_brace, begins, rest, hold}
use Rattle.tdl_mini_grammar.proofs.Running.{state, all_checked-and_then, all_checked-append, Runs, runs_none, runs_then, runs_tests}

-- an element may be finished here, or none is read
abbrev pub IsOpen : Stage → Type 0
IsOpen ready = Unit {0}
IsOpen (voiced text) = Unit {0}
IsOpen (sampling text) = ⊥
IsOpen (numbered n) = Unit {0}
IsOpen (ranging n) = ⊥
IsOpen (braced role bs ls) = Unit {0}
IsOpen (wanting role bs) = ⊥
IsOpen (stepping step) = Unit {0}
IsOpen (weighing step) = ⊥
IsOpen (weighted step n) = Unit {0}
IsOpen (repeating b) = Unit {0}
IsOpen ended = ⊥

-- ---- tokens that go on where no element is read
-- what stands here first finishes the element that is being read
abbrev pub IsFresh : Terminal → Type 0
IsFresh (sign mark.Rest) = Unit {0}
IsFresh (sign (mark.Open b)) = Unit {0}
IsFresh (sign (mark.Close b)) = Unit {0}
IsFresh (sign mark.OpenRound) = ⊥
IsFresh (sign mark.CloseRound) = Unit {0}
IsFresh (sign mark.Comma) = Unit {0}
IsFresh (sign mark.Repeat) = ⊥
IsFresh (sign mark.Star) = ⊥
IsFresh (sign mark.Slash) = ⊥
IsFresh (sign mark.At) = ⊥
IsFresh (sign mark.Colon) = ⊥
IsFresh (sign mark.Percent) = ⊥
IsFresh (sign mark.Question) = ⊥
IsFresh (sign mark.Bar) = ⊥
IsFresh (sign mark.Caret) = ⊥
IsFresh (sign mark.Hold) = Unit {0}
IsFresh (sign mark.Dot) = Unit {0}
IsFresh (sign mark.Range) = ⊥
IsFresh (value kind v) = Unit {0}
IsFresh (numeral n) = ⊥
IsFresh (count n) = ⊥
IsFresh spelling.end = Unit {0}

-- the token is taken by settling, and then by this
pub record Settles (tested : Bool) (t : Tok) : Type 0 where
  pub next : State → Taken
  pub same :
      (frames : List Frame) (l : Level) (p : Stage) (read : ℕ) → IsOpen p →
      taken tested (state frames l p read) t ≡ and_then (settled tested (state frames l p read) t) next

none_is_some : (v : tree.Value) → None ≡ Some v → ⊥
none_is_some v e = cc

value_settles : (tested : Bool) (kind : Kind) (v : tree.Value) (t : Tok) → value_of kind t ≡ Some v → Settles tested t
value_settles tested kind v (digits n text true) e = absurd (none_is_some v e)
value_settles tested kind v (digits n text false) e =
    record { next = λ f. valued tested f (digits n text false) (value_of f.level.kind (digits n text false)); same = go }
  where
    go :
        (frames : List Frame) (l : Level) (p : Stage) (read : ℕ) → IsOpen p →
        taken tested (state frames l p read) (digits n text false) ≡ and_then (settled tested (state frames l p read) (digits n text false))
        (λ f. valued tested f (digits n text false) (value_of f.level.kind (digits n text false)))
    go frames l ready read h = refl
    go frames l (voiced word) read h = refl
    go frames l (sampling word) read h = absurd h
    go frames l (numbered m) read h = refl
    go frames l (ranging m) read h = absurd h
    go frames l (braced role bs ls) read h = refl
    go frames l (wanting role bs) read h = absurd h
    go frames l (stepping step) read h = refl
    go frames l (weighing step) read h = absurd h
    go frames l (weighted step m) read h = refl
    go frames l (repeating b) read h = refl
    go frames l ended read h = absurd h
value_settles tested kind v (letters text true) e = absurd (none_is_some v e)
value_settles tested kind v (letters text false) e =
    record { next = λ f. valued tested f (letters text false) (value_of f.level.kind (letters text false)); same = λ frames l p read h. refl }
value_settles tested kind v (token.mark m) e = absurd (none_is_some v e)
value_settles tested kind v token.end e = absurd (none_is_some v e)

open_settles : (tested : Bool) (b : Bracket) → Settles tested (token.mark (mark.Open b))
open_settles tested b =
    record { next = λ f. opened_at f (token.mark (mark.Open b)) (begun_at f.level f.read) (operand term no_brace b) f.level.kind; same = go }
  where
    go :
        (frames : List Frame) (l : Level) (p : Stage) (read : ℕ) → IsOpen p →
        taken tested (state frames l p read) (token.mark (mark.Open b)) ≡ and_then (settled tested (state frames l p read) (token.mark (mark.Open b)))
        (λ f. opened_at f (token.mark (mark.Open b)) (begun_at f.level f.read) (operand term no_brace b) f.level.kind)
    go frames l ready read h = refl
    go frames l (voiced word) read h = refl
    go frames l (sampling word) read h = absurd h
    go frames l (numbered m) read h = refl
    go frames l (ranging m) read h = absurd h
    go frames l (braced role bs ls) read h = refl
    go frames l (wanting role bs) read h = absurd h
    go frames l (stepping step) read h = refl
    go frames l (weighing step) read h = absurd h
    go frames l (weighted step m) read h = refl
    go frames l (repeating b) read h = refl
    go frames l ended read h = absurd h

sign_settles : (tested : Bool) (m : Mark) → IsFresh (sign m) → Settles tested (token.mark m)
sign_settles tested mark.Rest h = record { next = λ f. Ok (begun f (stepping (begins rest))); same = λ frames l p read h. refl }
sign_settles tested (mark.Open b) h = open_settles tested b
sign_settles tested (mark.Close b) h = record { next = λ f. closed f (token.mark (mark.Close b)) b f.frames; same = λ frames l p read h. refl }
sign_settles tested mark.OpenRound h = absurd h
sign_settles tested mark.CloseRound h = record { next = λ f. euclid_closed tested f (token.mark mark.CloseRound) f.frames; same = λ frames l p read h. refl }
sign_settles tested mark.Comma h = record { next = λ f. parted f (token.mark mark.Comma) f.frames; same = λ frames l p read h. refl }
sign_settles tested mark.Repeat h = absurd h
sign_settles tested mark.Star h = absurd h
sign_settles tested mark.Slash h = absurd h
sign_settles tested mark.At h = absurd h
sign_settles tested mark.Colon h = absurd h
sign_settles tested mark.Percent h = absurd h
sign_settles tested mark.Question h = absurd h
sign_settles tested mark.Bar h = absurd h
sign_settles tested mark.Caret h = absurd h
sign_settles tested mark.Hold h = record { next = λ f. with_hold tested f (token.mark mark.Hold); same = λ frames l p read h. refl }
sign_settles tested mark.Dot h = record { next = λ f. with_dot tested f; same = λ frames l p read h. refl }
sign_settles tested mark.Range h = absurd h

fresh_settles : (tested : Bool) (x : Terminal) → IsFresh x → (t : Tok) → IsTokenOf x t → Settles tested t
fresh_settles tested (sign m) h t stands = subst (Settles tested) (sym stands) (sign_settles tested m h)
fresh_settles tested (value kind v) h t stands = value_settles tested kind v t stands
fresh_settles tested (numeral n) h t stands = absurd h
fresh_settles tested (count n) h t stands = absurd h
fresh_settles tested spelling.end h t stands = subst (Settles tested) (sym stands)
    (record { next = λ f. at_end f token.end f.frames; same = λ frames l p read h. refl })

-- ---- what is read up to an element that is not finished
-- After these terminals there is a last element to be finished. When it is, the tests are all made, and
-- the level is such a one.
pub record Pends (tested : Bool) (s : State) (a : List Terminal) (ts : List Test) (frames : List Frame) (level : ℕ → Level) (to : ℕ) : Type 0 where
  pub start : ℕ
  pub early : List Test
  pub late : List Test
  pub there : State
  pub runs : Runs tested s a early there
  pub settles : (t : Tok) → settled tested there t ≡ all_checked tested late (Ok (state frames (level start) ready to))
  pub is_open : IsOpen there.stage
  pub split : early ++ late ≡ ts

-- begins with a token that finishes what is read
abbrev pub BeginsFresh : List Terminal → Type 0
BeginsFresh [] = ⊥
BeginsFresh (x ∷ a) = IsFresh x

pub fresh-append : (a b : List Terminal) → BeginsFresh a → BeginsFresh (a ++ b)
fresh-append [] b h = absurd h
fresh-append (x ∷ a) b h = h

-- such a token is taken where the element is finished
fresh_taken :
    (tested : Bool) (s : State) (frames : List Frame) (l : Level) (to : ℕ) (late : List Test) (t : Tok) →
    Settles tested t → IsOpen s.stage →
    settled tested s t ≡ all_checked tested late (Ok (state frames l ready to)) →
    taken tested s t ≡ all_checked tested late (taken tested (state frames l ready to) t)
fresh_taken tested s frames l to late t by is_open settles =
    by.same s.frames s.level s.stage s.read is_open
    ∙ ap (λ r. and_then r by.next) settles
    ∙ all_checked-and_then tested late (Ok (state frames l ready to)) by.next
    ∙ ap (all_checked tested late) (sym (by.same frames l ready to tt))

fresh_runs :
    (tested : Bool) (s : State) (frames : List Frame) (l : Level) (to : ℕ) (late : List Test) → IsOpen s.stage →
    ((t : Tok) → settled tested s t ≡ all_checked tested late (Ok (state frames l ready to))) →
    (b : List Terminal) → BeginsFresh b → (us : List Test) (f : State) →
    Runs tested (state frames l ready to) b us f → Runs tested s b (late ++ us) f
fresh_runs tested s frames l to late is_open settles [] fresh us f runs = absurd fresh
fresh_runs tested s frames l to late is_open settles (x ∷ b) fresh us f runs = record { all = go }
  where
    go : (tokens : List Tok) → AllZip IsTokenOf (x ∷ b) tokens → run tested s tokens ≡ all_checked tested (late ++ us) (Ok f)
    go [] stands = absurd stands
    go (t ∷ tokens) stands =
        ap (λ r. and_then r (λ next. run tested next tokens))
        (fresh_taken tested s frames l to late t (fresh_settles tested x fresh t stands.0) is_open (settles t))
        ∙ all_checked-and_then tested late (taken tested (state frames l ready to) t) (λ next. run tested next tokens)
        ∙ ap (all_checked tested late) (runs.all (t ∷ tokens) stands)
        ∙ sym (all_checked-append tested late us (Ok f))

-- nothing is read where a level is ready
pub pends_none :
    (tested : Bool) (frames : List Frame) (level : ℕ → Level) (start from : ℕ) →
    Pends tested (state frames (level start) ready from) [] [] frames level from
pends_none tested frames level start from = record {
  start = start;
  early = [];
  late = [];
  there = state frames (level start) ready from;
  runs = runs_none tested (state frames (level start) ready from);
  settles = λ t. refl;
  is_open = tt;
  split = refl;
}

-- what is read where the last element is finished
regroup : (a b c d : List Test) → a ++ b ≡ d → a ++ (b ++ c) ≡ d ++ c
regroup a b c d e = sym (append_assoc a b c) ∙ ap (λ ts. ts ++ c) e

pub pends_runs :
    {tested : Bool} {s : State} {a : List Terminal} {ts : List Test} {frames : List Frame} {level : ℕ → Level} {to : ℕ} →
    Pends tested s a ts frames level to → (b : List Terminal) → BeginsFresh b → (us : List Test) (f : State) →
    ((start : ℕ) → Runs tested (state frames (level start) ready to) b us f) → Runs tested s (a ++ b) (ts ++ us) f
pends_runs {tested} {s} {a} {ts} {frames} {level} {to} p b fresh us f runs =
    let after = fresh_runs tested p.there frames (level p.start) to p.late p.is_open p.settles b fresh us f (runs p.start) in
    runs_tests (runs_then p.runs after) (regroup p.early p.late us ts p.split)

pub pends_pends :
    {tested : Bool} {s : State} {a : List Terminal} {ts : List Test} {frames : List Frame} {level : ℕ → Level} {to : ℕ} →
    Pends tested s a ts frames level to → (b : List Terminal) → BeginsFresh b →
    (us : List Test) (others : List Frame) (after : ℕ → Level) (end : ℕ) →
    ((start : ℕ) → Pends tested (state frames (level start) ready to) b us others after end) →
    Pends tested s (a ++ b) (ts ++ us) others after end
pends_pends {tested} {s} {a} {ts} {frames} {level} {to} p b fresh us others after end more =
    let q = more p.start in record {
      start = q.start;
      early = p.early ++ (p.late ++ q.early);
      late = q.late;
      there = q.there;
      runs = runs_then p.runs (fresh_runs tested p.there frames (level p.start) to p.late p.is_open p.settles b fresh q.early q.there q.runs);
      settles = q.settles;
      is_open = q.is_open;
      split = whole p.early p.late q.early q.late ts us p.split q.split;
    }
  where
    whole : (a b c d e f : List Test) → a ++ b ≡ e → c ++ d ≡ f → (a ++ (b ++ c)) ++ d ≡ e ++ f
    whole a b c d e f h k = ap (λ x. x ++ d) (regroup a b c e h) ∙ append_assoc e c d ∙ ap (λ x. e ++ x) k

pub runs_pends :
    {tested : Bool} {s f : State} {a b : List Terminal} {ts us : List Test} {frames : List Frame} {level : ℕ → Level} {to : ℕ} →
    Runs tested s a ts f → Pends tested f b us frames level to → Pends tested s (a ++ b) (ts ++ us) frames level to
runs_pends {tested} {s} {f} {a} {b} {ts} {us} h q = record {
  start = q.start;
  early = ts ++ q.early;
  late = q.late;
  there = q.there;
  runs = runs_then h q.runs;
  settles = q.settles;
  is_open = q.is_open;
  split = append_assoc ts q.early q.late ∙ ap (λ x. ts ++ x) q.split;
}

-- an element is read that is finished already
pub runs_ready :
    {tested : Bool} {s : State} {a : List Terminal} {ts : List Test} {frames : List Frame} {to : ℕ} (level : ℕ → Level) (start : ℕ) →
    Runs tested s a ts (state frames (level start) ready to) → Pends tested s a ts frames level to
runs_ready {tested} {s} {a} {ts} {frames} {to} level start h = record {
  start = start;
  early = ts;
  late = [];
  there = state frames (level start) ready to;
  runs = h;
  settles = λ t. refl;
  is_open = tt;
  split = append-nil ts;
}

pub pends_as :
    {tested : Bool} {s : State} {a b : List Terminal} {ts us : List Test} {frames : List Frame} {level : ℕ → Level} {to : ℕ} →
    Pends tested s a ts frames level to → a ≡ b → ts ≡ us → Pends tested s b us frames level to
pends_as {tested} {s} {a} {b} {ts} {us} {frames} {level} {to} p e h =
    subst (λ x. Pends tested s x us frames level to) e (subst (λ x. Pends tested s a x frames level to) h p)
