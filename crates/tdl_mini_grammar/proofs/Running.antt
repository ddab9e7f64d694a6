-- The machine over several tokens: what is read piece by piece is read as a whole.
use Rattle.std.specs.Prelude.{if◌then◌else◌, ◌&&◌, not}
use Rattle.std.specs.List.{AllZip}
use Rattle.std.proofs.Common.{◌≡◌, ℕ, Bool, true, false, Ok, Err, List, [], ◌∷◌, ◌++◌, refl, ap, sym, ◌∙◌, subst, append_assoc}
use Rattle.tdl_mini_machine.specs.declared.marks.Mark.{Mark}
use Rattle.tdl_mini_machine.specs.Tokens.{Tok}
use Rattle.tdl_mini_machine.specs.Tokens as token
use Rattle.tdl_mini_machine.specs.Rules.{Test}
use Rattle.tdl_mini_grammar.specs.Spelling.{Terminal, IsTokenOf, sign}
use Rattle.tdl_mini_machine.specs.Machine.States.{State, Level, Frame, Stage, Fault, failed, Taken, and_then, checked, all_checked}
use Rattle.tdl_mini_machine.specs.Machine.Running.{taken, run}

abbrev pub state : List Frame → Level → Stage → ℕ → State
state frames l p read = record { frames = frames; level = l; stage = p; read = read }

-- ---- outcomes
branch_and_then :
    (b : Bool) (fault : Fault) (r : Taken) (next : State → Taken) →
    and_then (if b then Err fault else r) next ≡ (if b then Err fault else and_then r next)
branch_and_then true fault r next = refl
branch_and_then false fault r next = refl

pub checked-and_then : (tested : Bool) (t : Test) (r : Taken) (next : State → Taken) → and_then (checked tested t r) next ≡ checked tested t (and_then r next)
checked-and_then tested t r next = branch_and_then (tested && not t.holds) (failed t) r next

pub all_checked-and_then :
    (tested : Bool) (ts : List Test) (r : Taken) (next : State → Taken) →
    and_then (all_checked tested ts r) next ≡ all_checked tested ts (and_then r next)
all_checked-and_then tested [] r next = refl
all_checked-and_then tested (t ∷ ts) r next =
    checked-and_then tested t (all_checked tested ts r) next ∙ ap (checked tested t) (all_checked-and_then tested ts r next)

pub all_checked-append : (tested : Bool) (ts us : List Test) (r : Taken) → all_checked tested (ts ++ us) r ≡ all_checked tested ts (all_checked tested us r)
all_checked-append tested [] us r = refl
all_checked-append tested (t ∷ ts) us r = ap (checked tested t) (all_checked-append tested ts us r)

pub and_then-ok : (r : Taken) → and_then r (λ s. Ok s) ≡ r
and_then-ok (Ok s) = refl
and_then-ok (Err fault) = refl

after_first : (r : Taken) (f g h : State → Taken) → ((s : State) → f s ≡ and_then (g s) h) → and_then r f ≡ and_then (and_then r g) h
after_first (Ok s) f g h same = same s
after_first (Err fault) f g h same = refl

pub run-append : (tested : Bool) (s : State) (a b : List Tok) → run tested s (a ++ b) ≡ and_then (run tested s a) (λ f. run tested f b)
run-append tested s [] b = refl
run-append tested s (t ∷ a) b =
    after_first (taken tested s t) (λ next. run tested next (a ++ b)) (λ next. run tested next a) (λ f. run tested f b) (λ next. run-append tested next a b)

-- ---- pieces
-- whatever stands at these terminals, the machine goes from one state to another where these tests hold
pub record Runs (tested : Bool) (s : State) (a : List Terminal) (ts : List Test) (f : State) : Type 0 where
  pub all : (tokens : List Tok) → AllZip IsTokenOf a tokens → run tested s tokens ≡ all_checked tested ts (Ok f)

-- tokens at terminals of two pieces are those of the one and those of the other
pub record Cut (a b : List Terminal) (tokens : List Tok) : Type 0 where
  pub front : List Tok
  pub back : List Tok
  pub joined : tokens ≡ front ++ back
  pub before : AllZip IsTokenOf a front
  pub after : AllZip IsTokenOf b back

pub cut_tokens : (a b : List Terminal) (tokens : List Tok) → AllZip IsTokenOf (a ++ b) tokens → Cut a b tokens
cut_tokens [] b tokens h = record { front = []; back = tokens; joined = refl; before = tt; after = h }
cut_tokens (x ∷ a) b [] h = absurd h
cut_tokens (x ∷ a) b (t ∷ tokens) h =
    let more = cut_tokens a b tokens h.1 in
    record { front = t ∷ more.front; back = more.back; joined = ap (λ ts. t ∷ ts) more.joined; before = (h.0, more.before); after = more.after }

-- nothing is read of nothing
pub runs_none : (tested : Bool) (s : State) → Runs tested s [] [] s
runs_none tested s = record { all = go }
  where
    go : (tokens : List Tok) → AllZip IsTokenOf [] tokens → run tested s tokens ≡ Ok s
    go [] h = refl
    go (t ∷ tokens) h = absurd h

pub runs_one :
    {tested : Bool} {s f : State} {x : Terminal} {ts : List Test} →
    ((t : Tok) → IsTokenOf x t → taken tested s t ≡ all_checked tested ts (Ok f)) → Runs tested s (x ∷ []) ts f
runs_one {tested} {s} {f} {x} {ts} h = record { all = go }
  where
    go : (tokens : List Tok) → AllZip IsTokenOf (x ∷ []) tokens → run tested s tokens ≡ all_checked tested ts (Ok f)
    go [] stands = absurd stands
    go (t ∷ []) stands = and_then-ok (taken tested s t) ∙ h t stands.0
    go (t ∷ u ∷ tokens) stands = absurd stands.1

pub runs_sign :
    {tested : Bool} {s f : State} {ts : List Test} (m : Mark) →
    taken tested s (token.mark m) ≡ all_checked tested ts (Ok f) → Runs tested s (sign m ∷ []) ts f
runs_sign {tested} {s} {f} {ts} m h = runs_one (λ t stands. ap (taken tested s) stands ∙ h)

-- a mark that makes no test
pub runs_mark : {tested : Bool} {s f : State} (m : Mark) → taken tested s (token.mark m) ≡ Ok f → Runs tested s (sign m ∷ []) [] f
runs_mark {tested} {s} {f} m h = runs_one (λ t stands. ap (taken tested s) stands ∙ h)

pub runs_then :
    {tested : Bool} {s f g : State} {a b : List Terminal} {ts us : List Test} → Runs tested s a ts f →
    Runs tested f b us g → Runs tested s (a ++ b) (ts ++ us) g
runs_then {tested} {s} {f} {g} {a} {b} {ts} {us} h k = record { all = go }
  where
    go : (tokens : List Tok) → AllZip IsTokenOf (a ++ b) tokens → run tested s tokens ≡ all_checked tested (ts ++ us) (Ok g)
    go tokens stands =
        let cut = cut_tokens a b tokens stands in
        ap (run tested s) cut.joined
        ∙ run-append tested s cut.front cut.back
        ∙ ap (λ r. and_then r (λ next. run tested next cut.back)) (h.all cut.front cut.before)
        ∙ all_checked-and_then tested ts (Ok f) (λ next. run tested next cut.back)
        ∙ ap (all_checked tested ts) (k.all cut.back cut.after)
        ∙ sym (all_checked-append tested ts us (Ok g))

pub runs_tests : {tested : Bool} {s f : State} {a : List Terminal} {ts us : List Test} → Runs tested s a ts f → ts ≡ us → Runs tested s a us f
runs_tests {tested} {s} {f} {a} h e = subst (λ ts. Runs tested s a ts f) e h

pub runs_spelled : {tested : Bool} {s f : State} {a b : List Terminal} {ts : List Test} → Runs tested s a ts f → a ≡ b → Runs tested s b ts f
runs_spelled {tested} {s} {f} {a} {b} {ts} h e = subst (λ x. Runs tested s x ts f) e h

-- what is read up to a mark, and what is read after it
pub runs_past :
    {tested : Bool} {s f g : State} {b : List Terminal} {us : List Test} (a : List Terminal) (x : Terminal) (ts : List Test) →
    Runs tested s (a ++ x ∷ []) (ts ++ []) f → Runs tested f b us g → Runs tested s (a ++ x ∷ b) (ts ++ us) g
runs_past {tested} {s} {f} {g} {b} {us} a x ts h k = runs_spelled (runs_tests (runs_then h k) (append_assoc ts [] us)) (append_assoc a (x ∷ []) b)
