-- The machine over several tokens: what is read piece by piece is read as a whole.
use Rattle.std.specs.Prelude.{if◌then◌else◌, ◌&&◌, not}
use Rattle.std.specs.List.{AllZip}
use Rattle.std.proofs.Common.{◌≡◌, ℕ, suc, Bool, true, false, Ok, Err, List, [], ◌∷◌, ◌++◌, refl, ap, sym, ◌∙◌, subst, append_assoc}
use Rattle.tdl_grammar.specs.Grammar.{Test}
use Rattle.tdl_grammar.specs.Machine.{Stop, failed, and_then, checked, all_checked, run}
use Rattle.tdl_line_machine.specs.declared.faults.LineKind.{LineKind}
use Rattle.tdl_line_machine.specs.Tokens.{Tok}
use Rattle.tdl_line_machine.specs.Pieces.{Terminal, fixed, Piece, spells, obeys}
use Rattle.tdl_line_grammar.specs.Spelling.{IsTokenOf, terminals}
use Rattle.tdl_line_machine.specs.declared.marks.Mark.TheVariants as mark
use Rattle.tdl_line_machine.specs.Tokens as token
use Rattle.tdl_line_machine.specs.Pieces.{Place, test_at, tests_from}
use Rattle.tdl_line_grammar.specs.Faults.{nesting_of, opened_by, nested}
use Rattle.tdl_line_machine.specs.Machine.{taken}
use Rattle.tdl_line_machine.specs.Machine.States.{State, Step}

-- the machine's step, which does not open by itself
unfoldable pub step : Bool → State → Tok → Step
step tested s t = taken tested s t

pub steps : (tested : Bool) (s : State) (t : Tok) {r : Step} → taken tested s t ≡ r → step tested s t ≡ r
unfolding step
steps tested s t h = h

pub run_steps : (tested : Bool) (s : State) (tokens : List Tok) {r : Step} → run (step tested) s tokens ≡ r → run (taken tested) s tokens ≡ r
unfolding step
run_steps tested s tokens h = h

-- ---- outcomes
branch_and_then :
    (b : Bool) (stop : Stop LineKind Place) (r : Step) (next : State → Step) →
    and_then (if b then Err stop else r) next ≡ (if b then Err stop else and_then r next)
branch_and_then true stop r next = refl
branch_and_then false stop r next = refl

pub checked-and_then :
    (tested : Bool) (t : Test LineKind Place) (r : Step) (next : State → Step) →
    and_then (checked tested t r) next ≡ checked tested t (and_then r next)
checked-and_then tested t r next = branch_and_then (tested && not t.holds) (failed t) r next

pub all_checked-and_then :
    (tested : Bool) (ts : List (Test LineKind Place)) (r : Step) (next : State → Step) →
    and_then (all_checked tested ts r) next ≡ all_checked tested ts (and_then r next)
all_checked-and_then tested [] r next = refl
all_checked-and_then tested (t ∷ ts) r next =
    checked-and_then tested t (all_checked tested ts r) next ∙ ap (checked tested t) (all_checked-and_then tested ts r next)

pub all_checked-append :
    (tested : Bool) (ts us : List (Test LineKind Place)) (r : Step) →
    all_checked tested (ts ++ us) r ≡ all_checked tested ts (all_checked tested us r)
all_checked-append tested [] us r = refl
all_checked-append tested (t ∷ ts) us r = ap (checked tested t) (all_checked-append tested ts us r)

pub and_then-ok : (r : Step) → and_then r (λ s. Ok s) ≡ r
and_then-ok (Ok s) = refl
and_then-ok (Err stop) = refl

after_first : (r : Step) (f g h : State → Step) → ((s : State) → f s ≡ and_then (g s) h) → and_then r f ≡ and_then (and_then r g) h
after_first (Ok s) f g h same = same s
after_first (Err stop) f g h same = refl

pub run-append :
    (tested : Bool) (s : State) (a b : List Tok) →
    run (step tested) s (a ++ b) ≡ and_then (run (step tested) s a) (λ f. run (step tested) f b)
run-append tested s [] b = refl
run-append tested s (t ∷ a) b =
    after_first (step tested s t) (λ next. run (step tested) next (a ++ b)) (λ next. run (step tested) next a)
    (λ f. run (step tested) f b) (λ next. run-append tested next a b)

-- ---- pieces
-- how many tokens are read after these pieces
abbrev pub after : ℕ → List Piece → ℕ
after from [] = from
after from (spells t ∷ others) = after (suc from) others
after from (obeys r ∷ others) = after from others

pub after-append : (from : ℕ) (a b : List Piece) → after from (a ++ b) ≡ after (after from a) b
after-append from [] b = refl
after-append from (spells t ∷ a) b = after-append (suc from) a b
after-append from (obeys r ∷ a) b = after-append from a b

pub terminals-append : (a b : List Piece) → terminals (a ++ b) ≡ terminals a ++ terminals b
terminals-append [] b = refl
terminals-append (spells t ∷ a) b = ap (λ ts. t ∷ ts) (terminals-append a b)
terminals-append (obeys r ∷ a) b = terminals-append a b

pub tests_from-append : (from : ℕ) (a b : List Piece) → tests_from from (a ++ b) ≡ tests_from from a ++ tests_from (after from a) b
tests_from-append from [] b = refl
tests_from-append from (spells t ∷ a) b = tests_from-append (suc from) a b
tests_from-append from (obeys r ∷ a) b = ap (λ ts. test_at from r ∷ ts) (tests_from-append from a b)

-- how many brackets are open after these pieces
abbrev pub deep : ℕ → List Piece → ℕ
deep depth [] = depth
deep depth (spells x ∷ others) = deep (opened_by x depth) others
deep depth (obeys r ∷ others) = deep depth others

pub deep-append : (depth : ℕ) (a b : List Piece) → deep depth (a ++ b) ≡ deep (deep depth a) b
deep-append depth [] b = refl
deep-append depth (spells x ∷ a) b = deep-append (opened_by x depth) a b
deep-append depth (obeys r ∷ a) b = deep-append depth a b

pub nested-append : (depth : ℕ) (a b : List Piece) → nested depth (a ++ b) ≡ nested depth a ++ nested (deep depth a) b
nested-append depth [] b = refl
nested-append depth (spells x ∷ a) b =
    ap (λ (ps : List Piece). nesting_of depth x ++ spells x ∷ ps) (nested-append (opened_by x depth) a b)
    ∙ sym (append_assoc (nesting_of depth x) (spells x ∷ nested (opened_by x depth) a) (nested (deep (opened_by x depth) a) b))
nested-append depth (obeys r ∷ a) b = ap (λ (ps : List Piece). obeys r ∷ ps) (nested-append depth a b)

after-nesting : (from depth : ℕ) (x : Terminal) (a : List Piece) → after from (nesting_of depth x ++ a) ≡ after from a
after-nesting from depth (fixed (token.mark mark.OpenRound)) a = refl
after-nesting from depth (fixed (token.mark mark.OpenSquare)) a = refl
after-nesting from depth x a = refl

after-nested : (from depth : ℕ) (a : List Piece) → after from (nested depth a) ≡ after from a
after-nested from depth [] = refl
after-nested from depth (spells x ∷ a) =
    after-nesting from depth x (spells x ∷ nested (opened_by x depth) a) ∙ after-nested (suc from) (opened_by x depth) a
after-nested from depth (obeys r ∷ a) = after-nested from depth a

-- the rules of pieces inside so many brackets, in two parts
nested_tests : (from depth inner : ℕ) (a b : List Piece) → deep depth a ≡ inner → tests_from from (nested depth (a ++ b))
    ≡ tests_from from (nested depth a) ++ tests_from (after from a) (nested inner b)
nested_tests from depth inner a b e =
    ap (tests_from from) (nested-append depth a b)
    ∙ tests_from-append from (nested depth a) (nested (deep depth a) b)
    ∙ ap (λ (n : ℕ). tests_from from (nested depth a) ++ tests_from n (nested (deep depth a) b)) (after-nested from depth a)
    ∙ ap (λ (n : ℕ). tests_from from (nested depth a) ++ tests_from (after from a) (nested n b)) e

-- whatever stands at the terminals of these pieces inside so many brackets, the machine goes from one state to
-- another where their rules hold
pub record Runs (tested : Bool) (from depth : ℕ) (s : State) (a : List Piece) (f : State) : Type 0 where
  pub all : (tokens : List Tok) → AllZip IsTokenOf (terminals a) tokens
      → run (step tested) s tokens ≡ all_checked tested (tests_from from (nested depth a)) (Ok f)

-- tokens at terminals of two pieces are those of the one and those of the other
pub record Cut (a b : List Terminal) (tokens : List Tok) : Type 0 where
  pub front : List Tok
  pub back : List Tok
  pub joined : tokens ≡ front ++ back
  pub before : AllZip IsTokenOf a front
  pub behind : AllZip IsTokenOf b back

pub cut_tokens : (a b : List Terminal) (tokens : List Tok) → AllZip IsTokenOf (a ++ b) tokens → Cut a b tokens
cut_tokens [] b tokens h = record { front = []; back = tokens; joined = refl; before = tt; behind = h }
cut_tokens (x ∷ a) b [] h = absurd h
cut_tokens (x ∷ a) b (t ∷ tokens) h =
    let more = cut_tokens a b tokens h.1 in
    record { front = t ∷ more.front; back = more.back; joined = ap (λ ts. t ∷ ts) more.joined; before = (h.0, more.before); behind = more.behind }

-- one terminal after its rules
pub runs_one :
    {tested : Bool} {from depth : ℕ} {s f : State} {x : Terminal} (a : List Piece) → terminals a ≡ x ∷ [] →
    ((t : Tok) → IsTokenOf x t → step tested s t ≡ all_checked tested (tests_from from (nested depth a)) (Ok f)) → Runs tested from depth s a f
runs_one {tested} {from} {depth} {s} {f} {x} a e h = record { all = λ tokens stands. go tokens (subst (λ ts. AllZip IsTokenOf ts tokens) e stands) }
  where
    go : (tokens : List Tok) → AllZip IsTokenOf (x ∷ []) tokens → run (step tested) s tokens ≡ all_checked tested (tests_from from (nested depth a)) (Ok f)
    go [] stands = absurd stands
    go (t ∷ []) stands = and_then-ok (step tested s t) ∙ h t stands.0
    go (t ∷ u ∷ tokens) stands = absurd stands.1

-- a token that is known, after its rules
pub runs_token :
    {tested : Bool} {from depth : ℕ} {s f : State} (a : List Piece) (t : Tok) → terminals a ≡ fixed t ∷ [] →
    step tested s t ≡ all_checked tested (tests_from from (nested depth a)) (Ok f) → Runs tested from depth s a f
runs_token {tested} {from} {depth} {s} {f} a t e h = runs_one a e (λ u stands. ap (step tested s) stands ∙ h)

pub runs_then :
    {tested : Bool} {from depth inner : ℕ} {s f g : State} (a b : List Piece) → deep depth a ≡ inner → Runs tested from depth s a f →
    Runs tested (after from a) inner f b g → Runs tested from depth s (a ++ b) g
runs_then {tested} {from} {depth} {inner} {s} {f} {g} a b e h k =
    record { all = λ tokens stands. go tokens (subst (λ ts. AllZip IsTokenOf ts tokens) (terminals-append a b) stands) }
  where
    go : (tokens : List Tok) → AllZip IsTokenOf (terminals a ++ terminals b) tokens
        → run (step tested) s tokens ≡ all_checked tested (tests_from from (nested depth (a ++ b))) (Ok g)
    go tokens stands =
        let cut = cut_tokens (terminals a) (terminals b) tokens stands in
        ap (run (step tested) s) cut.joined
        ∙ run-append tested s cut.front cut.back
        ∙ ap (λ r. and_then r (λ next. run (step tested) next cut.back)) (h.all cut.front cut.before)
        ∙ all_checked-and_then tested (tests_from from (nested depth a)) (Ok f) (λ next. run (step tested) next cut.back)
        ∙ ap (all_checked tested (tests_from from (nested depth a))) (k.all cut.back cut.behind)
        ∙ sym (all_checked-append tested (tests_from from (nested depth a)) (tests_from (after from a) (nested inner b)) (Ok g))
        ∙ ap (λ ts. all_checked tested ts (Ok g)) (sym (nested_tests from depth inner a b e))

-- the state after pieces by how many tokens are read
pub runs_to : {tested : Bool} {from depth : ℕ} {s : State} {a : List Piece} (f : ℕ → State) {m n : ℕ} → m ≡ n → Runs tested from depth s a (f m)
    → Runs tested from depth s a (f n)
runs_to {tested} {from} {depth} {s} {a} f e h = subst (λ k. Runs tested from depth s a (f k)) e h

pub runs_and :
    {tested : Bool} {from depth inner : ℕ} {s m : State} (a b : List Piece) → deep depth a ≡ inner → (f : ℕ → State) → Runs tested from depth s a m →
    Runs tested (after from a) inner m b (f (after (after from a) b)) → Runs tested from depth s (a ++ b) (f (after from (a ++ b)))
runs_and {tested} {from} {depth} {inner} {s} {m} a b e f h k = runs_to f (sym (after-append from a b)) (runs_then a b e h k)
