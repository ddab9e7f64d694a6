-- What the machine reads of numbers, counts and texts.
use Rattle.std.specs.Prelude.{if◌then◌else◌, IsTrue}
use Rattle.std.proofs.Common.{◌≡◌, ℕ, suc, ◌+◌, arith, Bool, true, false, Ok, List, [], ◌∷◌, ◌++◌, refl, ap, ◌∙◌}
use Rattle.tdl_grammar.specs.Grammar.{Test}
use Rattle.tdl_grammar.specs.Machine.{checked, all_checked}
use Rattle.tdl_mini_tree.specs.declared.leaves.Kind.{Kind}
use Rattle.tdl_mini_tree.specs.declared.leaves.Number.{Number}
use Rattle.tdl_line_machine.specs.declared.marks.Mark.TheVariants as mark
use Rattle.tdl_command.specs.declared.tree.Plain.{Plain}
use Rattle.tdl_command.specs.declared.tree.Plain.TheVariants.{Bare, Signed, Quotient}
use Rattle.tdl_line_machine.specs.Tokens.{Tok, number, quoted}
use Rattle.tdl_line_machine.specs.Tokens as token
use Rattle.tdl_mini_tree.specs.Reading.{Reading, read, unread}
use Rattle.std.specs.List.{AllZip}
use Rattle.tdl_grammar.specs.Machine.{and_then, run}
use Rattle.tdl_mini_tree.specs.declared.faults.MiniKind.TheVariants.{BadFactor}
use Rattle.tdl_mini_tree.specs.Numbers.{is_ratio, is_whole}
use Rattle.tdl_line_machine.specs.declared.faults.LineKind.{LineKind}
use Rattle.tdl_line_machine.specs.declared.faults.LineKind.TheVariants.{Mini}
use Rattle.tdl_line_machine.specs.declared.names.Name.{Name}
use Rattle.tdl_line_machine.specs.declared.marks.Mark.{Mark}
use Rattle.tdl_line_machine.specs.Pieces.{Rule, fixed, text, Piece, spells, obeys, reading_rules}
use Rattle.tdl_line_grammar.specs.Spelling.{IsTokenOf, sign, word, numeral, rule, above_rule, minus}
use Rattle.tdl_line_grammar.specs.Spelling.{text_pieces}
use Rattle.tdl_line_grammar.specs.Spelling.{number_pieces, terminals}
use Rattle.tdl_line_machine.specs.Pieces.{Place, test_at, tests_from}
use Rattle.tdl_line_grammar.specs.Faults.{nested}
use Rattle.tdl_command.specs.Rules.{is_below}
use Rattle.tdl_line_machine.specs.Machine.Open.{has_numbers}
use Rattle.tdl_line_machine.specs.Machine.States.{State, Stage, Step, fraction, opening, opened, above, slash}
use Rattle.tdl_line_machine.specs.Machine.Arguments.{number_closed, above_test}
use Rattle.tdl_line_machine.specs.Machine.States.{minus as negation}
use Rattle.tdl_line_grammar.proofs.Running.{step, steps, Runs, runs_one, runs_token, runs_then, after, and_then-ok, all_checked-and_then}
use Rattle.tdl_line_grammar.proofs.Kept.{Kept, core, at}

-- ---- texts
pub text_after : (kind : Kind) (r : Reading) (from : ℕ) → after from (text_pieces kind r) ≡ suc from
text_after kind (read k ls) from = refl
text_after kind (unread fault at) from = refl

-- a text is read where the machine tests what it is
pub text_runs :
    {tested : Bool} {from depth : ℕ} {s f : State} (kind : Kind) (r : Reading) →
    ((readings : Kind → Reading) → readings kind ≡ r → step tested s (quoted readings) ≡ all_checked tested (tests_from from (reading_rules r)) (Ok f)) →
    Runs tested from depth s (text_pieces kind r) f
text_runs {tested} {from} {depth} {s} {f} kind r h = runs_one (text_pieces kind r) (one r) (λ t stands.
    ap (step tested s) stands.1 ∙ h stands.0 stands.2 ∙ ap (λ ts. all_checked tested ts (Ok f)) (same r))
  where
    one : (r : Reading) → terminals (text_pieces kind r) ≡ text kind r ∷ []
    one (read k ls) = refl
    one (unread fault at) = refl

    same : (r : Reading) → tests_from from (reading_rules r) ≡ tests_from from (nested depth (text_pieces kind r))
    same (read k ls) = refl
    same (unread fault at) = refl

-- likewise where a further rule is on it
pub ruled_after : (kind : Kind) (r : Reading) (x : Rule) (from : ℕ) → after from (reading_rules r ++ (obeys x ∷ spells (text kind r) ∷ [])) ≡ suc from
ruled_after kind (read k ls) x from = refl
ruled_after kind (unread fault at) x from = refl

pub ruled_runs :
    {tested : Bool} {from depth : ℕ} {s f : State} (kind : Kind) (r : Reading) (x : Rule) →
    ((readings : Kind → Reading) → readings kind ≡ r → step tested s (quoted readings) ≡ all_checked tested (tests_from from (reading_rules r))
    (checked tested (test_at from x) (Ok f))) → Runs tested from depth s (reading_rules r ++ (obeys x ∷ spells (text kind r) ∷ [])) f
ruled_runs {tested} {from} {depth} {s} {f} kind r x h = runs_one (reading_rules r ++ (obeys x ∷ spells (text kind r) ∷ [])) (one r) (λ t stands.
    ap (step tested s) stands.1 ∙ h stands.0 stands.2 ∙ same r)
  where
    one : (r : Reading) → terminals (reading_rules r ++ (obeys x ∷ spells (text kind r) ∷ [])) ≡ text kind r ∷ []
    one (read k ls) = refl
    one (unread fault at) = refl

    same : (r : Reading) → all_checked tested (tests_from from (reading_rules r)) (checked tested (test_at from x) (Ok f))
        ≡ all_checked tested (tests_from from (nested depth (reading_rules r ++ (obeys x ∷ spells (text kind r) ∷ [])))) (Ok f)
    same (read k ls) = refl
    same (unread fault at) = refl

pub if_true : (b : Bool) (x y : Step) → IsTrue b → (if b then x else y) ≡ x
if_true true x y h = refl
if_true false x y h = cc

-- ---- one token
pub sign_runs :
    {tested : Bool} {from depth : ℕ} {s f : State} (m : Mark) →
    step tested s (token.mark m) ≡ all_checked tested (tests_from from (nested depth (sign m ∷ []))) (Ok f) → Runs tested from depth s (sign m ∷ []) f
sign_runs {tested} {from} {depth} {s} {f} m h = runs_token (sign m ∷ []) (token.mark m) refl h

pub word_runs :
    {tested : Bool} {from depth : ℕ} {s f : State} (n : Name) → step tested s (token.name n) ≡ Ok f → Runs tested from depth s (word n ∷ []) f
word_runs {tested} {from} {depth} {s} {f} n h = runs_token (word n ∷ []) (token.name n) refl h

-- a number that is tested as a ratio
pub number_runs :
    {tested : Bool} {from depth : ℕ} {s f : State} (n : Number) →
    step tested s (number n) ≡ all_checked tested (tests_from from (number_pieces n)) (Ok f) → Runs tested from depth s (number_pieces n) f
number_runs {tested} {from} {depth} {s} {f} n h = runs_token (number_pieces n) (number n) refl h

-- ---- numbers in round brackets
-- where a number with this sign begins, and what may follow it
pub record Digits (tested : Bool) (k : Kept) (begin : Stage) (negative : Bool) : Type 0 where
  pub read : Number → ℕ → Stage
  pub takes : (n : Number) (m : ℕ)
      → step tested (at k begin m) (number n) ≡ all_checked tested (tests_from m (number_pieces n)) (Ok (at k (read n m) (suc m)))
  pub closes : (n : Number) (m j : ℕ)
      → step tested (at k (read n m) j) (token.mark mark.CloseRound) ≡ number_closed (core k j) (token.mark mark.CloseRound) (Signed negative n)
  pub slashes : (n : Number) (m j : ℕ)
      → step tested (at k (read n m) j) (token.mark mark.Slash) ≡ checked tested (above_test (core k j) m n) (Ok (at k (slash negative n) (suc j)))

pub fraction_digits : (tested : Bool) (k : Kept) → Digits tested k fraction false
fraction_digits tested k = record {
  read = above false;
  takes = λ n m. steps _ _ _ refl;
  closes = λ n m j. steps _ _ _ refl;
  slashes =
      λ n m j. steps _ _ _ refl;
}

pub minus_digits : (tested : Bool) (k : Kept) → Digits tested k negation true
minus_digits tested k = record { read = above true; takes = λ n m. steps _ _ _ refl; closes = λ n m j. steps _ _ _ refl; slashes = λ n m j. steps _ _ _ refl }

pub opening_digits : (tested : Bool) (k : Kept) → IsTrue (has_numbers k.frames) → Digits tested k opening false
opening_digits tested k h = record {
  read = opened;
  takes = λ n m. steps _ _ _ refl;
  closes = λ n m j. steps _ _ _ (if_true (has_numbers k.frames) _ _ h);
  slashes = λ n m j. steps _ _ _ (if_true (has_numbers k.frames) _ _ h);
}

-- the number above a `/`, and the `/`
above_runs :
    (tested : Bool) (k : Kept) (begin : Stage) (negative : Bool) → Digits tested k begin negative → (from : ℕ) (n : Number) →
    Runs tested from k.depth (at k begin from) (rule (Mini BadFactor) (is_ratio n) ∷ above_rule n ∷ numeral n ∷ sign mark.Slash ∷ [])
    (at k (slash negative n) (suc (suc from)))
above_runs tested k begin negative d from n = record { all = go }
  where
    -- the rule on the number above, by where it is made
    ending : ℕ → Test LineKind Place
    ending e = record { kind = Mini BadFactor; at = record { token = from; offset = 0 }; ends = e; waits = false; holds = is_whole n }

    one_more : suc (suc from) ≡ suc (1 + from)
    one_more = omega arith

    go : (tokens : List Tok) → AllZip IsTokenOf (fixed (number n) ∷ fixed (token.mark mark.Slash) ∷ []) tokens
        → run (step tested) (at k begin from) tokens ≡ all_checked tested
        (tests_from from (rule (Mini BadFactor) (is_ratio n) ∷ above_rule n ∷ numeral n ∷ sign mark.Slash ∷ []))
        (Ok (at k (slash negative n) (suc (suc from))))
    go [] stands = absurd stands
    go (t ∷ []) stands = absurd stands.1
    go (t ∷ u ∷ []) stands =
        ap (λ x. and_then (step tested (at k begin from) x) (λ f. run (step tested) f (u ∷ []))) stands.0
        ∙ ap (λ r. and_then r (λ f. run (step tested) f (u ∷ []))) (d.takes n from)
        ∙ all_checked-and_then tested (tests_from from (number_pieces n)) (Ok (at k (d.read n from) (suc from))) (λ f. run (step tested) f (u ∷ []))
        ∙ ap (all_checked tested (tests_from from (number_pieces n)))
        (and_then-ok (step tested (at k (d.read n from) (suc from)) u) ∙ ap (step tested (at k (d.read n from) (suc from))) stands.1.0
        ∙ d.slashes n from (suc from)
        ∙ ap (λ (e : ℕ). checked tested (ending e) (Ok (at k (slash negative n) (suc (suc from))))) one_more)
    go (t ∷ u ∷ v ∷ tokens) stands = absurd stands.1.1

-- a bracket with a number in it is closed
abbrev pub ClosesTo : Kept → (Plain → ℕ → State) → Type 0
ClosesTo k f = (p : Plain) (j : ℕ) → number_closed (core k j) (token.mark mark.CloseRound) p ≡ Ok (f p (suc j))

signed_runs :
    (tested : Bool) (k : Kept) (begin : Stage) (negative : Bool) → Digits tested k begin negative → (f : Plain → ℕ → State) → ClosesTo k f
    → (from : ℕ) (n : Number) →
    Runs tested from k.depth (at k begin from) (number_pieces n ++ sign mark.CloseRound ∷ []) (f (Signed negative n) (suc (suc from)))
signed_runs tested k begin negative d f closes from n =
    runs_then (number_pieces n) (sign mark.CloseRound ∷ []) refl (number_runs n (d.takes n from))
    (sign_runs mark.CloseRound (d.closes n from (suc from) ∙ closes (Signed negative n) (suc from)))

quotient_runs :
    (tested : Bool) (k : Kept) (begin : Stage) (negative : Bool) → Digits tested k begin negative → (f : Plain → ℕ → State) → ClosesTo k f
    → (from : ℕ) (a b : Number) →
    Runs tested from k.depth (at k begin from) ((rule (Mini BadFactor) (is_ratio a) ∷ above_rule a ∷ numeral a ∷ sign mark.Slash ∷ [])
    ++ ((rule (Mini BadFactor) (is_below b) ∷ numeral b ∷ []) ++ sign mark.CloseRound ∷ [])) (f (Quotient negative a b) (suc (suc (suc (suc from)))))
quotient_runs tested k begin negative d f closes from a b =
    runs_then (rule (Mini BadFactor) (is_ratio a) ∷ above_rule a ∷ numeral a ∷ sign mark.Slash ∷ [])
    ((rule (Mini BadFactor) (is_below b) ∷ numeral b ∷ []) ++ sign mark.CloseRound ∷ []) refl (above_runs tested k begin negative d from a)
    (runs_then (rule (Mini BadFactor) (is_below b) ∷ numeral b ∷ []) (sign mark.CloseRound ∷ []) refl
    (runs_token (rule (Mini BadFactor) (is_below b) ∷ numeral b ∷ []) (number b) refl (steps _ _ _ refl))
    (sign_runs mark.CloseRound (steps _ _ _ (closes (Quotient negative a b) (suc (suc (suc from)))))))

-- what stands in the brackets of a number, and their end
abbrev pub in_brackets : Plain → List Piece
in_brackets (Bare n) = []
in_brackets (Signed negative n) = minus negative ++ (number_pieces n ++ sign mark.CloseRound ∷ [])
in_brackets (Quotient negative a b) =
    minus negative ++ rule (Mini BadFactor) (is_ratio a) ∷ above_rule a ∷ numeral a ∷ sign mark.Slash ∷ rule (Mini BadFactor) (is_below b)
    ∷ numeral b ∷ sign mark.CloseRound ∷ []

abbrev pub HasBrackets : Plain → Type 0
HasBrackets (Bare n) = ⊥
HasBrackets (Signed negative n) = Unit {0}
HasBrackets (Quotient negative a b) = Unit {0}

pub brackets_run :
    (tested : Bool) (k : Kept) (begin : Stage) → Digits tested k begin false →
    ((m : ℕ) → step tested (at k begin m) (token.mark mark.Minus) ≡ Ok (at k negation (suc m))) →
    (f : Plain → ℕ → State) → ClosesTo k f → (from : ℕ) (p : Plain) → HasBrackets p →
    Runs tested from k.depth (at k begin from) (in_brackets p) (f p (after from (in_brackets p)))
brackets_run tested k begin d negates f closes from (Bare n) h = absurd h
brackets_run tested k begin d negates f closes from (Signed false n) h = signed_runs tested k begin false d f closes from n
brackets_run tested k begin d negates f closes from (Signed true n) h =
    runs_then (sign mark.Minus ∷ []) (number_pieces n ++ sign mark.CloseRound ∷ []) refl (sign_runs mark.Minus (negates from))
    (signed_runs tested k negation true (minus_digits tested k) f closes (suc from) n)
brackets_run tested k begin d negates f closes from (Quotient false a b) h = quotient_runs tested k begin false d f closes from a b
brackets_run tested k begin d negates f closes from (Quotient true a b) h =
    runs_then (sign mark.Minus ∷ []) _ refl (sign_runs mark.Minus (negates from))
    (quotient_runs tested k negation true (minus_digits tested k) f closes (suc from) a b)
