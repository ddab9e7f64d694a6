-- A test stands at one of the tokens that it speaks of, so a fault stands at a token.
--     fault_within       the first fault of some tokens stands at one of them
use Rattle.std.proofs.Common.{◌≡◌, ℕ, suc, ◌<◌, Bool, true, false, not, cond, find, Some, None, List, [], ◌∷◌, ◌++◌, length, refl, sym, subst}
use Rattle.std.proofs.Common.{arith, length-append}
use Rattle.tdl_grammar.specs.Faults.{Reason, fails, wrong, IsFault}
use Rattle.tdl_line_machine.specs.declared.faults.LineKind.{LineKind}
use Rattle.tdl_line_machine.specs.Tokens.{Tok}
use Rattle.tdl_line_machine.specs.Pieces.{Piece, spells, obeys}
use Rattle.tdl_line_grammar.specs.Spelling.{spell}
use Rattle.tdl_line_machine.specs.declared.goals.Goal.{Goal}
use Rattle.tdl_line_machine.specs.Pieces.{Place, tests_from}
use Rattle.tdl_line_grammar.specs.Faults.{nested, tests, lines}
use Rattle.tdl_line_machine.proofs.Counting.{LineTest}

-- each stands before the end of what it speaks of
abbrev Inside : List LineTest → Type 0
Inside [] = Unit {0}
Inside (t ∷ ts) = (t.at.token < t.ends) × Inside ts

tests_inside : (from : ℕ) (a : List Piece) → Inside (tests_from from a)
tests_inside from [] = tt
tests_inside from (spells x ∷ a) = tests_inside (suc from) a
tests_inside from (obeys r ∷ a) = (omega arith, tests_inside from a)

found_by : (x t : LineTest) (others : List LineTest) (b : Bool) → x.holds ≡ b → x.at.token < x.ends
    → (find (λ y. not y.holds) others ≡ Some t → t.at.token < t.ends) → cond (not b) (Some x) (find (λ y. not y.holds) others) ≡ Some t → t.at.token < t.ends
found_by x t others true e h more is = more is
found_by x t others false e h more is = subst (λ (y : LineTest). y.at.token < y.ends) (some_is x t is) h
  where
    some_is : (a b : LineTest) → Some a ≡ Some b → a ≡ b
    some_is a b k = cc

found_inside : (list : List LineTest) (t : LineTest) → Inside list → find (λ y. not y.holds) list ≡ Some t → t.at.token < t.ends
found_inside [] t h e = absurd (never e)
  where
    never : None ≡ Some t → ⊥
    never k = cc
found_inside (x ∷ others) t h e = found_by x t others x.holds refl h.0 (found_inside others t h.1) e

reason_within : (goal : Goal) (front others : List Tok) (next : Tok) (kind : LineKind) (at : Place) → Reason (lines goal) front next kind at
    → at.token < length (front ++ next ∷ others)
reason_within goal front others next _ _ (fails test h) =
    let inside : test.at.token < test.ends = found_inside (tests h.text) test (tests_inside 0 (nested 0 (spell h.text))) h.failing in
    let ends : test.ends ≡ length front = h.ends in
    omega (arith, length-append front (next ∷ others))
reason_within goal front others next _ _ (wrong h) = omega (arith, length-append front (next ∷ others))

pub fault_within : (goal : Goal) (tokens : List Tok) (kind : LineKind) (at : Place) → IsFault (lines goal) tokens kind at → at.token < length tokens
fault_within goal tokens kind at h =
    subst (λ (ts : List Tok). at.token < length ts) (sym h.joined) (reason_within goal h.front h.others h.next kind at h.reason)
