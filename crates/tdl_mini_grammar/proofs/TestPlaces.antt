-- No test stands after the end of what it speaks of, so a fault stands at a token.
--     tests_inside       of each test of a tree
--     fault_within       the index of the first fault of some tokens is that of one of them
use Rattle.std.proofs.Common.{◌≡◌, ℕ, ◌<◌, ◌≤◌, Bool, true, false, not, cond, find, Some, None, List, [], ◌∷◌, ◌++◌, length, refl, sym, subst, arith}
use Rattle.std.proofs.Common.{length-append}
use Rattle.std.specs.Prelude.{map}
use Rattle.tdl_grammar.specs.Faults.{Reason, fails, wrong}
use Rattle.tdl_mini_tree.specs.declared.faults.MiniKind.{MiniKind}
use Rattle.tdl_mini_tree.specs.declared.leaves.Kind.{Kind}
use Rattle.tdl_mini_machine.specs.Tokens.{Tok}
use Rattle.tdl_mini_machine.specs.Rules.{Rule, Test, test_between}
use Rattle.tdl_mini_grammar.specs.Spelling.{Pieces, nothing, spells, ◌▸◌, ◌obeying◌, spell}
use Rattle.tdl_mini_grammar.specs.Tests.{after, tests_from, tests}
use Rattle.tdl_mini_grammar.specs.Faults.{mini, IsFault}
use Rattle.tdl_mini_tree.specs.Tree as tree

abbrev Inside : List Test → Type 0
Inside [] = Unit {0}
Inside (t ∷ ts) = (t.at ≤ t.ends) × Inside ts

both : (ts us : List Test) → Inside ts → Inside us → Inside (ts ++ us)
both [] us h k = k
both (t ∷ ts) us h k = (h.0, both ts us h.1 k)

after_least : (from : ℕ) (a : Pieces) → from ≤ after from a
after_least from nothing = omega arith
after_least from (spells x) = omega arith
after_least from (a ▸ b) = omega (arith, after_least from a, after_least (after from a) b)
after_least from (a obeying rules) = after_least from a

rules_inside : (at ends : ℕ) (rules : List Rule) → at ≤ ends → Inside (map (test_between at ends) rules)
rules_inside at ends [] h = tt
rules_inside at ends (r ∷ rules) h = (h, rules_inside at ends rules h)

pieces_inside : (from : ℕ) (a : Pieces) → Inside (tests_from from a)
pieces_inside from nothing = tt
pieces_inside from (spells x) = tt
pieces_inside from (a ▸ b) = both (tests_from from a) (tests_from (after from a) b) (pieces_inside from a) (pieces_inside (after from a) b)
pieces_inside from (a obeying rules) =
    both (tests_from from a) (map (test_between from (after from a)) rules) (pieces_inside from a)
    (rules_inside from (after from a) rules (after_least from a))

tests_inside : (kind : Kind) (ls : tree.Layers) → Inside (tests kind ls)
tests_inside kind ls = pieces_inside 0 (spell kind ls)

-- ---- faults
found_by : (x t : Test) (others : List Test) (b : Bool) → x.holds ≡ b → x.at ≤ x.ends → (find (λ y. not y.holds) others ≡ Some t → t.at ≤ t.ends)
    → cond (not b) (Some x) (find (λ y. not y.holds) others) ≡ Some t → t.at ≤ t.ends
found_by x t others true e h more is = more is
found_by x t others false e h more is = subst (λ (y : Test). y.at ≤ y.ends) (some_is x t is) h
  where
    some_is : (a b : Test) → Some a ≡ Some b → a ≡ b
    some_is a b k = cc

found_inside : (list : List Test) (t : Test) → Inside list → find (λ y. not y.holds) list ≡ Some t → t.at ≤ t.ends
found_inside [] t h e = absurd (never e)
  where
    never : None ≡ Some t → ⊥
    never k = cc
found_inside (x ∷ others) t h e = found_by x t others x.holds refl h.0 (found_inside others t h.1) e

reason_within : (kind : Kind) (front others : List Tok) (next : Tok) (fault : MiniKind) (at : ℕ) → Reason (mini kind) front next fault at
    → at < length (front ++ next ∷ others)
reason_within kind front others next _ _ (fails test h) =
    let inside : test.at ≤ test.ends = found_inside (tests kind h.text) test (tests_inside kind h.text) h.failing in
    let ends : test.ends ≡ length front = h.ends in
    omega (arith, length-append front (next ∷ others))
reason_within kind front others next _ _ (wrong h) = omega (arith, length-append front (next ∷ others))

pub fault_within : (kind : Kind) (tokens : List Tok) (fault : MiniKind) (at : ℕ) → IsFault kind tokens fault at → at < length tokens
fault_within kind tokens fault at h = subst (λ (ts : List Tok). at < length ts) (sym h.joined) (reason_within kind h.front h.others h.next fault at h.reason)
