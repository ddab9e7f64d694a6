-- Lists of tests, and the first of them that fails.
--     failing_found, found_failing     it is where checks stop
--     all_held, held_found             checks go on where each test holds
--     untested-same                    without tests nothing stops
use Rattle.std.specs.Prelude.{if◌then◌else◌}
use Rattle.std.specs.List.{list_all}
use Rattle.std.proofs.Common.{◌≡◌, Bool, true, false, not, ◌&&◌, cond, Some, None, Ok, Err, List, [], ◌∷◌, IsTrue, find, refl, sym, ap, ◌∙◌}
use Rattle.tdl_grammar.specs.Grammar.{Test}
use Rattle.tdl_grammar.specs.Machine.{Stop, failed, wrong, Taken, all_checked}

module _ {Kind Place : Type 0} where
  find-first : (test : Test Kind Place) (others : List (Test Kind Place)) (b : Bool) → test.holds ≡ b
      → find (λ x. not x.holds) (test ∷ others) ≡ cond (not b) (Some test) (find (λ x. not x.holds) others)
  find-first test others b e = ap (λ (c : Bool). cond (not c) (Some test) (find (λ x. not x.holds) others)) e

  -- what holds of each holds of the first that fails: there is none
  pub held-none : (tests : List (Test Kind Place)) → IsTrue (list_all (λ t. t.holds) tests) → find (λ t. not t.holds) tests ≡ None
  held-none [] h = refl
  held-none (test ∷ others) h = none_if test.holds refl h (held-none others)
    where
      none_if : (b : Bool) → test.holds ≡ b → IsTrue (b && list_all (λ t. t.holds) others)
          → (IsTrue (list_all (λ t. t.holds) others) → find (λ t. not t.holds) others ≡ None) → find (λ t. not t.holds) (test ∷ others) ≡ None
      none_if true e held more = find-first test others true e ∙ more held
      none_if false e held more = cc

module _ {State Kind Place : Type 0} where
  pub failed_is : (r : Taken State Kind Place) (a b : Test Kind Place) → r ≡ Err (failed a) → r ≡ Err (failed b) → a ≡ b
  failed_is r a b d e = cc

  pub ok_is : (r : Taken State Kind Place) (f g : State) → r ≡ Ok f → r ≡ Ok g → f ≡ g
  ok_is r f g d e = cc

  pub stop_is : (r : Taken State Kind Place) (a b : Stop Kind Place) → r ≡ Err a → r ≡ Err b → a ≡ b
  stop_is r a b d e = cc

  pub ok_fails : (r : Taken State Kind Place) (f : State) (x : Stop Kind Place) → r ≡ Ok f → r ≡ Err x → ⊥
  ok_fails r f x d e = cc

  pub wrong_fails : (r : Taken State Kind Place) (test : Test Kind Place) (kind : Kind) (at : Place) → r ≡ Err (failed test) → r ≡ Err (wrong kind at) → ⊥
  wrong_fails r test kind at d e = cc

  failing_if : (test : Test Kind Place) (others : List (Test Kind Place)) (next : Taken State Kind Place) (t : Test Kind Place) (b : Bool) → test.holds ≡ b
      → (next ≡ Err (failed t) → find (λ x. not x.holds) others ≡ Some t) → (if true && not b then Err (failed test) else next) ≡ Err (failed t)
      → find (λ x. not x.holds) (test ∷ others) ≡ Some t
  failing_if test others next t true e more is = find-first test others true e ∙ more is
  failing_if test others next t false e more is =
      find-first test others false e ∙ ap (λ (x : Test Kind Place). Some x) (failed_is (Err (failed test)) test t refl is)

  pub failing_found : (list : List (Test Kind Place)) (f : State) (t : Test Kind Place) → all_checked true list (Ok f) ≡ Err (failed t)
      → find (λ x. not x.holds) list ≡ Some t
  failing_found [] f t e = absurd (ok_fails (Ok f) f (failed t) refl e)
  failing_found (test ∷ others) f t e = failing_if test others (all_checked true others (Ok f)) t test.holds refl (failing_found others f t) e

  found_if : (test : Test Kind Place) (others : List (Test Kind Place)) (next : Taken State Kind Place) (t : Test Kind Place) (b : Bool) → test.holds ≡ b
      → (find (λ x. not x.holds) others ≡ Some t → next ≡ Err (failed t)) → find (λ x. not x.holds) (test ∷ others) ≡ Some t
      → (if true && not b then Err (failed test) else next) ≡ Err (failed t)
  found_if test others next t true e more is = more (sym (find-first test others true e) ∙ is)
  found_if test others next t false e more is = ap (λ (x : Test Kind Place). Err (failed x)) (some_is test t (sym (find-first test others false e) ∙ is))
    where
      some_is : (a b : Test Kind Place) → Some a ≡ Some b → a ≡ b
      some_is a b h = cc

  pub found_failing : (list : List (Test Kind Place)) (f : State) (t : Test Kind Place) → find (λ x. not x.holds) list ≡ Some t
      → all_checked true list (Ok f) ≡ Err (failed t)
  found_failing [] f t e = absurd (never t e)
    where
      never : (x : Test Kind Place) → None ≡ Some x → ⊥
      never x h = cc
  found_failing (test ∷ others) f t e = found_if test others (all_checked true others (Ok f)) t test.holds refl (found_failing others f t) e

  held_if : (test : Test Kind Place) (others : List (Test Kind Place)) (next : Taken State Kind Place) (g : State) (b : Bool) → test.holds ≡ b
      → (next ≡ Ok g → IsTrue (list_all (λ t. t.holds) others)) → (if true && not b then Err (failed test) else next) ≡ Ok g
      → IsTrue (list_all (λ t. t.holds) (test ∷ others))
  held_if test others next g true e more is = rw e (more is)
  held_if test others next g false e more is = absurd (ok_fails (Err (failed test)) g (failed test) is refl)

  pub held_found : (list : List (Test Kind Place)) (f g : State) → all_checked true list (Ok f) ≡ Ok g → IsTrue (list_all (λ t. t.holds) list)
  held_found [] f g e = refl
  held_found (test ∷ others) f g e = held_if test others (all_checked true others (Ok f)) g test.holds refl (held_found others f g) e

  all_if : (test : Test Kind Place) (others : List (Test Kind Place)) (f : State) (b : Bool) → test.holds ≡ b → IsTrue (b && list_all (λ t. t.holds) others)
      → (IsTrue (list_all (λ t. t.holds) others) → all_checked true others (Ok f) ≡ Ok f)
      → (if true && not b then Err (failed test) else all_checked true others (Ok f)) ≡ Ok f
  all_if test others f true e held more = more held
  all_if test others f false e held more = cc

  pub all_held : (list : List (Test Kind Place)) (f : State) → IsTrue (list_all (λ t. t.holds) list) → all_checked true list (Ok f) ≡ Ok f
  all_held [] f h = refl
  all_held (test ∷ others) f h = all_if test others f test.holds refl h (all_held others f)

  -- checks alone stop at no wrong token
  wrong_if : (test : Test Kind Place) (next : Taken State Kind Place) (kind : Kind) (at : Place) (b : Bool) → (next ≡ Err (wrong kind at) → ⊥)
      → (if true && not b then Err (failed test) else next) ≡ Err (wrong kind at) → ⊥
  wrong_if test next kind at true more e = more e
  wrong_if test next kind at false more e = wrong_fails (Err (failed test)) test kind at refl e

  pub never_wrong : (list : List (Test Kind Place)) (f : State) (kind : Kind) (at : Place) → all_checked true list (Ok f) ≡ Err (wrong kind at) → ⊥
  never_wrong [] f kind at e = ok_fails (Ok f) f (wrong kind at) refl e
  never_wrong (test ∷ others) f kind at e = wrong_if test (all_checked true others (Ok f)) kind at test.holds (never_wrong others f kind at) e

  pub untested-same : (tests : List (Test Kind Place)) (u : Taken State Kind Place) → all_checked false tests u ≡ u
  untested-same [] u = refl
  untested-same (test ∷ tests) u = untested-same tests u
