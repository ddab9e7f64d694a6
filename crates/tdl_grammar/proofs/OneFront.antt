-- What the definitions say by themselves, of any grammar and without a machine.
--     text_no_fault    a text has no fault
--     one_front        the first fault stands after one front
use Rattle.std.proofs.Common.{◌≡◌, ◌<◌, None, Some, Option, List, [], ◌∷◌, ◌++◌, length, IsTrue, IfSome, refl, sym, ap, ◌∙◌, subst, arith}
use Rattle.std.proofs.Common.{length-append, append_assoc}
use Rattle.std.specs.List.{list_all}
use Rattle.tdl_grammar.specs.Grammar.{Grammar}
use Rattle.tdl_grammar.specs.Faults.{TestOf, IsText, GoesOn, first_failing, Fails, IsAhead, later, put_off, Reason, fails, wrong, IsFault}
use Rattle.tdl_grammar.proofs.Tests.{held-none}

-- two fronts of the same tokens
data Fronts {A : Type 0} (a c : List A) (t u : A) : Type 0 where
  same : a ≡ c → t ≡ u → Fronts a c t u
  before : (more : List A) → c ≡ a ++ t ∷ more → Fronts a c t u
  after : (more : List A) → a ≡ c ++ u ∷ more → Fronts a c t u

heads : {A : Type 0} (x y : A) (xs ys : List A) → x ∷ xs ≡ y ∷ ys → x ≡ y
heads x y xs ys e = cc

tails : {A : Type 0} (x y : A) (xs ys : List A) → x ∷ xs ≡ y ∷ ys → xs ≡ ys
tails x y xs ys e = cc

fronts_more : {A : Type 0} (x y : A) (a c : List A) (t u : A) → x ≡ y → Fronts a c t u → Fronts (x ∷ a) (y ∷ c) t u
fronts_more x y a c t u e (same d k) = same (ap (λ v. v ∷ a) e ∙ ap (λ vs. y ∷ vs) d) k
fronts_more x y a c t u e (before more d) = before more (ap (λ v. v ∷ c) (sym e) ∙ ap (λ vs. x ∷ vs) d)
fronts_more x y a c t u e (after more d) = after more (ap (λ v. v ∷ a) e ∙ ap (λ vs. y ∷ vs) d)

fronts : {A : Type 0} (a c : List A) (t u : A) (b d : List A) → a ++ t ∷ b ≡ c ++ u ∷ d → Fronts a c t u
fronts [] [] t u b d e = same refl (heads t u b d e)
fronts [] (y ∷ c) t u b d e = before c (ap (λ v. v ∷ c) (sym (heads t y b (c ++ u ∷ d) e)))
fronts (x ∷ a) [] t u b d e = after a (ap (λ v. v ∷ a) (heads x u (a ++ t ∷ b) d e))
fronts (x ∷ a) (y ∷ c) t u b d e =
    fronts_more x y a c t u (heads x y (a ++ t ∷ b) (c ++ u ∷ d) e) (fronts a c t u b d (tails x y (a ++ t ∷ b) (c ++ u ∷ d) e))

module _ (g : Grammar) where
  none_some : (o : Option (TestOf g)) (test : TestOf g) → o ≡ None → o ≡ Some test → ⊥
  none_some o test d e = cc

  some_is : (o : Option (TestOf g)) (a b : TestOf g) → o ≡ Some a → o ≡ Some b → a ≡ b
  some_is o a b d e = cc

  -- ---- texts
  no_reason : (front others : List g.Token) (next : g.Token) (tree : g.Tree) (kind : g.Kind) (at : g.Place)
      → g.Reads (front ++ next ∷ others) tree → IsTrue (list_all (λ t. t.holds) (g.tests tree)) → Reason g front next kind at → ⊥
  no_reason front others next tree _ _ reads held (fails test h) =
      let on = subst (λ (ts : List g.Token). g.Reads ts tree) (sym (append_assoc front (next ∷ []) others)) reads in
      none_some (first_failing g tree) test (held-none (g.tests tree) held) (h.each tree (others, on))
  no_reason front others next tree _ _ reads held (wrong h) =
      h.none tree (others, subst (λ (ts : List g.Token). g.Reads ts tree) (sym (append_assoc front (next ∷ []) others)) reads)

  pub text_no_fault : (tokens : List g.Token) (tree : g.Tree) (kind : g.Kind) (at : g.Place) → IsText g tokens tree → IsFault g tokens kind at → ⊥
  text_no_fault tokens tree kind at text f =
      no_reason f.front f.others f.next tree kind at (subst (λ (ts : List g.Token). g.Reads ts tree) f.joined text.reads) text.held f.reason

  -- ---- fronts
  -- a text that goes on with a front and more goes on with the front
  goes_before : (front more : List g.Token) (next : g.Token) (tree : g.Tree) → GoesOn g (front ++ next ∷ more) tree → GoesOn g (front ++ next ∷ []) tree
  goes_before front more next tree on = (
    more ++ on.0,
    subst (λ (ts : List g.Token). g.Reads ts tree)
        (append_assoc front (next ∷ more) on.0 ∙ sym (append_assoc front (next ∷ []) (more ++ on.0))) on.1,
  )

  longer : (front more : List g.Token) (next : g.Token) → length front < length (front ++ next ∷ more)
  longer front more next = omega (arith, length-append front (next ∷ more))

  -- no reason stands before another
  past_failing : (front more : List g.Token) (next then : g.Token) (test : TestOf g) (kind : g.Kind) (at : g.Place) → Fails g front next test
      → Reason g (front ++ next ∷ more) then kind at → ⊥
  past_failing front more next then test _ _ h (fails other j) =
      let first = h.each j.text (goes_before front more next j.text j.shown) in
      let same = some_is (first_failing g j.text) test other first j.failing in
      let ends : test.ends ≡ other.ends = ap (λ (t : TestOf g). t.ends) same in
      omega (arith, longer front more next, ends, h.ends, j.ends)
  past_failing front more next then test _ _ h (wrong j) =
      let first = h.each j.text (goes_before front more next j.text j.shown) in
      never (subst (λ (o : Option (TestOf g)). IfSome o (IsAhead g (front ++ next ∷ more) then)) first (j.held j.text j.shown))
    where
      never : IsAhead g (front ++ next ∷ more) then test → ⊥
      never (later ahead) = omega (arith, longer front more next, ahead, h.ends)
      never (put_off ends off) = omega (arith, longer front more next, ends, h.ends)

  text_of : (front : List g.Token) (next : g.Token) (kind : g.Kind) (at : g.Place) → Reason g front next kind at → (tree : g.Tree) × GoesOn g front tree
  text_of front next _ _ (fails test h) = (h.text, h.shown)
  text_of front next _ _ (wrong h) = (h.text, h.shown)

  no_later : (front more : List g.Token) (next then : g.Token) (k l : g.Kind) (a b : g.Place) → Reason g front next k a
      → Reason g (front ++ next ∷ more) then l b → ⊥
  no_later front more next then _ l _ b (fails test h) j = past_failing front more next then test l b h j
  no_later front more next then _ l _ b (wrong h) j =
      let text = text_of (front ++ next ∷ more) then l b j in
      h.none text.0 (goes_before front more next text.0 text.1)

  one_by : (a c : List g.Token) (t u : g.Token) (k l : g.Kind) (m n : g.Place) → Reason g a t k m → Reason g c u l n → Fronts a c t u
      → (a ≡ c) × (t ≡ u)
  one_by a c t u k l m n h j (same d e) = (d, e)
  one_by a c t u k l m n h j (before more d) = absurd (no_later a more t u k l m n h (subst (λ (ts : List g.Token). Reason g ts u l n) d j))
  one_by a c t u k l m n h j (after more d) = absurd (no_later c more u t l k n m j (subst (λ (ts : List g.Token). Reason g ts t k m) d h))

  pub one_front : (tokens : List g.Token) (k l : g.Kind) (a b : g.Place) (h : IsFault g tokens k a) (j : IsFault g tokens l b)
      → (h.front ≡ j.front) × (h.next ≡ j.next)
  one_front tokens k l a b h j =
      one_by h.front j.front h.next j.next k l a b h.reason j.reason (fronts h.front j.front h.next j.next h.others j.others (sym h.joined ∙ j.joined))
