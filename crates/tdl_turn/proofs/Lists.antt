-- Numbers in lists, entries without them, and beginnings of lists.
use Rattle.std.proofs.Common.{◌≡◌, ℕ, ◌<◌, ◌≤◌, ◌⊎◌, List, [], ◌∷◌, ◌++◌, length, get_or, cond, sym}
use Rattle.std.proofs.Common.{refl, ap, ◌∙◌, subst, inl, inr, ⊎_elim, arith, append_assoc, append-nil, length-append, lt-ltb, le-ltb}
use mathlib.Core.Logic.{dite}
use native.Mathlib.Decide.{dec_le}
use Rattle.tdl_turn.specs.Numbers.{Among, NoneOf, AllBelow, Reads, longer}

pub among_left : (n : ℕ) (ns ms : List ℕ) → Among n ns → Among n (ns ++ ms)
among_left n [] ms h = absurd h
among_left n (x ∷ ns) ms (inl e) = inl e
among_left n (x ∷ ns) ms (inr h) = inr (among_left n ns ms h)

pub among_right : (n : ℕ) (ns ms : List ℕ) → Among n ms → Among n (ns ++ ms)
among_right n [] ms h = h
among_right n (x ∷ ns) ms h = inr (among_right n ns ms h)

pub among_either : (n : ℕ) (ns ms : List ℕ) → Among n (ns ++ ms) → Among n ns ⊎ Among n ms
among_either n [] ms h = inr h
among_either n (x ∷ ns) ms (inl e) = inl (inl e)
among_either n (x ∷ ns) ms (inr h) = ⊎_elim (λ a. inl (inr a)) (λ b. inr b) (among_either n ns ms h)

pub among_some : (n : ℕ) (ns : List ℕ) → Among n ns → 0 < length ns
among_some n [] h = absurd h
among_some n (x ∷ ns) h = omega arith

module _ {E : Type 0} where
  abbrev tail_of : List E → List E
  tail_of [] = []
  tail_of (x ∷ xs) = xs

  -- of two beginnings of one list, the longer goes on from the other
  begins : (a ra b rb : List E) → a ++ ra ≡ b ++ rb → length a ≤ length b → (m : List E) × (b ≡ a ++ m) × (ra ≡ m ++ rb)
  begins [] ra b rb e h = (b, refl, e)
  begins (x ∷ a) ra [] rb e h = absurd (omega arith)
  begins (x ∷ a) ra (y ∷ b) rb e h = let t = begins a ra b rb (ap tail_of e) (omega arith) in let hd : y ≡ x = sym (ap (λ (l : List E). get_or l 0 x) e) in
      (t.0, (λ k. hd k ∷ t.1 k), t.2)

  pub all_seen : (whole seen rest : List E) → whole ≡ seen ++ rest → length whole ≤ length seen → seen ≡ whole
  all_seen whole seen [] e h = sym (append-nil seen) ∙ sym e
  all_seen whole seen (x ∷ rest) e h = absurd (omega (arith, ap (λ (l : List E). length l) e, length-append seen (x ∷ rest)))

module _ {E : Type 0} (by : E → ℕ) where
  pub none_append : (ns : List ℕ) (es fs : List E) → NoneOf by ns es → NoneOf by ns fs → NoneOf by ns (es ++ fs)
  none_append ns [] fs h k = k
  none_append ns (e ∷ es) fs h k = (h.0, none_append ns es fs h.1 k)

  none_before : (ns : List ℕ) (es fs : List E) → NoneOf by ns (es ++ fs) → NoneOf by ns es
  none_before ns [] fs h = tt
  none_before ns (e ∷ es) fs h = (h.0, none_before ns es fs h.1)

  none_after : (ns : List ℕ) (es fs : List E) → NoneOf by ns (es ++ fs) → NoneOf by ns fs
  none_after ns [] fs h = h
  none_after ns (e ∷ es) fs h = none_after ns es fs h.1

  none_fewer : (ns ms : List ℕ) → ((n : ℕ) → Among n ms → Among n ns) → (es : List E) → NoneOf by ns es → NoneOf by ms es
  none_fewer ns ms into [] h = tt
  none_fewer ns ms into (e ∷ es) h = let no = h.0 in ((λ a. no (into (by e) a)), none_fewer ns ms into es h.1)

  none_joined : (ns ms : List ℕ) (es : List E) → NoneOf by ns es → NoneOf by ms es → NoneOf by (ns ++ ms) es
  none_joined ns ms [] h k = tt
  none_joined ns ms (e ∷ es) h k = let no = h.0 in let nor = k.0 in ((λ a. ⊎_elim no nor (among_either (by e) ns ms a)), none_joined ns ms es h.1 k.1)

  none_free : (es : List E) → NoneOf by [] es
  none_free [] = tt
  none_free (e ∷ es) = ((λ a. a), none_free es)

  none_new : (n m : ℕ) (es : List E) → n ≡ m → AllBelow by m es → NoneOf by (n ∷ []) es
  none_new n m [] is h = tt
  none_new n m (e ∷ es) is h = let low = h.0 in ((λ a. ⊎_elim (λ (x : by e ≡ n). absurd (omega arith)) (λ (x : ⊥). x) a), none_new n m es is h.1)

  pub below_append : (n : ℕ) (es fs : List E) → AllBelow by n es → AllBelow by n fs → AllBelow by n (es ++ fs)
  below_append n [] fs h k = k
  below_append n (e ∷ es) fs h k = (h.0, below_append n es fs h.1 k)

  pub below_before : (n : ℕ) (es fs : List E) → AllBelow by n (es ++ fs) → AllBelow by n es
  below_before n [] fs h = tt
  below_before n (e ∷ es) fs h = (h.0, below_before n es fs h.1)

  below_after : (n : ℕ) (es fs : List E) → AllBelow by n (es ++ fs) → AllBelow by n fs
  below_after n [] fs h = h
  below_after n (e ∷ es) fs h = below_after n es fs h.1

  pub below_higher : (n m : ℕ) (es : List E) → n ≤ m → AllBelow by n es → AllBelow by m es
  below_higher n m [] l h = tt
  below_higher n m (e ∷ es) l h = let low = h.0 in (omega arith, below_higher n m es l h.1)

  pub reads_self : (xs : List E) (ns : List ℕ) → Reads by xs xs ns
  reads_self xs ns = ([], sym (append-nil xs), tt)

  pub reads_empty : (xs : List E) → Reads by xs [] []
  reads_empty xs = (xs, refl, none_free xs)

  pub reads_on : (whole seen past : List E) (ns ms : List ℕ) → ((n : ℕ) → Among n ns → Among n ms) → Reads by whole seen ms → Reads by seen past ns
      → Reads by whole past ns
  reads_on whole seen past ns ms into r q =
      (q.0 ++ r.0, r.1 ∙ (ap (λ (l : List E). l ++ r.0) q.1 ∙ append_assoc past q.0 r.0), none_append ns q.0 r.0 q.2 (none_fewer ms ns into r.0 r.2))

  -- one entry more, by none of the numbers
  pub reads_more : (whole seen : List E) (ns : List ℕ) (e : E) → ¬ (Among (by e) ns) → Reads by whole seen ns → Reads by (whole ++ e ∷ []) seen ns
  reads_more whole seen ns e apart r = (
    r.0 ++ e ∷ [],
    ap (λ (l : List E). l ++ e ∷ []) r.1 ∙ append_assoc seen r.0 (e ∷ []),
    none_append ns r.0 (e ∷ []) r.2 (apart, tt),
  )

  pub reads_short : (whole seen : List E) (ns : List ℕ) → Reads by whole seen ns → length seen ≤ length whole
  reads_short whole seen ns r = omega (arith, ap (λ (l : List E). length l) r.1, length-append seen r.0)

  pub reads_new : (whole seen : List E) (ns : List ℕ) (n m : ℕ) → n ≡ m → AllBelow by m whole → Reads by whole seen ns → Reads by whole seen (n ∷ [])
  reads_new whole seen ns n m is low r = (r.0, r.1, none_new n m r.0 is (below_after m seen r.0 (subst (AllBelow by m) r.1 low)))

  module _ (whole : List E) where
    abbrev Meets : List E → List E → List ℕ → List ℕ → List E → Type 0
    Meets a b ns ms l = Reads by whole l (ns ++ ms) × Reads by l a ns × Reads by l b ms

    met_second : (a b : List E) (ns ms : List ℕ) → length a ≤ length b → Reads by whole a ns → Reads by whole b ms → Meets a b ns ms b
    met_second a b ns ms h r q = let t = begins a r.0 b q.0 (sym r.1 ∙ q.1) h in let none : NoneOf by ns (t.0 ++ q.0) = subst (NoneOf by ns) t.2 r.2 in
        ((q.0, q.1, none_joined ns ms q.0 (none_after ns t.0 q.0 none) q.2), (t.0, t.1, none_before ns t.0 q.0 none), reads_self b ms)

    met_first : (a b : List E) (ns ms : List ℕ) → length b ≤ length a → Reads by whole a ns → Reads by whole b ms → Meets a b ns ms a
    met_first a b ns ms h r q = let t = begins b q.0 a r.0 (sym q.1 ∙ r.1) h in let none : NoneOf by ms (t.0 ++ r.0) = subst (NoneOf by ms) t.2 q.2 in
        ((r.0, r.1, none_joined ns ms r.0 r.2 (none_after ms t.0 r.0 none)), reads_self a ns, (t.0, t.1, none_before ms t.0 r.0 none))

    -- two that have seen beginnings of one list
    pub met : (a b : List E) (ns ms : List ℕ) → Reads by whole a ns → Reads by whole b ms → Meets a b ns ms (longer a b)
    met a b ns ms r q = dite (dec_le (length b) (length a))
        (λ h. subst (Meets a b ns ms) (ap (λ x. cond x b a) (sym (le-ltb (length a) (length b) h))) (met_first a b ns ms h r q))
        (λ n. let h : length a < length b = omega arith in subst (Meets a b ns ms) (ap (λ x. cond x b a) (sym (lt-ltb (length a) (length b) h)))
        (met_second a b ns ms (omega arith) r q))
