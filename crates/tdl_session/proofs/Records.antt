-- A record of what a caller was told follows its pass.
use Rattle.std.proofs.Common.{◌≡◌, ◌≢◌, ◌⊎◌, ℕ, List, [], ◌∷◌, ◌++◌, map, Result, Ok, Err, IfOk, IfErr, eqb, cond, true, false}
use Rattle.std.proofs.Common.{refl, sym, ap, ◌∙◌, subst, inl, inr, append-nil, append_assoc}
use Rattle.std.proofs.lemmas.Bool.Decides.{eqb_tells}
use Rattle.tdl_turn.specs.Numbers.{Among, NoneOf, Reads}
use Rattle.tdl_session.specs.Passes.{PassView, mine_of, Called, Refused}
use Rattle.tdl_session.specs.Told.{Told, Tells, answered}

module _ {E C R : Type 0} (by : E → ℕ) (adds : List E → C → E → R → Type 0) (n : ℕ) where
  abbrev T : List E → List E → List (C × R) → Type 0
  T = Told by adds n

  told_none : (ns : List ℕ) → Among n ns → (before more : List E) → NoneOf by ns more → T before more []
  told_none ns own before [] h = refl
  told_none ns own before (e ∷ more) h = let no = h.0 in
      ((λ is. absurd (no (subst (λ m. Among m ns) (sym is) own))), (λ is. told_none ns own (before ++ e ∷ []) more h.1))

  -- a record goes on by one of what comes after
  told_append : (before es fs : List E) (told more : List (C × R)) → T before es told → T (before ++ es) fs more → T before (es ++ fs) (told ++ more)
  told_append before [] fs told more h k = subst (λ t. T before fs (t ++ more)) (sym h) (subst (λ b. T b fs more) (append-nil before) k)
  told_append before (e ∷ es) fs told more h k =
      let on : T ((before ++ e ∷ []) ++ es) fs more = subst (λ b. T b fs more) (sym (append_assoc before (e ∷ []) es)) k in
      let mine = h.0 in let other = h.1 in (
        (λ is. let t = mine is in (t.0, t.1, t.2 ++ more, ap (λ l. l ++ more) t.3, t.4, told_append (before ++ e ∷ []) es fs t.2 more t.5 on)),
        (λ is. told_append (before ++ e ∷ []) es fs told more (other is) on),
      )

  pub told_more : (ns : List ℕ) → Among n ns → (before es more : List E) (told : List (C × R)) → NoneOf by ns more → T before es told
      → T before (es ++ more) told
  told_more ns own before es more told none h =
      subst (T before (es ++ more)) (append-nil told) (told_append before es more told [] h (told_none ns own (before ++ es) more none))

  told_one : (before : List E) (c : C) (e : E) (r : R) → by e ≡ n → adds before c e r → T before (e ∷ []) ((c, r) ∷ [])
  told_one before c e r is a = ((λ own. (c, r, [], refl, a, refl)), (λ not. absurd (not is)))

  pub told_call : (before es : List E) (c : C) (e : E) (r : R) (told : List (C × R)) → by e ≡ n → adds (before ++ es) c e r → T before es told
      → T before (es ++ e ∷ []) (told ++ (c, r) ∷ [])
  told_call before es c e r told is a h = told_append before es (e ∷ []) told ((c, r) ∷ []) h (told_one (before ++ es) c e r is a)

  pub told_read : (ns : List ℕ) → Among n ns → (log seen : List E) (told : List (C × R)) → Reads by log seen ns → T [] seen told → T [] log told
  told_read ns own log seen told r h = subst (λ l. T [] l told) (sym r.1) (told_more ns own [] seen r.0 told r.2 h)

  -- each of the number's entries is that of the next call
  module _ {X : Type 0} (f : E → X) (g : C → X) (same : (before : List E) (c : C) (e : E) (r : R) → adds before c e r → f e ≡ g c) where
    mine_step : (before : List E) (e : E) (es : List E) (told : List (C × R)) → T before (e ∷ es) told
        → ((rest : List (C × R)) → T (before ++ e ∷ []) es rest → map f (mine_of by n es) ≡ map (λ t. g t.0) rest)
        → map f (mine_of by n (e ∷ es)) ≡ map (λ t. g t.0) told
    mine_step before e es told h on = by-number (eqb_tells (by e) n)
      where
        by-number : ((eqb (by e) n ≡ true) × (by e ≡ n)) ⊎ ((eqb (by e) n ≡ false) × (by e ≢ n))
            → map f (cond (eqb (by e) n) (e ∷ mine_of by n es) (mine_of by n es)) ≡ map (λ t. g t.0) told
        by-number (inl is) = let mine = h.0 in let t = mine is.1 in
            ap (λ b. map f (cond b (e ∷ mine_of by n es) (mine_of by n es))) is.0
            ∙ (ap (λ x. x ∷ map f (mine_of by n es)) (same before t.0 e t.1 t.4)
            ∙ (ap (λ xs. g t.0 ∷ xs) (on t.2 t.5) ∙ ap (map (λ t. g t.0)) (sym t.3)))
        by-number (inr not) = let other = h.1 in
            ap (λ b. map f (cond b (e ∷ mine_of by n es) (mine_of by n es))) not.0 ∙ on told (other not.1)

    pub told_mine : (before es : List E) (told : List (C × R)) → T before es told → map f (mine_of by n es) ≡ map (λ t. g t.0) told
    told_mine before [] told h = ap (map (λ t. g t.0)) (sym h)
    told_mine before (e ∷ es) told h = mine_step before e es told h (λ rest k. told_mine (before ++ e ∷ []) es rest k)

module _ {E F C R : Type 0} (by : E → ℕ) (adds : F → List E → ℕ → C → E → R → Type 0) (fixed : F) where
  abbrev Says : ℕ → List E → List (C × R) → Type 0
  Says = Tells by adds fixed

  pub told_met : (n : ℕ) (ns : List ℕ) (log seen : List E) (told : List (C × R)) → Among n ns → Reads by log seen ns → Says n seen told → Says n log told
  told_met n ns log seen told own r h = told_read by (λ es c e r. adds fixed es n c e r) n ns own log seen told r h

  module _ (p q : PassView E F) (told : List (C × R)) (own : Among p.number p.made) where
    abbrev One : List E → C → E → R → Type 0
    One es c e r = adds fixed es p.number c e r

    pub told_accepted : (c : C) (r : R) → Called by (λ h e. adds fixed h p.number c e r) p q → Says p.number p.seen told
        → Says p.number q.seen (told ++ (c, r) ∷ [])
    told_accepted c r called h = let between = called.0 in let e = called.1 in subst (λ es. Says p.number es (told ++ (c, r) ∷ [])) (sym called.2)
        (told_call by One p.number [] (p.seen ++ between) c e r told called.3 called.5
        (told_more by One p.number p.made own [] p.seen between told called.4 h))

    pub told_refused : (refuses : List E → Type 0) → Refused by refuses p q → Says p.number p.seen told → Says p.number q.seen told
    told_refused refuses refused h = subst (λ es. Says p.number es told) (sym refused.1)
        (told_more by One p.number p.made own [] p.seen refused.0 told refused.2 h)

    pub told_answer : {X : Type 0} (refuses : X → List E → Type 0) (c : C) (result : Result R X)
        → IfOk result (λ r. Called by (λ h e. adds fixed h p.number c e r) p q) → IfErr result (λ x. Refused by (refuses x) p q)
        → Says p.number p.seen told → Says p.number q.seen (told ++ answered c result)
    told_answer refuses c (Ok r) ok err h = told_accepted c r ok h
    told_answer refuses c (Err x) ok err h = subst (Says p.number q.seen) (sym (append-nil told)) (told_refused (refuses x) err h)

  -- a new pass's holder was told nothing
  pub told_nothing : (n : ℕ) (seen : List E) → seen ≡ [] → Says n seen []
  told_nothing n seen none = subst (λ es. Says n es []) (sym none) refl

  -- the same, where what is named twice is told by equations
  pub told_met_as : (f : F) (m n : ℕ) (ns : List ℕ) (log whole seen : List E) (told : List (C × R)) → f ≡ fixed → m ≡ n → Among n ns → log ≡ whole
      → Reads by whole seen ns → Tells by adds f m seen told → Says n log told
  told_met_as f m n ns log whole seen told same is own end r h = subst (λ es. Says n es told) (sym end)
      (told_met n ns whole seen told own r (subst (λ k. Says k seen told) is (subst (λ x. Tells by adds x m seen told) same h)))
