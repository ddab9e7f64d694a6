-- Entries of a caller's own number, as others add theirs.
use Rattle.std.proofs.Common.{◌≡◌, ◌<◌, ℕ, Result, Ok, Err, IfOk, IfErr, eqb, cond, List, [], ◌∷◌, ◌++◌, refl, sym, ap}
use Rattle.std.proofs.Common.{◌∙◌, subst, inl, inr, arith, append-nil, eq-eqb, ne_eqb}
use Rattle.std.proofs.lemmas.List.Elements.{filter-append}
use Rattle.tdl_turn.specs.Numbers.{Among, NoneOf, AllBelow, NoneUnmade, Reads}
use Rattle.tdl_session.specs.Passes.{PassView, mine_of, Gains, mine, Called, Refused}

module _ {E : Type 0} (by : E → ℕ) (n : ℕ) where
  none_mine : (ns : List ℕ) → Among n ns → (es : List E) → NoneOf by ns es → mine_of by n es ≡ []
  none_mine ns own [] h = refl
  none_mine ns own (e ∷ es) h = let no = h.0 in
      ap (λ b. cond b (e ∷ mine_of by n es) (mine_of by n es)) (ne_eqb (by e) n (λ is. no (subst (λ m. Among m ns) (sym is) own))) ∙ none_mine ns own es h.1

  pub mine_more : (ns : List ℕ) → Among n ns → (seen more : List E) → NoneOf by ns more → mine_of by n (seen ++ more) ≡ mine_of by n seen
  mine_more ns own seen more h =
      filter-append (λ e. eqb (by e) n) seen more ∙ (ap (λ es. mine_of by n seen ++ es) (none_mine ns own more h) ∙ append-nil (mine_of by n seen))

  pub mine_read : (ns : List ℕ) → Among n ns → (whole seen : List E) → Reads by whole seen ns → mine_of by n whole ≡ mine_of by n seen
  mine_read ns own whole seen r = ap (mine_of by n) r.1 ∙ mine_more ns own seen r.0 r.2

  below_mine : (es : List E) → AllBelow by n es → mine_of by n es ≡ []
  below_mine [] h = refl
  below_mine (e ∷ es) h = let low = h.0 in
      ap (λ b. cond b (e ∷ mine_of by n es) (mine_of by n es)) (ne_eqb (by e) n (λ is. omega arith)) ∙ below_mine es h.1

  -- who may give a number has seen no entry of it
  pub unmade_mine : (es : List E) → n < 9 → NoneUnmade by n es → mine_of by n es ≡ []
  unmade_mine es few (inl none) = absurd (omega arith)
  unmade_mine es few (inr low) = below_mine es low

  mine_one : (e : E) → by e ≡ n → mine_of by n (e ∷ []) ≡ e ∷ []
  mine_one e is = ap (λ b. cond b (e ∷ []) []) (eq-eqb (by e) n is)

  pub mine_call : (ns : List ℕ) → Among n ns → (seen more : List E) (e : E) → NoneOf by ns more → by e ≡ n
      → mine_of by n ((seen ++ more) ++ e ∷ []) ≡ mine_of by n seen ++ e ∷ []
  mine_call ns own seen more e h is = filter-append (λ e. eqb (by e) n) (seen ++ more) (e ∷ [])
      ∙ (ap (λ es. es ++ mine_of by n (e ∷ [])) (mine_more ns own seen more h) ∙ ap (λ es. mine_of by n seen ++ es) (mine_one e is))

-- where nothing changed, the history did not
pub unchanged : {S E R X : Type 0} (history : S → List E) (refuses : X → Type 0) (old new : S) (result : Result R X)
    → IfErr result (λ x. (new ≡ old) × refuses x) → IfErr result (λ x. (history new ≡ history old) × refuses x)
unchanged history refuses old new (Ok r) h = tt
unchanged history refuses old new (Err x) h = (ap history h.0, h.1)

module _ {E F C : Type 0} (by : E → ℕ) (p : PassView E F) where
  -- what the pass's caller may call, the machine may be asked
  pub may_be_asked : (may : ℕ → List E → C → Type 0) (who : ℕ) (before more : List E) (call : C) → who ≡ p.number → Among p.number p.made
      → before ≡ p.seen ++ more → NoneOf by p.made more → may p.number (mine by p) call → may who (mine_of by who before) call
  may_be_asked may who before more call is own seen none h = subst (λ n. may n (mine_of by n before) call) (sym is) (
      subst (λ es. may p.number es call) (sym (ap (mine_of by p.number) seen ∙ mine_more by p.number p.made own p.seen more none)) h)

  module _ (q : PassView E F) (fixed f : F) (call : C) (who : ℕ) (before after more : List E) where
    pub is_called : {R X : Type 0} (adds : F → List E → ℕ → C → E → R → Type 0) (result : Result R X) → f ≡ fixed → who ≡ p.number → Among p.number p.made
        → before ≡ p.seen ++ more → NoneOf by p.made more → q.number ≡ p.number → q.seen ≡ after
        → IfOk result (λ r. Gains by (λ h e. adds f h who call e r) who before after)
        → IfOk result (λ r. Called by (λ h e. adds fixed h p.number call e r) p q)
    is_called adds (Ok r) same is own seen none one now h =
        let e = h.0 in let at : q.seen ≡ (p.seen ++ more) ++ e ∷ [] = now ∙ (h.1 ∙ ap (λ es. es ++ e ∷ []) seen) in let by-it : by e ≡ p.number = h.2 ∙ is in (
          more,
          e,
          at,
          by-it,
          none,
          subst (λ x. adds x (p.seen ++ more) p.number call e r) same
              (subst (λ es. adds f es p.number call e r) seen (subst (λ n. adds f before n call e r) is h.3)),
          ap (λ n. mine_of by n q.seen) one ∙ (ap (mine_of by p.number) at ∙ mine_call by p.number p.made own p.seen more e none by-it),
        )
    is_called adds (Err x) same is own seen none one now h = tt

    pub is_refused : {R X : Type 0} (refuses : F → List E → ℕ → C → X → Type 0) (result : Result R X) → f ≡ fixed → who ≡ p.number → Among p.number p.made
        → before ≡ p.seen ++ more → NoneOf by p.made more → q.number ≡ p.number → q.seen ≡ after
        → IfErr result (λ x. (after ≡ before) × refuses f before who call x)
        → IfErr result (λ x. Refused by (λ h. refuses fixed h p.number call x) p q)
    is_refused refuses (Ok r) same is own seen none one now h = tt
    is_refused refuses (Err x) same is own seen none one now h = let all : q.seen ≡ before = now ∙ h.0 in let at : q.seen ≡ p.seen ++ more = all ∙ seen in (
      more,
      at,
      none,
      subst (λ y. refuses y q.seen p.number call x) same
          (subst (λ es. refuses f es p.number call x) (sym all) (subst (λ n. refuses f before n call x) is h.1)),
      ap (λ n. mine_of by n q.seen) one ∙ (ap (mine_of by p.number) at ∙ mine_more by p.number p.made own p.seen more none),
    )

module _ {E F : Type 0} (by : E → ℕ) where
  pub mine_met : (p q : PassView E F) → q.number ≡ p.number → Among p.number p.made → Reads by q.seen p.seen p.made → mine by q ≡ mine by p
  mine_met p q one own r = ap (λ n. mine_of by n q.seen) one ∙ mine_read by p.number p.made own q.seen p.seen r
