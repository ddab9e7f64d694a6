-- What trees that are made of others mean: later by a time, at a rate, by turns, chosen, and at the hits of a rhythm.
use Rattle.std.proofs.Common.{◌≡◌, ◌≢◌, ◌⊎◌, inl, inr, ℕ, zero, suc, ◌<◌, Bool, true, false, if◌then◌else◌, cond, nat_eq, List, [], ◌∷◌, ◌++◌}
use Rattle.std.proofs.Common.{map, length, ℤ, pos, nat_abs, refl, sym, ap, ap₂, ◌∙◌, append-nil, subst, arith}
use Rattle.std.specs.List.{flat_map, fold, list_all}
use Rattle.std.proofs.lemmas.Bool.{and_parts, and_from, eqb-true, eq-eqb}
use Rattle.std.proofs.lemmas.Bool.Decides.{Decides-int_eq}
use Rattle.std.proofs.lemmas.Cmp.{int_eq_equiv}
use Rattle.std.specs.Ordering.{int_eq}
use Rattle.std.proofs.lemmas.List.{append_assoc}
use Rattle.tdl_fraction.specs.Rational.{Rational, whole, neg_ℚ, inverse, lt_ℚ, ◌<ℚ◌}
use Rattle.tdl_fraction.specs.Same.{same_ℚ}
use Rattle.tdl_fraction.proofs.Euclid.{gcd-one}
use Rattle.tdl_fraction.proofs.Over.{frac_num_lowest, same_parts, lt_ℚ-true, lt_ℚ-false}
use Rattle.tdl_fraction.proofs.Field.{frac-one, neg_ℚ-neg_ℚ, whole-neg}
use Rattle.tdl_fraction.proofs.Order.{≤ℚ_refl, ≤ℚ_from_<ℚ, neg_lt}
use Rattle.tdl_event.specs.Event.{Event}
use Rattle.tdl_expr.specs.Tree as tree
use Rattle.tdl_expr.specs.Tree.{Tree, Silence, TimeCat, Cat}
use Rattle.tdl_expr.specs.EqualShares.{equal_steps}
use Rattle.tdl_expr.specs.Valid.{IsValid}
use Rattle.tdl_meaning.specs.Pattern.{moved, silence, fast, squeezed, time_cat, cat, rev, pick}
use Rattle.tdl_meaning.specs.Kinds.{shift}
use Rattle.tdl_meaning.specs.Meaning.{cyc, patterns, weighted}
use Rattle.tdl_meaning.specs.Proper.{ProperLaw}
use Rattle.tdl_meaning.specs.PatternLaws.{AreSame, RateLaws, MixLaws, beat, hits}
use Rattle.tdl_rows.specs.Built.{Built, kept, one_row, ◌▸◌, and_next, each}
use Rattle.tdl_rows.specs.Joined.{trees_from, joins, cat_of, faster, fast_of, slow_of, picked, pick_of, choose, rest_of, rhythm_of}
use Rattle.tdl_rows.proofs.RateRows.{fast-negative, fast-zero}
use Rattle.tdl_combinator.specs.Makings.{later_of}

pub whole-num : (n : ℤ) → (whole n).num ≡ n
whole-num n = ap (λ (q : Rational). q.num) (sym (frac-one n)) ∙ frac_num_lowest n 1 (omega arith) (gcd-one (nat_abs n))

same_numbers : (p q : Rational) → same_ℚ p q ≡ true → p ≡ q
same_numbers p q e =
    let h = and_parts _ _ e in
    same_parts p q ((Decides-int_eq p.num q.num).0 h.0) (eqb-true p.den q.den h.1)

same_itself : (x : Rational) → same_ℚ x x ≡ true
same_itself x = and_from (int_eq x.num x.num) (nat_eq x.den x.den) (int_eq_equiv.refl x.num) (eq-eqb x.den x.den refl)

-- ---- later by a time, and at a rate
module _ (rates : RateLaws) (valid : ProperLaw) where
  pub later_value : (t : Rational) (p : Tree) → IsValid p → AreSame (cyc (later_of t p).value) (shift t (cyc p))
  later_value t p is c = by (same_ℚ t (whole (pos 0))) refl
    where
      by : (b : Bool) → same_ℚ t (whole (pos 0)) ≡ b → cyc (if b then kept p else one_row 1 (tree.Shift t p)).value c ≡ shift t (cyc p) c
      by true e = sym (ap (λ (u : Rational). shift u (cyc p) c) (same_numbers t (whole (pos 0)) e) ∙ rates.by_no_time (cyc p) (valid p is) c)
      by false e = refl

  faster_value : (r : Rational) (p : Tree) → IsValid p → AreSame (cyc (faster r p).value) (fast r (cyc p))
  faster_value r p is c = by (same_ℚ r (whole (pos 1))) refl
    where
      by : (b : Bool) → same_ℚ r (whole (pos 1)) ≡ b → cyc (if b then kept p else one_row 1 (tree.Fast r p)).value c ≡ fast r (cyc p) c
      by true e = sym (ap (λ (u : Rational). fast u (cyc p) c) (same_numbers r (whole (pos 1)) e) ∙ rates.at_rate_one (cyc p) (valid p is) c)
      by false e = refl

  fast_above : (r : Rational) (p : Tree) → whole (pos 0) <ℚ r → fast_of r p ≡ faster r p
  fast_above r p h = let above = (lt_ℚ-true (whole (pos 0)) r).1 h in rw above refl

  pub fast_value : (r : Rational) (p : Tree) → whole (pos 0) <ℚ r → IsValid p → AreSame (cyc (fast_of r p).value) (fast r (cyc p))
  fast_value r p h is c = ap (λ (b : Built Tree). cyc b.value c) (fast_above r p h) ∙ faster_value r p is c

  -- below 0 turned round
  pub turned_value : (r : Rational) (p : Tree) → whole (pos 0) <ℚ r → IsValid p → AreSame (cyc (fast_of (neg_ℚ r) p).value) (rev (fast r (cyc p)))
  unfolding rev
  turned_value r p h is c =
      ap (λ (b : Built Tree). cyc b.value c) (fast-negative (neg_ℚ r) p below above)
      ∙ ap (λ (q : Rational). cyc (faster q p ▸ λ f. one_row 1 (tree.Rev f)).value c) (neg_ℚ-neg_ℚ r)
      ∙ ap (λ (es : List Event). rev (λ d. es) c) (faster_value r p is c)
    where
      beneath : neg_ℚ r <ℚ whole (pos 0)
      beneath = subst (λ x. neg_ℚ r <ℚ x) (sym (whole-neg (pos 0))) ((neg_lt (whole (pos 0)) r).0 h)

      below : lt_ℚ (whole (pos 0)) (neg_ℚ r) ≡ false
      below = (lt_ℚ-false (whole (pos 0)) (neg_ℚ r)).1 (≤ℚ_from_<ℚ beneath)

      above : lt_ℚ (whole (pos 0)) (neg_ℚ (neg_ℚ r)) ≡ true
      above = ap (lt_ℚ (whole (pos 0))) (neg_ℚ-neg_ℚ r) ∙ (lt_ℚ-true (whole (pos 0)) r).1 h

-- slower by a rate is at one over it
pub slow_value : (r : Rational) (p : Tree) → r ≢ whole (pos 0) → AreSame (cyc (slow_of r p).value) (cyc (fast_of (inverse r) p).value)
slow_value r p apart c = by (same_ℚ r (whole (pos 0))) refl
  where
    by : (b : Bool) → same_ℚ r (whole (pos 0)) ≡ b
        → cyc (if b then one_row 0 Silence else fast_of (inverse r) p).value c ≡ cyc (fast_of (inverse r) p).value c
    by true e = absurd (apart (same_numbers r (whole (pos 0)) e))
    by false e = refl

-- at rate 0, and slower by it, nothing
pub still_value : (p : Tree) (c : ℤ) → cyc (fast_of (whole (pos 0)) p).value c ≡ silence c
still_value p c = ap (λ (b : Built Tree). cyc b.value c) (fast-zero (whole (pos 0)) p below turned)
  where
    below : lt_ℚ (whole (pos 0)) (whole (pos 0)) ≡ false
    below = (lt_ℚ-false (whole (pos 0)) (whole (pos 0))).1 (≤ℚ_refl (whole (pos 0)))

    turned : lt_ℚ (whole (pos 0)) (neg_ℚ (whole (pos 0))) ≡ false
    turned = ap (lt_ℚ (whole (pos 0))) (sym (whole-neg (pos 0))) ∙ below

pub slow_by_zero : (p : Tree) (c : ℤ) → cyc (slow_of (whole (pos 0)) p).value c ≡ silence c
slow_by_zero p c = ap (λ (b : Bool). cyc (if b then one_row 0 Silence else fast_of (inverse (whole (pos 0))) p).value c) (same_itself (whole (pos 0)))

-- ---- several trees
pub patterns_from : (ts : List Tree) → patterns (trees_from ts) ≡ map cyc ts
patterns_from [] = refl
patterns_from (t ∷ ts) = ap (λ ps. cyc t ∷ ps) (patterns_from ts)

joins_value : (n : ℕ) (t : Tree) → (joins n t).value ≡ t
joins_value zero t = refl
joins_value (suc zero) t = refl
joins_value (suc (suc n)) t = refl

each_from : {A B : Type 0} (f : A → Built B) (built : Built (List B)) (xs : List A)
    → (fold (and_next f) built xs).value ≡ built.value ++ map (λ x. (f x).value) xs
each_from f built [] = sym (append-nil built.value)
each_from f built (x ∷ xs) = each_from f (and_next f built x) xs ∙ append_assoc built.value ((f x).value ∷ []) (map (λ x. (f x).value) xs)

pub each_value : {A B : Type 0} (f : A → Built B) (xs : List A) → (each f xs).value ≡ map (λ x. (f x).value) xs
each_value f xs = each_from f (kept []) xs

module _ (mixes : MixLaws) where
  -- a cycle of each in turn, also of one tree
  pub turns_value : (ts : List Tree) → 0 < length ts → AreSame (cyc (cat_of ts).value) (cat (map cyc ts))
  turns_value [] some c = absurd (omega (arith, some))
  turns_value (t ∷ []) some c = sym (mixes.one_turn (cyc t) c)
  turns_value (t ∷ u ∷ ts) some c =
      ap (λ (v : Tree). cyc v c) (joins_value (length (t ∷ u ∷ ts)) (Cat (trees_from (t ∷ u ∷ ts))))
      ∙ ap (λ ps. cat ps c) (patterns_from (t ∷ u ∷ ts))

  -- among no values there is no choice
  pub choice_value : (selector : Tree) (values : List Rational) (f : Rational → Built Tree)
      → AreSame (cyc (choose (picked selector values) f).value) (pick (cyc selector) (map (λ v. cyc (f v).value) values))
  choice_value selector values f c =
      ap (λ ts. cyc (pick_of selector ts).value c) (each_value f values) ∙ among (map (λ v. (f v).value) values)
      ∙ ap (λ ps. pick (cyc selector) ps c) (each_tree values)
    where
      among : (ts : List Tree) → cyc (pick_of selector ts).value c ≡ pick (cyc selector) (map cyc ts) c
      among [] = sym (mixes.no_choice (cyc selector) c)
      among (t ∷ ts) = ap (λ ps. pick (cyc selector) (cyc t ∷ ps) c) (patterns_from ts)

      each_tree : (vs : List Rational) → map cyc (map (λ v. (f v).value) vs) ≡ map (λ v. cyc (f v).value) vs
      each_tree [] = refl
      each_tree (v ∷ vs) = ap (λ ps. cyc (f v).value ∷ ps) (each_tree vs)

  -- ---- at the hits of a rhythm
  -- with what stands for rests silent, or with no rest
  shares_are : (p rest : Tree) (beats : List Bool) → (rest ≡ Silence) ⊎ (list_all (λ hit. hit) beats ≡ true)
      → weighted (equal_steps (map (λ hit. cond hit p rest) beats)) ≡ map (beat (cyc p)) beats
  shares_are p rest [] silent = refl
  shares_are p rest (true ∷ beats) silent = ap (λ steps. record { weight = 1; pattern = cyc p } ∷ steps) (shares_are p rest beats silent)
  shares_are p rest (false ∷ beats) (inl e) =
      ap₂ (λ (r : Tree) steps. record { weight = 1; pattern = cyc r } ∷ steps) e (shares_are p rest beats (inl e))
  shares_are p rest (false ∷ beats) (inr e) = cc

  silent_rest : (p : Tree) (beats : List Bool) → ((rest_of p beats).value ≡ Silence) ⊎ (list_all (λ hit. hit) beats ≡ true)
  silent_rest p beats = by (list_all (λ hit. hit) beats) refl
    where
      by : (b : Bool) → list_all (λ hit. hit) beats ≡ b
          → ((if b then kept p else one_row 0 Silence).value ≡ Silence) ⊎ (list_all (λ hit. hit) beats ≡ true)
      by true e = inr e
      by false e = inl refl

  pub rhythm_value : (p : Tree) (beats : List Bool) (c : ℤ)
      → cyc (rhythm_of p beats).value c ≡ flat_map (λ i. map (moved (squeezed c i 1 (length beats))) (cyc p c)) (hits beats)
  unfolding silence
  rhythm_value p [] c = refl
  rhythm_value p (true ∷ []) c = sym (mixes.one_step 1 (cyc p) (omega arith) c) ∙ mixes.rhythm (cyc p) (true ∷ []) c
  rhythm_value p (false ∷ []) c = refl
  rhythm_value p (a ∷ b ∷ beats) c =
      let all = a ∷ b ∷ beats in
      let rest = (rest_of p all).value in
      ap (λ (v : Tree). cyc v c) (joins_value (length (map (λ hit. cond hit p rest) all)) (TimeCat (equal_steps (map (λ hit. cond hit p rest) all))))
      ∙ ap (λ steps. time_cat steps c) (shares_are p rest all (silent_rest p all))
      ∙ mixes.rhythm (cyc p) all c
