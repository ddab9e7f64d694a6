-- Lists of orbits while they are put.
--     IsListedSoFar         what was put of a list, and whether it has none yet
--     listed_more           an orbit that the list shows
--     listed_less           and one that it does not
--     listed_some, listed_empty    the whole list
--     one_digit, two_digits        the number of an orbit
use Rattle.std.proofs.Common.{◌≡◌, ℕ, zero, suc, ◌+◌, ◌-◌, ◌/◌, ◌%◌, ◌<◌, ◌≤◌, Bool, true, false, cond, List, [], ◌∷◌, ◌++◌, filter, codes, refl, sym, ap, ◌∙◌, subst, arith}
use Rattle.std.proofs.Common.{append_assoc, append-nil}
use Rattle.std.specs.Fmt.{decimal}
use Rattle.std.specs.List.{flat_map, range_with_len}
use Rattle.std.proofs.lemmas.Bool.{false≢true}
use Rattle.std.proofs.lemmas.Fmt.{decimal_digit, decimal_step}
use Rattle.std.proofs.lemmas.Grind.{flat_map-append}
use Rattle.std.proofs.lemmas.List.Elements.{filter-append}
use Rattle.tdl_core.specs.Looks.{after_comma, listed}
use Rattle.tdl_core.specs.inside.Orbits.{so_far}

abbrev pub is_none : List ℕ → Bool
is_none [] = true
is_none (first ∷ others) = false

pub record IsListedSoFar (old new : List ℕ) (is_first : Bool) (shown : List ℕ) : Type 0 where
  pub put : new ≡ old ++ so_far shown
  pub first : is_first ≡ is_none shown

-- one orbit more of those from 1 on
range_more : (a n : ℕ) → range_with_len a (n + 1) ≡ range_with_len a n ++ (a + n) ∷ []
range_more a zero = ap (λ x. x ∷ []) (none a)
  where
    none : (a : ℕ) → a ≡ a + 0
    none a = omega arith
range_more a (suc n) =
    ap (range_with_len a) (count n) ∙ ap (λ xs. a ∷ xs) (range_more (a + 1) n ∙ ap (λ x. range_with_len (a + 1) n ++ x ∷ []) (moved a n))
  where
    count : (n : ℕ) → suc n + 1 ≡ suc (n + 1)
    count n = omega arith

    moved : (a n : ℕ) → (a + 1) + n ≡ a + suc n
    moved a n = omega arith

orbits_more : (orbit : ℕ) → 1 ≤ orbit → range_with_len 1 ((orbit + 1) - 1) ≡ range_with_len 1 (orbit - 1) ++ orbit ∷ []
orbits_more orbit h =
    let count : (orbit + 1) - 1 ≡ (orbit - 1) + 1 = omega arith in
    let here : 1 + (orbit - 1) ≡ orbit = omega arith in
    ap (range_with_len 1) count ∙ range_more 1 (orbit - 1) ∙ ap (λ x. range_with_len 1 (orbit - 1) ++ x ∷ []) here

filter_more : (p : ℕ → Bool) (orbit : ℕ) → 1 ≤ orbit
    → filter p (range_with_len 1 ((orbit + 1) - 1)) ≡ filter p (range_with_len 1 (orbit - 1)) ++ cond (p orbit) (orbit ∷ []) []
filter_more p orbit h = ap (filter p) (orbits_more orbit h) ∙ filter-append p (range_with_len 1 (orbit - 1)) (orbit ∷ [])

so_far_more : (shown : List ℕ) (orbit : ℕ) → is_none shown ≡ false → so_far (shown ++ orbit ∷ []) ≡ so_far shown ++ after_comma orbit
so_far_more [] orbit e = absurd (false≢true (sym e))
so_far_more (first ∷ others) orbit e =
    ap (λ xs. decimal first ++ xs) (flat_map-append after_comma others (orbit ∷ [])
    ∙ ap (λ xs. flat_map after_comma others ++ xs) (append-nil (after_comma orbit)))
    ∙ sym (append_assoc (decimal first) (flat_map after_comma others) (after_comma orbit))

pub listed_more : (p : ℕ → Bool) (orbit : ℕ) (old text new : List ℕ) (is_first : Bool) → 1 ≤ orbit → true ≡ p orbit
    → IsListedSoFar old text is_first (filter p (range_with_len 1 (orbit - 1)))
    → (is_first ≡ true → new ≡ text ++ decimal orbit) → (is_first ≡ false → new ≡ text ++ after_comma orbit)
    → IsListedSoFar old new false (filter p (range_with_len 1 ((orbit + 1) - 1)))
listed_more p orbit old text new is_first h shows so first other =
    subst (IsListedSoFar old new false) (sym (filter_more p orbit h
    ∙ ap (λ (b : Bool). filter p (range_with_len 1 (orbit - 1)) ++ cond b (orbit ∷ []) []) (sym shows)))
    (by (filter p (range_with_len 1 (orbit - 1))) is_first so first other)
  where
    by : (shown : List ℕ) (is_first : Bool) → IsListedSoFar old text is_first shown → (is_first ≡ true → new ≡ text ++ decimal orbit)
        → (is_first ≡ false → new ≡ text ++ after_comma orbit) → IsListedSoFar old new false (shown ++ orbit ∷ [])
    by [] true so first other = record {
      put = first refl ∙ ap (λ t. t ++ decimal orbit) (so.put ∙ append-nil old) ∙ ap (λ xs. old ++ xs) (sym (append-nil (decimal orbit)));
      first = refl;
    }
    by [] false so first other = absurd (false≢true so.first)
    by (x ∷ xs) true so first other = absurd (false≢true (sym so.first))
    by (x ∷ xs) false so first other = record {
      put = other refl ∙ ap (λ t. t ++ after_comma orbit) so.put ∙ append_assoc old (so_far (x ∷ xs)) (after_comma orbit)
          ∙ ap (λ t. old ++ t) (sym (so_far_more (x ∷ xs) orbit refl));
      first = refl;
    }

pub listed_less : (p : ℕ → Bool) (orbit : ℕ) (old text : List ℕ) (is_first : Bool) → 1 ≤ orbit → false ≡ p orbit
    → IsListedSoFar old text is_first (filter p (range_with_len 1 (orbit - 1)))
    → IsListedSoFar old text is_first (filter p (range_with_len 1 ((orbit + 1) - 1)))
listed_less p orbit old text is_first h hides so =
    subst (IsListedSoFar old text is_first)
    (sym (filter_more p orbit h ∙ ap (λ (b : Bool). filter p (range_with_len 1 (orbit - 1)) ++ cond b (orbit ∷ []) []) (sym hides)
    ∙ append-nil (filter p (range_with_len 1 (orbit - 1)))))
    so

-- ---- the whole list
pub listed_some : (old text : List ℕ) (shown : List ℕ) → IsListedSoFar old text false shown → text ≡ old ++ listed shown
listed_some old text [] so = absurd (false≢true so.first)
listed_some old text (x ∷ xs) so = so.put

pub listed_empty : (old text new : List ℕ) (shown : List ℕ) → IsListedSoFar old text true shown → new ≡ text ++ codes "-" → new ≡ old ++ listed shown
listed_empty old text new [] so is = is ∙ ap (λ t. t ++ codes "-") (so.put ∙ append-nil old)
listed_empty old text new (x ∷ xs) so is = absurd (false≢true (sym so.first))

-- ---- the number of an orbit
pub one_digit : (orbit : ℕ) (text new : List ℕ) → orbit < 10 → new ≡ text ++ (48 + orbit) ∷ [] → new ≡ text ++ decimal orbit
one_digit orbit text new small is = is ∙ ap (λ ds. text ++ ds) (sym (decimal_digit orbit small))

of_two : (orbit : ℕ) → 10 ≤ orbit → orbit ≤ 16 → decimal orbit ≡ 49 ∷ (48 + (orbit - 10)) ∷ []
of_two orbit from to =
    let tens : orbit / 10 ≡ 1 = omega arith in
    let ones : orbit % 10 ≡ orbit - 10 = omega arith in
    rw (decimal_step orbit from (omega arith), tens, ones, decimal_digit 1 (omega arith)) refl

pub two_digits : (orbit : ℕ) (text mid new : List ℕ) → 10 ≤ orbit → orbit ≤ 16 → mid ≡ text ++ 49 ∷ [] → new ≡ mid ++ (48 + (orbit - 10)) ∷ []
    → new ≡ text ++ decimal orbit
two_digits orbit text mid new from to first second =
    second ∙ ap (λ t. t ++ (48 + (orbit - 10)) ∷ []) first ∙ append_assoc text (49 ∷ []) ((48 + (orbit - 10)) ∷ [])
    ∙ ap (λ ds. text ++ ds) (sym (of_two orbit from to))
