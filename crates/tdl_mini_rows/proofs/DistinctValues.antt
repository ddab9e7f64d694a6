-- The distinct numbers among some: no more than there are, no two of them the same, each of the numbers among them,
-- and their indices.
use Rattle.std.proofs.Common.{◌≡◌, ℕ, zero, suc, ◌+◌, ◌<◌, ◌≤◌, Bool, true, false, nat_lt, nat_eq, if◌then◌else◌, List, [], ◌∷◌, ◌++◌, length, get_or}
use Rattle.std.proofs.Common.{IsTrue, refl, ap, ◌∙◌, arith, length-append}
use Rattle.std.specs.List.{AllPairs, fold, list_all}
use Rattle.std.proofs.lemmas.Bool.{eq-eqb, ltb-true, lt-ltb, and_from}
use Rattle.std.proofs.lemmas.List.Quantifiers.{all_pairs_push}
use Rattle.tdl_fraction.specs.Rational.{Rational}
use Rattle.std.specs.Ordering.{int_eq}
use Rattle.std.proofs.lemmas.Cmp.{int_eq_equiv}
use Rattle.tdl_fraction.specs.Same.{same_ℚ}
use Rattle.tdl_mini_rows.specs.Leaves.{and_distinct, distinct, index_in}
use Rattle.tdl_rows.specs.Arguments.{Differ}

abbrev pub is_among : List Rational → Rational → Bool
is_among values value = nat_lt (index_in values value) (length values)

same-refl : (x : Rational) → same_ℚ x x ≡ true
same-refl x = and_from (int_eq x.num x.num) (nat_eq x.den x.den) (int_eq_equiv.refl x.num) (eq-eqb x.den x.den refl)

-- ---- no more than there are
pub next-few : (values : List Rational) (x : Rational) → length (and_distinct values x) ≤ length values + 1
next-few values x = by (is_among values x)
  where
    by : (b : Bool) → length (if b then values else values ++ x ∷ []) ≤ length values + 1
    by true = omega arith
    by false = omega (arith, length-append values (x ∷ []))

distinct-few : (values more : List Rational) → length (fold and_distinct values more) ≤ length values + length more
distinct-few values [] = omega arith
distinct-few values (x ∷ more) = omega (arith, distinct-few (and_distinct values x) more, next-few values x)

pub length-distinct : (values : List Rational) → length (distinct values) ≤ length values
length-distinct values = omega (arith, distinct-few [] values)

-- ---- no two the same
found : (values : List Rational) (value : Rational) (k : ℕ) (d : Rational) → k < length values → get_or values k d ≡ value
    → index_in values value < length values
found [] value k d h e = absurd (omega arith)
found (x ∷ values) value zero d h e = by (same_ℚ value x) (ap (λ (y : Rational). same_ℚ value y) e ∙ same-refl value)
  where
    by : (b : Bool) → b ≡ true → (if b then 0 else suc (index_in values value)) < suc (length values)
    by true f = omega arith
    by false f = (cc)
found (x ∷ values) value (suc k) d h e = by (same_ℚ value x) (found values value k d (omega arith) e)
  where
    by : (b : Bool) → index_in values value < length values → (if b then 0 else suc (index_in values value)) < suc (length values)
    by true f = omega arith
    by false f = omega arith

distinct_pairs : (values : List Rational) (x : Rational) → AllPairs Differ values → AllPairs Differ (and_distinct values x)
distinct_pairs values x h = by (is_among values x) refl
  where
    by : (b : Bool) → is_among values x ≡ b → AllPairs Differ (if b then values else values ++ x ∷ [])
    by true e = h
    by false e = all_pairs_push Differ values x h (λ k d lt same. let yes : IsTrue (is_among values x) = lt-ltb _ _ (found values x k d lt same) in (cc))

fold_pairs : (values more : List Rational) → AllPairs Differ values → AllPairs Differ (fold and_distinct values more)
fold_pairs values [] h = h
fold_pairs values (x ∷ more) h = fold_pairs (and_distinct values x) more (distinct_pairs values x h)

pub distinct_differ : (values : List Rational) → AllPairs Differ (distinct values)
distinct_differ values = fold_pairs [] values (λ i j d lt h. absurd (omega arith))

-- ---- each is among them
index-append : (values more : List Rational) (value : Rational) → index_in values value < length values
    → index_in (values ++ more) value ≡ index_in values value
index-append [] more value h = absurd (omega arith)
index-append (x ∷ values) more value h = by (same_ℚ value x) h (λ k. index-append values more value k)
  where
    by : (b : Bool) → (if b then 0 else suc (index_in values value)) < suc (length values)
        → (index_in values value < length values → index_in (values ++ more) value ≡ index_in values value) →
        (if b then 0 else suc (index_in (values ++ more) value)) ≡ (if b then 0 else suc (index_in values value))
    by true k f = refl
    by false k f = ap suc (f (omega arith))

index-last : (values : List Rational) (x : Rational) → index_in (values ++ x ∷ []) x < length (values ++ x ∷ [])
index-last values x = found (values ++ x ∷ []) x (length values) x (omega (arith, length-append values (x ∷ []))) (last values)
  where
    last : (xs : List Rational) → get_or (xs ++ x ∷ []) (length xs) x ≡ x
    last [] = refl
    last (y ∷ xs) = last xs

stays_among : (values : List Rational) (x y : Rational) → IsTrue (is_among values y) → IsTrue (is_among (and_distinct values x) y)
stays_among values x y h = by (is_among values x)
  where
    by : (b : Bool) → IsTrue (is_among (if b then values else values ++ x ∷ []) y)
    by true = h
    by false = lt-ltb _ _ (omega (arith, ltb-true _ _ h, index-append values (x ∷ []) y (ltb-true _ _ h), length-append values (x ∷ [])))

pub comes_among : (values : List Rational) (x : Rational) → IsTrue (is_among (and_distinct values x) x)
comes_among values x = by (is_among values x) refl
  where
    by : (b : Bool) → is_among values x ≡ b → IsTrue (is_among (if b then values else values ++ x ∷ []) x)
    by true e = e
    by false e = lt-ltb _ _ (index-last values x)

-- an index stays while further numbers come
pub index-next : (values more : List Rational) (y : Rational) → IsTrue (is_among values y)
    → index_in (fold and_distinct values more) y ≡ index_in values y
index-next values [] y h = refl
index-next values (x ∷ more) y h = index-next (and_distinct values x) more y (stays_among values x y h) ∙ by (is_among values x)
  where
    by : (b : Bool) → index_in (if b then values else values ++ x ∷ []) y ≡ index_in values y
    by true = refl
    by false = index-append values (x ∷ []) y (ltb-true _ _ h)

fold_among : (values more : List Rational) (y : Rational) → IsTrue (is_among values y) → IsTrue (is_among (fold and_distinct values more) y)
fold_among values [] y h = h
fold_among values (x ∷ more) y h = fold_among (and_distinct values x) more y (stays_among values x y h)

all_among : (values more : List Rational) → IsTrue (list_all (is_among (fold and_distinct values more)) more)
all_among values [] = refl
all_among values (x ∷ more) =
    let all = fold and_distinct (and_distinct values x) more in
    and_from (is_among all x) (list_all (is_among all) more) (fold_among (and_distinct values x) more x (comes_among values x))
    (all_among (and_distinct values x) more)

pub among_distinct : (values : List Rational) → IsTrue (list_all (is_among (distinct values)) values)
among_distinct values = all_among [] values
