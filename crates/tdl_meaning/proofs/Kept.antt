-- A list that is filtered in place from some place on.
use Rattle.std.proofs.Common.{◌≡◌, ℕ, ◌+◌, ◌<◌, ◌≤◌, Bool, true, false, cond, List, [], ◌∷◌, ◌++◌, take, drop, length, get_or, set}
use Rattle.std.proofs.Common.{refl, sym, ap, ap₂, ◌∙◌, arith, append-nil, append_assoc, length-set}
use Rattle.std.specs.List.{filter, SwappedAt}
use Rattle.std.proofs.lemmas.List.{take_all, take_more, take-set, take-set-le, drop-set-lt, drop-append-le, drop_all, length-take-le, get_or-drop, drop_more}
use Rattle.std.proofs.lemmas.List.Elements.{filter-append}

-- ys began as xs. Before place k it has what comes before place from, and what of the items from there up to place i passes the test;
-- from place i on it is as it was
pub record KeepsFrom {X : Type 0} (test : X → Bool) (from : ℕ) (xs ys : List X) (k i : ℕ) : Type 0 where
  pub front : take k ys ≡ take from xs ++ filter test (drop from (take i xs))
  pub rest : drop i ys ≡ drop i xs
  pub behind : k ≤ i
  pub long : length ys ≡ length xs

module _ {X : Type 0} (test : X → Bool) (from : ℕ) (xs : List X) (h : from ≤ length xs) where
  pub none_kept : KeepsFrom test from xs xs from from
  none_kept = record {
    front = sym (ap (λ es. take from xs ++ filter test es) (drop_all from (take from xs) (omega (arith, length-take-le from xs h)))
        ∙ append-nil (take from xs));
    rest = refl;
    behind = omega arith;
    long = refl;
  }

  module _ (ys : List X) (k i : ℕ) (kept : KeepsFrom test from xs ys k i) where
    pub all_kept : (out : List X) → length xs ≤ i → out ≡ take k ys → out ≡ take from xs ++ filter test (drop from xs)
    all_kept out end is = is ∙ kept.front ∙ ap (λ es. take from xs ++ filter test (drop from es)) (take_all i xs end)

    module _ (x : X) (after : from ≤ i) (within : i < length xs) (is : x ≡ get_or ys i x) where
      -- the item is the one that was there from the beginning
      was : x ≡ get_or xs i x
      was =
          is ∙ ap (λ n. get_or ys n x) here ∙ sym (get_or-drop i ys 0 x) ∙ ap (λ es. get_or es 0 x) kept.rest ∙ get_or-drop i xs 0 x
          ∙ ap (λ n. get_or xs n x) (sym here)
        where
          here : i ≡ i + 0
          here = omega arith

      one_more : drop from (take (i + 1) xs) ≡ drop from (take i xs) ++ x ∷ []
      one_more =
          let long : from ≤ length (take i xs) = omega (arith, length-take-le i xs (omega arith)) in
          ap (drop from) (take_more xs i x within) ∙ drop-append-le from (take i xs) _ long ∙ ap (λ y. drop from (take i xs) ++ y ∷ []) (sym was)

      passed : filter test (drop from (take (i + 1) xs)) ≡ filter test (drop from (take i xs)) ++ cond (test x) (x ∷ []) []
      passed = ap (filter test) one_more ∙ filter-append test (drop from (take i xs)) (x ∷ [])

      shorter : (zs : List X) → drop i zs ≡ drop i xs → length zs ≡ length xs → drop (i + 1) zs ≡ drop (i + 1) xs
      shorter zs same long =
          tail (drop (i + 1) zs) (drop (i + 1) xs)
          (sym (drop_more zs i x (omega (arith, long))) ∙ same ∙ drop_more xs i x within)
        where
          tail : {a b : X} (left right : List X) → a ∷ left ≡ b ∷ right → left ≡ right
          tail left right e = cc

      pub is_left : test x ≡ false → KeepsFrom test from xs ys k (i + 1)
      is_left fails = record {
        front = kept.front ∙ ap (λ es. take from xs ++ es)
            (sym (passed ∙ ap (λ b. filter test (drop from (take i xs)) ++ cond b (x ∷ []) []) fails ∙ append-nil _));
        rest = shorter ys kept.rest kept.long;
        behind = omega (arith, kept.behind);
        long = kept.long;
      }

      pub is_kept : test x ≡ true → (zs : List X) → SwappedAt ys zs k i → KeepsFrom test from xs zs (k + 1) (i + 1)
      is_kept passes zs swapped =
          let swap = swapped.3 x in
          let behind = kept.behind in
          let all : length zs ≡ length ys = ap length swap ∙ length-set (set ys k (get_or ys i x)) i _ ∙ length-set ys k _ in
          let before : take k zs ≡ take k ys =
          ap (take k) swap ∙ take-set-le k (set ys k (get_or ys i x)) i _ behind ∙ take-set ys k _ in
          let item : get_or zs k x ≡ x = swapped.0 x ∙ sym is in
          let end : drop (i + 1) zs ≡ drop (i + 1) ys =
          ap (drop (i + 1)) swap ∙ drop-set-lt (i + 1) (set ys k (get_or ys i x)) i _ (omega arith) ∙ drop-set-lt (i + 1) ys k _ (omega arith) in
          record {
            front = take_more zs k x (omega (arith, all, kept.long)) ∙ ap₂ (λ es y. es ++ y ∷ []) (before ∙ kept.front) item
                ∙ append_assoc (take from xs) _ _
                ∙ ap (λ es. take from xs ++ es) (sym (passed ∙ ap (λ b. filter test (drop from (take i xs)) ++ cond b (x ∷ []) []) passes));
            rest = end ∙ shorter ys kept.rest kept.long;
            behind = omega (arith, behind);
            long = all ∙ kept.long;
          }
