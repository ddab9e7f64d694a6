-- What a filter keeps of a list.
use Rattle.std.proofs.Common.{◌≡◌, ◌≤◌, Bool, true, false, not, cond, List, [], ◌∷◌, ◌++◌, map, length, refl, sym, ap, ap₂, ◌∙◌, arith}
use Rattle.std.specs.List.{flat_map, filter}
use Rattle.std.proofs.lemmas.List.Elements.{filter-append}
use Rattle.std.proofs.lemmas.List.Filters.{length-filter_both}
use Rattle.tdl_meaning.specs.Proper.{Each}

pub each_filter : {X : Type 0} (P : X → Type 0) (test : X → Bool) (xs : List X) → Each P xs → Each P (filter test xs)
each_filter P test [] all = tt
each_filter P test (x ∷ xs) all = kept x (filter test xs) all.0 (each_filter P test xs all.1) (test x)
  where
    kept : (x : _) (ys : List _) → P x → Each P ys → (b : Bool) → Each P (cond b (x ∷ ys) ys)
    kept x ys h all true = (h, all)
    kept x ys h all false = all

pub length-filter_le : {X : Type 0} (test : X → Bool) (xs : List X) → length (filter test xs) ≤ length xs
length-filter_le test xs = omega (arith, length-filter_both test (λ x. not (test x)) (λ x. refl) xs)

pub filter-flat_map : {X Y : Type 0} (test : Y → Bool) (f : X → List Y) (xs : List X) → filter test (flat_map f xs) ≡ flat_map (λ x. filter test (f x)) xs
filter-flat_map test f [] = refl
filter-flat_map test f (x ∷ xs) = filter-append test (f x) (flat_map f xs) ∙ ap (λ ys. filter test (f x) ++ ys) (filter-flat_map test f xs)

-- where each item gives what passes if it passes, and else what does not
pub flat_map-filter : {X Y : Type 0} (f : X → List Y) (test : X → Bool) (test' : Y → Bool) → ((x : X) → filter test' (f x) ≡ cond (test x) (f x) [])
    → (xs : List X) → flat_map f (filter test xs) ≡ filter test' (flat_map f xs)
flat_map-filter f test test' same [] = refl
flat_map-filter f test test' same (x ∷ xs) =
    step (test x)
    ∙ ap₂ (λ ys zs. ys ++ zs) (sym (same x)) (flat_map-filter f test test' same xs)
    ∙ sym (filter-append test' (f x) (flat_map f xs))
  where
    step : (b : Bool) → flat_map f (cond b (x ∷ filter test xs) (filter test xs)) ≡ cond b (f x) [] ++ flat_map f (filter test xs)
    step true = refl
    step false = refl

pub filter-map_same : {X : Type 0} (test : X → Bool) (f : X → X) → ((x : X) → test (f x) ≡ test x) → (xs : List X)
    → filter test (map f xs) ≡ map f (filter test xs)
filter-map_same test f same [] = refl
filter-map_same test f same (x ∷ xs) =
    ap₂ (λ b ys. cond b (f x ∷ ys) ys) (same x) (filter-map_same test f same xs) ∙ step (test x)
  where
    step : (b : Bool) → cond b (f x ∷ map f (filter test xs)) (map f (filter test xs)) ≡ map f (cond b (x ∷ filter test xs) (filter test xs))
    step true = refl
    step false = refl

-- both answers give the same
pub either_way : {X : Type 0} (b : Bool) (xs : List X) → xs ≡ cond b xs xs
either_way true xs = refl
either_way false xs = refl
