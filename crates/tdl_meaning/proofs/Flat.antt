-- Lists of lists, and runs of whole numbers.
use Rattle.std.proofs.Common.{◌≡◌, ℕ, zero, suc, ◌+◌, List, [], ◌∷◌, ◌++◌, map, ℤ, pos, ◌+ℤ◌, ◌-ℤ◌, ◌≤ℤ◌, ◌<ℤ◌, nat_abs, refl, ap, ap₂, ◌∙◌}
use Rattle.std.proofs.Common.{append-nil, subst, arith}
use Rattle.std.specs.List.{flat_map}
use Rattle.std.proofs.lemmas.Int.{ints}
use Rattle.std.proofs.lemmas.List.{map-append}
use Rattle.std.proofs.lemmas.Grind.{flat_map-append}
use Rattle.tdl_meaning.specs.Pattern.{whole_range}
use Rattle.tdl_meaning.specs.Proper.{Each}
use Rattle.tdl_meaning.proofs.Lists.{each_in_range}

pub flat_map-flat_map : {X Y Z : Type 0} (g : Y → List Z) (f : X → List Y) (xs : List X) → flat_map g (flat_map f xs) ≡ flat_map (λ x. flat_map g (f x)) xs
flat_map-flat_map g f [] = refl
flat_map-flat_map g f (x ∷ xs) = flat_map-append g (f x) (flat_map f xs) ∙ ap (λ t. flat_map g (f x) ++ t) (flat_map-flat_map g f xs)

pub map-flat_map : {X Y Z : Type 0} (g : Y → Z) (f : X → List Y) (xs : List X) → map g (flat_map f xs) ≡ flat_map (λ x. map g (f x)) xs
map-flat_map g f [] = refl
map-flat_map g f (x ∷ xs) = map-append g (f x) (flat_map f xs) ∙ ap (λ t. map g (f x) ++ t) (map-flat_map g f xs)

pub flat_map_same : {X Y : Type 0} (f g : X → List Y) → ((x : X) → f x ≡ g x) → (xs : List X) → flat_map f xs ≡ flat_map g xs
flat_map_same f g same [] = refl
flat_map_same f g same (x ∷ xs) = ap₂ (λ s t. s ++ t) (same x) (flat_map_same f g same xs)

-- the same where each item has a property
pub flat_map_same_each : {X Y : Type 0} (P : X → Type 0) (f g : X → List Y) → ((x : X) → P x → f x ≡ g x) → (xs : List X) → Each P xs
    → flat_map f xs ≡ flat_map g xs
flat_map_same_each P f g same [] all = refl
flat_map_same_each P f g same (x ∷ xs) all = ap₂ (λ s t. s ++ t) (same x all.0) (flat_map_same_each P f g same xs all.1)

pub flat_map_nothing : {X Y : Type 0} (f : X → List Y) (xs : List X) → Each (λ x. f x ≡ []) xs → flat_map f xs ≡ []
flat_map_nothing f [] all = refl
flat_map_nothing f (x ∷ xs) all = ap₂ (λ s t. s ++ t) all.0 (flat_map_nothing f xs all.1)

pub each_of_all : {X : Type 0} (P : X → Type 0) → ((x : X) → P x) → (xs : List X) → Each P xs
each_of_all P all [] = tt
each_of_all P all (x ∷ xs) = (all x, each_of_all P all xs)

-- ---- runs of whole numbers
pub whole_range-append : (first : ℤ) (n m : ℕ) → whole_range first (n + m) ≡ whole_range first n ++ whole_range (first +ℤ pos n) m
whole_range-append first zero m =
    let none : zero + m ≡ m = omega arith in
    let same : first ≡ first +ℤ pos 0 = omega (arith, ints) in
    ap (whole_range first) none ∙ ap (λ z. whole_range z m) same
whole_range-append first (suc n) m =
    let one_more : suc n + m ≡ suc (n + m) = omega arith in
    let same : (first +ℤ pos 1) +ℤ pos n ≡ first +ℤ pos (suc n) = omega (arith, ints) in
    ap (whole_range first) one_more
    ∙ ap (λ t. first ∷ t) (whole_range-append (first +ℤ pos 1) n m ∙ ap (λ z. whole_range (first +ℤ pos 1) n ++ whole_range z m) same)

-- a run in which each number gives nothing
nothing_in_range : {X : Type 0} (g : ℤ → List X) (first : ℤ) (n : ℕ) → ((c : ℤ) → first ≤ℤ c → c <ℤ (first +ℤ pos n) → g c ≡ [])
    → flat_map g (whole_range first n) ≡ []
nothing_in_range g first n none = flat_map_nothing g (whole_range first n) (each_in_range (λ c. g c ≡ []) first n none)

-- what is given from x up to y alone is given by each run that has these numbers
pub flat_map_within : {X : Type 0} (g : ℤ → List X) (x y first : ℤ) (n : ℕ) → first ≤ℤ x → x ≤ℤ y → y ≤ℤ (first +ℤ pos n)
    → ((c : ℤ) → c <ℤ x → g c ≡ []) → ((c : ℤ) → y ≤ℤ c → g c ≡ [])
    → flat_map g (whole_range first n) ≡ flat_map g (whole_range x (nat_abs (y -ℤ x)))
flat_map_within g x y first n low between high none_before none_after =
    let before = nat_abs (x -ℤ first) in
    let within = nat_abs (y -ℤ x) in
    let after = nat_abs ((first +ℤ pos n) -ℤ y) in
    let at_x = start x first low in
    let at_y = start y x between in
    let front = nothing_in_range g first before (λ c from to. none_before c (subst (λ z. c <ℤ z) at_x to)) in
    let back = nothing_in_range g (x +ℤ pos within) after (λ c from to. none_after c (subst (λ z. z ≤ℤ c) at_y from)) in
    ap (λ k. flat_map g (whole_range first k)) (parts x y first n low between high)
    ∙ ap (flat_map g) (whole_range-append first before (within + after))
    ∙ flat_map-append g (whole_range first before) (whole_range (first +ℤ pos before) (within + after))
    ∙ ap₂ (λ s t. s ++ t) front (ap (λ z. flat_map g (whole_range z (within + after))) at_x)
    ∙ ap (flat_map g) (whole_range-append x within after)
    ∙ flat_map-append g (whole_range x within) (whole_range (x +ℤ pos within) after)
    ∙ ap (λ t. flat_map g (whole_range x within) ++ t) back
    ∙ append-nil (flat_map g (whole_range x within))
  where
    parts : (x y first : ℤ) (n : ℕ) → first ≤ℤ x → x ≤ℤ y → y ≤ℤ (first +ℤ pos n)
        → n ≡ nat_abs (x -ℤ first) + (nat_abs (y -ℤ x) + nat_abs ((first +ℤ pos n) -ℤ y))
    parts x y first n low between high = omega (arith, ints)

    start : (x first : ℤ) → first ≤ℤ x → first +ℤ pos (nat_abs (x -ℤ first)) ≡ x
    start x first low = omega (arith, ints)
