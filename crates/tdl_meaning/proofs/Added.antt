-- Items that are added at the end of a list, and what is done with them there.
use Rattle.std.proofs.Common.{◌≡◌, ℕ, ◌+◌, ◌<◌, ◌≤◌, List, [], ◌∷◌, ◌++◌, take, length, get_or}
use Rattle.std.proofs.Common.{refl, sym, ap, ◌∙◌, arith, append-nil, append_assoc, length-append}
use Rattle.std.specs.List.{flat_map, range_with_len}
use Rattle.std.proofs.lemmas.Grind.{flat_map-append}
use Rattle.std.proofs.lemmas.List.{take_more, take_all}
use Rattle.tdl_meaning.proofs.PlainLemmas.{range_more}

module _ {X : Type 0} (old new more : List X) (from : ℕ) (at : from ≡ length old) (added : new ≡ old ++ more) where
  pub from_within : from ≤ length new
  from_within = omega (arith, at, ap length added, length-append old more)

pub more_added : {X : Type 0} (old new out done more all : List X) → new ≡ old ++ done → out ≡ new ++ more → done ++ more ≡ all → out ≡ old ++ all
more_added old new out done more all before now is = now ∙ ap (λ xs. xs ++ more) before ∙ append_assoc old done more ∙ ap (λ xs. old ++ xs) is

pub nothing_added : {X : Type 0} (old more : List X) → more ≡ [] → old ≡ old ++ more
nothing_added old more none = sym (append-nil old) ∙ ap (λ xs. old ++ xs) (sym none)

pub flat_one_more : {X Y : Type 0} (f : X → List Y) (xs : List X) (i : ℕ) (d : X) → i < length xs
    → flat_map f (take i xs) ++ f (get_or xs i d) ≡ flat_map f (take (i + 1) xs)
flat_one_more f xs i d h =
    ap (λ ys. flat_map f (take i xs) ++ ys) (sym (append-nil (f (get_or xs i d)))) ∙ sym (flat_map-append f (take i xs) (get_or xs i d ∷ []))
    ∙ ap (flat_map f) (sym (take_more xs i d h))

-- what the items so far give, and with one more
module _ {X Y : Type 0} (f : X → List Y) (xs : List X) (i : ℕ) (old new : List Y) (so_far : new ≡ old ++ flat_map f (take i xs)) where
  pub next_added : (x : X) (out : List Y) → i < length xs → x ≡ get_or xs i x → out ≡ new ++ f x → out ≡ old ++ flat_map f (take (i + 1) xs)
  next_added x out h is added =
      more_added old new out _ (f x) _ so_far added (ap (λ y. flat_map f (take i xs) ++ f y) is ∙ flat_one_more f xs i x h)

  pub all_added : length xs ≤ i → new ≡ old ++ flat_map f xs
  all_added h = so_far ∙ ap (λ ys. old ++ flat_map f ys) (take_all i xs h)

-- what the numbers so far give, and with one more
module _ {Y : Type 0} (f : ℕ → List Y) (n : ℕ) (old new out : List Y) (so_far : new ≡ old ++ flat_map f (range_with_len 0 n)) where
  pub next_in_range : (es : List Y) → out ≡ new ++ es → es ≡ f n → out ≡ old ++ flat_map f (range_with_len 0 (n + 1))
  next_in_range es added is = more_added old new out _ es _ so_far added (range_more f n _ es _ is refl refl)

  pub same_in_range : out ≡ new → [] ≡ f n → out ≡ old ++ flat_map f (range_with_len 0 (n + 1))
  same_in_range same none = next_in_range [] (same ∙ sym (append-nil new)) none
