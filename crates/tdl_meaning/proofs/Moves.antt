-- Lists whose items are moved in place, one after another, and what keeps moved times in order.
use Rattle.std.proofs.Common.{◌≡◌, ℕ, zero, suc, ◌+◌, ◌<◌, ◌≤◌, List, [], ◌∷◌, ◌++◌, map, take, drop, length, get_or, set, ℤ, pos, ◌+ℤ◌, refl, sym, ap}
use Rattle.std.proofs.Common.{ap₂, ◌∙◌, subst, arith, append-nil}
use Rattle.std.proofs.lemmas.List.{take_all, drop_all}
use Rattle.tdl_fraction.specs.Rational.{whole, ◌-ℚ◌, ◌<ℚ◌}
use Rattle.tdl_fraction.specs.Arc.{Arc, IsArc, IsInside, map_arc}
use Rattle.tdl_fraction.proofs.Arcs.{KeepsOrder, keeps-plus, keeps-divide, keeps_arc, keeps_inside, reverses-minus, turned_arc, turned_inside}
use Rattle.tdl_event.specs.Event.{Event, retimed}
use Rattle.tdl_meaning.specs.Pattern.{turned}
use Rattle.tdl_meaning.specs.Proper.{Each}
use Rattle.tdl_meaning.specs.declared.motions.Motion.{Motion}
use Rattle.tdl_meaning.specs.declared.motions.Motion.TheVariants.{Slower, Later, Shifted, Step}
use Rattle.tdl_meaning.specs.Motions.{time_at, IsForward}
use Rattle.tdl_meaning.proofs.Times.{keeps-squeezed}

-- the items from place from up to place i are moved, and the others are as they were
abbrev pub moved_between : {X : Type 0} → (X → X) → ℕ → ℕ → List X → List X
moved_between f from i xs = take from xs ++ (map f (drop from (take i xs)) ++ drop i xs)

module _ {X : Type 0} (f : X → X) where
  pub none_moved : (from : ℕ) (xs : List X) → xs ≡ moved_between f from from xs
  none_moved zero xs = refl
  none_moved (suc from) [] = refl
  none_moved (suc from) (x ∷ xs) = ap (λ ys. x ∷ ys) (none_moved from xs)

  pub all_moved : (from i : ℕ) (xs ys : List X) → ys ≡ moved_between f from i xs → length xs ≤ i → ys ≡ take from xs ++ map f (drop from xs)
  all_moved from i xs ys moved h =
      moved ∙ ap₂ (λ front back. take from xs ++ (map f (drop from front) ++ back)) (take_all i xs h) (drop_all i xs h)
      ∙ ap (λ zs. take from xs ++ zs) (append-nil (map f (drop from xs)))

  pub length-moved : (from i : ℕ) (xs : List X) → from ≤ i → length (moved_between f from i xs) ≡ length xs
  length-moved zero zero xs h = refl
  length-moved zero (suc i) [] h = refl
  length-moved zero (suc i) (x ∷ xs) h = ap suc (length-moved zero i xs (omega arith))
  length-moved (suc from) zero xs h = absurd (omega arith)
  length-moved (suc from) (suc i) [] h = refl
  length-moved (suc from) (suc i) (x ∷ xs) h = ap suc (length-moved from i xs (omega arith))

  not_yet : (from i : ℕ) (xs : List X) (d : X) → from ≤ i → get_or (moved_between f from i xs) i d ≡ get_or xs i d
  not_yet zero zero xs d h = refl
  not_yet zero (suc i) [] d h = refl
  not_yet zero (suc i) (x ∷ xs) d h = not_yet zero i xs d (omega arith)
  not_yet (suc from) zero xs d h = absurd (omega arith)
  not_yet (suc from) (suc i) [] d h = refl
  not_yet (suc from) (suc i) (x ∷ xs) d h = not_yet from i xs d (omega arith)

  one_more : (from i : ℕ) (xs : List X) (d : X) → from ≤ i → i < length xs
      → set (moved_between f from i xs) i (f (get_or xs i d)) ≡ moved_between f from (suc i) xs
  one_more from i [] d h k = absurd (omega arith)
  one_more zero zero (x ∷ xs) d h k = refl
  one_more zero (suc i) (x ∷ xs) d h k = ap (λ ys. f x ∷ ys) (one_more zero i xs d (omega arith) (omega arith))
  one_more (suc from) zero (x ∷ xs) d h k = absurd (omega arith)
  one_more (suc from) (suc i) (x ∷ xs) d h k = ap (λ ys. x ∷ ys) (one_more from i xs d (omega arith) (omega arith))

pub each_at : {X : Type 0} (P : X → Type 0) (xs : List X) (i : ℕ) (d : X) → i < length xs → Each P xs → P (get_or xs i d)
each_at P [] i d h all = absurd (omega arith)
each_at P (x ∷ xs) zero d h all = all.0
each_at P (x ∷ xs) (suc i) d h all = each_at P xs i d (omega arith) all.1

-- what is true of each item is true of this one
pub each_of : {X : Type 0} (P : X → Type 0) (xs : List X) (i : ℕ) (x : X) → i < length xs → x ≡ get_or xs i x → Each P xs → P x
each_of P xs i x h e all = subst P (sym e) (each_at P xs i x h all)

each_after : {X : Type 0} (P : X → Type 0) (from i : ℕ) (xs : List X) (d : X) → from ≤ i → i < length xs → Each P (drop from xs) → P (get_or xs i d)
each_after P zero i xs d after within all = each_at P xs i d within all
each_after P (suc from) i [] d after within all = absurd (omega arith)
each_after P (suc from) zero (x ∷ xs) d after within all = absurd (omega arith)
each_after P (suc from) (suc i) (x ∷ xs) d after within all = each_after P from i xs d (omega arith) (omega arith) all

module _ (from i : ℕ) (after : from ≤ i) where
  -- what is true of each item that there was from that place on is true of the next one to be moved
  pub read_at : {X : Type 0} (P : X → Type 0) (f : X → X) (xs ys : List X) (x : X) → ys ≡ moved_between f from i xs → i < length xs
      → x ≡ get_or ys i x → Each P (drop from xs) → P x
  read_at P f xs ys x moved within e all =
      let there = ap (λ zs. get_or zs i x) moved ∙ not_yet f from i xs x after in
      subst P (sym (e ∙ there)) (each_after P from i xs x after within all)

  -- the next item, with new times, is moved
  pub moved_more : (f : Event → Event) (xs ys zs : List Event) (x : Event) (whole part : Arc) → ys ≡ moved_between f from i xs → i < length xs
      → x ≡ get_or ys i x → zs ≡ set ys i (retimed whole part (get_or ys i x)) → whole ≡ (f x).whole → part ≡ (f x).part → (f x).value ≡ x.value
      → zs ≡ moved_between f from (i + 1) xs
  moved_more f xs ys zs x whole part moved within e new w p v =
      let here : x ≡ get_or xs i x = e ∙ ap (λ us. get_or us i x) moved ∙ not_yet f from i xs x after in
      let there : retimed whole part (get_or ys i x) ≡ f x = made whole part (get_or ys i x) (f x) w p (ap (λ (y : Event). y.value) (sym e) ∙ sym v) in
      let next : suc i ≡ i + 1 = omega arith in
      new ∙ ap₂ (λ us y. set us i y) moved (there ∙ ap f here) ∙ one_more f from i xs x after within
      ∙ ap (λ n. moved_between f from n xs) next
    where
      made : (whole part : Arc) (y z : Event) → whole ≡ z.whole → part ≡ z.part → y.value ≡ z.value → retimed whole part y ≡ z
      made whole part y z w p v =
          ap₂ (λ a b. record { whole = a; part = b; value = y.value }) w p ∙ ap (λ u. record { whole = z.whole; part = z.part; value = u }) v

pub keeps-motion : (m : Motion) → IsForward m → KeepsOrder (time_at m)
keeps-motion (Slower rate) h = keeps-divide rate h
keeps-motion (Later by) h = keeps-plus (whole by)
keeps-motion (Shifted by) h = keeps-plus by
keeps-motion (Step cycle before weight total) h = keeps-squeezed cycle before weight total h.0 h.1

pub motion_arc : (m : Motion) → IsForward m → (a : Arc) → IsArc a → time_at m a.start <ℚ time_at m a.stop
motion_arc m h a is = keeps_arc (time_at m) (keeps-motion m h) a is

pub motion_inside : (m : Motion) → IsForward m → (a b : Arc) → IsInside a b → IsInside (map_arc (time_at m) a) (map_arc (time_at m) b)
motion_inside m h a b is = keeps_inside (time_at m) (keeps-motion m h) a b is

pub turn_arc_is : (c : ℤ) (a : Arc) → IsArc a → IsArc (turned c a)
turn_arc_is c a is = turned_arc (λ t. whole (c +ℤ c +ℤ pos 1) -ℚ t) (reverses-minus (whole (c +ℤ c +ℤ pos 1))) a is

pub turn_inside : (c : ℤ) (a b : Arc) → IsInside a b → IsInside (turned c a) (turned c b)
turn_inside c a b is = turned_inside (λ t. whole (c +ℤ c +ℤ pos 1) -ℚ t) (reverses-minus (whole (c +ℤ c +ℤ pos 1))) a b is
