-- Lists that gain the items of events one after another.
use Rattle.std.proofs.Common.{◌≡◌, ℕ, ◌+◌, ◌<◌, ◌≤◌, Bool, true, false, cond, List, [], ◌∷◌, ◌++◌, map, take, drop, length, get_or}
use Rattle.std.proofs.Common.{Option, Some, None, refl, sym, ap, ap₂, ◌∙◌, subst, append-nil, arith, length-append}
use Rattle.std.specs.List.{flat_map, filter, range_with_len}
use Rattle.std.proofs.Math.Seq.{take-append_seam, drop-append_seam}
use Rattle.std.specs.Option.{option_map}
use Rattle.std.specs.Iterator.{Yields}
use Rattle.std.specs.Vec.Iter.{into_iter_items, into_iter_steps}
use Rattle.std.specs.declared.vec.IntoIter.{IntoIter}
use Rattle.std.proofs.lemmas.List.{flat_map_more, take_all}
use Rattle.tdl_fraction.specs.Rational.{Rational}
use Rattle.tdl_fraction.specs.Arc.{meet}
use Rattle.tdl_control.specs.declared.leaves.Leaf.{Leaf}
use Rattle.tdl_event.specs.Event.{Event}
use Rattle.tdl_meaning.specs.Kinds.{piece, fragment, passes}
use Rattle.tdl_meaning.specs.Proper.{Each}
use Rattle.tdl_meaning.proofs.PlainLemmas.{range_more, fragment_made, fragment_missed}
use Rattle.tdl_meaning.proofs.Added.{flat_one_more}
use Rattle.tdl_grid.specs.Span.{Span, arc_of}
use Rattle.tdl_grid.specs.Item.{Item, event_of, passes_in, Adds}
use Rattle.tdl_grid.proofs.Moved.{adds_one, adds_both}

module _ (u : ℕ) where
  pub adds_none : (xs ys : List Item) → ys ≡ xs → Adds u xs ys []
  adds_none xs ys same = record { made = []; behind = same ∙ sym (append-nil xs); plays = refl }

  pub adds_as : (xs ys : List Item) (es fs : List Event) → es ≡ fs → Adds u xs ys es → Adds u xs ys fs
  adds_as xs ys es fs e a = subst (Adds u xs ys) e a

  -- what one more number gives
  pub adds_number : (f : ℕ → List Event) (n : ℕ) (old mid new : List Item) → Adds u old mid (flat_map f (range_with_len 0 n)) → Adds u mid new (f n)
      → Adds u old new (flat_map f (range_with_len 0 (n + 1)))
  adds_number f n old mid new before next =
      adds_as old new _ _ (range_more f n _ (f n) _ refl refl refl) (adds_both u old mid new _ _ before next)

  module _ {X : Type 0} (f : X → List Event) where
    -- what one more of those so far gives
    pub adds_yielded : (xs : List X) (x : X) (old mid new : List Item) → Adds u old mid (flat_map f xs) → Adds u mid new (f x)
        → Adds u old new (flat_map f (xs ++ x ∷ []))
    adds_yielded xs x old mid new before next =
        adds_as old new _ _ (flat_map_more f [] xs x) (adds_both u old mid new _ _ before next)

    -- what one more of a list gives
    pub adds_next : (xs : List X) (i : ℕ) (x : X) (old mid new : List Item) → i < length xs → x ≡ get_or xs i x
        → Adds u old mid (flat_map f (take i xs)) → Adds u mid new (f x) → Adds u old new (flat_map f (take (i + 1) xs))
    adds_next xs i x old mid new within is before next =
        adds_as old new _ _ (ap (λ y. flat_map f (take i xs) ++ f y) is ∙ flat_one_more f xs i x within) (adds_both u old mid new _ _ before next)

    pub adds_all : (xs : List X) (i : ℕ) (old new : List Item) → length xs ≤ i → Adds u old new (flat_map f (take i xs)) → Adds u old new (flat_map f xs)
    adds_all xs i old new end all = adds_as old new _ _ (ap (flat_map f) (take_all i xs end)) all

-- what a piece of a whole has of the part
module _ (u : ℕ) (h : 0 < u) (n j : ℕ) (i : Item) (next : Span) (whole : arc_of u next ≡ piece n (arc_of u i.whole) j) where
  pub adds_fragment : (cut : Span) (v : Leaf) (mid new : List Item) → option_map (arc_of u) (Some cut) ≡ meet (arc_of u next) (arc_of u i.part)
      → v ≡ i.value → new ≡ mid ++ record { whole = next; part = cut; value = v } ∷ [] → Adds u mid new (fragment (piece n (arc_of u i.whole) j) (event_of u i))
  adds_fragment cut v mid new part value pushed =
      adds_as u mid new _ _ (fragment_made n j (event_of u i) (arc_of u next) (arc_of u cut) v whole (sym part) value)
      (adds_one u mid new (record { whole = next; part = cut; value = v }) _ pushed refl)

  pub adds_no_fragment : (o : Option Span) (mid new : List Item) → option_map (arc_of u) o ≡ meet (arc_of u next) (arc_of u i.part)
      → ((cut : Span) → ¬ (o ≡ Some cut)) → new ≡ mid
      → Adds u mid new (fragment (piece n (arc_of u i.whole) j) (event_of u i))
  adds_no_fragment (Some cut) mid new met none same = absurd (none cut refl)
  adds_no_fragment None mid new met none same =
      adds_as u mid new _ _ (fragment_missed n j (event_of u i) (arc_of u next) None whole met (λ p e. cc)) (adds_none u mid new same)

-- where those that pass stay
pub adds_passed : (u : ℕ) (from to : Rational) (inside : Bool) (old mid new : List Item) (events : List Event) → Adds u old mid events
    → new ≡ take (length old) mid ++ filter (passes_in u from to inside) (drop (length old) mid) → Adds u old new (filter (passes from to inside) events)
adds_passed u from to inside old mid new events a e = record {
  made = filter (passes_in u from to inside) a.made;
  behind = e ∙ ap₂ (λ xs ys. xs ++ filter (passes_in u from to inside) ys) (ap (take (length old)) a.behind ∙ take-append_seam old a.made)
      (ap (drop (length old)) a.behind ∙ drop-append_seam old a.made);
  plays = passed a.made ∙ ap (filter (passes from to inside)) a.plays;
}
  where
    by : (b : Bool) (i : Item) (items : List Item)
        → map (event_of u) (cond b (i ∷ items) items) ≡ cond b (event_of u i ∷ map (event_of u) items) (map (event_of u) items)
    by true i items = refl
    by false i items = refl

    passed : (items : List Item) → map (event_of u) (filter (passes_in u from to inside) items) ≡ filter (passes from to inside) (map (event_of u) items)
    passed [] = refl
    passed (i ∷ items) =
        by (passes_in u from to inside i) i (filter (passes_in u from to inside) items)
        ∙ ap (λ es. cond (passes_in u from to inside i) (event_of u i ∷ es) es) (passed items)

-- ---- taken one after another
taken_front : {X A : Type 0} (s : IntoIter X A) (xs : List X) (t : IntoIter X A) → Yields into_iter_steps s xs t → into_iter_items s ≡ xs ++ into_iter_items t
taken_front s [] t y = ap into_iter_items y
taken_front s (x ∷ xs) t y = y.1.0 ∙ ap (λ ys. x ∷ ys) (taken_front y.0 xs t y.2)

-- what holds of each item of a list holds of the one that comes after some that were taken
pub each_taken : {X A : Type 0} (P : X → Type 0) (items xs : List X) (x : X) (s t u : IntoIter X A) → into_iter_items s ≡ items
    → Yields into_iter_steps s xs t → into_iter_items t ≡ x ∷ into_iter_items u → Each P items → P x
each_taken {X = X} P items xs x s t u whole given next all =
    behind xs (into_iter_items u) (subst (Each P) (sym whole ∙ taken_front s xs t given ∙ ap (λ l. xs ++ l) next) all)
  where
    behind : (xs rest : List X) → Each P (xs ++ x ∷ rest) → P x
    behind [] rest all = all.0
    behind (y ∷ xs) rest all = behind xs rest all.1

-- and there are as many as were taken, and that one
pub taken_within : {X A : Type 0} (items xs : List X) (x : X) (s t u : IntoIter X A) → into_iter_items s ≡ items → Yields into_iter_steps s xs t
    → into_iter_items t ≡ x ∷ into_iter_items u → length xs + 1 ≤ length items
taken_within {X = X} items xs x s t u whole given next =
    let all : items ≡ xs ++ x ∷ into_iter_items u = sym whole ∙ taken_front s xs t given ∙ ap (λ l. xs ++ l) next in
    omega (arith, ap length all, length-append {A = X})
