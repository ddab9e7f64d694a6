-- That an item has its onset is told by its counts.
use Rattle.std.proofs.Common.{◌≡◌, ℕ, ◌<◌, Bool, true, false, List, [], ◌∷◌, ◌++◌, ℤ, ◌≤ℤ◌, refl, sym, ap, ap₂, ◌∙◌, arith, append-nil}
use Rattle.std.specs.Prelude.{◌&&◌, cond}
use Rattle.std.specs.List.{filter}
use Rattle.std.proofs.lemmas.Int.{ints}
use Rattle.std.proofs.lemmas.List.{map-append}
use Rattle.std.proofs.lemmas.List.Elements.{filter-append}
use lib.Signed.{le_z}
use Rattle.tdl_fraction.specs.Rational.{frac, le_ℚ}
use Rattle.tdl_fraction.proofs.Over.{le_ℚ-true, le_ℚ-false}
use Rattle.tdl_fraction.proofs.Order.{frac-le, frac-lt}
use Rattle.tdl_event.specs.Event.{Event}
use Rattle.tdl_meaning.specs.Onsets.{has_onset}
use Rattle.tdl_grid.specs.Span.{Span, IsPartOf}
use Rattle.tdl_grid.specs.Item.{Item, event_of}
use Rattle.tdl_grid.specs.ItemLaws.{events_of}

le_counts : (n m : ℤ) (u : ℕ) → 0 < u → le_z n m ≡ le_ℚ (frac n u) (frac m u)
le_counts n m u h = by (le_ℚ (frac n u) (frac m u)) refl
  where
    by : (t : Bool) → le_ℚ (frac n u) (frac m u) ≡ t → le_z n m ≡ le_ℚ (frac n u) (frac m u)
    by true e = let k = (frac-le n m u h).1 ((le_ℚ-true _ _).0 e) in yes k ∙ sym e
      where
        yes : n ≤ℤ m → le_z n m ≡ true
        yes k = grind (arith, ints)
    by false e = let k = (frac-lt m n u h).1 ((le_ℚ-false _ _).0 e) in grind (arith, ints)

with_yes : (b : Bool) → b ≡ b && true
with_yes true = refl
with_yes false = refl

-- a part that starts no later than its whole, within which it lies
pub onset_counts : (part whole : Span) (u : ℕ) → 0 < u → IsPartOf part whole
    → le_z part.start whole.start ≡ (le_ℚ (frac part.start u) (frac whole.start u) && le_ℚ (frac whole.start u) (frac part.start u))
onset_counts part whole u h inside =
    let after : le_ℚ (frac whole.start u) (frac part.start u) ≡ true = (le_ℚ-true _ _).1 ((frac-le whole.start part.start u h).0 inside.0) in
    with_yes (le_z part.start whole.start) ∙ ap₂ ◌&&◌ (le_counts part.start whole.start u h) (sym after)

-- ---- the events that have theirs
module _ (u : ℕ) (old : List Event) (xs : List Item) (i : Item) (out : List Event) (so_far : out ≡ old ++ filter has_onset (events_of u xs)) where
  one_more : filter has_onset (events_of u (xs ++ i ∷ [])) ≡ filter has_onset (events_of u xs) ++ filter has_onset (event_of u i ∷ [])
  one_more = ap (filter has_onset) (map-append (event_of u) xs (i ∷ [])) ∙ filter-append has_onset (events_of u xs) (event_of u i ∷ [])

  one : (e : Event) (b : Bool) → has_onset e ≡ b → filter has_onset (e ∷ []) ≡ cond b (e ∷ []) []
  one e b is = ap (λ t. cond t (e ∷ []) []) is

  pub onset_missed : has_onset (event_of u i) ≡ false → out ≡ old ++ filter has_onset (events_of u (xs ++ i ∷ []))
  onset_missed off =
      so_far
      ∙ ap (λ es. old ++ es) (sym (append-nil (filter has_onset (events_of u xs)))
      ∙ ap (λ es. filter has_onset (events_of u xs) ++ es) (sym (one (event_of u i) false off)) ∙ sym one_more)
