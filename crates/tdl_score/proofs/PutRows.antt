-- The row that an event gives, as the program makes it.
--     onset_told    what a test answers that decides whether an event has its onset
--     no_row        an event without its onset gives none
--     row_put       one with its onset, whose value is controls, gives the row that is put
--     all_kept      what holds of each element holds of those that pass a test
--     onset_rows    the rows of events are those of the ones that have their onset
use Rattle.std.proofs.Common.{◌≡◌, ◌↔◌, ℕ, Bool, true, false, if◌then◌else◌, List, [], ◌∷◌, ◌++◌, refl, sym, ap, ap₂, ◌∙◌, append-nil}
use Rattle.std.specs.Prelude.{cond}
use Rattle.std.specs.List.{AllByRecursion, filter, flat_map}
use Rattle.tdl_control.specs.Map.{KeyValues}
use Rattle.tdl_control.specs.declared.leaves.Leaf.TheVariants.{Controls}
use Rattle.tdl_fraction.specs.Rational.{Rational, ◌-ℚ◌}
use Rattle.tdl_event.specs.Event.{Event, HasOnset}
use Rattle.tdl_event.specs.declared.rows.Row.{Row}
use Rattle.tdl_event.proofs.Clips.{not_true}
use Rattle.tdl_meaning.specs.Onsets.{has_onset}
use Rattle.tdl_meaning.proofs.Splits.{has_onset-true}
use Rattle.tdl_score.specs.Score.{leaf_rows, row_of}

pub onset_told : (e : Event) (b : Bool) → ((b ≡ true) ↔ HasOnset e) → has_onset e ≡ b
onset_told e true known = (has_onset-true e).1 (known.0 refl)
onset_told e false known = not_true (has_onset e) (λ h. let both : false ≡ true = known.1 ((has_onset-true e).0 h) in cc)

pub no_row : (rows : List Row) (orbit : ℕ) (e : Event) → has_onset e ≡ false → rows ≡ rows ++ row_of orbit e
no_row rows orbit e off = sym (append-nil rows) ∙ ap (λ b. rows ++ (if b then leaf_rows orbit e e.value else [])) (sym off)

pub row_put : (orbit : ℕ) (e : Event) (controls : KeyValues) (onset length : Rational) → has_onset e ≡ true → e.value ≡ Controls controls
    → onset ≡ e.whole.start → length ≡ e.whole.stop -ℚ e.whole.start
    → record { onset = onset; length = length; orbit = orbit; controls = controls } ∷ [] ≡ row_of orbit e
row_put orbit e controls onset length on is at long =
    ap₂ (λ x y. record { onset = x; length = y; orbit = orbit; controls = controls } ∷ []) at long
    ∙ sym (ap (λ b. if b then leaf_rows orbit e e.value else []) on ∙ ap (leaf_rows orbit e) is)

-- ---- the events that have their onset
kept_or_not : {X : Type 0} (P : X → Type 0) (b : Bool) (x : X) (rest : List X) → P x → AllByRecursion P rest → AllByRecursion P (cond b (x ∷ rest) rest)
kept_or_not P true x rest h all = (h, all)
kept_or_not P false x rest h all = all

pub all_kept : {X : Type 0} (p : X → Bool) (P : X → Type 0) (xs : List X) → AllByRecursion P xs → AllByRecursion P (filter p xs)
all_kept p P [] h = tt
all_kept p P (x ∷ xs) h = kept_or_not P (p x) x (filter p xs) h.0 (all_kept p P xs h.1)

-- by whether the first one has its onset
first_row : (orbit : ℕ) (e : Event) (es : List Event) (b : Bool) → has_onset e ≡ b
    → flat_map (row_of orbit) (cond b (e ∷ es) es) ≡ row_of orbit e ++ flat_map (row_of orbit) es
first_row orbit e es true is = refl
first_row orbit e es false is = ap (λ b. (if b then leaf_rows orbit e e.value else []) ++ flat_map (row_of orbit) es) (sym is)

pub onset_rows : (orbit : ℕ) (events : List Event) → flat_map (row_of orbit) (filter has_onset events) ≡ flat_map (row_of orbit) events
onset_rows orbit [] = refl
onset_rows orbit (e ∷ es) =
    first_row orbit e (filter has_onset es) (has_onset e) refl ∙ ap (λ rows. row_of orbit e ++ rows) (onset_rows orbit es)
