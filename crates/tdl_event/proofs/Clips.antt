-- What a clip leaves of a list at a time, event by event.
use Rattle.std.proofs.Common.{◌≡◌, ◌↔◌, ◌≤◌, arith, length, length-append, Bool, true, false, if◌then◌else◌, Option, Some, None, List, [], ◌∷◌, ◌++◌, refl}
use Rattle.std.proofs.Common.{sym, ap, ap₂, ◌∙◌, subst, append-nil, cond}
use Rattle.std.specs.List.{flat_map}
use Rattle.std.specs.List.Retain.{RetainsInTurn}
use Rattle.std.proofs.lemmas.Bool.{and_parts, and_from}
use Rattle.std.proofs.lemmas.Grind.{flat_map-append}
use Rattle.std.proofs.lemmas.Option.{none-some}
use Rattle.tdl_control.specs.declared.leaves.Leaf.{Leaf}
use Rattle.tdl_fraction.specs.Rational.{Rational}
use Rattle.tdl_fraction.specs.Arc.{Arc, IsIn, meet}
use Rattle.tdl_fraction.proofs.Over.{le_ℚ-true, lt_ℚ-true}
use Rattle.tdl_fraction.proofs.Order.{≤ℚ-<ℚ_trans}
use Rattle.tdl_fraction.proofs.MinMax.{max_le, lt_min}
use Rattle.tdl_fraction.proofs.Arcs.{meet-some, in_meet}
use Rattle.tdl_event.specs.Event.{Event, clip, clip_event}
use Rattle.tdl_event.specs.ClipLaws.{is_in, seen_of, seen_at}

-- tests that are true together are equal
pub same_tests : (s u : Bool) → (s ≡ true) ↔ (u ≡ true) → s ≡ u
same_tests true u h = sym (h.0 refl)
same_tests false true h = h.1 refl
same_tests false false h = refl

-- a test that is not true is false
pub not_true : (s : Bool) → ¬ (s ≡ true) → s ≡ false
not_true true denied = absurd (denied refl)
not_true false denied = refl

-- the test answers whether the time is in the arc
pub is_in-true : (t : Rational) (a : Arc) → (is_in t a ≡ true) ↔ IsIn t a
is_in-true t a = (
  λ e. let both = and_parts _ _ e in ((le_ℚ-true a.start t).0 both.0, (lt_ℚ-true t a.stop).0 both.1),
  λ h. and_from _ _ ((le_ℚ-true a.start t).1 h.0) ((lt_ℚ-true t a.stop).1 h.1),
)

-- arcs that share a time meet
shared_meets : (a b : Arc) (t : Rational) → IsIn t a → IsIn t b → ¬ (meet a b ≡ None)
shared_meets a b t h k none =
    none-some _ (sym none ∙ meet-some a b (≤ℚ-<ℚ_trans ((max_le a.start b.start t).1 (h.0, k.0)) ((lt_min a.stop b.stop t).1 (h.1, k.1))))

-- the event with this part, if there is one
abbrev pieces : Event → Option Arc → List Event
pieces e o = elim o [ Some part ↦ record { whole = e.whole; part = part; value = e.value } ∷ [] | None ↦ [] ]

-- the event's whole and value, if the test is true
abbrev seen_if : Event → Bool → List (Arc × Leaf)
seen_if e b = if b then (e.whole, e.value) ∷ [] else []

-- an event leaves one event at most
few_pieces : (e : Event) (o : Option Arc) → length (pieces e o) ≤ 1
few_pieces e (Some part) = omega arith
few_pieces e None = omega arith

-- what one event leaves at a time of the arc
piece_within : (arc : Arc) (e : Event) (t : Rational) → IsIn t arc → (o : Option Arc) → meet e.part arc ≡ o → flat_map (seen_of t) (pieces e o) ≡ seen_of t e
piece_within arc e t h (Some m) met =
    let shared = in_meet e.part arc m t met in
    let same = same_tests (is_in t m) (is_in t e.part)
    (λ i. (is_in-true t e.part).1 (shared.0 ((is_in-true t m).0 i)).0, λ i. (is_in-true t m).1 (shared.1 ((is_in-true t e.part).0 i, h))) in
    append-nil _ ∙ ap (seen_if e) same
piece_within arc e t h None met =
    sym (ap (seen_if e) (not_true (is_in t e.part) (λ i. shared_meets e.part arc t ((is_in-true t e.part).0 i) h met)))

-- and at any other time
piece_outside : (arc : Arc) (e : Event) (t : Rational) → ¬ (IsIn t arc) → (o : Option Arc) → meet e.part arc ≡ o → flat_map (seen_of t) (pieces e o) ≡ []
piece_outside arc e t outside (Some m) met =
    append-nil _ ∙ ap (seen_if e) (not_true (is_in t m) (λ i. outside ((in_meet e.part arc m t met).0 ((is_in-true t m).0 i)).1))
piece_outside arc e t outside None met = refl

-- at a time of the arc a clip keeps what there was
pub seen_within : (arc : Arc) (events : List Event) (t : Rational) → IsIn t arc → seen_at t (clip arc events) ≡ seen_at t events
seen_within arc [] t h = refl
seen_within arc (e ∷ events) t h =
    flat_map-append (seen_of t) (clip_event arc e) (clip arc events)
    ∙ ap₂ (λ one others. one ++ others) (piece_within arc e t h (meet e.part arc) refl) (seen_within arc events t h)

-- at any other time it keeps nothing
pub seen_outside : (arc : Arc) (events : List Event) (t : Rational) → ¬ (IsIn t arc) → seen_at t (clip arc events) ≡ []
seen_outside arc [] t outside = refl
seen_outside arc (e ∷ events) t outside =
    flat_map-append (seen_of t) (clip_event arc e) (clip arc events)
    ∙ ap₂ (λ one others. one ++ others) (piece_outside arc e t outside (meet e.part arc) refl) (seen_outside arc events t outside)

-- a clip has no more events than there were
pub length-clip_le : (arc : Arc) (events : List Event) → length (clip arc events) ≤ length events
length-clip_le arc [] = omega arith
length-clip_le arc (e ∷ events) =
    let few = few_pieces e (meet e.part arc) in
    let others = length-clip_le arc events in
    rw (length-append (clip_event arc e) (clip arc events)) (omega arith)

kept_cut : (arc : Arc) (e f : Event) (b : Bool) (xs zs : List Event) → clip_event arc e ≡ (if b then f ∷ [] else []) → zs ≡ clip arc xs
    → cond b (f ∷ zs) zs ≡ clip_event arc e ++ clip arc xs
kept_cut arc e f true xs zs cut others = subst (λ one. f ∷ zs ≡ one ++ clip arc xs) (sym cut) (ap (λ more. f ∷ more) others)
kept_cut arc e f false xs zs cut others = subst (λ one. zs ≡ one ++ clip arc xs) (sym cut) others

-- events that are cut to the arc or left out, one after another, are a clip
pub clip_by_retain : {S : Type 0} (arc : Arc) (Cut : S → Event → Bool → S → Event → Type 0) (s : S)
    → ((e : Event) (b : Bool) (t : S) (f : Event) → Cut s e b t f → (clip_event arc e ≡ (if b then f ∷ [] else [])) × (t ≡ s))
    → (xs ys : List Event) → RetainsInTurn Cut s xs ys → ys ≡ clip arc xs
clip_by_retain arc Cut s cuts [] ys h = h
clip_by_retain arc Cut s cuts (e ∷ xs) ys (b, t, f, called, zs, rest, after) =
    let cut = cuts e b t f called in
    let rest' = subst (λ u. RetainsInTurn Cut u xs zs) cut.1 rest in
    after ∙ kept_cut arc e f b xs zs cut.0 (clip_by_retain arc Cut s cuts xs zs rest')
