-- Events that are moved twice, or not at all, and so wholes that are heard.
use Rattle.std.proofs.Common.{◌≡◌, List, [], ◌∷◌, map, refl, ap₂}
use Rattle.tdl_control.specs.declared.leaves.Leaf.{Leaf}
use Rattle.tdl_fraction.specs.Rational.{Rational}
use Rattle.tdl_fraction.specs.Arc.{Arc, map_arc}
use Rattle.tdl_event.specs.Event.{Event}
use Rattle.tdl_meaning.specs.Pattern.{moved}
use Rattle.tdl_meaning.specs.Heard.{moved_wholes}

pub arc_as_is : (f : Rational → Rational) → ((t : Rational) → f t ≡ t) → (a : Arc) → map_arc f a ≡ a
arc_as_is f same a = ap₂ (λ s t. record { start = s; stop = t }) (same a.start) (same a.stop)

arc_at_once : (f g h : Rational → Rational) → ((t : Rational) → f (g t) ≡ h t) → (a : Arc) → map_arc f (map_arc g a) ≡ map_arc h a
arc_at_once f g h same a = ap₂ (λ s t. record { start = s; stop = t }) (same a.start) (same a.stop)

pub moved_as_is : (f : Rational → Rational) → ((t : Rational) → f t ≡ t) → (events : List Event) → map (moved f) events ≡ events
moved_as_is f same [] = refl
moved_as_is f same (e ∷ events) =
    ap₂ (λ x xs. x ∷ xs)
    (ap₂ (λ w p. record { whole = w; part = p; value = e.value }) (arc_as_is f same e.whole) (arc_as_is f same e.part))
    (moved_as_is f same events)

pub moved_at_once : (f g h : Rational → Rational) → ((t : Rational) → f (g t) ≡ h t) → (events : List Event)
    → map (moved f) (map (moved g) events) ≡ map (moved h) events
moved_at_once f g h same [] = refl
moved_at_once f g h same (e ∷ events) =
    ap₂ (λ x xs. x ∷ xs)
    (ap₂ (λ w p. record { whole = w; part = p; value = e.value }) (arc_at_once f g h same e.whole) (arc_at_once f g h same e.part))
    (moved_at_once f g h same events)

pub wholes_at_once : (f g h : Rational → Rational) → ((t : Rational) → f (g t) ≡ h t) → (xs : List (Arc × Leaf))
    → moved_wholes f (moved_wholes g xs) ≡ moved_wholes h xs
wholes_at_once f g h same [] = refl
wholes_at_once f g h same (x ∷ xs) = ap₂ (λ w ws. (w, x.1) ∷ ws) (arc_at_once f g h same x.0) (wholes_at_once f g h same xs)
