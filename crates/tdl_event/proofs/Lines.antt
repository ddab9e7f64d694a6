-- What the calls of a print leave in a text, one after another.
use Rattle.std.proofs.Common.{◌≡◌, ℕ, ◌<◌, List, ◌++◌, length, get_or, take, sym, ap, subst, ◌∙◌, append_assoc}
use Rattle.std.specs.List.{flat_map}
use Rattle.tdl_control.specs.Text.{AddsPrefix}
use Rattle.tdl_control.proofs.PrintLemmas.{adds_after, adds_within, adds_nothing, flat_map_at}

-- two pieces added are their join added
pub added_both : (first second old mid new : List ℕ) → mid ≡ old ++ first → new ≡ mid ++ second → new ≡ old ++ (first ++ second)
added_both first second old mid new e f = f ∙ ap (λ text. text ++ second) e ∙ append_assoc old first second

-- a text that stayed after the first piece
pub adds_first : (first second old mid new : List ℕ) → mid ≡ old ++ first → new ≡ mid → AddsPrefix (first ++ second) old new
adds_first first second old mid new e f = adds_after first second old mid new e (adds_nothing second mid new f)

-- a print of pieces that stops within the piece at place i
pub stops_at : {X : Type 0} (f : X → List ℕ) (xs : List X) (i : ℕ) (here : X) (start out new : List ℕ) → i < length xs → here ≡ get_or xs i here
    → out ≡ start ++ flat_map f (take i xs) → AddsPrefix (f here) out new → AddsPrefix (flat_map f xs) start new
stops_at {X} f xs i here start out new within is so_far part =
    let whole = flat_map_at f xs i here within in
    let P : X → Type 0 = λ x. AddsPrefix (f x) out new in
    let Q : List ℕ → Type 0 = λ text. AddsPrefix text start new in
    subst Q (sym whole) (adds_after _ _ start out new so_far (adds_within _ _ out new (subst P is part)))
