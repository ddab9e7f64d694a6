-- A look at programs sees what a look at their trees does.
--     look-mapped    the texts are the same
use Rattle.std.proofs.Common.{◌≡◌, ℕ, Bool, cond, ◌&&◌, Option, None, Some, option_map, List, [], ◌∷◌, filter, refl, sym, ap, ap₂, ◌∙◌}
use Rattle.std.specs.Prelude.{is_some}
use Rattle.tdl_desk.specs.Desk.{Desk, is_audible, orbits}
use Rattle.tdl_core.specs.Looks.{look_text, plays}

same_filter : (p q : ℕ → Bool) → ((x : ℕ) → p x ≡ q x) → (xs : List ℕ) → filter p xs ≡ filter q xs
same_filter p q h [] = refl
same_filter p q h (x ∷ xs) = ap₂ (λ (b : Bool) (l : List ℕ). cond b (x ∷ l) l) (h x) (same_filter p q h xs)

some_mapped : {P Q : Type 0} (f : P → Q) (o : Option P) → is_some (option_map f o) ≡ is_some o
some_mapped f None = refl
some_mapped f (Some x) = refl

pub look-mapped : {P Q : Type 0} (f : P → Q) (one : Desk P) (other : Desk Q) → ((orbit : ℕ) → other.pattern orbit ≡ option_map f (one.pattern orbit))
    → ((orbit : ℕ) → other.muted orbit ≡ one.muted orbit) → ((orbit : ℕ) → other.soloed orbit ≡ one.soloed orbit)
    → ((orbit : ℕ) → is_audible other orbit ≡ is_audible one orbit) → (frontier place : ℕ) → look_text one frontier place ≡ look_text other frontier place
look-mapped f one other patterns muted soloed audible frontier place =
    let plays_same = λ (orbit : ℕ). ap₂ (λ a b. a && b) (sym (audible orbit)) (sym (ap is_some (patterns orbit) ∙ some_mapped f (one.pattern orbit))) in
    rw (
      same_filter (plays one) (plays other) plays_same orbits,
      same_filter one.muted other.muted (λ o. sym (muted o)) orbits,
      same_filter one.soloed other.soloed (λ o. sym (soloed o)) orbits,
    )
