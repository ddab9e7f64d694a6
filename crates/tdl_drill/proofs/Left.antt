-- The lines of a drill that are left, one after another.
use Rattle.std.proofs.Common.{◌≡◌, ◌≤◌, ℕ, zero, suc, ◌+◌, ◌-◌, false, List, [], ◌∷◌, refl, arith}
use Rattle.std.specs.Prelude.{◌==◌, if◌then◌else◌}
use Rattle.std.proofs.lemmas.Bool.{ne_eqb}
use Rattle.tdl_drill.specs.Drill.{amount_of, finish_line, kind_of, line_by, lines_from, next_number, place_by}

abbrev pub lines_left : ℕ → ℕ → ℕ → List (List ℕ)
lines_left number place left = if left == 0 then [] else lines_from number place (left - 1)

-- the finish alone is left
pub finish_left : (number place left : ℕ) (line : List ℕ) → left ≡ 1 → line ≡ finish_line
    → lines_left number place left ≡ line ∷ lines_left number place (left - 1)
unfolding lines_from
finish_left number place left line one is = rw (one, is) refl

one_more : (number place count : ℕ) → 1 ≤ count → lines_from number place count
    ≡ line_by (next_number number) (place_by (next_number number) place)
    ∷ lines_from (next_number number) (place_by (next_number number) place) (count - 1)
unfolding lines_from
one_more number place zero some = absurd (omega (arith, some))
one_more number place (suc count) some = let one : suc count - 1 ≡ count = omega arith in rw one refl

-- a line more than the finish is left
pub next_left : (number place left drawn there : ℕ) (line : List ℕ) → 2 ≤ left → drawn ≡ next_number number → there ≡ place_by drawn place
    → line ≡ line_by drawn there → lines_left number place left ≡ line ∷ lines_left drawn there (left - 1)
next_left number place left drawn there line some is_drawn is_there is =
    let here : (left == 0) ≡ false = ne_eqb left 0 (λ e. omega (arith, some, e)) in
    let later : (left - 1 == 0) ≡ false = ne_eqb (left - 1) 0 (λ e. omega (arith, some, e)) in
    rw (is, is_there, is_drawn, here, later) (one_more number place (left - 1) (omega (arith, some)))

-- where the last tick is by a number's line
pub ticks : (number place : ℕ) → kind_of number ≡ 0 → place + (1 + amount_of number) ≡ place_by number place
ticks number place tick = rw tick refl

pub ticks_not : (number place : ℕ) → (kind_of number ≡ 0 → ⊥) → place ≡ place_by number place
ticks_not number place other = let no : (kind_of number == 0) ≡ false = ne_eqb (kind_of number) 0 other in rw no refl
