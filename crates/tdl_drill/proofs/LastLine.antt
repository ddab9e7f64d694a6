-- The finish is the last line of a drill, and no line before.
use Rattle.std.proofs.Common.{◌≡◌, ◌↔◌, ℕ, zero, suc, Bool, true, false, List, [], ◌∷◌, ◌++◌, get_or, codes, refl, ap, sym, ◌∙◌, arith}
use Rattle.std.specs.Prelude.{◌%◌, ◌==◌, if◌then◌else◌}
use Rattle.tdl_drill.specs.Drill.{amount_of, drum_line, finish_line, jump_line, kind_of, line_by, line_of_kind, lines_from, look_line, next_number, place_by}
use Rattle.tdl_drill.specs.Drill.{solo_line, tick_line}

-- lines begin with `t` and `p`, and the finish with `f`
abbrev begins : List ℕ → ℕ
begins line = get_or line 0 0

other_begin : (line : List ℕ) (byte : ℕ) → begins line ≡ byte → (byte ≡ 102 → ⊥) → line ≡ finish_line → ⊥
other_begin line byte is other finish = other (sym is ∙ ap begins finish)

chosen : (test : Bool) (one other : List ℕ) → (one ≡ finish_line → ⊥) → (other ≡ finish_line → ⊥) → (if test then one else other) ≡ finish_line → ⊥
chosen true one other not_one not_other = not_one
chosen false one other not_one not_other = not_other

solo_goes_on : (amount : ℕ) → solo_line amount ≡ finish_line → ⊥
solo_goes_on amount = chosen (amount % 2 == 0) (codes "p3 solo 1") (codes "p3 unsolo 1")
    (other_begin (codes "p3 solo 1") 112 refl (λ e. omega (arith, e))) (other_begin (codes "p3 unsolo 1") 112 refl (λ e. omega (arith, e)))

kind_goes_on : (kind amount place : ℕ) → line_of_kind kind amount place ≡ finish_line → ⊥
kind_goes_on kind amount place =
    let p : 112 ≡ 102 → ⊥ = λ e. omega (arith, e) in
    let t : 116 ≡ 102 → ⊥ = λ e. omega (arith, e) in
    let looks : look_line ≡ finish_line → ⊥ = other_begin look_line 112 refl p in
    let solos = chosen (kind == 3) (solo_line amount) look_line (solo_goes_on amount) looks in
    let jumps = chosen (kind == 2) (jump_line amount) (if kind == 3 then solo_line amount else look_line) (other_begin (jump_line amount) 112 refl p) solos in
    let drums = chosen (kind == 1) (drum_line amount) (if kind == 2 then jump_line amount else (if kind == 3 then solo_line amount else look_line))
    (other_begin (drum_line amount) 112 refl p) jumps in
    chosen (kind == 0) (tick_line place)
    (if kind == 1 then drum_line amount else (if kind == 2 then jump_line amount else (if kind == 3 then solo_line amount else look_line)))
    (other_begin (tick_line place) 116 refl t) drums

line_goes_on : (number place : ℕ) → line_by number place ≡ finish_line → ⊥
line_goes_on number place = kind_goes_on (kind_of number) (amount_of number) place

-- the finish is always there
some_left : (number place count : ℕ) → lines_from number place count ≡ [] → ⊥
unfolding lines_from
some_left number place zero none = cc
some_left number place (suc count) none = cc

none_after : (before rest : List (List ℕ)) (line : List ℕ) → [] ≡ before ++ line ∷ rest → ⊥
none_after [] rest line is = cc
none_after (b ∷ bs) rest line is = cc

abbrev tail_of : List (List ℕ) → List (List ℕ)
tail_of [] = []
tail_of (line ∷ rest) = rest

abbrev head_of : List (List ℕ) → List ℕ
head_of [] = []
head_of (line ∷ rest) = line

pub last_alone : (number place count : ℕ) (before rest : List (List ℕ)) (line : List ℕ) → lines_from number place count ≡ before ++ line ∷ rest
    → (line ≡ finish_line) ↔ (rest ≡ [])
unfolding lines_from
last_alone number place zero [] rest line is = (λ _. sym (ap tail_of is), λ _. sym (ap head_of is))
last_alone number place zero (b ∷ bs) rest line is = absurd (none_after bs rest line (ap tail_of is))
last_alone number place (suc count) [] rest line is =
    let drawn = next_number number in
    let there = place_by drawn place in (
      λ finish. absurd (line_goes_on drawn there (ap head_of is ∙ finish)),
      λ none. absurd (some_left drawn there count (ap tail_of is ∙ none)),
    )
last_alone number place (suc count) (b ∷ bs) rest line is =
    last_alone (next_number number) (place_by (next_number number) place) count bs rest line (ap tail_of is)
