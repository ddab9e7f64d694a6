-- The octaves of note names.
use Rattle.std.proofs.Common.{◌≡◌, ℕ, zero, suc, ◌<◌, ◌≤◌, ◌^◌, true, ◌||◌, ◌==◌, ℤ, pos, ◌+ℤ◌, ◌-ℤ◌, ◌*ℤ◌, List, [], ◌∷◌, length, Some, refl, sym, arith}
use Rattle.std.proofs.Common.{w32, to_z, of_z}
use Rattle.std.specs.Prelude.{FitsSigned, unsigned_abs}
use Rattle.std.specs.Char.{is_ascii_digit}
use Rattle.std.specs.Str.Parse.{digits_value}
use Rattle.std.proofs.lemmas.Bool.{false≢true, and_parts}
use Rattle.std.proofs.lemmas.Bool.Decides.{nat_tests}
use Rattle.std.proofs.lemmas.Int.{ints, to_z-of_z, to_z_pos}
use Rattle.std.proofs.lemmas.Int.Digits.{digits_value-lt}
use Rattle.tdl_mini_machine.specs.Notes.{octave_note}
use Rattle.tdl_mini_reader.specs.inside.NoteView.{is_octave}
use Rattle.tdl_mini_machine.proofs.DigitLemmas.{all_digits}

-- ---- octaves
pub octave_small : (text : List ℕ) → is_octave text ≡ true → digits_value 10 text < 100
octave_small text h = within (length text) (digits_value 10 text) (and_parts _ _ h).0 (digits_value-lt 10 text (all_digits text (and_parts _ _ h).1))
  where
    within : (n v : ℕ) → ((n == 1) || (n == 2)) ≡ true → v < 10 ^ n → v < 100
    within zero v e below = omega arith
    within (suc zero) v e below = omega arith
    within (suc (suc zero)) v e below = omega arith
    within (suc (suc (suc n))) v e below = grind (arith, nat_tests)

abbrev in_octave : ℤ → List ℕ → ℤ
in_octave note text = note +ℤ pos 12 *ℤ (pos (digits_value 10 text) -ℤ pos 5)

pub octave_is : (note : ℤ) (text : List ℕ) → is_octave text ≡ true → octave_note note text ≡ Some (in_octave note text)
octave_is note [] h = absurd (false≢true h)
octave_is note (a ∷ []) h = rw (and_parts (is_ascii_digit a) true h).0 refl
octave_is note (a ∷ b ∷ []) h = rw h refl
octave_is note (a ∷ b ∷ c ∷ rest) h = grind (arith, nat_tests)

-- ---- the sums of the program
pub value_fits : (v : ℕ) → v < 100 → FitsSigned w32 (pos v)
value_fits v small = omega (arith, ints)

less_fits : (v : ℕ) → v < 100 → FitsSigned w32 (pos v -ℤ pos 5)
less_fits v small = omega (arith, ints)

times_fits : (v : ℕ) → v < 100 → FitsSigned w32 (pos 12 *ℤ (pos v -ℤ pos 5))
times_fits v small = omega (arith, ints)

sum_fits : (note : ℤ) (v : ℕ) → unsigned_abs note ≤ 100 → v < 100 → FitsSigned w32 (note +ℤ pos 12 *ℤ (pos v -ℤ pos 5))
sum_fits note v near small = omega (arith, ints)

note_fits : (note : ℤ) → unsigned_abs note ≤ 100 → FitsSigned w32 note
note_fits note near = omega (arith, ints)

seen_value : (v : ℕ) → v < 100 → to_z w32 v ≡ pos v
seen_value v small = to_z_pos w32 v (omega arith)

pub seen_less_fits : (v : ℕ) → v < 100 → FitsSigned w32 (to_z w32 v -ℤ pos 5)
seen_less_fits v small = rw (seen_value v small) (less_fits v small)

pub seen_times_fits : (v : ℕ) → v < 100 → FitsSigned w32 (pos 12 *ℤ to_z w32 (of_z w32 (to_z w32 v -ℤ pos 5)))
seen_times_fits v small = rw (seen_value v small, to_z-of_z w32 (pos v -ℤ pos 5) (less_fits v small)) (times_fits v small)

pub seen_sum_fits : (note : ℤ) (v : ℕ) → unsigned_abs note ≤ 100 → v < 100
    → FitsSigned w32 (to_z w32 (of_z w32 note) +ℤ to_z w32 (of_z w32 (pos 12 *ℤ to_z w32 (of_z w32 (to_z w32 v -ℤ pos 5)))))
seen_sum_fits note v near small =
    rw (
      seen_value v small,
      to_z-of_z w32 (pos v -ℤ pos 5) (less_fits v small),
      to_z-of_z w32 (pos 12 *ℤ (pos v -ℤ pos 5))
          (times_fits v small),
      to_z-of_z w32 note (note_fits note near),
    ) (sum_fits note v near small)

pub seen_sum : (note : ℤ) (text : List ℕ) (v : ℕ) → unsigned_abs note ≤ 100 → is_octave text ≡ true → v ≡ digits_value 10 text
    → Some (to_z w32 (of_z w32 (to_z w32 (of_z w32 note) +ℤ to_z w32 (of_z w32 (pos 12 *ℤ to_z w32 (of_z w32 (to_z w32 v -ℤ pos 5)))))))
    ≡ octave_note note text
seen_sum note text v near octave value =
    let small : v < 100 = rw value (octave_small text octave) in
    rw (
      seen_value v small,
      to_z-of_z w32 (pos v -ℤ pos 5) (less_fits v small),
      to_z-of_z w32 (pos 12 *ℤ (pos v -ℤ pos 5))
          (times_fits v small),
      to_z-of_z w32 note (note_fits note near),
      to_z-of_z w32 (note +ℤ pos 12 *ℤ (pos v -ℤ pos 5))
          (sum_fits note v near small),
      value,
    ) (sym (octave_is note text octave))

pub octave_below : (text : List ℕ) (v : ℕ) → true ≡ is_octave text → v ≡ digits_value 10 text → v < 100
octave_below text v octave value = rw value (octave_small text (sym octave))
