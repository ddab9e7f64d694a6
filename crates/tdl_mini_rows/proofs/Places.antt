-- Where a number stands in a list.
use Rattle.std.proofs.Common.{◌≡◌, ℕ, suc, ◌+◌, ◌<◌, true, false, List, length, drop, get_or, refl, ap, ◌∙◌, subst, arith, drop-cons, if◌then◌else◌}
use Rattle.tdl_fraction.specs.Rational.{Rational}
use Rattle.tdl_fraction.specs.Same.{same_ℚ}
use Rattle.tdl_mini_rows.specs.Leaves.{index_in}

module _ (numbers : List Rational) (number : Rational) (i : ℕ) (x : Rational) (h : i < length numbers) (is : get_or numbers i x ≡ x) where
  here : index_in (drop i numbers) number ≡ (if same_ℚ number x then 0 else suc (index_in (drop (suc i) numbers) number))
  here =
      ap (λ (ns : List Rational). index_in ns number) (drop-cons numbers i x h)
      ∙ ap (λ (y : Rational). if same_ℚ number y then 0 else suc (index_in (drop (suc i) numbers) number)) is

  pub place_found : same_ℚ number x ≡ true → i + index_in (drop i numbers) number ≡ index_in numbers number → i ≡ index_in numbers number
  place_found same before =
      let zero_here : index_in (drop i numbers) number ≡ 0 = here ∙ rw same refl in
      omega arith

  pub place_next : same_ℚ number x ≡ false → i + index_in (drop i numbers) number ≡ index_in numbers number
      → (i + 1) + index_in (drop (i + 1) numbers) number ≡ index_in numbers number
  place_next same before =
      let more : index_in (drop i numbers) number ≡ suc (index_in (drop (suc i) numbers) number) = here ∙ rw same refl in
      let next : suc i ≡ i + 1 = omega arith in
      let P : ℕ → Type 0 = λ k. k + index_in (drop k numbers) number ≡ index_in numbers number in
      let at : suc i + index_in (drop (suc i) numbers) number ≡ index_in numbers number = omega arith in
      subst P next at
