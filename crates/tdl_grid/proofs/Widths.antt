-- The equal pieces of a span, each of w counts, as the program works them out.
use Rattle.std.proofs.Common.{◌≡◌, ℕ, ◌+◌, ◌*◌, ◌^◌, ◌<◌, ◌≤◌, ℤ, pos, negsuc, ◌+ℤ◌, ◌-ℤ◌, ◌*ℤ◌, ◌<ℤ◌, nat_abs, FitsSigned, to_z}
use Rattle.std.proofs.Common.{[], ◌∷◌, refl, sym, ap, ap₂, ◌∙◌, subst, arith}
use Rattle.std.specs.Prelude.{int_div}
use Rattle.std.specs.Int.{◌∣◌}
use Rattle.std.proofs.lemmas.Int.{ints, to_z-of_z, to_z_pos}
use Rattle.std.proofs.Math.Nat.{mul-le-mul_left}
use mir.Syntax.{w128}
use Rattle.tdl_ring.proofs.Integers.{integers}
use Rattle.tdl_ring.proofs.Quoting.{by_ring, ring}
use Rattle.tdl_fraction.proofs.Integers.{times_lt_cancel}
use Rattle.tdl_fraction.proofs.Over.{div_z_times}
use Rattle.tdl_fraction.proofs.Words128.{quotient_is, near_fits, near_is}
use Rattle.tdl_grid.specs.Span.{IsCount, IsSpan}
use Rattle.tdl_grid.proofs.Sums.{read}

-- ---- the width
wide_fits : (s t : ℤ) → IsCount s → IsCount t → FitsSigned w128 (t -ℤ s)
wide_fits s t h k = omega (arith, ints)

-- a quotient that leaves no rest
width_read : (s t d : ℤ) (n : ℕ) → IsCount s → IsCount t → d ≡ t -ℤ s → 0 < n → n < 2 ^ 127 → n ∣ nat_abs (t -ℤ s)
    → t -ℤ s ≡ read (int_div (read d) (to_z w128 n)) *ℤ pos n
width_read s t d n hs ht e h small exact =
    sym
    (ap (λ k. read (int_div (read k) (to_z w128 n)) *ℤ pos n) e ∙ ap (λ k. k *ℤ pos n) (quotient_is (t -ℤ s) n (wide_fits s t hs ht) h small)
    ∙ div_z_times (t -ℤ s) n exact)

pub width_passed : (s t start stop : ℤ) (n : ℕ) → start ≡ s → stop ≡ t → IsCount s → IsCount t → 0 < n → n < 2 ^ 127 → n ∣ nat_abs (t -ℤ s)
    → t -ℤ s ≡ read (int_div (read (read stop -ℤ read start)) (to_z w128 n)) *ℤ pos n
width_passed s t start stop n e f hs ht some small exact =
    width_read s t (read stop -ℤ read start) n hs ht (ap₂ ◌-ℤ◌ (ap read f ∙ near_is t ht) (ap read e ∙ near_is s hs)) some small exact

-- ---- a piece
positive_as : (w : ℤ) → pos 0 <ℤ w → (m : ℕ) × (0 < m) × (w ≡ pos m)
positive_as (pos m) h = (m, omega (arith, ints), refl)
positive_as (negsuc m) h = absurd (omega (arith, ints))

zero_times : (n : ℕ) → pos 0 *ℤ pos n ≡ pos 0
zero_times n = ap pos (omega arith)

pub width_positive : (s t w : ℤ) (n : ℕ) → s <ℤ t → t -ℤ s ≡ w *ℤ pos n → pos 0 <ℤ w
width_positive s t w n ordered e = times_lt_cancel (pos 0) w n (rw (zero_times n, ← e) (above s t ordered))
  where
    above : (s t : ℤ) → s <ℤ t → pos 0 <ℤ (t -ℤ s)
    above s t h = omega (arith, ints)

pub piece_counts : (s t w : ℤ) (n j : ℕ) → s <ℤ t → IsCount s → IsCount t → t -ℤ s ≡ w *ℤ pos n → j < n
    → IsSpan (s +ℤ w *ℤ pos j) (s +ℤ w *ℤ pos (j + 1))
piece_counts s t w n j ordered hs ht e below =
    let m = positive_as w (width_positive s t w n ordered e) in
    let P : ℤ → Type 0 = λ w. t -ℤ s ≡ w *ℤ pos n → IsSpan (s +ℤ w *ℤ pos j) (s +ℤ w *ℤ pos (j + 1)) in
    subst P (sym m.2) (λ e. within m.0 m.1 e) e
  where
    spans : (k l k' : ℕ) → t -ℤ s ≡ pos l → k' ≤ l → k < k' → IsSpan (s +ℤ pos k) (s +ℤ pos k')
    spans k l k' e h rising = record { ordered = omega (arith, ints); start_small = omega (arith, ints); stop_small = omega (arith, ints) }

    within : (m : ℕ) → 0 < m → t -ℤ s ≡ pos (m * n) → IsSpan (s +ℤ pos (m * j)) (s +ℤ pos (m * (j + 1)))
    within m h e =
        let last : m * (j + 1) ≤ m * n = mul-le-mul_left m (omega arith) in
        let next : m * (j + 1) ≡ m * j + m = omega arith in
        spans (m * j) (m * n) (m * (j + 1)) e last (omega arith)

-- the product, and the two sums
pub product_small : (s t w : ℤ) (n j : ℕ) → s <ℤ t → IsCount s → IsCount t → t -ℤ s ≡ w *ℤ pos n → j < n → FitsSigned w128 (w *ℤ pos j)
product_small s t w n j ordered hs ht e below =
    let span = piece_counts s t w n j ordered hs ht e below in
    small s (w *ℤ pos j) hs span.start_small
  where
    small : (s k : ℤ) → IsCount s → IsCount (s +ℤ k) → FitsSigned w128 k
    small s k h g = omega (arith, ints)

module _ (s t w start : ℤ) (n j : ℕ) (is : start ≡ s) (ordered : s <ℤ t) (hs : IsCount s) (ht : IsCount t) (fits : FitsSigned w128 w) (below : j < n)
    (small : n < 2 ^ 127) (e : t -ℤ s ≡ w *ℤ pos n) where
  pub piece_start : read (read start +ℤ read (read w *ℤ to_z w128 j)) ≡ s +ℤ w *ℤ pos j
  piece_start =
      let span = piece_counts s t w n j ordered hs ht e below in
      let j_small : j < 2 ^ 127 = omega arith in
      let product : read (read w *ℤ to_z w128 j) ≡ w *ℤ pos j =
      ap read (ap₂ ◌*ℤ◌ (to_z-of_z w128 w fits) (to_z_pos w128 j j_small)) ∙ to_z-of_z w128 (w *ℤ pos j) (product_small s t w n j ordered hs ht e below) in
      ap read (ap₂ ◌+ℤ◌ (ap read is ∙ near_is s hs) product) ∙ near_is (s +ℤ w *ℤ pos j) span.start_small

  -- the piece's stop, from its start
  piece_sum : read (read start +ℤ read (read w *ℤ to_z w128 j)) +ℤ read w ≡ s +ℤ w *ℤ pos (j + 1)
  piece_sum = ap₂ ◌+ℤ◌ piece_start (to_z-of_z w128 w fits) ∙ next s w (pos j)
    where
      next : (s w j : ℤ) → (s +ℤ w *ℤ j) +ℤ w ≡ s +ℤ w *ℤ (j +ℤ pos 1)
      next s w j = by_ring integers (s ∷ w ∷ j ∷ []) (search ring depth 12) refl

  pub piece_fits : FitsSigned w128 (read (read start +ℤ read (read w *ℤ to_z w128 j)) +ℤ read w)
  piece_fits = rw piece_sum (near_fits _ (piece_counts s t w n j ordered hs ht e below).stop_small)

  pub piece_stop : read (read (read start +ℤ read (read w *ℤ to_z w128 j)) +ℤ read w) ≡ s +ℤ w *ℤ pos (j + 1)
  piece_stop = ap read piece_sum ∙ near_is _ (piece_counts s t w n j ordered hs ht e below).stop_small
