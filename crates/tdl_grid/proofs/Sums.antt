-- What the program's sums and differences of counts come to.
use Rattle.std.proofs.Common.{◌≡◌, ℕ, ◌^◌, ◌<◌, ◌≤◌, ℤ, pos, ◌+ℤ◌, ◌-ℤ◌, ◌*ℤ◌, nat_abs, FitsSigned, to_z, of_z, w64, ap, ap₂, ◌∙◌, subst, arith}
use Rattle.std.specs.Int.{int_min, int_max}
use Rattle.std.proofs.lemmas.Int.{ints, clamps, to_z-of_z, unsigned_abs-mul}
use Rattle.std.proofs.Math.Nat.{mul-le-mul}
use mir.Syntax.{w128}
use Rattle.tdl_fraction.proofs.Integers.{times_lt}
use Rattle.tdl_fraction.proofs.Words128.{near_fits, near_is}
use Rattle.tdl_meaning.proofs.Between.{cycle_word}
use Rattle.tdl_grid.specs.Span.{Span, IsCount, IsSpan, later_span, earlier_span, turn_span, span_between, met}

-- a number as the program passes it on
abbrev pub read : ℤ → ℤ
read n = to_z w128 (of_z w128 n)

-- the span between two counts
abbrev pub ends : ℤ → ℤ → Span
ends a b = record { start = a; stop = b }

pub sum_read : (n m : ℤ) → FitsSigned w128 n → FitsSigned w128 m → IsCount (n +ℤ m) → read (read n +ℤ read m) ≡ n +ℤ m
sum_read n m f g h = rw (to_z-of_z w128 n f, to_z-of_z w128 m g) (near_is (n +ℤ m) h)

pub difference_read : (n m : ℤ) → FitsSigned w128 n → FitsSigned w128 m → IsCount (n -ℤ m) → read (read n -ℤ read m) ≡ n -ℤ m
difference_read n m f g h = rw (to_z-of_z w128 n f, to_z-of_z w128 m g) (near_is (n -ℤ m) h)

-- spans moved by a number
module _ (self : Span) (a b by : ℤ) (view : ends a b ≡ self) (start : IsCount a) (stop : IsCount b) (fits : FitsSigned w128 by) where
  pub later_read : IsCount (self.start +ℤ by) → IsCount (self.stop +ℤ by) → ends (read (read a +ℤ read by)) (read (read b +ℤ read by)) ≡ later_span by self
  later_read =
      let P : Span → Type 0 = λ s. IsCount (s.start +ℤ by) → IsCount (s.stop +ℤ by)
      → ends (read (read a +ℤ read by)) (read (read b +ℤ read by)) ≡ later_span by s in
      subst P view (λ h k. ap₂ ends (sum_read a by (near_fits a start) fits h) (sum_read b by (near_fits b stop) fits k))

  pub earlier_read : IsCount (self.start -ℤ by) → IsCount (self.stop -ℤ by)
      → ends (read (read a -ℤ read by)) (read (read b -ℤ read by)) ≡ earlier_span by self
  earlier_read =
      let P : Span → Type 0 = λ s. IsCount (s.start -ℤ by) → IsCount (s.stop -ℤ by)
      → ends (read (read a -ℤ read by)) (read (read b -ℤ read by)) ≡ earlier_span by s in
      subst P view (λ h k. ap₂ ends (difference_read a by (near_fits a start) fits h) (difference_read b by (near_fits b stop) fits k))

  pub turned_read : IsCount (by -ℤ self.start) → IsCount (by -ℤ self.stop)
      → ends (read (read by -ℤ read b)) (read (read by -ℤ read a)) ≡ turn_span (λ n. by -ℤ n) self
  turned_read =
      let P : Span → Type 0 = λ s. IsCount (by -ℤ s.start) → IsCount (by -ℤ s.stop)
      → ends (read (read by -ℤ read b)) (read (read by -ℤ read a)) ≡ turn_span (λ n. by -ℤ n) s in
      subst P view (λ h k. ap₂ ends (difference_read by b fits (near_fits b stop) k) (difference_read by a fits (near_fits a start) h))

-- what two spans share
between_as : (m n m' n' : ℤ) → m ≡ m' → n ≡ n' → span_between m n ≡ span_between m' n'
between_as m n m' n' e f = ap₂ span_between e f

greatest_small : (a c : ℤ) → IsCount a → IsCount c → IsCount (int_max a c)
greatest_small a c h k = omega (arith, ints, clamps)

least_small : (a c : ℤ) → IsCount a → IsCount c → IsCount (int_min a c)
least_small a c h k = omega (arith, ints, clamps)

pub meet_read : (self other : Span) (a b c d m n : ℤ) → ends a b ≡ self → ends c d ≡ other → IsCount a → IsCount b → IsCount c → IsCount d
    → m ≡ int_max (read a) (read c) → n ≡ int_min (read b) (read d) → span_between (read m) (read n) ≡ met self other
unfolding met
meet_read self other a b c d m n view view' ha hb hc hd e f =
    let start : m ≡ int_max a c = e ∙ ap₂ int_max (near_is a ha) (near_is c hc) in
    let stop : n ≡ int_min b d = f ∙ ap₂ int_min (near_is b hb) (near_is d hd) in
    between_as _ _ (int_max a c) (int_min b d)
    (ap read start ∙ near_is (int_max a c) (greatest_small a c ha hc))
    (ap read stop ∙ near_is (int_min b d) (least_small b d hb hd))
    ∙ ap₂ (λ (s t : Span). span_between (int_max s.start t.start) (int_min s.stop t.stop)) view view'

-- ---- cycles
pub count_small : (c : ℤ) (u : ℕ) → nat_abs c ≤ 2 ^ 36 → u ≤ 2 ^ 88 → IsCount (c *ℤ pos u)
count_small c u h k = rw (unsigned_abs-mul c (pos u)) (mul-le-mul h k)

pub cycle_counts : (c : ℤ) (u : ℕ) → nat_abs c ≤ 2 ^ 36 → nat_abs (c +ℤ pos 1) ≤ 2 ^ 36 → 0 < u → u ≤ 2 ^ 88 → IsSpan (c *ℤ pos u) ((c +ℤ pos 1) *ℤ pos u)
cycle_counts c u near last h small = record {
  ordered = times_lt c (c +ℤ pos 1) u h (omega (arith, ints));
  start_small = count_small c u near small;
  stop_small = count_small (c +ℤ pos 1) u last small;
}

-- the number of a cycle as it is passed, times the unit
pub cycle_read : (n c r : ℤ) (u : ℕ) → n ≡ c → nat_abs n ≤ 2 ^ 36 → r ≡ to_z w64 (of_z w64 n) *ℤ pos u → r ≡ c *ℤ pos u
cycle_read n c r u e h f = f ∙ ap (λ k. k *ℤ pos u) (cycle_word n h ∙ e)

pub cycle_ends_read : (c r r' : ℤ) (u : ℕ) → nat_abs c ≤ 2 ^ 36 → nat_abs (c +ℤ pos 1) ≤ 2 ^ 36 → u ≤ 2 ^ 88 → r ≡ c *ℤ pos u → r' ≡ (c +ℤ pos 1) *ℤ pos u
    → (read r ≡ c *ℤ pos u) × (read r' ≡ (c +ℤ pos 1) *ℤ pos u)
cycle_ends_read c r r' u near last small e f = (
  ap read e ∙ near_is (c *ℤ pos u) (count_small c u near small),
  ap read f ∙ near_is ((c +ℤ pos 1) *ℤ pos u) (count_small (c +ℤ pos 1) u last small),
)
