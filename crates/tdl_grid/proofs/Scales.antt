-- The counts of a span in a unit so many times as fine or as coarse, as the program works them out.
use Rattle.std.proofs.Common.{◌≡◌, ℕ, ◌*◌, ◌^◌, ◌<◌, ◌≤◌, ℤ, pos, ◌*ℤ◌, nat_abs, to_z, sym, ap, ap₂, ◌∙◌, subst, subst₂, arith}
use Rattle.std.specs.Prelude.{int_div}
use Rattle.std.specs.Int.{◌∣◌}
use Rattle.std.proofs.lemmas.Int.{to_z_pos, unsigned_abs-mul}
use Rattle.std.proofs.Math.Nat.{mul-le-mul_left}
use mir.Syntax.{w128}
use lib.Signed.{◌<ℤ◌}
use Rattle.tdl_fraction.specs.Divisor.{div_z}
use Rattle.tdl_fraction.proofs.Integers.{times_lt, times_lt_cancel}
use Rattle.tdl_fraction.proofs.Over.{div_z_times}
use Rattle.tdl_fraction.proofs.Words128.{quotient_is, near_fits, near_is}
use Rattle.tdl_grid.specs.Span.{Span, IsCount, IsSpan, finer_span}
use Rattle.tdl_grid.proofs.Sums.{read, ends}

product_read : (n : ℤ) (x : ℕ) → IsCount n → x ≤ 2 ^ 88 → IsCount (n *ℤ pos x) → read (read n *ℤ to_z w128 x) ≡ n *ℤ pos x
product_read n x h small fits =
    let few : x < 2 ^ 127 = omega arith in
    ap read (ap₂ ◌*ℤ◌ (near_is n h) (to_z_pos w128 x few)) ∙ near_is (n *ℤ pos x) fits

quotient_read : (n : ℤ) (x : ℕ) → IsCount n → 0 < x → x ≤ 2 ^ 88 → read (int_div (read n) (to_z w128 x)) ≡ div_z n x
quotient_read n x h some small = let few : x < 2 ^ 127 = omega arith in quotient_is n x (near_fits n h) some few

quotient_small : (q n : ℤ) (x : ℕ) → 0 < x → q *ℤ pos x ≡ n → IsCount n → IsCount q
quotient_small q n x some e h =
    let size : nat_abs n ≡ nat_abs q * x = ap nat_abs (sym e) ∙ unsigned_abs-mul q (pos x) in
    let least : nat_abs q * 1 ≤ nat_abs q * x = mul-le-mul_left (nat_abs q) (omega arith) in
    omega arith

module _ (self : Span) (a b : ℤ) (x : ℕ) (view : ends a b ≡ self) (span : IsSpan a b) (some : 0 < x) (small : x ≤ 2 ^ 88) where
  pub finer_read : IsCount (self.start *ℤ pos x) → IsCount (self.stop *ℤ pos x)
      → IsSpan (read (read a *ℤ to_z w128 x)) (read (read b *ℤ to_z w128 x))
      × (ends (read (read a *ℤ to_z w128 x)) (read (read b *ℤ to_z w128 x)) ≡ finer_span x self)
  finer_read =
      let P : Span → Type 0 = λ s. IsCount (s.start *ℤ pos x) → IsCount (s.stop *ℤ pos x)
      → IsSpan (read (read a *ℤ to_z w128 x)) (read (read b *ℤ to_z w128 x))
      × (ends (read (read a *ℤ to_z w128 x)) (read (read b *ℤ to_z w128 x)) ≡ finer_span x s) in
      subst P view
      (λ h k.
      let start = product_read a x span.start_small small h in
      let stop = product_read b x span.stop_small small k in
      (rw (start, stop) (record { ordered = times_lt a b x some span.ordered; start_small = h; stop_small = k }), ap₂ ends start stop))

  pub coarser_read : x ∣ nat_abs self.start → x ∣ nat_abs self.stop
      → IsSpan (read (int_div (read a) (to_z w128 x))) (read (int_div (read b) (to_z w128 x)))
      × (finer_span x (ends (read (int_div (read a) (to_z w128 x))) (read (int_div (read b) (to_z w128 x)))) ≡ self)
  coarser_read =
      let P : Span → Type 0 = λ s. x ∣ nat_abs s.start → x ∣ nat_abs s.stop
      → IsSpan (read (int_div (read a) (to_z w128 x))) (read (int_div (read b) (to_z w128 x)))
      × (finer_span x (ends (read (int_div (read a) (to_z w128 x))) (read (int_div (read b) (to_z w128 x)))) ≡ s) in
      subst P view
      (λ h k.
      let start = quotient_read a x span.start_small some small in
      let stop = quotient_read b x span.stop_small some small in
      let first = div_z_times a x h in
      let last = div_z_times b x k in (
        rw (start, stop) (record {
          ordered = times_lt_cancel (div_z a x) (div_z b x) x (subst₂ ◌<ℤ◌ (sym first) (sym last) span.ordered);
          start_small = quotient_small (div_z a x) a x some first span.start_small;
          stop_small = quotient_small (div_z b x) b x some last span.stop_small;
        }),
        ap₂ (λ s t. finer_span x (ends s t)) start stop ∙ ap₂ ends first last,
      ))
