-- Whole numbers as bounded ones, rows at a rate, and one over a bounded rate.
use Rattle.std.proofs.Common.{◌≡◌, ℕ, ◌^◌, ◌<◌, ◌≤◌, Bool, true, false, Result, ℤ, pos, nat_abs, List, refl, sym, ap, ◌∙◌, subst, arith}
use Rattle.tdl_fraction.specs.Rational.{Rational, frac, whole, neg_ℚ, lt_ℚ, ◌<ℚ◌}
use Rattle.tdl_fraction.specs.Range.{InRange}
use Rattle.tdl_fraction.proofs.Euclid.{gcd-one}
use Rattle.tdl_fraction.proofs.Over.{frac_num_lowest, frac_den_lowest}
use Rattle.tdl_fraction.proofs.Ranges.{InRange-frac}
use Rattle.tdl_rows.specs.Arguments.{HasBoundedParts}
use Rattle.tdl_expr.specs.Tree.{Tree, Silence, Rev}
use Rattle.tdl_rows.specs.Built.{Built, one_row, ◌▸◌}
use Rattle.tdl_expr.specs.declared.ids.NodeId.{NodeId}
use Rattle.tdl_expr.specs.declared.nodes.Node.{Node}
use Rattle.tdl_expr.specs.declared.tables.PushFault.{PushFault}
use Rattle.tdl_expr.specs.Rows.{tree_at}
use Rattle.tdl_rows.specs.Joined.{faster, fast_of}
use Rattle.tdl_rows.specs.Lowers.{LowersTo, Lowers, Refused}
use Rattle.tdl_rows.proofs.Gained.{Refused-first, LowersTo-after}

-- whole numbers
pub whole_bounded : (n : ℤ) → nat_abs n ≤ 2 ^ 30 → HasBoundedParts (whole n)
unfolding whole
whole_bounded n small = record {
  near = subst (λ (k : ℤ). nat_abs k ≤ 2 ^ 30) (sym (frac_num_lowest n 1 (omega arith) (gcd-one (nat_abs n)))) small;
  fine = omega (arith, frac_den_lowest n 1 (omega arith) (gcd-one (nat_abs n)));
}

pub fast-negative : (rate : Rational) (t : Tree) → lt_ℚ (whole (pos 0)) rate ≡ false → lt_ℚ (whole (pos 0)) (neg_ℚ rate) ≡ true
    → fast_of rate t ≡ (faster (neg_ℚ rate) t ▸ λ f. one_row 1 (Rev f))
fast-negative rate t e f = rw (e, f) refl

pub fast-zero : (rate : Rational) (t : Tree) → lt_ℚ (whole (pos 0)) rate ≡ false → lt_ℚ (whole (pos 0)) (neg_ℚ rate) ≡ false
    → fast_of rate t ≡ one_row 0 Silence
fast-zero rate t e f = rw (e, f) refl

-- one over a bounded rate is in range
pub inverse_fits : (rate : Rational) (num : ℤ) (den : ℕ) → HasBoundedParts rate → nat_abs num ≡ rate.den → den ≡ nat_abs rate.num → 0 < den
    → InRange (frac num den)
inverse_fits rate num den bounded n d p = InRange-frac num den p (omega (arith, bounded.near)) (omega (arith, bounded.fine))

pub above_zero : (z rate : Rational) → z ≡ whole (pos 0) → z <ℚ rate → whole (pos 0) <ℚ rate
above_zero z rate e h = let P : Rational → Type 0 = λ y. y <ℚ rate in subst P e h

-- what a comparison with a number that is 0 says
pub less_is : (z rate other : Rational) (r b : Bool) → z ≡ whole (pos 0) → other ≡ rate → r ≡ lt_ℚ z other → r ≡ b → lt_ℚ (whole (pos 0)) rate ≡ b
less_is z rate other r b e o v t = cc

module _ (rate turned : Rational) (t : Tree) (low : lt_ℚ (whole (pos 0)) rate ≡ false) (high : lt_ℚ (whole (pos 0)) (neg_ℚ rate) ≡ true)
    (is : turned ≡ neg_ℚ rate) where
  turned_built : (faster turned t ▸ λ f. one_row 1 (Rev f)) ≡ fast_of rate t
  turned_built = ap (λ (r : Rational). faster r t ▸ λ f. one_row 1 (Rev f)) is ∙ sym (fast-negative rate t low high)

  pub turned_refused : (old new : List Node) (fault : PushFault) → Refused old new (faster turned t).rows fault → Refused old new (fast_of rate t).rows fault
  turned_refused old new fault refused =
      let P : Built Tree → Type 0 = λ built. Refused old new built.rows fault in
      subst P turned_built (Refused-first _ refused)

  pub turned_row : (old mid new : List Node) (id : NodeId) (result : Result NodeId PushFault) → Lowers old mid (faster turned t) id
      → LowersTo mid new (one_row 1 (Rev (tree_at mid id))) result → LowersTo old new (fast_of rate t) result
  turned_row old mid new id result first second =
      let P : Built Tree → Type 0 = λ built. LowersTo old new built result in
      subst P turned_built (LowersTo-after new (faster turned t) (λ f. one_row 1 (Rev f)) first result second)
