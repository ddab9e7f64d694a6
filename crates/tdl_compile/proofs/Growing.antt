-- By how much at most what is met in a tree is finer and further than what it is asked for, of that of its children.
use Rattle.std.proofs.Common.{◌≡◌, ℕ, ◌+◌, ◌*◌, ◌<◌, ◌≤◌, max, nat_abs, ⊎_elim, ap, ◌∙◌, refl, arith}
use Rattle.std.specs.Int.{div_ceil}
use Rattle.std.proofs.Math.Nat.{le-mul_of_pos_right}
use Rattle.tdl_fraction.specs.Divisor.{lcm}
use Rattle.tdl_fraction.specs.Rational.{Rational}
use Rattle.tdl_fraction.proofs.Coprime.{lcm_positive}
use Rattle.tdl_expr.specs.declared.joinings.Op.{Op}
use Rattle.tdl_expr.specs.declared.joinings.Side.TheVariants.{Left, Right, Both}
use Rattle.tdl_expr.specs.declared.rounds.Test.{Test}
use Rattle.tdl_expr.specs.Tree.{Tree, Fast, Pick, When, Shift, Join, Trees}
use Rattle.tdl_expr.specs.Bounds.{hang, grid, upper, lower, fast_ask, fast_far, shift_ask, shift_far, fine, fine_of, reach, reach_of}
use Rattle.tdl_expr.specs.Valid.{IsValid}
use Rattle.tdl_expr.proofs.Numbers.{shared_positive, lower_positive, grid_positive}
use Rattle.tdl_compile.specs.declared.sizes.RowBounds.{RowBounds}
use Rattle.tdl_compile.specs.declared.sizes.Growth.{Growth}
use Rattle.tdl_compile.specs.Compiled.{capped}
use Rattle.tdl_compile.specs.inside.Sizes.{fine_below, reach_below, IsTooFine, IsTooFar, NumbersStandFor, KeepsBounds, GrowsSo, Grows, GrowsBelow}
use Rattle.tdl_compile.proofs.Capped.{capped_times_right}
use Rattle.tdl_compile.proofs.AtMost.{FinerBy, FurtherBy, finer_max, further_max, finer_asked, further_asked}
use Rattle.tdl_compile.proofs.AtMost.{shared_at_most, multiple_at_most, rounded_at_most, plus_at_most}
use Rattle.tdl_compile.proofs.Standing.{below_fine, below_reach, too_fine, too_far}

-- ---- the tree itself
own_finer : (e : Tree) (kept : ℕ) → kept ≡ capped (grid e) → FinerBy kept (λ q. lcm (grid e) q)
own_finer e kept is h q p =
    let exact : kept ≡ grid e = omega arith in
    rw exact (multiple_at_most (grid e) q p)

own_further : (e : Tree) (kept : ℕ) → capped kept ≡ capped (hang e) → FurtherBy (capped (capped kept + 1)) (λ m. m + hang e)
own_further e kept is h m =
    let exact : capped (capped kept + 1) ≡ hang e + 1 = omega arith in
    rw exact (plus_at_most (hang e) m)

past_finer : (finest all : ℕ → ℕ) (s t : ℕ) → FinerBy s finest → IsTooFine finest → FinerBy (max s t) all
past_finer finest all s t f u h q p =
    let met = f (omega arith) 1 (omega arith) in
    let past = u.past 1 (omega arith) in
    absurd (omega arith)

past_further : (furthest all : ℕ → ℕ) (s t : ℕ) → FurtherBy s furthest → IsTooFar furthest → FurtherBy (max s t) all
past_further furthest all s t f u h m =
    let met = f (omega arith) 0 in
    let past = u.past 0 in
    absurd (omega arith)

pub whole_grows : (e : Tree) (b : RowBounds) (out : Growth) → KeepsBounds b e → GrowsBelow b.growth e → out.finer ≡ max b.growth.finer b.grid
    → out.further ≡ max b.growth.further (capped (capped b.hang + 1)) → Grows out e
whole_grows e b out s below f k = record {
  finer = rw f (⊎_elim
      (λ u. finer_max b.growth.finer b.grid (fine_below e) (λ q. lcm (grid e) q) (fine e) below.finer (own_finer e b.grid u)
      (λ q. let l = below_fine e q in omega arith))
      (λ u. past_finer (fine_below e) (fine e) b.growth.finer b.grid below.finer u)
      s.grid);
  further = rw k (⊎_elim
      (λ u. further_max b.growth.further (capped (capped b.hang + 1)) (reach_below e) (λ m. m + hang e) (reach e) below.further (own_further e b.hang u)
      (λ m. let l = below_reach e m in omega arith))
      (λ u. past_further (reach_below e) (reach e) b.growth.further (capped (capped b.hang + 1)) below.further u)
      s.hang);
}

-- ---- below it
-- where nothing is below
pub none_below : (g : Growth) (furthest finest : ℕ → ℕ) → ((m : ℕ) → furthest m ≡ 0) → ((q : ℕ) → finest q ≡ 0) → g.further ≡ 1 → GrowsSo g furthest finest
none_below g furthest finest near coarse one = record {
  finer = λ h q p. omega (arith, coarse q);
  further = λ h m. rw one (omega (arith, near m));
}

pub fast_below : (r : Rational) (e : Tree) (g out : Growth) → 0 < upper r → Grows g e → out.finer ≡ capped (g.finer * lower r)
    → out.further ≡ capped (g.further * capped (upper r)) → GrowsBelow out (Fast r e)
fast_below r e g out p h f k =
    let times : out.further ≡ capped (g.further * upper r) = k ∙ capped_times_right g.further (upper r) in
    record {
      finer = rw f (finer_asked g.finer (lower r) (fine e) (fast_ask r) (fine_below (Fast r e)) (lower_positive r) h.finer
          (λ q u. shared_positive q (lower r) (upper r) u (lower_positive r)) (λ q u. shared_at_most q (lower r) (upper r) u (lower_positive r)) (λ q. refl));
      further = rw times (further_asked g.further (upper r) (reach e) (fast_far r) (reach_below (Fast r e)) p h.further
          (λ m. let l = rounded_at_most (m * upper r) (lower r) (lower_positive r) in omega arith) (λ m. refl));
    }

pub shift_below : (t : Rational) (e : Tree) (g out : Growth) → Grows g e → out.finer ≡ capped (g.finer * lower t)
    → out.further ≡ capped (g.further * capped (capped (div_ceil (nat_abs t.num) t.den) + 1)) → GrowsBelow out (Shift t e)
shift_below t e g out h f k =
    let moved = div_ceil (nat_abs t.num) t.den in
    let one : capped (capped moved + 1) ≡ capped (moved + 1) = omega arith in
    let times : out.further ≡ capped (g.further * (moved + 1)) = k ∙ ap (λ n. capped (g.further * n)) one ∙ capped_times_right g.further (moved + 1) in
    record {
      finer = rw f (finer_asked g.finer (lower t) (fine e) (shift_ask t) (fine_below (Shift t e)) (lower_positive t) h.finer
          (λ q u. lcm_positive q t.den u (lower_positive t)) (λ q u. let l = multiple_at_most q t.den (lower_positive t) in omega arith) (λ q. refl));
      further = rw times (further_asked g.further (moved + 1) (reach e) (shift_far t) (reach_below (Shift t e)) (omega arith) h.further
          (λ m. let l = plus_at_most moved m in omega arith) (λ m. refl));
    }

pub when_below : (modulus : ℕ) (test : Test) (d e : Tree) (g h out : Growth) → Grows g d → Grows h e → out.finer ≡ max g.finer h.finer
    → out.further ≡ max g.further h.further → GrowsBelow out (When modulus test d e)
when_below modulus test d e g h out s t f k = record {
  finer = rw f (finer_max g.finer h.finer (fine d) (fine e) (fine_below (When modulus test d e)) s.finer t.finer (λ q. refl));
  further = rw k (further_max g.further h.further (reach d) (reach e) (reach_below (When modulus test d e)) s.further t.further (λ m. refl));
}

pub both_below : (op : Op) (d e : Tree) (g h out : Growth) → Grows g d → Grows h e → out.finer ≡ max g.finer h.finer
    → out.further ≡ max g.further h.further → GrowsBelow out (Join Both op d e)
both_below op d e g h out s t f k = record {
  finer = rw f (finer_max g.finer h.finer (fine d) (fine e) (fine_below (Join Both op d e)) s.finer t.finer (λ q. refl));
  further = rw k (further_max g.further h.further (reach d) (reach e) (reach_below (Join Both op d e)) s.further t.further (λ m. refl));
}

-- of trees that are asked on the grid of another
finer_on_grid : (d : Tree) (x : RowBounds) (s : ℕ) (finest on_grid all : ℕ → ℕ) → IsValid d → NumbersStandFor x d → FinerBy s finest
    → ((q : ℕ) → 0 < q → 0 < on_grid q) → ((q : ℕ) → 0 < q → on_grid q ≤ grid d * q) → ((q : ℕ) → all q ≡ max (fine d q) (finest (on_grid q)))
    → FinerBy (max x.growth.finer (capped (s * x.grid))) all
finer_on_grid d x s finest on_grid all valid stands f positive most is =
    ⊎_elim
    (λ u. let exact : capped (s * x.grid) ≡ capped (s * grid d) = ap (λ n. capped (s * n)) u ∙ capped_times_right s (grid d) in
    rw exact (finer_max x.growth.finer (capped (s * grid d)) (fine d) (λ q. finest (on_grid q)) all stands.grows.finer
    (finer_asked s (grid d) finest on_grid (λ q. finest (on_grid q)) (grid_positive d valid) f positive most (λ q. refl)) is))
    (λ u. past_finer (fine d) all x.growth.finer (capped (s * x.grid)) stands.grows.finer (too_fine d u))
    stands.bounds.grid

further_by_hang : (d e : Tree) (x : RowBounds) (s : ℕ) (all : ℕ → ℕ) → NumbersStandFor x d → FurtherBy s (reach e)
    → ((m : ℕ) → all m ≡ max (reach d m) (reach e (m + hang d))) → FurtherBy (max x.growth.further (capped (s * capped (capped x.hang + 1)))) all
further_by_hang d e x s all stands f is =
    ⊎_elim
    (λ u. let one : capped (capped x.hang + 1) ≡ capped (hang d + 1) = omega arith in
    let exact : capped (s * capped (capped x.hang + 1)) ≡ capped (s * (hang d + 1)) =
    ap (λ n. capped (s * n)) one ∙ capped_times_right s (hang d + 1) in
    rw exact (further_max x.growth.further (capped (s * (hang d + 1))) (reach d) (λ m. reach e (m + hang d)) all stands.grows.further
    (further_asked s (hang d + 1) (reach e) (λ m. m + hang d) (λ m. reach e (m + hang d)) (omega arith) f
    (λ m. plus_at_most (hang d) m) (λ m. refl)) is))
    (λ u. past_further (reach d) all x.growth.further (capped (s * capped (capped x.hang + 1))) stands.grows.further (too_far d u))
    stands.bounds.hang

pub pick_below : (e : Tree) (trees : Trees) (x : RowBounds) (g out : Growth) → IsValid e → NumbersStandFor x e → GrowsSo g (reach_of trees) (fine_of trees)
    → out.finer ≡ max x.growth.finer (capped (g.finer * x.grid)) → out.further ≡ max x.growth.further g.further → GrowsBelow out (Pick e trees)
pick_below e trees x g out valid s t f k = record {
  finer = rw f (finer_on_grid e x g.finer (fine_of trees) (λ q. lcm (grid e) q) (fine_below (Pick e trees)) valid s t.finer
      (λ q p. lcm_positive (grid e) q (grid_positive e valid) p) (λ q p. multiple_at_most (grid e) q p) (λ q. refl));
  further = rw k (further_max x.growth.further g.further (reach e) (reach_of trees) (reach_below (Pick e trees)) s.grows.further t.further (λ m. refl));
}

-- a join whose wholes are those of the side d
module _ (op : Op) (d e : Tree) (x y : RowBounds) (out : Growth) (valid : IsValid d) (s : NumbersStandFor x d) (t : NumbersStandFor y e)
    (f : out.finer ≡ max x.growth.finer (capped (y.growth.finer * x.grid)))
    (k : out.further ≡ max x.growth.further (capped (y.growth.further * capped (capped x.hang + 1)))) where
  pub left_below : GrowsBelow out (Join Left op d e)
  left_below = record {
    finer = rw f (finer_on_grid d x y.growth.finer (fine e) (λ q. grid d) (fine_below (Join Left op d e)) valid s t.grows.finer
        (λ q p. grid_positive d valid) (λ q p. le-mul_of_pos_right (grid d) p) (λ q. refl));
    further = rw k (further_by_hang d e x y.growth.further (reach_below (Join Left op d e)) s t.grows.further (λ m. refl));
  }

  pub right_below : GrowsBelow out (Join Right op e d)
  right_below = record {
    finer = rw f (finer_on_grid d x y.growth.finer (fine e) (λ q. grid d) (fine_below (Join Right op e d)) valid s t.grows.finer
        (λ q p. grid_positive d valid) (λ q p. le-mul_of_pos_right (grid d) p) (λ q. omega arith));
    further = rw k (further_by_hang d e x y.growth.further (reach_below (Join Right op e d)) s t.grows.further (λ m. omega arith));
  }
