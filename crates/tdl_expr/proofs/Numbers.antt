-- What a computation of the bounds cites.
--     gcd_rest, shared_out_last            factors are taken out before they are multiplied
--     count_at_most_load                   a tree has no more events in a cycle than it asks for visits
--     join_grid                            the grid of a join, whichever side gives the wholes
--     grid_positive and kin                grids of valid trees are above 0
--     grid_at_most_fine and kin            a tree is as fine and as far as its own numbers and what it is asked for
use Rattle.std.proofs.Common.{◌≡◌, ℕ, ◌+◌, ◌*◌, ◌/◌, ◌%◌, ◌<◌, ◌≤◌, max, pos, refl, ap, ◌∙◌, arith}
use Rattle.std.proofs.lemmas.Nat.Gcd.{le_of_dvd}
use Rattle.std.proofs.Math.Nat.{mul_comm, mul-pos, mul-div_assoc, mul-le-mul, mul-le-mul_left, mul-le-mul_right, pos_of_dvd_of_pos}
use Rattle.tdl_fraction.specs.Divisor.{gcd, lcm}
use Rattle.tdl_fraction.specs.LowestTerms.{IsGcd-gcd, positive_quotient}
use Rattle.tdl_fraction.specs.Rational.{Rational, whole, ◌<ℚ◌}
use Rattle.tdl_fraction.proofs.Coprime.{gcd_is, gcd_without, divides_lcm_left, divides_lcm_right, lcm_positive}
use Rattle.tdl_fraction.proofs.Euclid.{gcd-mod}
use Rattle.tdl_fraction.proofs.Over.{den_positive}
use Rattle.tdl_expr.specs.declared.joinings.Side.{Side}
use Rattle.tdl_expr.specs.declared.joinings.Side.TheVariants.{Left, Right, Both}
use Rattle.tdl_expr.specs.Tree.{Tree, Silence, Pure, Fast, TimeCat, Cat, Stack, Rev, Pick, When, Shift, Join, Ply, Gate, Trees, empty, child, Steps, none}
use Rattle.tdl_expr.specs.Tree.{step}
use Rattle.tdl_expr.specs.Bounds.{Bounds, bounds, bounds_of, bounds_of_steps, upper, lower, touched, shift_touches, span, of_join}
use Rattle.tdl_expr.specs.Bounds.{shared_out, counts, loads, most, grids, grid, hang, fine, reach}
use Rattle.tdl_expr.specs.Valid.{IsValid, AreValid, AreValidSteps}
use Rattle.tdl_expr.proofs.WeightLemmas.{num_positive}

-- ---- factors
pub gcd_swap : (a b : ℕ) → gcd a b ≡ gcd b a
gcd_swap a b = let g = IsGcd-gcd b a in gcd_is a b (gcd b a) (g.1, g.0, λ k h i. g.2 k i h)

-- a remainder in place of the second number
pub gcd_rest : (a b : ℕ) → gcd a (b % a) ≡ gcd a b
gcd_rest a b = gcd-mod b a ∙ gcd_swap b a

pub gcd_positive_left : (a b : ℕ) → 0 < a → 0 < gcd a b
gcd_positive_left a b p = pos_of_dvd_of_pos (IsGcd-gcd a b).0 p

pub shared_out_last : (a n d : ℕ) → 0 < a → gcd n d ≡ 1 → shared_out a n d ≡ n * (a / gcd a d)
shared_out_last a n d p c =
    ap (λ g. a * n / g) (gcd_without a n d p c) ∙ ap (λ m. m / gcd a d) (mul_comm a n) ∙ mul-div_assoc (gcd a d) n (IsGcd-gcd a d).0

pub shared_positive : (a n d : ℕ) → 0 < a → 0 < n → 0 < shared_out a n d
shared_positive a n d p q = positive_quotient (a * n) (gcd (a * n) d) (mul-pos p q) (IsGcd-gcd (a * n) d).0

-- the numbers of a rate above 0
pub upper_positive : (r : Rational) → whole (pos 0) <ℚ r → 0 < upper r
upper_positive r h = (num_positive r h).1

pub lower_positive : (r : Rational) → 0 < lower r
lower_positive r = den_positive r

-- ---- counts and loads
-- those of the side that gives the wholes, with those of the other over so many cycles, are no more than the visits
whole_count_at_most_load : (k s count load : ℕ) → count ≤ load → k * s * count ≤ max 1 k * s * load
whole_count_at_most_load k s count load h =
    let events : k ≤ max 1 k = omega arith in
    mul-le-mul (mul-le-mul_right s events) h

join_count_at_most_load : (side : Side) (x y : Bounds) → x.count ≤ x.load → y.count ≤ y.load → (of_join side x y).count ≤ (of_join side x y).load
join_count_at_most_load Left x y p q = let h = whole_count_at_most_load x.count (span x) y.count y.load q in omega arith
join_count_at_most_load Right x y p q = let h = whole_count_at_most_load y.count (span y) x.count x.load p in omega arith
join_count_at_most_load Both x y p q = omega arith

mutual
  pub count_at_most_load : (e : Tree) → (bounds e).count ≤ (bounds e).load
  count_at_most_load Silence = omega arith
  count_at_most_load (Pure v) = omega arith
  count_at_most_load (Fast r e) = let h = mul-le-mul_left (touched r) (count_at_most_load e) in omega arith
  count_at_most_load (TimeCat steps) = let h = counts_of_steps_at_most_loads steps in omega arith
  count_at_most_load (Cat trees) = let h = most_at_most_loads trees in omega arith
  count_at_most_load (Stack trees) = let h = counts_at_most_loads trees in omega arith
  count_at_most_load (Rev e) = let h = count_at_most_load e in omega arith
  count_at_most_load (Pick selector trees) =
      let events : (bounds selector).count ≤ max 1 (bounds selector).count = omega arith in
      let h = mul-le-mul events (most_at_most_loads trees) in omega arith
  count_at_most_load (When modulus test d e) = let h = count_at_most_load d in let k = count_at_most_load e in omega arith
  count_at_most_load (Shift t e) = let h = mul-le-mul_left (shift_touches t) (count_at_most_load e) in omega arith
  count_at_most_load (Join side op d e) = join_count_at_most_load side (bounds d) (bounds e) (count_at_most_load d) (count_at_most_load e)
  count_at_most_load (Ply n e) = omega arith
  count_at_most_load (Gate from to inside e) = let h = count_at_most_load e in omega arith

  counts_at_most_loads : (trees : Trees) → counts (bounds_of trees) ≤ loads (bounds_of trees)
  counts_at_most_loads empty = omega arith
  counts_at_most_loads (child e trees) = let h = count_at_most_load e in let t = counts_at_most_loads trees in omega arith

  most_at_most_loads : (trees : Trees) → most (bounds_of trees) ≤ loads (bounds_of trees)
  most_at_most_loads empty = omega arith
  most_at_most_loads (child e trees) = let h = count_at_most_load e in let t = most_at_most_loads trees in omega arith

  counts_of_steps_at_most_loads : (steps : Steps) → counts (bounds_of_steps steps) ≤ loads (bounds_of_steps steps)
  counts_of_steps_at_most_loads none = omega arith
  counts_of_steps_at_most_loads (step w e steps) = let h = count_at_most_load e in let t = counts_of_steps_at_most_loads steps in omega arith

-- ---- grids
pub join_grid : (side : Side) (x y : Bounds) → (of_join side x y).grid ≡ lcm x.grid y.grid
join_grid Left x y = refl
join_grid Right x y = refl
join_grid Both x y = refl

mutual
  pub grid_positive : (e : Tree) → IsValid e → 0 < grid e
  grid_positive Silence valid = omega arith
  grid_positive (Pure v) valid = omega arith
  grid_positive (Fast r e) valid = shared_positive (grid e) (upper r) (lower r) (grid_positive e valid.1) (upper_positive r valid.0)
  grid_positive (TimeCat steps) valid = mul-pos valid.0 (grids_of_steps_positive steps valid.1)
  grid_positive (Cat trees) valid = grids_positive trees valid
  grid_positive (Stack trees) valid = grids_positive trees valid
  grid_positive (Rev e) valid = grid_positive e valid
  grid_positive (Pick selector trees) valid =
      lcm_positive (grid selector) (grids (bounds_of trees)) (grid_positive selector valid.0) (grids_positive trees valid.1)
  grid_positive (When modulus test d e) valid = lcm_positive (grid d) (grid e) (grid_positive d valid.1) (grid_positive e valid.2)
  grid_positive (Shift t e) valid = lcm_positive (grid e) t.den (grid_positive e valid) (lower_positive t)
  grid_positive (Join side op d e) valid =
      rw (join_grid side (bounds d) (bounds e)) (lcm_positive (grid d) (grid e) (grid_positive d valid.0) (grid_positive e valid.1))
  grid_positive (Ply n e) valid = mul-pos valid.0 (grid_positive e valid.1)
  grid_positive (Gate from to inside e) valid = grid_positive e valid

  pub grids_positive : (trees : Trees) → AreValid trees → 0 < grids (bounds_of trees)
  grids_positive empty valid = omega arith
  grids_positive (child e trees) valid = lcm_positive (grid e) (grids (bounds_of trees)) (grid_positive e valid.0) (grids_positive trees valid.1)

  pub grids_of_steps_positive : (steps : Steps) → AreValidSteps steps → 0 < grids (bounds_of_steps steps)
  grids_of_steps_positive none valid = omega arith
  grids_of_steps_positive (step w e steps) valid =
      lcm_positive (grid e) (grids (bounds_of_steps steps)) (grid_positive e valid.1) (grids_of_steps_positive steps valid.2)

-- ---- fineness and reach
pub le_lcm_left : (a b : ℕ) → 0 < a → 0 < b → a ≤ lcm a b
le_lcm_left a b p q = le_of_dvd (lcm_positive a b p q) (divides_lcm_left a b)

pub le_lcm_right : (a b : ℕ) → 0 < a → 0 < b → b ≤ lcm a b
le_lcm_right a b p q = le_of_dvd (lcm_positive a b p q) (divides_lcm_right a b)

pub own_grid : (e : Tree) (q : ℕ) → lcm (grid e) q ≤ fine e q
own_grid Silence q = omega arith
own_grid (Pure v) q = omega arith
own_grid (Fast r e) q = omega arith
own_grid (TimeCat steps) q = omega arith
own_grid (Cat trees) q = omega arith
own_grid (Stack trees) q = omega arith
own_grid (Rev e) q = omega arith
own_grid (Pick selector trees) q = omega arith
own_grid (When modulus test d e) q = omega arith
own_grid (Shift t e) q = omega arith
own_grid (Join side op d e) q = omega arith
own_grid (Ply n e) q = omega arith
own_grid (Gate from to inside e) q = omega arith

pub own_reach : (e : Tree) (m : ℕ) → m + hang e ≤ reach e m
own_reach Silence m = omega arith
own_reach (Pure v) m = omega arith
own_reach (Fast r e) m = omega arith
own_reach (TimeCat steps) m = omega arith
own_reach (Cat trees) m = omega arith
own_reach (Stack trees) m = omega arith
own_reach (Rev e) m = omega arith
own_reach (Pick selector trees) m = omega arith
own_reach (When modulus test d e) m = omega arith
own_reach (Shift t e) m = omega arith
own_reach (Join side op d e) m = omega arith
own_reach (Ply n e) m = omega arith
own_reach (Gate from to inside e) m = omega arith

pub grid_at_most_fine : (e : Tree) (q : ℕ) → IsValid e → 0 < q → grid e ≤ fine e q
grid_at_most_fine e q valid p =
    let own = own_grid e q in
    let l = le_lcm_left (grid e) q (grid_positive e valid) p in
    omega arith

pub ask_at_most_fine : (e : Tree) (q : ℕ) → IsValid e → 0 < q → q ≤ fine e q
ask_at_most_fine e q valid p =
    let own = own_grid e q in
    let l = le_lcm_right (grid e) q (grid_positive e valid) p in
    omega arith

pub hang_at_most_reach : (e : Tree) (m : ℕ) → hang e ≤ reach e m
hang_at_most_reach e m = let own = own_reach e m in omega arith

pub ask_at_most_reach : (e : Tree) (m : ℕ) → m ≤ reach e m
ask_at_most_reach e m = let own = own_reach e m in omega arith
