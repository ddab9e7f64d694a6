-- How many events a tree has, how much work it asks for, how fine its times are, and how far they reach.
--     Bounds       count, load, hang and grid of a tree
--     bounds       these of each tree, by one rule for each kind
--     fine         the finest step of the times that are met where a tree is asked for an arc on a grid
--     reach        the greatest size of the times that are met where a tree is asked for an arc of some size
use Rattle.std.specs.Prelude.{ℕ, ◌+◌, ◌*◌, ◌/◌, min, max, true, false, ltb, eqb, nat_abs, List, [], ◌∷◌}
use Rattle.std.specs.Int.{div_ceil}
use Rattle.tdl_fraction.specs.Divisor.{gcd, lcm}
use Rattle.tdl_fraction.specs.Rational.{Rational}
use Rattle.tdl_expr.specs.declared.joinings.Side.{Side}
use Rattle.tdl_expr.specs.declared.joinings.Side.TheVariants.{Left, Right, Both}
use Rattle.tdl_expr.specs.Tree.{Tree, Silence, Pure, Fast, TimeCat, Cat, Stack, Rev, Pick, When, Shift, Join, Ply, Gate, Trees, empty, child, Steps, none}
use Rattle.tdl_expr.specs.Tree.{step}

-- at most count events in a cycle; at most load visits for one; wholes that hang over their cycle by at most
-- hang cycles, at either end; and times of whole cycles that are multiples of 1 / grid
pub record Bounds : Type 0 where
  pub count : ℕ
  pub load : ℕ
  pub hang : ℕ
  pub grid : ℕ

-- p and s of a rate p / s in lowest terms
abbrev pub upper : Rational → ℕ
upper r = nat_abs r.num

abbrev pub lower : Rational → ℕ
lower r = r.den

-- one where the number is not whole
abbrev pub broken : Rational → ℕ
broken r = elim (ltb 1 (lower r)) [ true ↦ 1 | false ↦ 0 ]

-- how many cycles of its child a cycle of this rate touches
abbrev pub touched : Rational → ℕ
touched r = elim (eqb (lower r) 1) [
  | true ↦ upper r
  | false ↦ elim (eqb (upper r) 1) [ true ↦ 1 | false ↦ div_ceil (upper r) (lower r) + 1 ]
]

-- a * n, with what it shares with d taken out
abbrev pub shared_out : ℕ → ℕ → ℕ → ℕ
shared_out a n d = a * n / gcd (a * n) d

-- ---- over several children
abbrev pub counts : List Bounds → ℕ
counts [] = 0
counts (x ∷ xs) = x.count + counts xs

abbrev pub loads : List Bounds → ℕ
loads [] = 0
loads (x ∷ xs) = x.load + loads xs

abbrev pub most : List Bounds → ℕ
most [] = 0
most (x ∷ xs) = max x.count (most xs)

abbrev pub hangs : List Bounds → ℕ
hangs [] = 0
hangs (x ∷ xs) = max x.hang (hangs xs)

abbrev pub grids : List Bounds → ℕ
grids [] = 1
grids (x ∷ xs) = lcm x.grid (grids xs)

-- ---- by kind
abbrev pub of_silence : Bounds
of_silence = record { count = 0; load = 1; hang = 0; grid = 1 }

abbrev pub of_pure : Bounds
of_pure = record { count = 1; load = 1; hang = 0; grid = 1 }

abbrev pub of_fast : Rational → Bounds → Bounds
of_fast r x = record {
  count = touched r * x.count;
  load = 1 + touched r * x.load;
  hang = div_ceil ((x.hang + broken r) * lower r) (upper r);
  grid = shared_out x.grid (upper r) (lower r);
}

abbrev pub of_time_cat : ℕ → List Bounds → Bounds
of_time_cat sum xs = record { count = counts xs; load = 1 + loads xs; hang = hangs xs; grid = sum * grids xs }

abbrev pub of_cat : List Bounds → Bounds
of_cat xs = record { count = most xs; load = 1 + loads xs; hang = hangs xs; grid = grids xs }

abbrev pub of_stack : List Bounds → Bounds
of_stack xs = record { count = counts xs; load = 1 + loads xs; hang = hangs xs; grid = grids xs }

abbrev pub of_rev : Bounds → Bounds
of_rev x = record { count = x.count; load = 1 + x.load; hang = x.hang; grid = x.grid }

abbrev pub of_pick : Bounds → List Bounds → Bounds
of_pick x xs = record {
  count = x.count * most xs;
  load = 1 + x.load + max 1 x.count * loads xs;
  hang = hangs xs;
  grid = lcm x.grid (grids xs);
}

abbrev pub of_when : Bounds → Bounds → Bounds
of_when x y = record { count = max x.count y.count; load = 1 + x.load + y.load; hang = max x.hang y.hang; grid = lcm x.grid y.grid }

-- how many cycles of its child a cycle of this shift touches
abbrev pub shift_touches : Rational → ℕ
shift_touches t = elim (ltb 1 t.den) [ true ↦ 2 | false ↦ 1 ]

abbrev pub of_shift : Rational → Bounds → Bounds
of_shift t x = record {
  count = shift_touches t * x.count;
  load = 1 + shift_touches t * x.load;
  hang = x.hang + broken t;
  grid = lcm x.grid t.den;
}

-- how many cycles a whole touches
abbrev pub span : Bounds → ℕ
span x = 2 * x.hang + 1

abbrev pub of_left : Bounds → Bounds → Bounds
of_left x y = record {
  count = x.count * span x * y.count;
  load = 1 + x.load + max 1 x.count * span x * y.load;
  hang = x.hang;
  grid = lcm x.grid y.grid;
}

abbrev pub of_right : Bounds → Bounds → Bounds
of_right x y = record {
  count = y.count * span y * x.count;
  load = 1 + y.load + max 1 y.count * span y * x.load;
  hang = y.hang;
  grid = lcm x.grid y.grid;
}

abbrev pub of_both : Bounds → Bounds → Bounds
of_both x y = record {
  count = x.count * y.count;
  load = 1 + x.load + y.load + x.count * y.count;
  hang = min x.hang y.hang;
  grid = lcm x.grid y.grid;
}

abbrev pub of_join : Side → Bounds → Bounds → Bounds
of_join Left = of_left
of_join Right = of_right
of_join Both = of_both

abbrev pub of_ply : ℕ → Bounds → Bounds
of_ply n x = record { count = n * x.count; load = 1 + x.load + n * x.count; hang = x.hang; grid = n * x.grid }

abbrev pub of_gate : Bounds → Bounds
of_gate x = of_rev x

abbrev pub sum_of_weights : Steps → ℕ
sum_of_weights none = 0
sum_of_weights (step w e steps) = w + sum_of_weights steps

-- ---- of each tree
abbrev mutual
  pub bounds : Tree → Bounds
  bounds Silence = of_silence
  bounds (Pure v) = of_pure
  bounds (Fast r e) = of_fast r (bounds e)
  bounds (TimeCat steps) = of_time_cat (sum_of_weights steps) (bounds_of_steps steps)
  bounds (Cat trees) = of_cat (bounds_of trees)
  bounds (Stack trees) = of_stack (bounds_of trees)
  bounds (Rev e) = of_rev (bounds e)
  bounds (Pick selector trees) = of_pick (bounds selector) (bounds_of trees)
  bounds (When modulus test d e) = of_when (bounds d) (bounds e)
  bounds (Shift t e) = of_shift t (bounds e)
  bounds (Join side op d e) = of_join side (bounds d) (bounds e)
  bounds (Ply n e) = of_ply n (bounds e)
  bounds (Gate from to inside e) = of_gate (bounds e)

  pub bounds_of : Trees → List Bounds
  bounds_of empty = []
  bounds_of (child e trees) = bounds e ∷ bounds_of trees

  pub bounds_of_steps : Steps → List Bounds
  bounds_of_steps none = []
  bounds_of_steps (step w e steps) = bounds e ∷ bounds_of_steps steps

abbrev pub hang : Tree → ℕ
hang e = (bounds e).hang

abbrev pub grid : Tree → ℕ
grid e = (bounds e).grid

-- ---- what a tree asks of its child
-- where the arc that is asked for is on the grid q
abbrev pub fast_ask : Rational → ℕ → ℕ
fast_ask r q = shared_out q (lower r) (upper r)

abbrev pub shift_ask : Rational → ℕ → ℕ
shift_ask t q = lcm q t.den

-- of the sides of a join: the one that gives the wholes is asked for the arc, and the other for those wholes
abbrev pub left_ask : Side → Tree → Tree → ℕ → ℕ
left_ask Left d e q = q
left_ask Right d e q = grid e
left_ask Both d e q = q

abbrev pub right_ask : Side → Tree → Tree → ℕ → ℕ
right_ask Left d e q = grid d
right_ask Right d e q = q
right_ask Both d e q = q

-- and no end of it is further than m
abbrev pub fast_far : Rational → ℕ → ℕ
fast_far r m = div_ceil (m * upper r) (lower r)

abbrev pub shift_far : Rational → ℕ → ℕ
shift_far t m = m + div_ceil (nat_abs t.num) t.den

abbrev pub left_far : Side → Tree → Tree → ℕ → ℕ
left_far Left d e m = m
left_far Right d e m = m + hang e
left_far Both d e m = m

abbrev pub right_far : Side → Tree → Tree → ℕ → ℕ
right_far Left d e m = m + hang d
right_far Right d e m = m
right_far Both d e m = m

abbrev mutual
  pub fine : Tree → ℕ → ℕ
  fine Silence q = lcm (grid Silence) q
  fine (Pure v) q = lcm (grid (Pure v)) q
  fine (Fast r e) q = max (lcm (grid (Fast r e)) q) (fine e (fast_ask r q))
  fine (TimeCat steps) q = max (lcm (grid (TimeCat steps)) q) (fine_of_steps steps q)
  fine (Cat trees) q = max (lcm (grid (Cat trees)) q) (fine_of trees q)
  fine (Stack trees) q = max (lcm (grid (Stack trees)) q) (fine_of trees q)
  fine (Rev e) q = max (lcm (grid (Rev e)) q) (fine e q)
  fine (Pick selector trees) q = max (lcm (grid (Pick selector trees)) q) (max (fine selector q) (fine_of trees (lcm (grid selector) q)))
  fine (When modulus test d e) q = max (lcm (grid (When modulus test d e)) q) (max (fine d q) (fine e q))
  fine (Shift t e) q = max (lcm (grid (Shift t e)) q) (fine e (shift_ask t q))
  fine (Join side op d e) q = max (lcm (grid (Join side op d e)) q) (max (fine d (left_ask side d e q)) (fine e (right_ask side d e q)))
  fine (Ply n e) q = max (lcm (grid (Ply n e)) q) (fine e q)
  fine (Gate from to inside e) q = max (lcm (grid (Gate from to inside e)) q) (fine e q)

  -- the finest of several children, each with the same ask
  pub fine_of : Trees → ℕ → ℕ
  fine_of empty q = 0
  fine_of (child e trees) q = max (fine e q) (fine_of trees q)

  -- and of steps, each with its weight's
  pub fine_of_steps : Steps → ℕ → ℕ
  fine_of_steps none q = 0
  fine_of_steps (step w e steps) q = max (fine e (q * w)) (fine_of_steps steps q)

abbrev mutual
  pub reach : Tree → ℕ → ℕ
  reach Silence m = m + hang Silence
  reach (Pure v) m = m + hang (Pure v)
  reach (Fast r e) m = max (m + hang (Fast r e)) (reach e (fast_far r m))
  reach (TimeCat steps) m = max (m + hang (TimeCat steps)) (reach_of_steps steps m)
  reach (Cat trees) m = max (m + hang (Cat trees)) (reach_of trees m)
  reach (Stack trees) m = max (m + hang (Stack trees)) (reach_of trees m)
  reach (Rev e) m = max (m + hang (Rev e)) (reach e m)
  reach (Pick selector trees) m = max (m + hang (Pick selector trees)) (max (reach selector m) (reach_of trees m))
  reach (When modulus test d e) m = max (m + hang (When modulus test d e)) (max (reach d m) (reach e m))
  reach (Shift t e) m = max (m + hang (Shift t e)) (reach e (shift_far t m))
  reach (Join side op d e) m = max (m + hang (Join side op d e)) (max (reach d (left_far side d e m)) (reach e (right_far side d e m)))
  reach (Ply n e) m = max (m + hang (Ply n e)) (reach e m)
  reach (Gate from to inside e) m = max (m + hang (Gate from to inside e)) (reach e m)

  pub reach_of : Trees → ℕ → ℕ
  reach_of empty m = 0
  reach_of (child e trees) m = max (reach e m) (reach_of trees m)

  pub reach_of_steps : Steps → ℕ → ℕ
  reach_of_steps none m = 0
  reach_of_steps (step w e steps) m = max (reach e m) (reach_of_steps steps m)
