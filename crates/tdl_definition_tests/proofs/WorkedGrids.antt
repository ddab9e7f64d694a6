-- The grid of worked trees of each kind: how fine the ends of wholes are at most, in whole cycles.
-- Each value is worked by hand, from the rule that is said above its row. So a grid that is twice as fine as the rule says is refused.
use Rattle.std.proofs.Common.{◌≡◌, ℕ, pos, false, refl}
use Rattle.std.specs.Prelude.{neg_ℤ}
use Rattle.tdl_control.specs.declared.leaves.Leaf.TheVariants.{Index}
use Rattle.tdl_control.specs.declared.ops.MapOp.TheVariants.{Union, Add, Mul}
use Rattle.tdl_fraction.specs.Divisor.{gcd, lcm}
use Rattle.tdl_fraction.specs.Rational.{Rational, frac}
use Rattle.tdl_expr.specs.declared.joinings.Op.TheVariants.{Controls, Struct}
use Rattle.tdl_expr.specs.declared.joinings.Side.TheVariants.{Left, Right, Both}
use Rattle.tdl_expr.specs.declared.rounds.Test.TheVariants.{Equal, AtLeast}
use Rattle.tdl_expr.specs.Tree.{Tree, Silence, Pure, Fast, TimeCat, Cat, Stack, Rev, Pick, When, Shift, Join, Ply, Gate, empty, child, none, step}
use Rattle.tdl_expr.specs.Bounds.{grid}

abbrev rate : ℕ → ℕ → Rational
rate p s = frac (pos p) s

-- so far back
abbrev back : ℕ → ℕ → Rational
back p s = frac (neg_ℤ (pos p)) s

-- a sound, whichever it is
abbrev bd : Tree
bd = Pure (Index 0)

-- so many times a cycle: `bd*4` has its ends at quarters
abbrev times : ℕ → Tree
times n = Fast (rate n 1) bd

-- `bd*4`, `bd*6` and `bd*10`, two of which have 2 in common
abbrev fourths : Tree
fourths = times 4

abbrev sixths : Tree
sixths = times 6

abbrev tenths : Tree
tenths = times 10

-- ---- silence has no end, and a value begins and ends with its cycle
-- `~`
silence : grid Silence ≡ 1
silence = refl

-- `bd`
value : grid bd ≡ 1
value = refl

-- ---- at a rate p / s a time goes to s / p of it, so a multiple of 1 / g goes to one of s / (g * p)
-- `bd*4`
faster : grid fourths ≡ 4
unfolding frac gcd lcm
faster = refl

-- `bd/3`: 1 * 1 / gcd 1 3
slower : grid (Fast (rate 1 3) bd) ≡ 1
unfolding frac gcd lcm
slower = refl

-- `bd*4/6`: 4 * 1 / gcd 4 6
faster_and_slower : grid (Fast (rate 1 6) fourths) ≡ 2
unfolding frac gcd lcm
faster_and_slower = refl

-- `bd*6*3%4`: 6 * 3 / gcd 18 4
at_three_quarters : grid (Fast (rate 3 4) sixths) ≡ 9
unfolding frac gcd lcm
at_three_quarters = refl

-- ---- in shares of W, an end is at a multiple of 1 / W, and within a share W times as fine as the step has it
-- `bd@2 sn@3 hh`: 6 * 1
shares : grid (TimeCat (step 2 bd (step 3 bd (step 1 bd none)))) ≡ 6
unfolding frac gcd lcm
shares = refl

-- `[bd*4]@2 [bd*6]@3`: 5 * 12
shares_of_fine_steps : grid (TimeCat (step 2 fourths (step 3 sixths none))) ≡ 60
unfolding frac gcd lcm
shares_of_fine_steps = refl

-- ---- by turns, together and by choice, the least that has all of them
-- `<bd*4 bd*6>`
turns : grid (Cat (child fourths (child sixths empty))) ≡ 12
unfolding frac gcd lcm
turns = refl

-- `<bd*4 bd*6 bd*10>`
three_turns : grid (Cat (child fourths (child sixths (child tenths empty)))) ≡ 60
unfolding frac gcd lcm
three_turns = refl

-- `[bd*4,bd*6]`
together : grid (Stack (child fourths (child sixths empty))) ≡ 12
unfolding frac gcd lcm
together = refl

-- `[bd*4,bd*6,bd*10]`
three_together : grid (Stack (child fourths (child sixths (child tenths empty)))) ≡ 60
unfolding frac gcd lcm
three_together = refl

-- a selector of fourths that chooses among sixths and tenths: its events cut theirs
choice : grid (Pick fourths (child sixths (child tenths empty))) ≡ 60
unfolding frac gcd lcm
choice = refl

-- and one that chooses among none
no_choice : grid (Pick fourths empty) ≡ 4
unfolding frac gcd lcm
no_choice = refl

-- ---- what turns a cycle round, or leaves some of its events out, moves no end off its grid
-- `rev $ s "bd*4"`
turned : grid (Rev fourths) ≡ 4
unfolding frac gcd lcm
turned = refl

-- the side of `within (0.25, 0.5) f $ s "bd*4"` on which nothing is changed
gated : grid (Gate (rate 1 4) (rate 1 2) false fourths) ≡ 4
unfolding frac gcd lcm
gated = refl

-- ---- of two children the least that has both
-- `every 3 (const $ s "bd*4") $ s "bd*6"`
tested : grid (When 3 (Equal 0) fourths sixths) ≡ 12
unfolding frac gcd lcm
tested = refl

-- `whenmod 4 2 (const $ s "bd*10") $ s "bd*4"`
tested_at_least : grid (When 4 (AtLeast 2) tenths fourths) ≡ 20
unfolding frac gcd lcm
tested_at_least = refl

-- `s "bd*4" # n "1*6"`
joined_left : grid (Join Left (Controls Union) fourths sixths) ≡ 12
unfolding frac gcd lcm
joined_left = refl

-- `n "1*4" +| n "1*10"`
joined_right : grid (Join Right (Controls Add) fourths tenths) ≡ 20
unfolding frac gcd lcm
joined_right = refl

-- `n "1*6" |*| n "1*10"`
joined_both : grid (Join Both (Controls Mul) sixths tenths) ≡ 30
unfolding frac gcd lcm
joined_both = refl

-- `struct "t*6" $ s "bd*4"`
structured : grid (Join Left Struct sixths fourths) ≡ 12
unfolding frac gcd lcm
structured = refl

-- ---- a shift by a / b puts ends at multiples of 1 / b and of what there was
-- `rotR (1/6) $ s "bd*4"`
later : grid (Shift (rate 1 6) fourths) ≡ 12
unfolding frac gcd lcm
later = refl

-- `rotL (3/10) $ s "bd*4"`
earlier : grid (Shift (back 3 10) fourths) ≡ 20
unfolding frac gcd lcm
earlier = refl

-- `rotR 2 $ s "bd*4"`
later_by_cycles : grid (Shift (rate 2 1) fourths) ≡ 4
unfolding frac gcd lcm
later_by_cycles = refl

-- ---- cut in n, an end is n times as fine
-- `ply 3 $ s "bd*4"`
cut : grid (Ply 3 fourths) ≡ 12
unfolding frac gcd lcm
cut = refl

-- `ply 3 $ ply 2 $ s "bd"`
cut_twice : grid (Ply 3 (Ply 2 bd)) ≡ 6
unfolding frac gcd lcm
cut_twice = refl
