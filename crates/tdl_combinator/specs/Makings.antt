-- The trees that functions on patterns make, each with the rows that it needs beside its child's. Rows are
-- pushed in the order of the tree as written, children before parents.
--     Making                        a tree that is made of another
--     two                           two trees at the same time
--     when_of                       a function in some cycles of each round
--     every_round, every_at_round,  the rounds of `every`, `every'` and `whenmod`; in none the function is not
--     when_mod_round                applied
--     later_of, earlier_of          a tree, later or earlier by a time
--     off_of, superimpose_of        a tree, and what a function makes of it, later by a time or not
--     jux_of                        a tree on the left side, and what a function makes of it on the right one
--     within_of                     a function in a part of each cycle
--     iter_of                       a tree, earlier by one more share of a cycle in each cycle
--     palindrome_of, brak_of        a tree turned round in each other cycle, and squeezed in each other cycle
--     ply_of, segment_of            each event so many times, and the values at so many times
--     struct_of, mask_of            the values where a tree is true, and the events where it is
--     section_of                    the controls, joined with another tree's
--     chain_of                      a function after another
use Rattle.std.specs.Prelude.{ℕ, zero, suc, ℤ, pos, negsuc, neg_ℤ, nat_abs, nat_lt, true, false, Option, Some, None, if◌then◌else◌, List, [], ◌∷◌}
use Rattle.std.specs.List.{range_with_len}
use Rattle.tdl_control.specs.declared.keys.Key.TheVariants.{Pan}
use Rattle.tdl_control.specs.declared.leaves.Leaf.TheVariants as leaf
use Rattle.tdl_control.specs.declared.ops.MapOp.{MapOp}
use Rattle.tdl_control.specs.declared.ops.MapOp.TheVariants.{Union}
use Rattle.tdl_control.specs.Setting.{Number}
use Rattle.tdl_fraction.specs.Rational.{Rational, frac, whole, neg_ℚ}
use Rattle.tdl_fraction.specs.Same.{same_ℚ}
use Rattle.tdl_expr.specs.declared.joinings.Op.TheVariants as op
use Rattle.tdl_expr.specs.declared.joinings.Side.{Side}
use Rattle.tdl_expr.specs.declared.joinings.Side.TheVariants.{Left}
use Rattle.tdl_expr.specs.declared.rounds.Test.TheVariants.{Equal, AtLeast}
use Rattle.tdl_expr.specs.Tree.{Tree, Silence, Pure, TimeCat, Cat, Stack, Rev, When, Shift, Join, Ply, Gate, empty, child, none, step}
use Rattle.tdl_rows.specs.Built.{Built, kept, one_row, ◌▸◌, each}
use Rattle.tdl_rows.specs.Joined.{cat_of, fast_of}
use Rattle.tdl_combinator.specs.declared.by_cycle.Round.{Round}

abbrev pub Making : Type 0
Making = Tree → Built Tree

abbrev pub two : Tree → Tree → Built Tree
two d e = one_row 2 (Stack (child d (child e empty)))

-- ---- by cycles
abbrev pub when_of : Option Round → Making → Making
when_of None f p = kept p
when_of (Some round) f p = f p ▸ λ q. one_row 2 (When round.modulus round.test q p)

abbrev pub every_round : ℤ → Option Round
every_round (pos zero) = None
every_round (pos (suc n)) = Some (record { modulus = suc n; test = Equal 0 })
every_round (negsuc n) = None

abbrev pub every_at_round : ℤ → ℤ → Option Round
every_at_round (pos n) (pos place) = if nat_lt place n then Some (record { modulus = n; test = Equal place }) else None
every_at_round (pos n) (negsuc place) = None
every_at_round (negsuc n) place = None

-- what is below 0 counts as 0
abbrev pub from_zero : ℤ → ℕ
from_zero (pos n) = n
from_zero (negsuc n) = 0

abbrev pub when_mod_round : ℤ → ℤ → Option Round
when_mod_round (pos zero) from = None
when_mod_round (pos (suc n)) from = Some (record { modulus = suc n; test = AtLeast (from_zero from) })
when_mod_round (negsuc n) from = None

-- ---- in time
abbrev pub later_of : Rational → Making
later_of t p = if same_ℚ t (whole (pos 0)) then kept p else one_row 1 (Shift t p)

abbrev pub earlier_of : Rational → Making
earlier_of t p = later_of (neg_ℚ t) p

abbrev pub off_of : Rational → Making → Making
off_of t f p = one_row 1 (Shift t p) ▸ λ s. f s ▸ λ q. two p q

abbrev pub within_of : Rational → Rational → Making → Making
within_of from to f p = f p ▸ λ q. one_row 1 (Gate from to true q) ▸ λ inner. one_row 1 (Gate from to false p) ▸ λ outer. two inner outer

-- earlier by so many of the shares of a cycle, and by none as it is
abbrev pub turned_on : ℕ → Tree → ℕ → Built Tree
turned_on shares p i = later_of (frac (neg_ℤ (pos i)) shares) p

abbrev pub turns_of : ℕ → Tree → Built (List Tree)
turns_of shares p = each (turned_on shares p) (range_with_len 0 shares)

abbrev pub iter_of : ℤ → Making
iter_of (pos zero) p = kept p
iter_of (pos (suc n)) p = turns_of (suc n) p ▸ λ ts. cat_of ts
iter_of (negsuc n) p = kept p

abbrev pub palindrome_of : Making
palindrome_of p = one_row 1 (Rev p) ▸ λ r. one_row 2 (Cat (child p (child r empty)))

abbrev pub brak_of : Making
brak_of p =
    one_row 0 Silence ▸ λ s. one_row 2 (TimeCat (step 1 p (step 1 s none))) ▸ λ t. one_row 1 (Shift (frac (pos 1) 4) t) ▸ λ u. one_row 2 (When 2 (Equal 1) u p)

-- ---- of events
abbrev pub superimpose_of : Making → Making
superimpose_of f p = f p ▸ λ q. two p q

abbrev pub panned : ℤ → Making
panned pan p = one_row 0 (Pure (leaf.Controls ((Pan, Number pan) ∷ []))) ▸ λ v. one_row 2 (Join Left (op.Controls Union) p v)

abbrev pub jux_of : Making → Making
jux_of f p = panned (pos 0) p ▸ λ q. panned (pos 1) p ▸ λ r. f r ▸ λ s. two q s

abbrev pub ply_times : ℕ → Making
ply_times zero p = one_row 0 Silence
ply_times (suc zero) p = kept p
ply_times (suc (suc n)) p = one_row 1 (Ply (suc (suc n)) p)

abbrev pub ply_of : ℤ → Making
ply_of n p = ply_times (nat_abs n) p

abbrev pub segment_times : ℕ → Making
segment_times zero p = one_row 0 Silence
segment_times (suc n) p = one_row 0 (Pure (leaf.Truth true)) ▸ λ t. fast_of (whole (pos (suc n))) t ▸ λ s. one_row 2 (Join Left op.Struct s p)

abbrev pub segment_of : ℤ → Making
segment_of n p = segment_times (nat_abs n) p

abbrev pub struct_of : Tree → Making
struct_of bools p = one_row 2 (Join Left op.Struct bools p)

abbrev pub mask_of : Tree → Making
mask_of bools p = one_row 2 (Join Left op.Mask p bools)

abbrev pub section_of : Side → MapOp → Tree → Making
section_of side with right p = one_row 2 (Join side (op.Controls with) p right)

-- ---- functions
abbrev pub chain_of : Making → Making → Making
chain_of first next p = first p ▸ next
