-- The rounds of functions, and how often events are repeated, by the numbers that say so.
use Rattle.std.proofs.Common.{◌≡◌, ℕ, zero, suc, ◌<◌, ℤ, pos, negsuc, nat_abs, ◌≤ℤ◌, ◌<ℤ◌, None, nat_lt, true, false, refl, sym, ap, ◌∙◌, arith}
use Rattle.std.proofs.lemmas.Int.{ints}
use Rattle.std.proofs.lemmas.Bool.Decides.{nat_tests}
use Rattle.tdl_fraction.specs.Rational.{Rational, whole}
use Rattle.tdl_control.specs.declared.leaves.Leaf.TheVariants as leaf
use Rattle.tdl_expr.specs.declared.joinings.Op.TheVariants as op
use Rattle.tdl_expr.specs.declared.joinings.Side.TheVariants.{Left}
use Rattle.tdl_expr.specs.Tree.{Tree, Silence, Pure, Join}
use Rattle.tdl_rows.specs.Built.{Built, kept, one_row, ◌▸◌}
use Rattle.tdl_rows.specs.Joined.{fast_of, cat_of}
use Rattle.tdl_combinator.specs.Makings.{every_round, every_at_round, when_mod_round, ply_times, segment_times, segment_of, iter_of, turns_of}

-- ---- rounds
pub every_none : (n : ℤ) → n ≤ℤ pos 0 → every_round n ≡ None
every_none (pos zero) h = refl
every_none (pos (suc n)) h = absurd (omega (arith, ints, h))
every_none (negsuc n) h = refl

pub when_mod_none : (n from : ℤ) → n ≤ℤ pos 0 → when_mod_round n from ≡ None
when_mod_none (pos zero) from h = refl
when_mod_none (pos (suc n)) from h = absurd (omega (arith, ints, h))
when_mod_none (negsuc n) from h = refl

pub at_below : (n place : ℤ) → place <ℤ pos 0 → every_at_round n place ≡ None
at_below (pos n) (pos place) h = absurd (omega (arith, ints, h))
at_below (pos n) (negsuc place) h = refl
at_below (negsuc n) place h = refl

pub at_past : (n place : ℤ) → n ≤ℤ place → every_at_round n place ≡ None
at_past (pos n) (pos place) h =
    let past : nat_lt place n ≡ false = grind (arith, ints, nat_tests, h) in
    rw past refl
at_past (pos n) (negsuc place) h = refl
at_past (negsuc n) place h = refl

-- ---- times
pub ply_none : (times : ℕ) (p : Tree) → times ≡ 0 → one_row 0 Silence ≡ ply_times times p
ply_none times p e = ap (λ (n : ℕ). ply_times n p) (sym e)

-- the values at times of a rate
abbrev pub segmented : Rational → Tree → Built Tree
segmented rate p = one_row 0 (Pure (leaf.Truth true)) ▸ λ t. fast_of rate t ▸ λ s. one_row 2 (Join Left op.Struct s p)

segment_some : (times : ℕ) (p : Tree) → 0 < times → segmented (whole (pos times)) p ≡ segment_times times p
segment_some zero p h = absurd (omega arith)
segment_some (suc n) p h = refl

pub segment_is : (count : ℤ) (times : ℕ) (rate : Rational) (p : Tree) → times ≡ nat_abs count → 0 < times → rate ≡ whole (pos times)
    → segmented rate p ≡ segment_of count p
segment_is count times rate p e h r =
    ap (λ (x : Rational). segmented x p) r ∙ (segment_some times p h ∙ ap (λ (n : ℕ). segment_times n p) e)

pub iter_none : (n : ℤ) (p : Tree) → n ≤ℤ pos 0 → kept p ≡ iter_of n p
iter_none (pos zero) p h = refl
iter_none (pos (suc n)) p h = absurd (omega (arith, ints, h))
iter_none (negsuc n) p h = refl

pub iter_some : (n : ℤ) (shares : ℕ) (p : Tree) → pos 0 <ℤ n → shares ≡ nat_abs n → (turns_of shares p ▸ λ ts. cat_of ts) ≡ iter_of n p
iter_some (pos zero) shares p h e = absurd (omega (arith, ints, h))
iter_some (pos (suc n)) shares p h e = ap (λ (k : ℕ). turns_of k p ▸ λ ts. cat_of ts) e
iter_some (negsuc n) shares p h e = absurd (omega (arith, ints, h))
