-- What worked functions make of any child, each by computing alone: the tree, and how many links each of its rows has.
use Rattle.std.proofs.Common.{◌≡◌, ℕ, pos, negsuc, true, false, List, [], ◌∷◌, refl}
use Rattle.tdl_control.specs.declared.keys.Key.TheVariants.{Pan}
use Rattle.tdl_control.specs.declared.leaves.Leaf.TheVariants as leaf
use Rattle.tdl_control.specs.declared.ops.MapOp.TheVariants.{Union, Add}
use Rattle.tdl_control.specs.Setting.{Number}
use Rattle.tdl_fraction.specs.Divisor.{gcd, lcm}
use Rattle.tdl_fraction.specs.Rational.{frac, whole, lt_ℚ, neg_ℚ, flip, inverse}
use Rattle.tdl_euclid.specs.Euclid.{pairs, grouped}
use Rattle.tdl_expr.specs.declared.joinings.Op.TheVariants as op
use Rattle.tdl_expr.specs.declared.joinings.Side.TheVariants.{Left}
use Rattle.tdl_expr.specs.declared.rounds.Test.TheVariants.{Equal, AtLeast}
use Rattle.tdl_expr.specs.Tree as tree
use Rattle.tdl_expr.specs.Tree.{Tree, Silence, TimeCat, Cat, Stack, Pick, When, Shift, Join, Gate, empty, child, none, step}
use Rattle.tdl_rows.specs.Built.{Built}
use Rattle.tdl_rows.specs.Joined.{Argument, plain, picked}
use Rattle.tdl_combinator.specs.TreeFun.{Same, Fast, Slow, Rev, Every, EveryAt, WhenMod, Off, Superimpose, Jux, Later, Earlier, Ply, Segment}
use Rattle.tdl_combinator.specs.TreeFun.{Struct, Mask, Within, Iter, Palindrome, Brak, Euclid, Const, Section, Chain}
use Rattle.tdl_combinator.specs.Applied.{applied}

abbrev n : ℕ → Argument
n size = plain (whole (pos size))

abbrev q : ℕ → Argument
q fourths = plain (frac (pos fourths) 4)

abbrev made : Tree → List ℕ → Built Tree
made t rows = record { value = t; rows = rows }

module _ (p : Tree) where
  -- id
  same : applied Same p ≡ made p []
  same = refl

  -- fast 2
  fast : applied (Fast (n 2)) p ≡ made (tree.Fast (whole (pos 2)) p) (1 ∷ [])
  unfolding whole lt_ℚ neg_ℚ frac gcd lcm
  fast = refl

  -- slow 2
  slow : applied (Slow (n 2)) p ≡ made (tree.Fast (frac (pos 1) 2) p) (1 ∷ [])
  unfolding whole lt_ℚ neg_ℚ inverse flip frac gcd lcm
  slow = refl

  -- rev . fast 2
  chain : applied (Chain (Fast (n 2)) Rev) p ≡ made (tree.Rev (tree.Fast (whole (pos 2)) p)) (1 ∷ 1 ∷ [])
  unfolding whole lt_ℚ neg_ℚ frac gcd lcm
  chain = refl

  -- every 3 (fast 2)
  every : applied (Every (n 3) (Fast (n 2))) p ≡ made (When 3 (Equal 0) (tree.Fast (whole (pos 2)) p) p) (1 ∷ 2 ∷ [])
  unfolding whole lt_ℚ neg_ℚ frac gcd lcm
  every = refl

  -- every 0 rev
  every_none : applied (Every (n 0) Rev) p ≡ made p []
  unfolding whole frac gcd lcm
  every_none = refl

  -- every' 3 1 rev
  every_at : applied (EveryAt (n 3) (n 1) Rev) p ≡ made (When 3 (Equal 1) (tree.Rev p) p) (1 ∷ 2 ∷ [])
  unfolding whole frac gcd lcm
  every_at = refl

  -- every' 3 3 rev
  every_at_none : applied (EveryAt (n 3) (n 3) Rev) p ≡ made p []
  unfolding whole frac gcd lcm
  every_at_none = refl

  -- whenmod 4 2 rev
  when_mod : applied (WhenMod (n 4) (n 2) Rev) p ≡ made (When 4 (AtLeast 2) (tree.Rev p) p) (1 ∷ 2 ∷ [])
  unfolding whole frac gcd lcm
  when_mod = refl

  -- whenmod 4 (-2) rev
  when_mod_below : applied (WhenMod (n 4) (plain (whole (negsuc 1))) Rev) p ≡ made (When 4 (AtLeast 0) (tree.Rev p) p) (1 ∷ 2 ∷ [])
  unfolding whole frac gcd lcm
  when_mod_below = refl

  -- off 0.25 rev
  off : applied (Off (q 1) Rev) p ≡ made (Stack (child p (child (tree.Rev (Shift (frac (pos 1) 4) p)) empty))) (1 ∷ 1 ∷ 2 ∷ [])
  off = refl

  -- off 0 id
  off_none : applied (Off (n 0) Same) p ≡ made (Stack (child p (child (Shift (whole (pos 0)) p) empty))) (1 ∷ 2 ∷ [])
  off_none = refl

  -- superimpose rev
  superimpose : applied (Superimpose Rev) p ≡ made (Stack (child p (child (tree.Rev p) empty))) (1 ∷ 2 ∷ [])
  superimpose = refl

  -- on the left side, and on the right one
  abbrev side : ℕ → Tree
  side pan = Join Left (op.Controls Union) p (tree.Pure (leaf.Controls ((Pan, Number (pos pan)) ∷ [])))

  -- jux rev
  jux : applied (Jux Rev) p ≡ made (Stack (child (side 0) (child (tree.Rev (side 1)) empty))) (0 ∷ 2 ∷ 0 ∷ 2 ∷ 1 ∷ 2 ∷ [])
  jux = refl

  -- 0.25 ~>
  later : applied (Later (q 1)) p ≡ made (Shift (frac (pos 1) 4) p) (1 ∷ [])
  unfolding whole frac gcd lcm
  later = refl

  -- 0 ~>
  later_none : applied (Later (n 0)) p ≡ made p []
  unfolding whole frac gcd lcm
  later_none = refl

  -- rotL 0.25
  earlier : applied (Earlier (q 1)) p ≡ made (Shift (frac (negsuc 0) 4) p) (1 ∷ [])
  unfolding whole neg_ℚ frac gcd lcm
  earlier = refl

  -- ply 3
  ply : applied (Ply (n 3)) p ≡ made (tree.Ply 3 p) (1 ∷ [])
  unfolding whole frac gcd lcm
  ply = refl

  -- ply 0
  ply_none : applied (Ply (n 0)) p ≡ made Silence (0 ∷ [])
  unfolding whole frac gcd lcm
  ply_none = refl

  -- segment 4
  segment : applied (Segment (n 4)) p
      ≡ made (Join Left op.Struct (tree.Fast (whole (pos 4)) (tree.Pure (leaf.Truth true))) p) (0 ∷ 1 ∷ 2 ∷ [])
  unfolding whole lt_ℚ neg_ℚ frac gcd lcm
  segment = refl

  -- segment 1
  segment_once : applied (Segment (n 1)) p ≡ made (Join Left op.Struct (tree.Pure (leaf.Truth true)) p) (0 ∷ 2 ∷ [])
  unfolding whole lt_ℚ neg_ℚ frac gcd lcm
  segment_once = refl

  module _ (b : Tree) where
    -- struct b
    struct : applied (Struct b) p ≡ made (Join Left op.Struct b p) (2 ∷ [])
    struct = refl

    -- mask b
    mask : applied (Mask b) p ≡ made (Join Left op.Mask p b) (2 ∷ [])
    mask = refl

    -- |+ b
    section : applied (Section Left Add b) p ≡ made (Join Left (op.Controls Add) p b) (2 ∷ [])
    section = refl

    -- const b
    const : applied (Const b) p ≡ made b []
    const = refl

    -- every "<2 3>" rev, where the text is b
    every_chosen : applied (Every (picked b (whole (pos 2) ∷ whole (pos 3) ∷ [])) Rev) p
        ≡ made (Pick b (child (When 2 (Equal 0) (tree.Rev p) p) (child (When 3 (Equal 0) (tree.Rev p) p) empty))) (1 ∷ 2 ∷ 1 ∷ 2 ∷ 3 ∷ [])
    unfolding whole frac gcd lcm
    every_chosen = refl

    -- every "<0 3>" (every 2 rev), where the text is b
    every_nested : applied (Every (picked b (whole (pos 0) ∷ whole (pos 3) ∷ [])) (Every (n 2) Rev)) p
        ≡ made (Pick b (child p (child (When 3 (Equal 0) (When 2 (Equal 0) (tree.Rev p) p) p) empty))) (1 ∷ 2 ∷ 2 ∷ 3 ∷ [])
    unfolding whole frac gcd lcm
    every_nested = refl

  -- within (0, 0.5) (fast 2)
  within : applied (Within (whole (pos 0)) (frac (pos 1) 2) (Fast (n 2))) p
      ≡ made (Stack (child (Gate (whole (pos 0)) (frac (pos 1) 2) true (tree.Fast (whole (pos 2)) p))
      (child (Gate (whole (pos 0)) (frac (pos 1) 2) false p) empty))) (1 ∷ 1 ∷ 1 ∷ 2 ∷ [])
  unfolding whole lt_ℚ neg_ℚ frac gcd lcm
  within = refl

  -- iter 3
  iter : applied (Iter (n 3)) p
      ≡ made (Cat (child p (child (Shift (frac (negsuc 0) 3) p) (child (Shift (frac (negsuc 1) 3) p) empty)))) (1 ∷ 1 ∷ 3 ∷ [])
  unfolding whole frac gcd lcm
  iter = refl

  -- iter 1
  iter_once : applied (Iter (n 1)) p ≡ made p []
  unfolding whole frac gcd lcm
  iter_once = refl

  -- palindrome
  palindrome : applied Palindrome p ≡ made (Cat (child p (child (tree.Rev p) empty))) (1 ∷ 2 ∷ [])
  palindrome = refl

  -- brak
  brak : applied Brak p
      ≡ made (When 2 (Equal 1) (Shift (frac (pos 1) 4) (TimeCat (step 1 p (step 1 Silence none)))) p) (0 ∷ 2 ∷ 1 ∷ 2 ∷ [])
  brak = refl

  -- euclid 1 2
  euclid : applied (Euclid (n 1) (n 2) (n 0)) p ≡ made (TimeCat (step 1 p (step 1 Silence none))) (0 ∷ 2 ∷ [])
  unfolding pairs grouped whole frac gcd lcm
  euclid = refl
