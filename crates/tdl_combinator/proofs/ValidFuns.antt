-- What functions on patterns make of a valid tree is valid, where their own trees and the selectors of their numbers are.
use Rattle.std.proofs.Common.{ℕ, zero, suc, ◌<◌, nat_lt, Bool, true, false, if◌then◌else◌, ℤ, pos, negsuc, neg_ℤ, nat_abs, Option, Some, None, refl}
use Rattle.std.proofs.Common.{◌≡◌, arith}
use Rattle.std.proofs.lemmas.Bool.{ltb-true}
use Rattle.std.specs.List.{range_with_len}
use Rattle.tdl_fraction.specs.Rational.{Rational, frac, whole, neg_ℚ}
use Rattle.tdl_fraction.specs.Same.{same_ℚ}
use Rattle.tdl_expr.specs.Tree.{Tree, Shift, Pure}
use Rattle.tdl_expr.specs.Valid.{IsValid}
use Rattle.tdl_control.specs.declared.leaves.Leaf.TheVariants as leaf
use Rattle.tdl_expr.specs.declared.rounds.Test.TheVariants.{Equal}
use Rattle.tdl_rows.specs.Built.{kept, one_row}
use Rattle.tdl_rows.specs.Joined.{choose, fast_of, slow_of, euclid_of}
use Rattle.tdl_rows.proofs.MadeTrees.{HasValid, cat-valid, fast-valid, slow-valid, each-valid, choose-valid, euclid-valid}
use Rattle.tdl_combinator.specs.declared.by_cycle.Round.{Round}
use Rattle.tdl_combinator.specs.TreeFun.{TreeFun, Same, Fast, Slow, Rev, Every, EveryAt, WhenMod, Off, Superimpose, Jux, Later, Earlier, Ply, Segment}
use Rattle.tdl_combinator.specs.TreeFun.{Struct, Mask, Within, Iter, Palindrome, Brak, Euclid, Const, Section, Chain}
use Rattle.tdl_combinator.specs.Makings.{Making, when_of, every_round, every_at_round, when_mod_round, later_of, earlier_of, off_of, iter_of, turns_of}
use Rattle.tdl_combinator.specs.Makings.{ply_of, ply_times, segment_of, segment_times, turned_on}
use Rattle.tdl_combinator.specs.Applied.{applied}

-- its own trees, and the selectors of its numbers
abbrev pub IsValidFun : TreeFun → Type 0
IsValidFun Same = Unit {0}
IsValidFun (Fast rate) = HasValid rate
IsValidFun (Slow rate) = HasValid rate
IsValidFun Rev = Unit {0}
IsValidFun (Every n f) = HasValid n × IsValidFun f
IsValidFun (EveryAt n place f) = HasValid n × (HasValid place × IsValidFun f)
IsValidFun (WhenMod n from f) = HasValid n × (HasValid from × IsValidFun f)
IsValidFun (Off by f) = HasValid by × IsValidFun f
IsValidFun (Superimpose f) = IsValidFun f
IsValidFun (Jux f) = IsValidFun f
IsValidFun (Later by) = HasValid by
IsValidFun (Earlier by) = HasValid by
IsValidFun (Ply n) = HasValid n
IsValidFun (Segment n) = HasValid n
IsValidFun (Struct bools) = IsValid bools
IsValidFun (Mask bools) = IsValid bools
IsValidFun (Within from to f) = IsValidFun f
IsValidFun (Iter n) = HasValid n
IsValidFun Palindrome = Unit {0}
IsValidFun Brak = Unit {0}
IsValidFun (Euclid k n r) = HasValid k × (HasValid n × HasValid r)
IsValidFun (Const other) = IsValid other
IsValidFun (Section side op right) = IsValid right
IsValidFun (Chain first next) = IsValidFun first × IsValidFun next

-- ---- by cycles
abbrev HasCycles : Option Round → Type 0
HasCycles None = Unit {0}
HasCycles (Some round) = 0 < round.modulus

when-valid : (round : Option Round) (f : Making) (p : Tree) → HasCycles round → IsValid p → IsValid (f p).value → IsValid (when_of round f p).value
when-valid None f p c h g = h
when-valid (Some round) f p c h g = (c, g, h)

every-cycles : (n : ℤ) → HasCycles (every_round n)
every-cycles (pos zero) = tt
every-cycles (pos (suc n)) = omega arith
every-cycles (negsuc n) = tt

at-cycles : (n place : ℤ) → HasCycles (every_at_round n place)
at-cycles (pos n) (pos place) = by (nat_lt place n) refl
  where
    by : (b : Bool) → nat_lt place n ≡ b → HasCycles (if b then Some (record { modulus = n; test = Equal place }) else None)
    by true e = let below = ltb-true place n e in omega (arith, below)
    by false e = tt
at-cycles (pos n) (negsuc place) = tt
at-cycles (negsuc n) place = tt

mod-cycles : (n from : ℤ) → HasCycles (when_mod_round n from)
mod-cycles (pos zero) from = tt
mod-cycles (pos (suc n)) from = omega arith
mod-cycles (negsuc n) from = tt

-- ---- in time
later-valid : (t : Rational) (p : Tree) → IsValid p → IsValid (later_of t p).value
later-valid t p h = by (same_ℚ t (whole (pos 0)))
  where
    by : (b : Bool) → IsValid (if b then kept p else one_row 1 (Shift t p)).value
    by true = h
    by false = h

iter-valid : (n : ℤ) (p : Tree) → IsValid p → IsValid (iter_of n p).value
iter-valid (pos zero) p h = h
iter-valid (pos (suc n)) p h =
    cat-valid (turns_of (suc n) p).value
    (each-valid (turned_on (suc n) p) (range_with_len 0 (suc n)) (λ i. later-valid (frac (neg_ℤ (pos i)) (suc n)) p h))
iter-valid (negsuc n) p h = h

-- ---- of events
ply-valid : (n : ℕ) (p : Tree) → IsValid p → IsValid (ply_times n p).value
ply-valid zero p h = tt
ply-valid (suc zero) p h = h
ply-valid (suc (suc n)) p h = (omega arith, h)

segment-valid : (n : ℕ) (p : Tree) → IsValid p → IsValid (segment_times n p).value
segment-valid zero p h = tt
segment-valid (suc n) p h = (fast-valid (whole (pos (suc n))) (Pure (leaf.Truth true)) tt, h)

-- ---- functions
pub applied-valid : (f : TreeFun) (p : Tree) → IsValidFun f → IsValid p → IsValid (applied f p).value
applied-valid Same p v h = h
applied-valid (Fast rate) p v h = choose-valid rate (λ r. fast_of r p) v (λ r. fast-valid r p h)
applied-valid (Slow rate) p v h = choose-valid rate (λ r. slow_of r p) v (λ r. slow-valid r p h)
applied-valid Rev p v h = h
applied-valid (Every n f) p v h =
    let g = applied-valid f p v.1 h in
    choose-valid n (λ a. when_of (every_round a.num) (applied f) p) v.0 (λ a. when-valid (every_round a.num) (applied f) p (every-cycles a.num) h g)
applied-valid (EveryAt n place f) p v h =
    let g = applied-valid f p v.1.1 h in
    choose-valid n (λ a. choose place (λ b. when_of (every_at_round a.num b.num) (applied f) p)) v.0
    (λ a. choose-valid place (λ b. when_of (every_at_round a.num b.num) (applied f) p) v.1.0
    (λ b. when-valid (every_at_round a.num b.num) (applied f) p (at-cycles a.num b.num) h g))
applied-valid (WhenMod n from f) p v h =
    let g = applied-valid f p v.1.1 h in
    choose-valid n (λ a. choose from (λ b. when_of (when_mod_round a.num b.num) (applied f) p)) v.0
    (λ a. choose-valid from (λ b. when_of (when_mod_round a.num b.num) (applied f) p) v.1.0
    (λ b. when-valid (when_mod_round a.num b.num) (applied f) p (mod-cycles a.num b.num) h g))
applied-valid (Off by f) p v h =
    choose-valid by (λ t. off_of t (applied f) p) v.0 (λ t. (h, (applied-valid f (Shift t p) v.1 h, tt)))
applied-valid (Superimpose f) p v h = (h, (applied-valid f p v h, tt))
applied-valid (Jux f) p v h = ((h, tt), (applied-valid f _ v (h, tt), tt))
applied-valid (Later by) p v h = choose-valid by (λ t. later_of t p) v (λ t. later-valid t p h)
applied-valid (Earlier by) p v h = choose-valid by (λ t. earlier_of t p) v (λ t. later-valid (neg_ℚ t) p h)
applied-valid (Ply n) p v h = choose-valid n (λ a. ply_of a.num p) v (λ a. ply-valid (nat_abs a.num) p h)
applied-valid (Segment n) p v h = choose-valid n (λ a. segment_of a.num p) v (λ a. segment-valid (nat_abs a.num) p h)
applied-valid (Struct bools) p v h = (v, h)
applied-valid (Mask bools) p v h = (h, v)
applied-valid (Within from to f) p v h = (applied-valid f p v h, (h, tt))
applied-valid (Iter n) p v h = choose-valid n (λ a. iter_of a.num p) v (λ a. iter-valid a.num p h)
applied-valid Palindrome p v h = (h, (h, tt))
applied-valid Brak p v h = (omega arith, (omega arith, (omega arith, h, (omega arith, tt, tt))), h)
applied-valid (Euclid k n r) p v h =
    choose-valid k (λ a. choose n (λ b. choose r (λ c. euclid_of p a b c))) v.0
    (λ a. choose-valid n (λ b. choose r (λ c. euclid_of p a b c)) v.1.0
    (λ b. choose-valid r (λ c. euclid_of p a b c) v.1.1 (λ c. euclid-valid p a b c h)))
applied-valid (Const other) p v h = v
applied-valid (Section side op right) p v h = (h, v)
applied-valid (Chain first next) p v h = applied-valid next _ v.1 (applied-valid first p v.0 h)
