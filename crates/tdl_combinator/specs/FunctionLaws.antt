-- Laws of functions on patterns, as they are known. `p` is the tree that a function is applied to.
--     number         a whole number, as an argument
--     means          the pattern that a function makes of a tree
--     on_side        a tree, panned
--     pan_to         a value, with a pan
--     CycleLaws      functions that differ from cycle to cycle
--     EventLaws      functions of times, of events and of other functions
use Rattle.std.specs.Prelude.{◌≡◌, ◌≢◌, ◌⊎◌, ℕ, ◌<◌, Bool, true, false, Option, List, [], ◌∷◌, ◌++◌, map, length, ℤ, pos, neg_ℤ, nat_abs, ◌≤ℤ◌, ◌<ℤ◌}
use Rattle.std.specs.List.{flat_map, range_with_len, count_by}
use Rattle.tdl_control.specs.declared.keys.Key.TheVariants.{Pan}
use Rattle.tdl_control.specs.declared.leaves.Leaf.{Leaf}
use Rattle.tdl_control.specs.declared.leaves.Leaf.TheVariants.{Controls, Truth}
use Rattle.tdl_control.specs.declared.ops.MapOp.{MapOp}
use Rattle.tdl_control.specs.declared.ops.MapOp.TheVariants.{Union}
use Rattle.tdl_control.specs.Setting.{Number}
use Rattle.tdl_fraction.specs.Rational.{Rational, frac, whole, neg_ℚ, inverse, ◌<ℚ◌}
use Rattle.tdl_event.specs.Event.{Event}
use Rattle.tdl_euclid.specs.Euclid.{euclid}
use Rattle.tdl_expr.specs.declared.joinings.Op.TheVariants as op
use Rattle.tdl_expr.specs.declared.joinings.Side.{Side}
use Rattle.tdl_expr.specs.declared.joinings.Side.TheVariants.{Left, Right, Both}
use Rattle.tdl_expr.specs.Tree as tree
use Rattle.tdl_expr.specs.Tree.{Tree}
use Rattle.tdl_expr.specs.Valid.{IsValid}
use Rattle.tdl_meaning.specs.Pattern.{Pattern, over, moved, cycle_arc, silence, fast, squeezed, time_cat, rev, pick}
use Rattle.tdl_meaning.specs.Kinds.{shift, gate, ply, piece, join_left}
use Rattle.tdl_meaning.specs.Values.{value_of, join}
use Rattle.tdl_meaning.specs.Meaning.{cyc}
use Rattle.tdl_meaning.specs.PatternLaws.{AreSame, in_round, carried, revalued, held_for, held_within, beat, hits}
use Rattle.tdl_rows.specs.Built.{Built}
use Rattle.tdl_rows.specs.Joined.{Argument, plain, picked, choose}
use Rattle.tdl_combinator.specs.TreeFun.{TreeFun, Same, Fast, Slow, Rev, Every, EveryAt, WhenMod, Off, Superimpose, Jux, Later, Earlier, Ply, Segment}
use Rattle.tdl_combinator.specs.TreeFun.{Struct, Mask, Within, Iter, Palindrome, Brak, Euclid, Const, Section, Chain}
use Rattle.tdl_combinator.specs.Applied.{applied}

abbrev pub number : ℤ → Argument
number n = plain (whole n)

abbrev pub means : TreeFun → Tree → Pattern
means f p = cyc (applied f p).value

abbrev pub pan_map : ℕ → Leaf
pan_map pan = Controls ((Pan, Number (pos pan)) ∷ [])

abbrev pub on_side : ℕ → Tree → Tree
on_side pan p = tree.Join Left (op.Controls Union) p (tree.Pure (pan_map pan))

abbrev pub pan_to : ℕ → Leaf → Option Leaf
pan_to pan value = value_of (op.Controls Union) value (pan_map pan)

pub record CycleLaws : Type 0 where
  -- `every n f`: in the first cycle of each n the function, and in the others the pattern
  pub every_first : (n : ℕ) (f : TreeFun) (p : Tree) (k : ℤ) → 0 < n → means (Every (number (pos n)) f) p (in_round n k 0) ≡ means f p (in_round n k 0)
  pub every_other : (n : ℕ) (f : TreeFun) (p : Tree) (k : ℤ) (i : ℕ) → 0 < i → i < n
      → means (Every (number (pos n)) f) p (in_round n k i) ≡ cyc p (in_round n k i)
  pub every_none : (n : ℤ) (f : TreeFun) (p : Tree) → n ≤ℤ pos 0 → AreSame (means (Every (number n) f) p) (cyc p)
  -- `every' n place f`: in the cycle after so many others
  pub every_at_place : (n place : ℕ) (f : TreeFun) (p : Tree) (k : ℤ) → place < n
      → means (EveryAt (number (pos n)) (number (pos place)) f) p (in_round n k place) ≡ means f p (in_round n k place)
  pub every_at_other : (n place : ℕ) (f : TreeFun) (p : Tree) (k : ℤ) (i : ℕ) → place < n → i < n → i ≢ place
      → means (EveryAt (number (pos n)) (number (pos place)) f) p (in_round n k i) ≡ cyc p (in_round n k i)
  pub every_at_none : (n place : ℤ) (f : TreeFun) (p : Tree) → (place <ℤ pos 0) ⊎ (n ≤ℤ place)
      → AreSame (means (EveryAt (number n) (number place) f) p) (cyc p)
  -- `whenmod n from f`: from that cycle of each n on
  pub when_mod_from : (n : ℕ) (from : ℤ) (f : TreeFun) (p : Tree) (k : ℤ) (i : ℕ) → from ≤ℤ pos i → i < n
      → means (WhenMod (number (pos n)) (number from) f) p (in_round n k i) ≡ means f p (in_round n k i)
  pub when_mod_before : (n : ℕ) (from : ℤ) (f : TreeFun) (p : Tree) (k : ℤ) (i : ℕ) → pos i <ℤ from → i < n
      → means (WhenMod (number (pos n)) (number from) f) p (in_round n k i) ≡ cyc p (in_round n k i)
  pub when_mod_none : (n from : ℤ) (f : TreeFun) (p : Tree) → n ≤ℤ pos 0 → AreSame (means (WhenMod (number n) (number from) f) p) (cyc p)
  -- `palindrome`: each cycle once as it is, and then once turned round
  pub palindrome_forwards : (p : Tree) (k : ℤ) → means Palindrome p (in_round 2 k 0) ≡ carried k (in_round 2 k 0) (cyc p k)
  pub palindrome_backwards : (p : Tree) (k : ℤ) → means Palindrome p (in_round 2 k 1) ≡ carried k (in_round 2 k 1) (rev (cyc p) k)
  -- `iter n`: each cycle n times, each time earlier by one more nth
  pub iter_turn : (n : ℕ) (p : Tree) (k : ℤ) (i : ℕ) → IsValid p → i < n
      → means (Iter (number (pos n))) p (in_round n k i) ≡ carried k (in_round n k i) (shift (frac (neg_ℤ (pos i)) n) (cyc p) k)
  pub iter_none : (n : ℤ) (p : Tree) → n ≤ℤ pos 0 → AreSame (means (Iter (number n)) p) (cyc p)
  -- `brak`: each second cycle in half of its time, a quarter later
  pub brak_even : (p : Tree) (k : ℤ) → means Brak p (in_round 2 k 0) ≡ cyc p (in_round 2 k 0)
  pub brak_odd : (p : Tree) (k : ℤ)
      → means Brak p (in_round 2 k 1) ≡ shift (frac (pos 1) 4) (time_cat (map (beat (cyc p)) (true ∷ false ∷ []))) (in_round 2 k 1)

pub record EventLaws : Type 0 where
  -- `fast r`, also at rate 1; below 0 turned round; at 0 nothing
  pub faster : (r : Rational) (p : Tree) → whole (pos 0) <ℚ r → IsValid p → AreSame (means (Fast (plain r)) p) (fast r (cyc p))
  pub faster_turned : (r : Rational) (p : Tree) → whole (pos 0) <ℚ r → IsValid p → AreSame (means (Fast (plain (neg_ℚ r))) p) (rev (fast r (cyc p)))
  pub at_rate_zero : (p : Tree) → AreSame (means (Fast (number (pos 0))) p) silence
  -- `slow r` is `fast` of one over r; at 0 nothing
  pub slower : (r : Rational) (p : Tree) → r ≢ whole (pos 0) → AreSame (means (Slow (plain r)) p) (means (Fast (plain (inverse r))) p)
  pub slower_by_zero : (p : Tree) → AreSame (means (Slow (number (pos 0))) p) silence
  -- `~>` and `<~`, also by 0
  pub later : (t : Rational) (p : Tree) → IsValid p → AreSame (means (Later (plain t)) p) (shift t (cyc p))
  pub earlier : (t : Rational) (p : Tree) → IsValid p → AreSame (means (Earlier (plain t)) p) (shift (neg_ℚ t) (cyc p))
  -- `off t f`: the pattern, and the function of the pattern that is later by t
  pub off : (t : Rational) (f : TreeFun) (p : Tree) (c : ℤ) → means (Off (plain t) f) p c ≡ cyc p c ++ means f (tree.Shift t p) c
  -- `superimpose f`: the pattern, and the function of it
  pub superimpose : (f : TreeFun) (p : Tree) (c : ℤ) → means (Superimpose f) p c ≡ cyc p c ++ means f p c
  -- `jux f`: the pattern on the left side, and the function of the pattern on the right one
  pub jux : (f : TreeFun) (p : Tree) (c : ℤ) → means (Jux f) p c ≡ cyc (on_side 0 p) c ++ means f (on_side 1 p) c
  pub panned : (pan : ℕ) (p : Tree) → IsValid p → (c : ℤ) → cyc (on_side pan p) c ≡ revalued (pan_to pan) (cyc p c)
  -- `within (from, to) f`: what the function has from there to there, and what the pattern has elsewhere
  pub within : (from to : Rational) (f : TreeFun) (p : Tree) (c : ℤ)
      → means (Within from to f) p c ≡ gate from to true (means f p) c ++ gate from to false (cyc p) c
  -- with `id` each event as often
  pub within_same : (from to : Rational) (p : Tree) (c : ℤ) (test : Event → Bool) → count_by test (means (Within from to Same) p c) ≡ count_by test (cyc p c)
  -- `ply n`, also once and not at all
  pub plied : (n : ℤ) (p : Tree) → IsValid p → AreSame (means (Ply (number n)) p) (ply (nat_abs n) (cyc p))
  -- `segment n`: at n times of each cycle what the pattern has there, for as long as it lasts
  pub segment : (n : ℤ) (p : Tree) → IsValid p → (c : ℤ)
      → let pieces = nat_abs n in
      means (Segment (number n)) p c
      ≡ flat_map (λ j. map (held_for (piece pieces (cycle_arc c) j)) (over (cyc p) (piece pieces (cycle_arc c) j))) (range_with_len 0 pieces)
  -- `struct b`: the values of the pattern where b is true, with b's wholes; of one value, b's true events with that value
  pub struct : (b p : Tree) → AreSame (means (Struct b) p) (join_left (value_of op.Struct) (cyc b) (cyc p))
  pub struct_of_value : (b : Tree) (v : Leaf) → IsValid b → (c : ℤ) → means (Struct b) (tree.Pure v) c ≡ revalued (λ x. value_of op.Struct x v) (cyc b c)
  -- `mask b`: the pattern where b is true, with its own wholes; where b is always true, the pattern
  pub mask : (b p : Tree) → AreSame (means (Mask b) p) (join_left (value_of op.Mask) (cyc p) (cyc b))
  pub mask_of_true : (p : Tree) → IsValid p → AreSame (means (Mask (tree.Pure (Truth true))) p) (cyc p)
  -- `# e`, `|+ e`, `+| e`, `|+| e` and their kin: the pattern's controls joined with e's, with the wholes of that side;
  -- of one value, with the pattern's wholes, the pattern's events with new controls; with the value's wholes each of these is
  -- held for its cycle, and with what both wholes share for what its own has of the cycle
  pub section : (side : Side) (with : MapOp) (e p : Tree) → AreSame (means (Section side with e) p) (join side (value_of (op.Controls with)) (cyc p) (cyc e))
  pub section_with_value : (with : MapOp) (p : Tree) (u : Leaf) → IsValid p → (c : ℤ)
      → means (Section Left with (tree.Pure u)) p c ≡ revalued (λ x. value_of (op.Controls with) x u) (cyc p c)
  pub section_held_by_value : (with : MapOp) (p : Tree) (u : Leaf) → IsValid p → (c : ℤ)
      → means (Section Right with (tree.Pure u)) p c ≡ revalued (λ x. value_of (op.Controls with) x u) (map (held_for (cycle_arc c)) (cyc p c))
  pub section_shared_with_value : (with : MapOp) (p : Tree) (u : Leaf) → IsValid p → (c : ℤ)
      → means (Section Both with (tree.Pure u)) p c ≡ revalued (λ x. value_of (op.Controls with) x u) (map (held_within (cycle_arc c)) (cyc p c))
  -- `euclid`: the pattern's cycle at each hit of the rhythm, squeezed into the step
  pub rhythm : (k n r : Rational) (p : Tree) (c : ℤ)
      → let beats = euclid k.num (nat_abs n.num) r.num in
      means (Euclid (plain k) (plain n) (plain r)) p c ≡ flat_map (λ i. map (moved (squeezed c i 1 (length beats))) (cyc p c)) (hits beats)
  -- `id`, `const e` and `g . f`
  pub same : (p : Tree) → AreSame (means Same p) (cyc p)
  pub turned : (p : Tree) → AreSame (means Rev p) (rev (cyc p))
  pub other : (e p : Tree) → AreSame (means (Const e) p) (cyc e)
  pub after : (f g : TreeFun) (p : Tree) → AreSame (means (Chain f g) p) (means g (applied f p).value)
  -- where a number is chosen, the choice among what its values give
  pub chosen : (selector : Tree) (values : List Rational) (f : Rational → Built Tree)
      → AreSame (cyc (choose (picked selector values) f).value) (pick (cyc selector) (map (λ v. cyc (f v).value) values))
