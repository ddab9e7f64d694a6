-- Functions of times, of events and of other functions.
use Rattle.std.proofs.Common.{◌≡◌, ℕ, zero, suc, ◌<◌, true, false, cond, Some, List, [], ◌∷◌, map, ℤ, pos, nat_abs, refl, sym, ap, ◌∙◌, arith}
use Rattle.std.specs.List.{flat_map, range_with_len, count_by}
use Rattle.std.proofs.lemmas.List.Sums.{sum_by-append}
use Rattle.tdl_control.specs.declared.leaves.Leaf.TheVariants.{Truth}
use Rattle.tdl_control.specs.declared.ops.MapOp.TheVariants.{Union}
use Rattle.tdl_fraction.specs.Rational.{whole, neg_ℚ}
use Rattle.tdl_fraction.proofs.Order.{whole_positive}
use Rattle.tdl_event.specs.Event.{Event}
use Rattle.tdl_euclid.specs.Euclid.{euclid}
use Rattle.tdl_expr.specs.declared.joinings.Op.TheVariants as op
use Rattle.tdl_expr.specs.declared.joinings.Side.TheVariants.{Left}
use Rattle.tdl_expr.specs.Tree as tree
use Rattle.tdl_expr.specs.Tree.{Tree}
use Rattle.tdl_expr.specs.Valid.{IsValid}
use Rattle.tdl_meaning.specs.Pattern.{Pattern, over, cycle_arc, silence, pure, fast}
use Rattle.tdl_meaning.specs.Kinds.{Joining, gate, fragments, ply, piece, with_left, join_left}
use Rattle.tdl_meaning.specs.Values.{value_of}
use Rattle.tdl_meaning.specs.Meaning.{cyc}
use Rattle.tdl_meaning.specs.Proper.{ProperLaw}
use Rattle.tdl_meaning.specs.PatternLaws.{AreSame, held_for, revalued, RateLaws, MixLaws}
use Rattle.tdl_rows.specs.Joined.{fast_of}
use Rattle.tdl_combinator.specs.TreeFun.{Ply, Segment}
use Rattle.tdl_combinator.specs.Makings.{ply_times, segment_times}
use Rattle.tdl_combinator.specs.FunctionLaws.{number, means, pan_map, EventLaws}
use Rattle.tdl_combinator.proofs.functions.Values.{whole-num, later_value, fast_value, slow_value, still_value, slow_by_zero, turned_value}
use Rattle.tdl_combinator.proofs.functions.Values.{choice_value, rhythm_value}

module _ (rates : RateLaws) (mixes : MixLaws) (valid : ProperLaw) where
  nothing : (c : ℤ) → silence c ≡ []
  unfolding silence
  nothing c = refl

  no_piece : (p : Pattern) (c : ℤ) → silence c ≡ ply 0 p c
  unfolding silence ply
  no_piece p c = none (p c)
    where
      none : (es : List Event) → [] ≡ flat_map (fragments 0) es
      none [] = refl
      none (e ∷ es) = none es

  -- once, and not at all, too
  plied : (n : ℤ) (p : Tree) → IsValid p → AreSame (means (Ply (number n)) p) (ply (nat_abs n) (cyc p))
  plied n p is c = ap (λ m. cyc (ply_times (nat_abs m) p).value c) (whole-num n) ∙ by (nat_abs n)
    where
      by : (n : ℕ) → cyc (ply_times n p).value c ≡ ply n (cyc p) c
      by zero = no_piece (cyc p) c
      by (suc zero) = sym (rates.in_one_piece (cyc p) (valid p is) c)
      by (suc (suc n)) = refl

  -- a join depends on the left cycle alone
  same_left : (v : Joining) (x y z : Pattern) (c : ℤ) → x c ≡ y c → join_left v x z c ≡ join_left v y z c
  unfolding join_left
  same_left v x y z c e = ap (flat_map (λ l. flat_map (λ r. with_left v l r) (over z l.whole))) e

  -- what a pattern has in each of so many pieces of a cycle
  abbrev in_pieces : ℕ → Tree → ℤ → List Event
  in_pieces n p c = flat_map (λ j. map (held_for (piece n (cycle_arc c) j)) (over (cyc p) (piece n (cycle_arc c) j))) (range_with_len 0 n)

  segment : (n : ℤ) (p : Tree) → IsValid p → (c : ℤ) → means (Segment (number n)) p c ≡ in_pieces (nat_abs n) p c
  segment n p is c = ap (λ m. cyc (segment_times (nat_abs m) p).value c) (whole-num n) ∙ by (nat_abs n)
    where
      by : (n : ℕ) → cyc (segment_times n p).value c ≡ in_pieces n p c
      by zero = nothing c
      by (suc n) =
          let some : 0 < suc n = omega arith in
          let n_times = whole (pos (suc n)) in
          same_left (value_of op.Struct) (cyc (fast_of n_times (tree.Pure (Truth true))).value) (fast n_times (pure (Truth true))) (cyc p) c
          (fast_value rates valid n_times (tree.Pure (Truth true)) (whole_positive (suc n) some) tt c)
          ∙ mixes.segments (suc n) (cyc p) some (valid p is) c

  mask_of_true : (p : Tree) → IsValid p → AreSame (cyc (tree.Join Left op.Mask p (tree.Pure (Truth true)))) (cyc p)
  mask_of_true p is c = mixes.with_one_value (value_of op.Mask) (cyc p) (Truth true) (valid p is) c ∙ itself (cyc p c)
    where
      itself : (es : List Event) → revalued (λ x. Some x) es ≡ es
      itself [] = refl
      itself (e ∷ es) = ap (λ xs. e ∷ xs) (itself es)

  pub event_laws : EventLaws
  event_laws = record {
    faster = λ r p h is. fast_value rates valid r p h is;
    faster_turned = λ r p h is. turned_value rates valid r p h is;
    at_rate_zero = still_value;
    slower = slow_value;
    slower_by_zero = slow_by_zero;
    later = λ t p is. later_value rates valid t p is;
    earlier = λ t p is. later_value rates valid (neg_ℚ t) p is;
    off = λ t f p c. mixes.stack_of_two (cyc p) (means f (tree.Shift t p)) c;
    superimpose = λ f p c. mixes.stack_of_two (cyc p) (means f p) c;
    jux = λ f p c. mixes.stack_of_two _ _ c;
    panned = λ pan p is c. mixes.with_one_value (value_of (op.Controls Union)) (cyc p) (pan_map pan) (valid p is) c;
    within = λ from to f p c. mixes.stack_of_two (gate from to true (means f p)) (gate from to false (cyc p)) c;
    within_same = λ from to p c test.
        ap (count_by test) (mixes.stack_of_two (gate from to true (cyc p)) (gate from to false (cyc p)) c)
        ∙ sum_by-append (λ e. cond (test e) 1 0) (gate from to true (cyc p) c) (gate from to false (cyc p) c)
        ∙ mixes.on_one_side from to (cyc p) c test;
    plied = plied;
    segment = segment;
    struct = λ b p c. refl;
    struct_of_value = λ b v is c. mixes.with_one_value (value_of op.Struct) (cyc b) v (valid b is) c;
    mask = λ b p c. refl;
    mask_of_true = mask_of_true;
    section = λ side with e p c. refl;
    section_with_value = λ with p u is c. mixes.with_one_value (value_of (op.Controls with)) (cyc p) u (valid p is) c;
    section_held_by_value = λ with p u is c. mixes.held_by_one_value (value_of (op.Controls with)) (cyc p) u (valid p is) c;
    section_shared_with_value = λ with p u is c. mixes.shared_with_one_value (value_of (op.Controls with)) (cyc p) u (valid p is) c;
    rhythm = λ k n r p c. rhythm_value mixes p (euclid k.num (nat_abs n.num) r.num) c;
    same = λ p c. refl;
    turned = λ p c. refl;
    other = λ e p c. refl;
    after = λ f g p c. refl;
    chosen = choice_value mixes;
  }
