-- Laws of patterns, as they are known.
--     AreSame       the same events in each cycle
--     AreAlike      the same at each time, however the parts of events are cut
--     in_round      a cycle, by its round of so many cycles and its place there
--     carried       events, moved from one cycle to another
--     revalued      events with the values that a function gives, without those for which it gives none
--     held_for      an event with another whole
--     held_within   an event with what its whole has of an arc
--     beat          a step of a rhythm: a pattern, or silence
--     hits          the places of a rhythm's hits
--     RateLaws      rates, shifts and pieces
--     MixLaws       joins, patterns together, one after another and by turns, and gates
-- What each kind has at a time, and that `rev` twice is nothing, is said by what is heard.
use Rattle.std.specs.Prelude.{◌≡◌, ◌↔◌, ℕ, ◌+◌, ◌*◌, ◌<◌, ◌≤◌, Bool, true, false, Option, Some, List, [], ◌∷◌, ◌++◌, map, length, get_or, ℤ, pos}
use Rattle.std.specs.Prelude.{◌+ℤ◌, ◌-ℤ◌, ◌*ℤ◌}
use Rattle.std.specs.List.{flat_map, range_with_len, count_by}
use Rattle.tdl_control.specs.declared.leaves.Leaf.{Leaf}
use Rattle.tdl_control.specs.declared.leaves.Leaf.TheVariants.{Truth}
use Rattle.tdl_fraction.specs.Rational.{Rational, whole, ◌+ℚ◌, ◌*ℚ◌, ◌/ℚ◌, ◌<ℚ◌, min_ℚ, max_ℚ}
use Rattle.tdl_fraction.specs.Arc.{Arc}
use Rattle.tdl_event.specs.Event.{Event}
use Rattle.tdl_expr.specs.declared.joinings.Op.TheVariants.{Struct}
use Rattle.tdl_expr.specs.declared.rounds.Test.TheVariants.{Equal, AtLeast}
use Rattle.tdl_meaning.specs.Pattern.{Pattern, Share, over, moved, cycle_arc, silence, pure, fast, squeezed, time_cat, cat, stack, pick}
use Rattle.tdl_meaning.specs.Kinds.{Joining, one_of, when, shift, gate, ply, piece, joined_event, join_left, join_right, join_both}
use Rattle.tdl_meaning.specs.Values.{meets, value_of}
use Rattle.tdl_meaning.specs.Proper.{HasProperEvents}
use Rattle.tdl_meaning.specs.Heard.{heard}

abbrev pub AreSame : Pattern → Pattern → Type 0
AreSame p q = (c : ℤ) → p c ≡ q c

abbrev pub AreAlike : Pattern → Pattern → Type 0
AreAlike p q = (t : Rational) → heard p t ≡ heard q t

-- of round k, of n cycles, the cycle after i others
abbrev pub in_round : ℕ → ℤ → ℕ → ℤ
in_round n k i = k *ℤ pos n +ℤ pos i

abbrev pub carried : ℤ → ℤ → List Event → List Event
carried from to events = map (moved (λ t. t +ℚ whole (to -ℤ from))) events

abbrev pub revalued : (Leaf → Option Leaf) → List Event → List Event
revalued f events = flat_map (λ e. joined_event e.whole (Some e.part) (f e.value)) events

abbrev pub held_for : Arc → Event → Event
held_for w e = record { whole = w; part = e.part; value = e.value }

abbrev pub held_within : Arc → Event → Event
held_within a e = held_for (record { start = max_ℚ e.whole.start a.start; stop = min_ℚ e.whole.stop a.stop }) e

abbrev pub beat : Pattern → Bool → Share
beat p true = record { weight = 1; pattern = p }
beat p false = record { weight = 1; pattern = silence }

abbrev pub hits_from : ℕ → List Bool → List ℕ
hits_from i [] = []
hits_from i (true ∷ beats) = i ∷ hits_from (i + 1) beats
hits_from i (false ∷ beats) = hits_from (i + 1) beats

abbrev pub hits : List Bool → List ℕ
hits beats = hits_from 0 beats

pub record RateLaws : Type 0 where
  -- a pattern at rate 1 is the pattern
  pub at_rate_one : (p : Pattern) → HasProperEvents p → AreSame (fast (whole (pos 1)) p) p
  -- and so is one that is later by 0
  pub by_no_time : (p : Pattern) → HasProperEvents p → AreSame (shift (whole (pos 0)) p) p
  -- a rate of a rate is their product, event by event where the inner one is a whole number,
  pub rate_of_whole_rate : (r : Rational) (n : ℕ) (p : Pattern) → whole (pos 0) <ℚ r → 0 < n → HasProperEvents p
      → AreSame (fast r (fast (whole (pos n)) p)) (fast (r *ℚ whole (pos n)) p)
  -- and at each time whatever they are
  pub rate_of_rate : (r s : Rational) (p : Pattern) → whole (pos 0) <ℚ r → whole (pos 0) <ℚ s → HasProperEvents p
      → AreAlike (fast r (fast s p)) (fast (r *ℚ s) p)
  -- a shift of a shift is their sum, event by event where one of them is a whole number,
  pub shift_of_whole_shift : (s : Rational) (k : ℤ) (p : Pattern) → HasProperEvents p → AreSame (shift s (shift (whole k) p)) (shift (s +ℚ whole k) p)
  pub whole_shift_of_shift : (k : ℤ) (s : Rational) (p : Pattern) → HasProperEvents p → AreSame (shift (whole k) (shift s p)) (shift (whole k +ℚ s) p)
  -- and at each time whatever they are
  pub shift_of_shift : (s u : Rational) (p : Pattern) → HasProperEvents p → AreAlike (shift s (shift u p)) (shift (s +ℚ u) p)
  -- a shift is shorter by a rate
  pub rate_of_shift : (r s : Rational) (p : Pattern) → whole (pos 0) <ℚ r → HasProperEvents p
      → AreAlike (fast r (shift s p)) (shift (s /ℚ r) (fast r p))
  -- each event in one piece is the pattern
  pub in_one_piece : (p : Pattern) → HasProperEvents p → AreSame (ply 1 p) p
  -- each event in n pieces, and each of these in m, is in n * m
  pub pieces_of_pieces : (n m : ℕ) (p : Pattern) → 0 < n → 0 < m → HasProperEvents p → AreSame (ply m (ply n p)) (ply (n * m) p)
  -- of one value that goes on the pieces are the value at that rate
  pub value_in_pieces : (n : ℕ) (v : Leaf) → 0 < n → AreSame (ply n (pure v)) (fast (whole (pos n)) (pure v))

pub record MixLaws : Type 0 where
  -- joined with one value that goes on, a pattern has its events with other values, however long they are
  pub with_one_value : (v : Joining) (p : Pattern) (u : Leaf) → HasProperEvents p → (c : ℤ) → join_left v p (pure u) c ≡ revalued (λ x. v x u) (p c)
  -- with that value's wholes, each event is held for its cycle
  pub held_by_one_value : (v : Joining) (p : Pattern) (u : Leaf) → HasProperEvents p → (c : ℤ)
      → join_right v p (pure u) c ≡ revalued (λ x. v x u) (map (held_for (cycle_arc c)) (p c))
  -- with what both wholes share, for what its own whole has of the cycle
  pub shared_with_one_value : (v : Joining) (p : Pattern) (u : Leaf) → HasProperEvents p → (c : ℤ)
      → join_both v p (pure u) c ≡ revalued (λ x. v x u) (map (held_within (cycle_arc c)) (p c))
  -- with the right's wholes is with the left's, the sides exchanged
  pub mirrored : (v : Joining) (x y : Pattern) → AreSame (join_right v x y) (join_left (λ l r. v r l) y x)
  -- where `true` comes n times a cycle, each time has what the pattern has in it, for as long as it lasts
  pub segments : (n : ℕ) (p : Pattern) → 0 < n → HasProperEvents p → (c : ℤ)
      → join_left (value_of Struct) (fast (whole (pos n)) (pure (Truth true))) p c
      ≡ flat_map (λ j. map (held_for (piece n (cycle_arc c) j)) (over p (piece n (cycle_arc c) j))) (range_with_len 0 n)
  -- a pattern together with none, one step and one turn are the pattern
  pub stack_of_one : (p : Pattern) → AreSame (stack (p ∷ [])) p
  pub one_step : (w : ℕ) (p : Pattern) → 0 < w → AreSame (time_cat (record { weight = w; pattern = p } ∷ [])) p
  pub one_turn : (p : Pattern) → AreSame (cat (p ∷ [])) p
  -- two patterns together are the one's events, and then the other's
  pub stack_of_two : (p q : Pattern) (c : ℤ) → stack (p ∷ q ∷ []) c ≡ p c ++ q c
  -- a rhythm has the pattern's cycle at each hit, squeezed into the step
  pub rhythm : (p : Pattern) (beats : List Bool) (c : ℤ)
      → time_cat (map (beat p) beats) c ≡ flat_map (λ i. map (moved (squeezed c i 1 (length beats))) (p c)) (hits beats)
  -- by turns, each goes on where it was: in round k it plays its cycle k
  pub in_turn : (ps : List Pattern) (k : ℤ) (i : ℕ) → i < length ps
      → cat ps (in_round (length ps) k i) ≡ carried k (in_round (length ps) k i) (get_or ps i silence k)
  -- there is no choice among no patterns
  pub no_choice : (selector : Pattern) → AreSame (pick selector []) silence
  -- in each round a test of the place decides,
  pub by_place : (n : ℕ) (test : ℕ → Bool) (p q : Pattern) (k : ℤ) (i : ℕ) → i < n
      → when n test p q (in_round n k i) ≡ one_of (test i) p q (in_round n k i)
  -- which may be that it is this one, or this one or a later one
  pub equal : (k n : ℕ) → (meets (Equal k) n ≡ true) ↔ (n ≡ k)
  pub at_least : (k n : ℕ) → (meets (AtLeast k) n ≡ true) ↔ (k ≤ n)
  -- each event passes on one side of a gate and not on the other
  pub on_one_side : (from to : Rational) (p : Pattern) (c : ℤ) (test : Event → Bool)
      → count_by test (gate from to true p c) + count_by test (gate from to false p c) ≡ count_by test (p c)
