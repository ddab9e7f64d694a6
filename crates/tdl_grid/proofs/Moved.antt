-- What items that are moved are as events: events whose times are moved.
use Rattle.std.proofs.Common.{◌≡◌, ℕ, ◌+◌, ◌*◌, ◌<◌, ◌≤◌, ◌^◌, List, [], ◌∷◌, ◌++◌, map, take, drop, length, get_or, set}
use Rattle.std.proofs.Common.{ℤ, pos, ◌+ℤ◌, ◌-ℤ◌, ◌*ℤ◌, refl, sym, ap, ap₂, ◌∙◌, subst, arith, append_assoc, nat_abs, FitsSigned}
use Rattle.std.proofs.lemmas.List.{map-append}
use Rattle.std.proofs.lemmas.Int.{ints, to_z-of_z}
use mir.Syntax.{w128}
use Rattle.std.proofs.Math.Seq.{take-append_seam, drop-append_seam}
use Rattle.tdl_fraction.specs.Rational.{Rational, frac, whole, ◌+ℚ◌, ◌-ℚ◌, ◌/ℚ◌}
use Rattle.tdl_fraction.specs.Range.{InRange}
use Rattle.tdl_event.specs.Event.{Event}
use Rattle.tdl_control.specs.declared.leaves.Leaf.{Leaf}
use Rattle.tdl_fraction.proofs.Over.{Over, Over-self}
use Rattle.tdl_fraction.proofs.Integers.{times_le}
use Rattle.tdl_fraction.specs.Arc.{IsArc, IsInside}
use Rattle.tdl_meaning.specs.Pattern.{moved, turned_event, over, pure, cycle_arc}
use Rattle.tdl_meaning.proofs.ByKind.{over-pure}
use Rattle.tdl_meaning.specs.Proper.{Each}
use Rattle.tdl_meaning.specs.Ranges.{HasEnds}
use Rattle.tdl_meaning.proofs.Lists.{each_unmap}
use Rattle.tdl_meaning.proofs.Moves.{moved_between, read_at, all_moved}
use Rattle.tdl_grid.specs.Span.{Span, IsPartOf, later_span, finer_span, turn_span, arc_of}
use Rattle.tdl_grid.specs.Item.{Item, HasCounts, retimed, moved_item, delayed, finer_item, turned_item, event_of, Adds}
use Rattle.tdl_grid.proofs.Places.{placed_more}
use Rattle.tdl_grid.proofs.Sums.{read}
use Rattle.tdl_grid.proofs.Units.{time-plus, time-count, time-later_cycles, time-slower, time-finer, time-turned, count_size}

-- the event with these four ends
abbrev event_between : Rational → Rational → Rational → Rational → Leaf → Event
event_between a b c d v = record { whole = record { start = a; stop = b }; part = record { start = c; stop = d }; value = v }

same_ends : (a b c d a' b' c' d' : Rational) (v : Leaf) → a ≡ a' → b ≡ b' → c ≡ c' → d ≡ d' → event_between a b c d v ≡ event_between a' b' c' d' v
same_ends a b c d a' b' c' d' v p q r s = cc

module _ (u v : ℕ) (f : Rational → Rational) (g : ℤ → ℤ) (same : (n : ℤ) → frac (g n) u ≡ f (frac n v)) where
  -- counts of one unit that are, moved, the times of counts of another
  pub event_moved : (i : Item) → event_of u (moved_item g i) ≡ moved f (event_of v i)
  event_moved i = same_ends _ _ _ _ _ _ _ _ i.value (same i.whole.start) (same i.whole.stop) (same i.part.start) (same i.part.stop)

  pub items_moved : (items : List Item) → map (event_of u) (map (moved_item g) items) ≡ map (moved f) (map (event_of v) items)
  items_moved [] = refl
  items_moved (i ∷ items) = ap₂ ◌∷◌ (event_moved i) (items_moved items)

-- so many cycles later, and later by a time whose denominator goes x times into the unit
pub items_later : (u : ℕ) → 0 < u → (k : ℤ) (items : List Item)
    → map (event_of u) (map (delayed (k *ℤ pos u)) items) ≡ map (moved (λ s. s +ℚ whole k)) (map (event_of u) items)
items_later u h k = items_moved u u (λ s. s +ℚ whole k) (λ n. n +ℤ k *ℤ pos u) (λ n. time-later_cycles n k u h)

pub items_shifted : (u x : ℕ) → 0 < u → (t : Rational) → x * t.den ≡ u → (items : List Item)
    → map (event_of u) (map (delayed (t.num *ℤ pos x)) items) ≡ map (moved (λ s. s +ℚ t)) (map (event_of u) items)
items_shifted u x h t e =
    items_moved u u (λ s. s +ℚ t) (λ n. n +ℤ t.num *ℤ pos x) (λ n. time-plus n (t.num *ℤ pos x) u h ∙ ap (λ s. frac n u +ℚ s) (time-count t x u h e))

-- at a rate the items stay as they are
pub items_slower : (u v p : ℕ) → 0 < u → 0 < v → 0 < p → (r : Rational) → r.num ≡ pos p → v * p ≡ u * r.den → (items : List Item)
    → map (event_of u) items ≡ map (moved (λ s. s /ℚ r)) (map (event_of v) items)
items_slower u v p hu hv hp r num e items =
    let rate : Over (pos p) r.den r = subst (λ n. Over n r.den r) num (Over-self r) in
    ap (map (event_of u)) (sym (map_self items)) ∙ items_moved u v (λ s. s /ℚ r) (λ n. n) (λ n. sym (time-slower n u v p r.den r hu hv hp rate e)) items
  where
    map_self : (items : List Item) → map (moved_item (λ n. n)) items ≡ items
    map_self [] = refl
    map_self (i ∷ items) = ap (λ js. i ∷ js) (map_self items)

-- in a unit so many times as fine
pub items_finer : (u x : ℕ) → 0 < u → 0 < x → (items : List Item) → map (event_of (u * x)) (map (finer_item x) items) ≡ map (event_of u) items
items_finer u x hu hx [] = refl
items_finer u x hu hx (i ∷ items) =
    ap₂ ◌∷◌ (event_moved (u * x) u (λ t. t) (λ n. n *ℤ pos x) (λ n. time-finer n u x hu hx) i) (items_finer u x hu hx items)

-- turned round in a cycle
pub items_turned : (u : ℕ) → 0 < u → (c : ℤ) (items : List Item)
    → map (event_of u) (map (turned_item ((c +ℤ c +ℤ pos 1) *ℤ pos u)) items) ≡ map (turned_event c) (map (event_of u) items)
items_turned u h c [] = refl
items_turned u h c (i ∷ items) =
    let at : (n : ℤ) → frac ((c +ℤ c +ℤ pos 1) *ℤ pos u -ℤ n) u ≡ whole (c +ℤ c +ℤ pos 1) -ℚ frac n u = λ n. time-turned n (c +ℤ c +ℤ pos 1) u h in
    ap₂ ◌∷◌ (same_ends _ _ _ _ _ _ _ _ i.value (at i.whole.stop) (at i.whole.start) (at i.part.stop) (at i.part.start)) (items_turned u h c items)

-- ---- one after another, in place
module _ (f : Item → Item) (from i : ℕ) (after : from ≤ i) (xs ys : List Item) (x : Item) (moved : ys ≡ moved_between f from i xs)
    (within : i < length xs) (is : x ≡ get_or ys i x) where
  -- the next item, with its new spans, is moved
  pub next_moved : (zs : List Item) (whole part : Span) → zs ≡ set ys i (retimed whole part (get_or ys i x)) → whole ≡ (f x).whole → part ≡ (f x).part
      → (f x).value ≡ x.value → zs ≡ moved_between f from (i + 1) xs
  next_moved zs whole part new w p v =
      placed_more f from i xs ys zs x (retimed whole part (get_or ys i x)) after moved within is new
      (made whole part (get_or ys i x) (f x) w p (ap (λ (y : Item). y.value) (sym is) ∙ sym v))
    where
      made : (whole part : Span) (y z : Item) → whole ≡ z.whole → part ≡ z.part → y.value ≡ z.value → retimed whole part y ≡ z
      made whole part y z w p v =
          ap₂ (λ a b. record { whole = a; part = b; value = y.value }) w p ∙ ap (λ u. record { whole = z.whole; part = z.part; value = u }) v

-- where they are moved by a number, as the program reads it, it has room for the counts of the next item, and in the end all are
-- moved by that number
module _ (f : ℤ → Item → Item) (by : ℤ) (fits : FitsSigned w128 by) (from : ℕ) (xs : List Item) where
  pub next_counts : (i : ℕ) → from ≤ i → (ys : List Item) (x : Item) → ys ≡ moved_between (f (read by)) from i xs → i < length xs → x ≡ get_or ys i x
      → Each HasCounts (map (f by) (drop from xs)) → HasCounts (f (read by) x)
  next_counts i after ys x moved within is all =
      read_at from i after (λ y. HasCounts (f (read by) y)) (f (read by)) xs ys x moved within is
      (each_unmap HasCounts (f (read by)) (drop from xs) (subst (λ k. Each HasCounts (map (f k) (drop from xs))) (sym (to_z-of_z w128 by fits)) all))

  pub all_moved_by : (i : ℕ) (ys : List Item) → ys ≡ moved_between (f (read by)) from i xs → length xs ≤ i → ys ≡ take from xs ++ map (f by) (drop from xs)
  all_moved_by i ys moved end =
      subst (λ k. ys ≡ take from xs ++ map (f k) (drop from xs)) (to_z-of_z w128 by fits) (all_moved (f (read by)) from i xs ys moved end)

-- a part stays in its whole
pub later_part : (by : ℤ) (a b : Span) → IsPartOf a b → IsPartOf (later_span by a) (later_span by b)
later_part by a b h = (omega (arith, ints), omega (arith, ints))

pub turned_part : (round : ℤ) (a b : Span) → IsPartOf a b → IsPartOf (turn_span (λ n. round -ℤ n) a) (turn_span (λ n. round -ℤ n) b)
turned_part round a b h = (omega (arith, ints), omega (arith, ints))

pub finer_part : (x : ℕ) (a b : Span) → IsPartOf a b → IsPartOf (finer_span x a) (finer_span x b)
finer_part x a b h = (times_le b.start a.start x h.0, times_le a.stop b.stop x h.1)

-- ---- lists that items are added to
pub adds_one : (u : ℕ) (xs ys : List Item) (i : Item) (e : Event) → ys ≡ xs ++ i ∷ [] → event_of u i ≡ e → Adds u xs ys (e ∷ [])
adds_one u xs ys i e pushed same = record { made = i ∷ []; behind = pushed; plays = ap (λ e. e ∷ []) same }

-- a leaf, which lasts as long as its cycle, in an arc of the cycle
pub adds_leaf : (u : ℕ) (xs ys : List Item) (whole part : Span) (v v' : Leaf) (c : ℤ) → ys ≡ xs ++ record { whole = whole; part = part; value = v' } ∷ []
    → arc_of u whole ≡ cycle_arc c → v' ≡ v → IsArc (arc_of u part) → IsInside (arc_of u part) (cycle_arc c) → Adds u xs ys (over (pure v) (arc_of u part))
adds_leaf u xs ys whole part v v' c pushed w same is_arc inside =
    subst (Adds u xs ys) (sym (over-pure v c (arc_of u part) is_arc inside))
    (adds_one u xs ys (record { whole = whole; part = part; value = v' }) (record { whole = cycle_arc c; part = arc_of u part; value = v }) pushed
    (ap₂ (λ a v. record { whole = a; part = arc_of u part; value = v }) w same))

-- one after another
pub adds_both : (u : ℕ) (xs ys zs : List Item) (es fs : List Event) → Adds u xs ys es → Adds u ys zs fs → Adds u xs zs (es ++ fs)
adds_both u xs ys zs es fs a b = record {
  made = a.made ++ b.made;
  behind = b.behind ∙ ap (λ ws. ws ++ b.made) a.behind ∙ append_assoc xs a.made b.made;
  plays = map-append (event_of u) a.made b.made ∙ ap₂ ◌++◌ a.plays b.plays;
}

-- a list whose new items are moved has moved events
pub adds_moved : (u v : ℕ) (g : Item → Item) (f : Event → Event) → ((items : List Item) → map (event_of u) (map g items) ≡ map f (map (event_of v) items))
    → (old mid new : List Item) (events : List Event) → Adds v old mid events → new ≡ take (length old) mid ++ map g (drop (length old) mid)
    → Adds u old new (map f events)
adds_moved u v g f same old mid new events a e = record {
  made = map g a.made;
  behind = e ∙ ap₂ (λ xs ys. xs ++ map g ys) (ap (take (length old)) a.behind ∙ take-append_seam old a.made)
      (ap (drop (length old)) a.behind ∙ drop-append_seam old a.made);
  plays = same a.made ∙ ap (map f) a.plays;
}

-- ---- counts of events in range
-- where times of events are in range and the unit is not too fine, the program's numbers have room for the counts
pub counts_fit : (u : ℕ) → 0 < u → u ≤ 2 ^ 88 → (items : List Item) → Each (HasEnds InRange) (map (event_of u) items) → Each HasCounts items
counts_fit u h small [] all = all
counts_fit u h small (i ∷ items) all = (
  record {
    whole_start = fits i.whole.start all.0.whole_start;
    whole_stop = fits i.whole.stop all.0.whole_stop;
    part_start = fits i.part.start all.0.part_start;
    part_stop = fits i.part.stop all.0.part_stop;
  },
  counts_fit u h small items all.1,
)
  where
    fits : (n : ℤ) → InRange (frac n u) → nat_abs n ≤ 2 ^ 124
    fits n is = let size = count_size n u h is in omega arith
