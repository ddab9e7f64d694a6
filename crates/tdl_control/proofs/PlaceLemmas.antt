-- What stands at the place of a key, and what an edit at that place does.
use Rattle.std.proofs.Common.{◌≡◌, ℕ, zero, suc, ◌<◌, List, [], ◌∷◌, map, length, get_or, set, take, drop, Some, None, Result, Ok, Err, IfOk, IfErr, refl}
use Rattle.std.proofs.Common.{sym, ap, subst, ◌∙◌, arith, pos}
use Rattle.std.specs.List.{insert, slice_get}
use Rattle.std.specs.List.Sorted.{IsSearchInRange, IsBinarySearchResult, IsNonDecreasingBy}
use Rattle.std.specs.Ordering.{nat_cmp, ordering_index}
use Rattle.std.proofs.lemmas.Cmp.{ranked}
use Rattle.std.proofs.lemmas.List.{take-map, drop-map, map-append, map-set}
use Rattle.std.proofs.lemmas.List.Sorted.{IsNonDecreasingBy-from_default}
use Rattle.std.proofs.lemmas.Option.{get_or_from_slice_get, slice_get_within}
use Rattle.std.proofs.Math.ListN.{get_or-map, length-map}
use Rattle.std.proofs.lemmas.Bool.Decides.{nat_tests}
use Rattle.tdl_control.specs.declared.keys.Key.{Key}
use Rattle.tdl_control.specs.declared.keys.Key.TheVariants.{Accelerate}
use Rattle.tdl_control.specs.declared.maps.KeyValue.{KeyValue}
use Rattle.tdl_control.specs.declared.values.Value.TheVariants.{Int}
use Rattle.tdl_control.specs.Key.{rank}
use Rattle.tdl_control.specs.Setting.{Setting}
use Rattle.tdl_control.specs.Map.{KeyValues, lookup, put, IsOrdered}
use Rattle.tdl_control.specs.inside.Search.{rank_at, IsAt, IsGapFor}
use Rattle.tdl_control.specs.KeyValue.{key_value_of}
use Rattle.tdl_control.specs.Value.{setting_of}

-- without the first entry, a place is one lower
at_tail : (e : Key × Setting) (es : KeyValues) (k : Key) (i : ℕ) → IsAt (e ∷ es) k (suc i) → IsAt es k i
at_tail e es k i is_at = record { in_range = omega (arith, is_at.in_range); has_key = is_at.has_key }

gap_tail : (e : Key × Setting) (es : KeyValues) (k : Key) (i : ℕ) → IsGapFor (e ∷ es) k (suc i) → IsGapFor es k i
gap_tail e es k i gap = record {
  in_range = omega (arith, gap.in_range);
  lower_before = λ j below. gap.lower_before (suc j) (omega arith);
  higher_after = λ j from within. gap.higher_after (suc j) (omega arith) (omega arith);
}

-- and the entries keep their order
ordered_tail : (e : Key × Setting) (es : KeyValues) → IsOrdered (e ∷ es) → IsOrdered es
ordered_tail e es ordered i j d below within = ordered (suc i) (suc j) d (omega arith) (omega arith)

-- the first key ranks below a key that stands further on
first_below : (e : Key × Setting) (es : KeyValues) (k : Key) (i : ℕ) → IsOrdered (e ∷ es) → IsAt (e ∷ es) k (suc i) → rank e.0 < rank k
first_below e es k i ordered is_at =
    let below : rank_at (e ∷ es) 0 < rank_at (e ∷ es) (suc i) = ordered 0 (suc i) _ (omega arith) is_at.in_range in
    omega (arith, is_at.has_key)

-- the key at its place has the setting there
pub lookup_at : (es : KeyValues) (k : Key) (i : ℕ) (d : Key × Setting) → IsOrdered es → IsAt es k i → lookup es k ≡ Some (get_or es i d).1
lookup_at [] k i d ordered is_at = absurd (omega (arith, is_at.in_range))
lookup_at (e ∷ es) k zero d ordered is_at = grind (arith, nat_tests, is_at.has_key)
lookup_at (e ∷ es) k (suc i) d ordered is_at =
    grind (arith, nat_tests, first_below e es k i ordered is_at, lookup_at es k i d (ordered_tail e es ordered) (at_tail e es k i is_at))

-- a key that has a gap has no setting
pub lookup_in_gap : (es : KeyValues) (k : Key) (i : ℕ) → IsGapFor es k i → lookup es k ≡ None
lookup_in_gap [] k i gap = refl
lookup_in_gap (e ∷ es) k zero gap =
    let tail : IsGapFor es k zero = record {
      in_range = omega arith;
      lower_before = λ j below. absurd (omega arith);
      higher_after = λ j from within. gap.higher_after (suc j) (omega arith) (omega arith);
    } in
    grind (arith, nat_tests, gap.higher_after 0 (omega arith) (omega arith), lookup_in_gap es k zero tail)
lookup_in_gap (e ∷ es) k (suc i) gap = grind (arith, nat_tests, gap.lower_before 0 (omega arith), lookup_in_gap es k i (gap_tail e es k i gap))

-- writing over the key's entry puts the setting
pub set_at : (es : KeyValues) (k : Key) (v : Setting) (i : ℕ) → IsOrdered es → IsAt es k i → set es i (k, v) ≡ put es k v
set_at [] k v i ordered is_at = absurd (omega (arith, is_at.in_range))
set_at (e ∷ es) k v zero ordered is_at = grind (arith, nat_tests, is_at.has_key)
set_at (e ∷ es) k v (suc i) ordered is_at =
    grind (arith, nat_tests, first_below e es k i ordered is_at, set_at es k v i (ordered_tail e es ordered) (at_tail e es k i is_at))

-- so does a new entry in the key's gap
pub insert_in_gap : (es : KeyValues) (k : Key) (v : Setting) (i : ℕ) → IsGapFor es k i → insert es i (k, v) ≡ put es k v
insert_in_gap [] k v zero gap = refl
insert_in_gap [] k v (suc i) gap = refl
insert_in_gap (e ∷ es) k v zero gap = grind (arith, nat_tests, gap.higher_after 0 (omega arith) (omega arith))
insert_in_gap (e ∷ es) k v (suc i) gap = grind (arith, nat_tests, gap.lower_before 0 (omega arith), insert_in_gap es k v i (gap_tail e es k i gap))

-- a key does not stand again behind its entry
pub lookup_past : (es : KeyValues) (i : ℕ) (k : Key) (v : Setting) → IsOrdered es → slice_get es i ≡ Some (k, v) → lookup (drop (suc i) es) k ≡ None
lookup_past [] i k v ordered here = absurd (omega (arith, slice_get_within {A = Key × Setting} [] i (k, v) here))
lookup_past (e ∷ es) zero k v ordered here =
    let same : e ≡ (k, v) = get_or_from_slice_get (e ∷ es) zero (k, v) (k, v) here in
    let gap : IsGapFor es e.0 zero = record {
      in_range = omega arith;
      lower_before = λ j below. absurd (omega arith);
      higher_after = λ j from within. ordered 0 (suc j) _ (omega arith) (omega arith);
    } in
    subst (λ (it : Key × Setting). lookup es it.0 ≡ None) same (lookup_in_gap es e.0 zero gap)
lookup_past (e ∷ es) (suc i) k v ordered here = lookup_past es i k v (ordered_tail e es ordered) here

-- an edit of a list, seen through a map
pub map-insert : {X Y : Type 0} (f : X → Y) (xs : List X) (i : ℕ) (x : X) → map f (insert xs i x) ≡ insert (map f xs) i (f x)
map-insert f xs i x = map-append f (take i xs) (x ∷ drop i xs) ∙ rw (take-map, drop-map) refl

-- the entry that stands past the end, in `rank_at`
blank : KeyValue
blank = record { key = Accelerate; value = Int (pos 0) }

-- the rank at a place is that of the entry there
rank_at-map : (items : List KeyValue) (i : ℕ) → rank_at (map key_value_of items) i ≡ rank (get_or items i blank).key
unfolding blank
rank_at-map items i = ap (λ (e : Key × Setting). rank e.0) (get_or-map key_value_of items i blank)

module _ (items : List KeyValue) (ordered : IsOrdered (map key_value_of items)) (k : Key) where
  -- the comparisons with k rise along the entries, as a binary search asks
  comparisons_rise : IsNonDecreasingBy (λ entry. ordering_index (nat_cmp (rank entry.key) (rank k))) items
  comparisons_rise = IsNonDecreasingBy-from_default (λ entry. ordering_index (nat_cmp (rank entry.key) (rank k))) items blank (λ i j le in_range.
      let apart : i < j → rank_at (map key_value_of items) i < rank_at (map key_value_of items) j = λ below. ordered i j _ below (rw length-map in_range) in
      let together : i ≡ j → rank_at (map key_value_of items) i ≡ rank_at (map key_value_of items) j = λ same. ap (rank_at (map key_value_of items)) same in
      grind (arith, nat_tests, apart, together, rank_at-map items i, rank_at-map items j))

  -- a binary search by rank ends at the key, or at the gap for it
  pub searched : (r : Result ℕ ℕ) → IsSearchInRange r (length items) → IsBinarySearchResult (λ entry. nat_cmp (rank entry.key) (rank k)) items r
      → record { found : IfOk r (IsAt (map key_value_of items) k); absent : IfErr r (IsGapFor (map key_value_of items) k) }
  searched (Ok at) in_range equal = record {
    found = record { in_range = rw length-map in_range; has_key = rank_at-map items at ∙ ranked _ (rank k) _ (sym (equal blank)) };
    absent = tt;
  }
  searched (Err at) in_range parted = record {
    found = tt;
    absent = record {
      in_range = rw length-map in_range;
      lower_before = λ j lt. rw (rank_at-map items j) (ranked _ (rank k) _ (sym ((parted comparisons_rise).0 j blank (omega arith) lt)));
      higher_after = λ j le lt. rw (rank_at-map items j) (ranked _ (rank k) _ (sym ((parted comparisons_rise).1 j blank le (rw length-map at lt))));
    };
  }

-- the setting read at the key's place is the key's
pub lookup_read : (items : List KeyValue) (k : Key) (at : ℕ) (read : KeyValue) → IsOrdered (map key_value_of items) → IsAt (map key_value_of items) k at
    → read ≡ get_or items at read → Some (setting_of read.value) ≡ lookup (map key_value_of items) k
lookup_read items k at read ordered is_at same =
    sym (lookup_at (map key_value_of items) k at (key_value_of read) ordered is_at
    ∙ ap (λ (e : Key × Setting). Some e.1) (get_or-map key_value_of items at read ∙ ap key_value_of (sym same)))

-- the entry written over puts its setting
pub entries-set : (items : List KeyValue) (entry : KeyValue) (at : ℕ) → IsOrdered (map key_value_of items) → IsAt (map key_value_of items) entry.key at
    → map key_value_of (set items at entry) ≡ put (map key_value_of items) entry.key (setting_of entry.value)
entries-set items entry at ordered is_at = map-set key_value_of items at entry
    ∙ set_at (map key_value_of items) entry.key (setting_of entry.value) at ordered is_at

-- so does the entry inserted in its gap
pub entries-insert : (items : List KeyValue) (entry : KeyValue) (at : ℕ) → IsGapFor (map key_value_of items) entry.key at
    → map key_value_of (insert items at entry) ≡ put (map key_value_of items) entry.key (setting_of entry.value)
entries-insert items entry at gap = map-insert key_value_of items at entry ∙ insert_in_gap (map key_value_of items) entry.key (setting_of entry.value) at gap
