-- What each kind of pattern has at a time, by what its children have.
use Rattle.std.proofs.Common.{◌≡◌, ℕ, ◌+◌, ◌<◌, ◌≤◌, List, [], ◌∷◌, ◌++◌, map, length, get_or, ℤ, pos, ◌+ℤ◌, ◌-ℤ◌, refl, sym, ap, ap₂, ◌∙◌, append-nil, arith}
use Rattle.std.proofs.Common.{Bool, true, false, true≢false}
use Rattle.std.specs.List.{flat_map}
use Rattle.std.proofs.lemmas.Grind.{flat_map-append}
use Rattle.std.proofs.lemmas.Int.{ints}
use Rattle.tdl_control.specs.declared.leaves.Leaf.{Leaf}
use Rattle.tdl_control.specs.declared.leaves.Leaf.TheVariants.{Controls, Truth, Index}
use Rattle.tdl_fraction.specs.Rational.{Rational, whole, ◌+ℚ◌, ◌-ℚ◌, ◌*ℚ◌, ◌/ℚ◌, ◌<ℚ◌, floor}
use Rattle.tdl_fraction.specs.Arc.{Arc, IsIn}
use Rattle.tdl_fraction.proofs.Field.{*ℚ-divide, -ℚ-plus}
use Rattle.tdl_fraction.proofs.Order.{≢_from_positive, times_pos_le, times_pos_lt}
use Rattle.tdl_fraction.proofs.Rounding.{floor-minus}
use Rattle.tdl_fraction.proofs.Arcs.{keeps-plus, keeps-divide}
use Rattle.tdl_event.specs.Event.{Event}
use Rattle.tdl_event.specs.ClipLaws.{is_in, seen_of, seen_at}
use Rattle.tdl_event.proofs.Clips.{is_in-true}
use Rattle.tdl_meaning.specs.Pattern.{Pattern, Share, over, moved, cycle_arc, silence, pure, fast, squeezed, total_weight, steps_from, time_cat, rounds, turn}
use Rattle.tdl_meaning.specs.Pattern.{cat, stack, turned, rev, picked, pick}
use Rattle.tdl_meaning.specs.Proper.{Each, IsProper, HasProperEvents}
use Rattle.tdl_meaning.specs.Heard.{heard, moved_wholes, unsqueezed, shares_heard, named, HeardLaws}
use Rattle.tdl_meaning.proofs.Lists.{each_get_or}
use Rattle.tdl_meaning.proofs.Overs.{proper_over}
use Rattle.tdl_meaning.proofs.Times.{asked, asked_is_arc, keeps-squeezed, squeezed_there, turned_back}
use Rattle.tdl_meaning.proofs.kinds.Proper.{silence_proper}
use Rattle.tdl_meaning.proofs.kinds.When.{heard_when}
use Rattle.tdl_meaning.proofs.kinds.Shift.{heard_shift}
use Rattle.tdl_meaning.proofs.kinds.Gate.{heard_gate}
use Rattle.tdl_meaning.proofs.kinds.Ply.{heard_ply_piece}
use Rattle.tdl_meaning.proofs.kinds.Rev.{heard_rev}
use Rattle.tdl_meaning.proofs.kinds.Join.{heard_join_left, heard_join_right, heard_join_both}
use Rattle.tdl_meaning.proofs.Flat.{flat_map-flat_map}
use Rattle.tdl_meaning.proofs.Seen.{in_cycle, seen_in, seen_out, seen_nowhere, seen_over, seen_moved}

heard_silence : (t : Rational) → heard silence t ≡ []
unfolding silence
heard_silence t = refl

heard_pure : (v : Leaf) (t : Rational) → heard (pure v) t ≡ (cycle_arc (floor t), v) ∷ []
unfolding pure
heard_pure v t =
    append-nil _ ∙ seen_in t (record { whole = cycle_arc (floor t); part = cycle_arc (floor t); value = v }) (in_cycle t)

heard_fast : (r : Rational) (p : Pattern) → whole (pos 0) <ℚ r → HasProperEvents p → (t : Rational)
    → heard (fast r p) t ≡ moved_wholes (λ u. u /ℚ r) (heard p (t *ℚ r))
unfolding fast
heard_fast r p h proper t =
    let c = floor t in
    let events = over p (asked r c) in
    let there : IsIn (t *ℚ r) (asked r c) = ((times_pos_le (whole c) t r h).0 (in_cycle t).0, (times_pos_lt t (whole (c +ℤ pos 1)) r h).0 (in_cycle t).1) in
    ap (λ u. seen_at u (map (moved (λ u. u /ℚ r)) events)) (sym (*ℚ-divide t r (≢_from_positive h)))
    ∙ seen_moved (λ u. u /ℚ r) (keeps-divide r h) (t *ℚ r) events
    ∙ ap (moved_wholes (λ u. u /ℚ r)) (seen_over p proper (asked r c) (asked_is_arc r c h) (t *ℚ r) there)

heard_stack : (ps : List Pattern) (t : Rational) → heard (stack ps) t ≡ flat_map (λ p. heard p t) ps
unfolding stack
heard_stack ps t = flat_map-flat_map (seen_of t) (λ p. p (floor t)) ps

heard_cat : (ps : List Pattern) (t : Rational)
    → let c = floor t in
    let k = rounds c (length ps) in
    heard (cat ps) t ≡ moved_wholes (λ u. u +ℚ whole (c -ℤ k)) (heard (get_or ps (turn c (length ps)) silence) (t -ℚ whole (c -ℤ k)))
unfolding cat
heard_cat ps t =
    let c = floor t in
    let k = rounds c (length ps) in
    let p = get_or ps (turn c (length ps)) silence in
    let later : Rational → Rational = λ u. u +ℚ whole (c -ℤ k) in
    ap (λ u. seen_at u (map (moved later) (p k))) (sym (-ℚ-plus t (whole (c -ℤ k))))
    ∙ seen_moved later (keeps-plus (whole (c -ℤ k))) (t -ℚ whole (c -ℤ k)) (p k)
    ∙ ap (λ j. moved_wholes later (seen_at (t -ℚ whole (c -ℤ k)) (p j))) (sym (floor-minus t (c -ℤ k) ∙ back c k))
  where
    back : (c k : ℤ) → c -ℤ (c -ℤ k) ≡ k
    back c k = omega (arith, ints)

heard_steps : (W o : ℕ) (steps : List Share) → Each (λ s. 0 < s.weight) steps → o + total_weight steps ≤ W → (c : ℤ) (t : Rational)
    → seen_at t (steps_from W o steps c) ≡ shares_heard W o steps c t
heard_steps W o [] all le c t = refl
heard_steps W o (s ∷ steps) all le c t =
    let f = squeezed c o s.weight W in
    let u = unsqueezed c o s.weight W t in
    let total : 0 < W = omega (arith, all.0) in
    flat_map-append (seen_of t) (map (moved f) (s.pattern c)) (steps_from W (o + s.weight) steps c)
    ∙ ap₂ (λ x y. x ++ y)
    (ap (λ v. seen_at v (map (moved f) (s.pattern c))) (sym (squeezed_there c o s.weight W t all.0 total))
    ∙ seen_moved f (keeps-squeezed c o s.weight W all.0 total) u (s.pattern c))
    (heard_steps W (o + s.weight) steps all.1 (omega arith) c t)

heard_time_cat : (steps : List Share) → Each (λ s. 0 < s.weight) steps → (t : Rational)
    → heard (time_cat steps) t ≡ shares_heard (total_weight steps) 0 steps (floor t) t
unfolding time_cat
heard_time_cat steps all t = heard_steps (total_weight steps) 0 steps all (omega arith) (floor t) t

-- ---- choices
-- in the part of a selector's event there is what the pattern has that it names, and elsewhere nothing
module _ (ps : List Pattern) (each : Each HasProperEvents ps) (t : Rational) where
  seen_named : (part : Arc) → part.start <ℚ part.stop → IsIn t part → (v : Leaf) → seen_at t (picked ps part v) ≡ named ps t v
  seen_named part width h (Controls controls) = refl
  seen_named part width h (Truth truth) = refl
  seen_named part width h (Index k) = seen_over (get_or ps k silence) (each_get_or HasProperEvents ps k silence silence_proper each) part width t h

  seen_unnamed : (part : Arc) → part.start <ℚ part.stop → ¬ (IsIn t part) → (v : Leaf) → seen_at t (picked ps part v) ≡ []
  seen_unnamed part width out (Controls controls) = refl
  seen_unnamed part width out (Truth truth) = refl
  seen_unnamed part width out (Index k) =
      let p = get_or ps k silence in
      seen_nowhere t part out (over p part) (proper_over p (each_get_or HasProperEvents ps k silence silence_proper each) part width)

  abbrev chosen : Arc × Leaf → List (Arc × Leaf)
  chosen x = named ps t x.1

  one_pick : (e : Event) → e.part.start <ℚ e.part.stop → (b : Bool) → is_in t e.part ≡ b
      → seen_at t (picked ps e.part e.value) ≡ flat_map chosen (seen_of t e)
  one_pick e width true is =
      let h = (is_in-true t e.part).0 is in
      seen_named e.part width h e.value ∙ sym (append-nil _) ∙ ap (flat_map chosen) (sym (seen_in t e h))
  one_pick e width false is =
      let out : ¬ (IsIn t e.part) = λ h. true≢false (sym ((is_in-true t e.part).1 h) ∙ is) in
      seen_unnamed e.part width out e.value ∙ ap (flat_map chosen) (sym (seen_out t e out))

  picks : (a : Arc) (es : List Event) → Each (IsProper a) es → flat_map (λ e. seen_at t (picked ps e.part e.value)) es ≡ flat_map chosen (seen_at t es)
  picks a [] all = refl
  picks a (e ∷ es) all =
      ap₂ (λ x y. x ++ y) (one_pick e all.0.width (is_in t e.part) refl) (picks a es all.1)
      ∙ sym (flat_map-append chosen (seen_of t e) (seen_at t es))

heard_pick : (s : Pattern) (ps : List Pattern) → HasProperEvents s → Each HasProperEvents ps → (t : Rational)
    → heard (pick s ps) t ≡ flat_map (λ (x : Arc × Leaf). named ps t x.1) (heard s t)
unfolding pick
heard_pick s ps proper each t =
    flat_map-flat_map (seen_of t) (λ e. picked ps e.part e.value) (s (floor t)) ∙ picks ps each t (cycle_arc (floor t)) (s (floor t)) (proper (floor t))

-- ---- turned twice
rev_twice : (p : Pattern) (c : ℤ) → rev (rev p) c ≡ p c
unfolding rev
rev_twice p c = all (p c)
  where
    turn_event : Event → Event
    turn_event e = record { whole = turned c e.whole; part = turned c e.part; value = e.value }

    all : (es : List Event) → map turn_event (map turn_event es) ≡ es
    all [] = refl
    all (e ∷ es) = ap₂ (λ x xs. x ∷ xs) (ap₂ (λ w p. record { whole = w; part = p; value = e.value }) (turned_back c e.whole) (turned_back c e.part)) (all es)

pub heard_laws : HeardLaws
heard_laws = record {
  in_arc = seen_over;
  of_silence = heard_silence;
  of_pure = heard_pure;
  of_fast = heard_fast;
  of_time_cat = heard_time_cat;
  of_cat = heard_cat;
  of_stack = heard_stack;
  of_pick = heard_pick;
  of_when = heard_when;
  of_shift = heard_shift;
  of_gate = heard_gate;
  of_ply = λ n p positive proper t. heard_ply_piece n p positive proper t;
  of_join_left = heard_join_left;
  of_join_right = heard_join_right;
  of_join_both = heard_join_both;
  of_rev = heard_rev;
  rev_twice = rev_twice;
}
