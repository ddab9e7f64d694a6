-- What a join asks of its sides for an arc of one cycle, and what it makes of their answers.
use Rattle.std.proofs.Common.{◌≡◌, ℕ, ◌+◌, ◌*◌, ◌<◌, ◌≤◌, max, List, [], ◌∷◌, ◌++◌, length, Contains, Result, Ok, OnOk}
use Rattle.std.proofs.Common.{ℤ, pos, ◌+ℤ◌, ◌≤ℤ◌, refl, sym, ap, ap₂, ◌∙◌, subst, arith}
use Rattle.std.specs.List.{flat_map, sum_by}
use Rattle.std.proofs.Math.Nat.{le_trans, mul-one, mul-le-mul_left, mul-le-mul_right}
use Rattle.std.proofs.lemmas.Int.{ints}
use Rattle.std.proofs.lemmas.Result.{IfOk-equal, on_ok_weaker}
use Rattle.tdl_control.specs.declared.faults.NoMemory.{NoMemory}
use Rattle.tdl_fraction.specs.Rational.{floor, ceil}
use Rattle.tdl_fraction.specs.Arc.{Arc, IsArc, IsInside}
use Rattle.tdl_fraction.proofs.Rounding.{floor_monotone, ceil_monotone}
use Rattle.tdl_event.specs.Event.{Event}
use Rattle.tdl_expr.specs.declared.ids.NodeId.{NodeId}
use Rattle.tdl_expr.specs.declared.joinings.Op.{Op}
use Rattle.tdl_expr.specs.declared.joinings.Side.{Side}
use Rattle.tdl_expr.specs.declared.joinings.Side.TheVariants.{Left, Right, Both}
use Rattle.tdl_expr.specs.declared.nodes.Node.{Node}
use Rattle.tdl_expr.specs.Bounds.{bounds, span}
use Rattle.tdl_expr.specs.Rows.{tree_at}
use Rattle.tdl_expr.specs.Tree.{Tree, Join}
use Rattle.tdl_expr.specs.Valid.{IsValid}
use Rattle.tdl_meaning.specs.Pattern.{over, cycle_arc}
use Rattle.tdl_meaning.specs.Values.{value_of}
use Rattle.tdl_meaning.specs.Pairs.{joined_pairs}
use Rattle.tdl_meaning.specs.Meaning.{cyc}
use Rattle.tdl_meaning.specs.Proper.{Each, IsProper}
use Rattle.tdl_meaning.specs.Asks.{IsCycleOf}
use Rattle.tdl_meaning.specs.inside.Conditions.{MayAsk}
use Rattle.tdl_meaning.specs.inside.Children.{rows_needed}
use Rattle.tdl_meaning.proofs.Lists.{each_contained}
use Rattle.tdl_meaning.proofs.Cuts.{floor_inside, ceil_inside}
use Rattle.tdl_meaning.proofs.Condition.{may_left, may_right, may_left_of_both, may_right_of_left, may_left_of_right}
use Rattle.tdl_meaning.proofs.Counts.{counted_inside}
use Rattle.tdl_meaning.proofs.PlainLemmas.{each_contained_in}
use Rattle.tdl_meaning.proofs.Proper.{proper}
use Rattle.tdl_meaning.proofs.Overs.{over_each}
use Rattle.tdl_meaning.proofs.kinds.Join.{over-join_left_cycle, over-join_right_cycle, over-join_both}
use Rattle.tdl_visits.specs.declared.joined_rows.JoinedRows.{JoinedRows}
use Rattle.tdl_visits.specs.Sides.{by_side, giver_of, other_of}
use Rattle.tdl_visits.specs.inside.Joins.{IsAskable, joined_tree, join_of, made_by_whole, visits_by_whole}
use Rattle.tdl_visits.specs.inside.Visits.{visits}
use Rattle.tdl_visits.specs.inside.Visited.{Ask, MayVisit, Adds, IsVisit}
use Rattle.tdl_visits.proofs.Asking.{may_whole}
use Rattle.tdl_visits.proofs.Visits.{both_taken, of_equal}

-- ---- both sides give the wholes
both_over : (op : Op) (d e : Tree) (c : ℤ) (a : Arc) → IsArc a → IsInside a (cycle_arc c) → (ls rs : List Event) → ls ≡ over (cyc d) a
    → rs ≡ over (cyc e) a → joined_pairs Both (value_of op) ls rs ≡ over (cyc (Join Both op d e)) a
both_over op d e c a h inside ls rs left right =
    ap₂ (joined_pairs Both (value_of op)) left right ∙ sym (over-join_both (value_of op) (cyc d) (cyc e) c a h inside)

-- ---- the wholes that a side gives
only_cycle : (c k : ℤ) (a : Arc) → IsArc a → IsInside a (cycle_arc c) → IsCycleOf a k → k ≡ c
only_cycle c k a h inside is = same (floor a.start) (ceil a.stop) (floor_inside c a h inside) (ceil_inside c a h inside) is.not_before is.not_after
  where
    same : (f z : ℤ) → f ≡ c → z ≡ c +ℤ pos 1 → f ≤ℤ k → (k +ℤ pos 1) ≤ℤ z → k ≡ c
    same f z low high from to = omega (arith, ints)

whole_cycle : (c : ℤ) (x : Event) → IsProper (cycle_arc c) x → IsCycleOf x.whole c
whole_cycle c x is = record {
  not_before = subst (λ k. floor x.whole.start ≤ℤ k) (floor_inside c x.part is.width is.in_arc) (floor_monotone is.in_whole.0);
  not_after = subst (λ k. k ≤ℤ ceil x.whole.stop) (ceil_inside c x.part is.width is.in_arc) (ceil_monotone is.in_whole.1);
}

askable : (d e : Tree) (c : ℤ) (a : Arc) → IsValid d → IsArc a → IsInside a (cycle_arc c) → ((x : Event) → Contains (cyc d c) x → MayAsk e x.whole)
    → Each (λ (x : Event). IsAskable e c x.whole) (over (cyc d) a)
askable d e c a valid h inside may =
    over_each (λ k x. Contains (cyc d k) x) (λ (x : Event). IsAskable e c x.whole) (cyc d) a h
    (λ k. each_contained_in (λ x. Contains (cyc d k) x) (cyc d k) (λ x has. has))
    (λ k is x part met has.
    let here = subst (λ z. Contains (cyc d z) x) (only_cycle c k a h inside is) has in
    record {
      may = may x here;
      cycle = whole_cycle c x (each_contained (IsProper (cycle_arc c)) (cyc d c) x (proper d valid c) here);
    })

-- ---- steps
-- those of a side, and those of the other for each of its events: no more than the load, which counts each cycle of a whole
pub of_wholes : (n k w load0 l s0 s1 : ℕ) → n ≤ k → 0 < w → s1 ≤ s0 + load0 + n * l
    → s1 + 1 ≤ s0 + (1 + load0 + max 1 k * w * l)
of_wholes n k w load0 l s0 s1 le some few =
    let most : n ≤ max 1 k = omega (arith, le) in
    let wide : max 1 k ≤ max 1 k * w = subst (λ m. m ≤ max 1 k * w) (mul-one (max 1 k)) (mul-le-mul_left (max 1 k) some) in
    omega (arith, few, mul-le-mul_right l (le_trans most wide))

-- ---- the rows that are joined
module _ (j : JoinedRows) where
  giver_of_below : (giver_of j).index + 1 ≤ rows_needed (j.left ∷ j.right ∷ [])
  giver_of_below = below j.side
    where
      below : (s : Side) → (by_side s j.left j.right).index + 1 ≤ rows_needed (j.left ∷ j.right ∷ [])
      below Left = omega arith
      below Right = omega arith
      below Both = omega arith

  pub other_below : (other_of j).index + 1 ≤ rows_needed (j.left ∷ j.right ∷ [])
  other_below = below j.side
    where
      below : (s : Side) → (by_side s j.right j.left).index + 1 ≤ rows_needed (j.left ∷ j.right ∷ [])
      below Left = omega arith
      below Right = omega arith
      below Both = omega arith

  pub giver_below : (giver : NodeId) → giver ≡ giver_of j → giver.index + 1 ≤ rows_needed (j.left ∷ j.right ∷ [])
  giver_below giver is = subst (λ x. x.index + 1 ≤ rows_needed (j.left ∷ j.right ∷ [])) (sym is) giver_of_below

  joined_both : (table : List Node) → j.side ≡ Both → joined_tree table j ≡ Join Both j.op (tree_at table j.left) (tree_at table j.right)
  joined_both table is = ap (λ s. Join s j.op (tree_at table j.left) (tree_at table j.right)) is

  joined_by : (table : List Node) (giver : NodeId) → giver ≡ giver_of j
      → joined_tree table j ≡ join_of j.side j.op (tree_at table giver) (tree_at table (other_of j))
  joined_by table giver is =
      by j.side ∙ ap (λ x. join_of j.side j.op (tree_at table x) (tree_at table (other_of j))) (sym is)
    where
      by : (s : Side) → Join s j.op (tree_at table j.left) (tree_at table j.right)
          ≡ join_of s j.op (tree_at table (by_side s j.left j.right)) (tree_at table (by_side s j.right j.left))
      by Left = refl
      by Right = refl
      by Both = refl

-- ---- one side gives the wholes
abbrev pub IsOne : Side → Type 0
IsOne s = ¬ (s ≡ Both)

module _ (op : Op) (d e : Tree) (c : ℤ) (a : Arc) (inside : IsInside a (cycle_arc c)) where
  may_giver : (s : Side) → MayAsk (join_of s op d e) a → MayAsk d a
  may_giver Left may = may_left op d e a may
  may_giver Right may = may_right op e d a may
  may_giver Both may = may_left_of_both op d e a may

  module _ (events : List Event) (made : events ≡ over (cyc d) a) where
    others_askable : (s : Side) → IsOne s → MayAsk (join_of s op d e) a → Each (λ (x : Event). IsAskable e c x.whole) events
    others_askable Left one may =
        let entire = may_whole (Join Left op d e) c a may inside in
        subst (Each (λ (x : Event). IsAskable e c x.whole)) (sym made)
        (askable d e c a may.room.valid.0 may.asked.is_arc inside (λ x has. may_right_of_left op d e c x has entire))
    others_askable Right one may =
        let entire = may_whole (Join Right op e d) c a may inside in
        subst (Each (λ (x : Event). IsAskable e c x.whole)) (sym made)
        (askable d e c a may.room.valid.1 may.asked.is_arc inside (λ x has. may_left_of_right op e d c x has entire))
    others_askable Both one may = absurd (one refl)

    one_over : (s : Side) → IsOne s → MayAsk (join_of s op d e) a → flat_map (made_by_whole s op e c) events ≡ over (cyc (join_of s op d e)) a
    one_over Left one may =
        ap (flat_map (made_by_whole Left op e c)) made
        ∙ sym (over-join_left_cycle (value_of op) (cyc d) (cyc e) (proper d may.room.valid.0) (proper e may.room.valid.1) c a may.asked.is_arc inside)
    one_over Right one may =
        ap (flat_map (made_by_whole Right op e c)) made
        ∙ sym (over-join_right_cycle (value_of op) (cyc e) (cyc d) (proper e may.room.valid.0) (proper d may.room.valid.1) c a may.asked.is_arc inside)
    one_over Both one may = absurd (one refl)

    -- the steps of the first side, and those of the other for each event
    one_visits : (s : Side) → IsOne s → (s0 s1 s2 : ℕ) → s1 ≡ s0 + visits d c a → s2 ≡ s1 + sum_by (visits_by_whole e c) events
        → s2 + 1 ≡ s0 + visits (join_of s op d e) c a
    one_visits Left one s0 s1 s2 first next = both_taken _ _ _ _ _ _ first next (ap (sum_by (visits_by_whole e c)) made)
    one_visits Right one s0 s1 s2 first next = both_taken _ _ _ _ _ _ first next (ap (sum_by (visits_by_whole e c)) made)
    one_visits Both one s0 s1 s2 first next = absurd (one refl)

    one_few : (s : Side) → IsOne s → MayAsk (join_of s op d e) a → (s0 s1 s2 : ℕ) → s1 ≤ s0 + (bounds d).load
        → s2 ≤ s1 + length events * (bounds e).load → s2 + 1 ≤ s0 + (bounds (join_of s op d e)).load
    one_few s one may s0 s1 s2 first next = by_side s one
      where
        own : MayAsk d a
        own = may_giver s may

        most : length events ≤ (bounds d).count
        most = subst (λ es. length es ≤ (bounds d).count) (sym made) (counted_inside d own.room.valid c a own.asked.is_arc inside)

        all : s2 + 1 ≤ s0 + (1 + (bounds d).load + max 1 (bounds d).count * span (bounds d) * (bounds e).load)
        all = of_wholes _ _ (span (bounds d)) _ _ _ _ most (omega arith) (omega (arith, first, next))

        by_side : (s : Side) → IsOne s → s2 + 1 ≤ s0 + (bounds (join_of s op d e)).load
        by_side Left one = all
        by_side Right one = all
        by_side Both one = absurd (one refl)

first_few : (s : Side) (op : Op) (d e : Tree) (s0 s1 : ℕ) → s1 ≤ s0 + (bounds d).load → s1 + 1 ≤ s0 + (bounds (join_of s op d e)).load
first_few Left op d e s0 s1 few = omega (arith, few)
first_few Right op d e s0 s1 few = omega (arith, few)
first_few Both op d e s0 s1 few = omega (arith, few)

-- ---- of two joined rows
module _ (table : List Node) (j : JoinedRows) (ask : Ask) (visit : MayVisit (joined_tree table j) ask) where
  module _ (both : j.side ≡ Both) where
    pub both_visit : (r : Result (Unit {0}) NoMemory) (none none' lefts rights old new : List Event) (s0 s1 s2 : ℕ) → none ≡ [] → none' ≡ []
        → IsVisit (tree_at table j.left) ask (Ok tt) none lefts s0 s1 → IsVisit (tree_at table j.right) ask (Ok tt) none' rights s1 s2
        → OnOk r (new ≡ old ++ joined_pairs Both (value_of j.op) lefts rights) → IsVisit (joined_tree table j) ask r old new s0 (s2 + 1)
    both_visit r none none' lefts rights old new s0 s1 s2 empty empty' left right h =
        let d = tree_at table j.left in
        let e = tree_at table j.right in
        let ls = left.events ∙ ap (λ es. es ++ over (cyc d) ask.arc) empty in
        let rs = right.events ∙ ap (λ es. es ++ over (cyc e) ask.arc) empty' in
        let made = both_over j.op d e ask.cycle ask.arc visit.may.asked.is_arc visit.inside lefts rights ls rs in
        of_equal r (joined_tree table j) (Join Both j.op d e) (joined_both j table both) ask old new s0 (s2 + 1) (record {
          events = IfOk-equal r new _ _ h (ap (λ es. old ++ es) made);
          exact = on_ok_weaker r (λ _. both_taken _ _ _ _ _ _ left.exact right.exact refl) h;
          few = omega (arith, left.few, right.few);
        })

  module _ (one : IsOne j.side) (giver : NodeId) (is : giver ≡ giver_of j) where
    abbrev d : Tree
    d = tree_at table giver

    abbrev e : Tree
    e = tree_at table (other_of j)

    abbrev own : MayVisit (join_of j.side j.op d e) ask
    own = subst (λ t. MayVisit t ask) (joined_by j table giver is) visit

    pub giver_few : (s0 s1 : ℕ) → s1 ≤ s0 + (bounds d).load → s1 + 1 ≤ s0 + (bounds (joined_tree table j)).load
    giver_few s0 s1 few =
        subst (λ t. s1 + 1 ≤ s0 + (bounds t).load) (sym (joined_by j table giver is)) (first_few j.side j.op d e s0 s1 few)

    module _ (none givers : List Event) (s0 s1 : ℕ) (empty : none ≡ []) (first : IsVisit d ask (Ok tt) none givers s0 s1) where
      made : givers ≡ over (cyc d) ask.arc
      made = first.events ∙ ap (λ es. es ++ over (cyc d) ask.arc) empty

      pub others_may : Each (λ (x : Event). IsAskable e ask.cycle x.whole) givers
      others_may = others_askable j.op d e ask.cycle ask.arc visit.inside givers made j.side one own.may

      pub one_visit : (r : Result (Unit {0}) NoMemory) (old new : List Event) (s2 : ℕ)
          → Adds (flat_map (made_by_whole j.side j.op e ask.cycle) givers) (sum_by (visits_by_whole e ask.cycle) givers)
          (length givers * (bounds e).load) r old new s1 s2
          → IsVisit (joined_tree table j) ask r old new s0 (s2 + 1)
      one_visit r old new s2 h =
          let all = one_over j.op d e ask.cycle ask.arc visit.inside givers made j.side one own.may in
          let taken = one_visits j.op d e ask.cycle ask.arc visit.inside givers made j.side one in
          of_equal r (joined_tree table j) (join_of j.side j.op d e) (joined_by j table giver is) ask old new s0 (s2 + 1) (record {
            events = IfOk-equal r new _ _ h.events (ap (λ es. old ++ es) all);
            exact = on_ok_weaker r (λ more. taken s0 s1 s2 first.exact more) h.exact;
            few = one_few j.op d e ask.cycle ask.arc visit.inside givers made j.side one own.may s0 s1 s2 first.few h.few;
          })
