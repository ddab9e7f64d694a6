-- Children by turns: what the child is asked for whose turn it is, and what is made of its answer.
use Rattle.std.proofs.Common.{◌≡◌, ℕ, ◌+◌, ◌≤◌, List}
use Rattle.std.proofs.Common.{map, length, get_or, ℤ, ◌-ℤ◌, nat_abs}
use Rattle.std.proofs.Common.{◌^◌, sym, ap, ap₂, ◌∙◌, subst, arith, w64, to_z, of_z}
use Rattle.tdl_fraction.specs.Rational.{whole, ◌+ℚ◌, ◌-ℚ◌}
use Rattle.tdl_fraction.specs.Arc.{Arc, IsInside, map_arc}
use Rattle.tdl_expr.specs.declared.ids.NodeId.{NodeId}
use Rattle.tdl_expr.specs.Tree.{Tree}
use Rattle.tdl_expr.specs.Tree as tree
use Rattle.tdl_expr.specs.Bounds.{bounds, bounds_of, loads}
use Rattle.tdl_expr.specs.Rows.{row, in_order}
use Rattle.tdl_meaning.specs.Pattern.{over, cycle_arc, moved, cat, silence}
use Rattle.tdl_meaning.specs.Pattern.{rounds, turn}
use Rattle.tdl_meaning.specs.Meaning.{cyc, patterns}
use Rattle.tdl_meaning.specs.inside.Children.{rows_needed}
use Rattle.tdl_meaning.proofs.ByKind.{over-cat, later_inside}
use Rattle.tdl_meaning.proofs.Moving.{cycle_small, rounds_passed}
use Rattle.tdl_meaning.proofs.Rounds.{passed_worked_out}
use Rattle.tdl_meaning.proofs.PlainLemmas.{row_of}
use Rattle.tdl_meaning.proofs.PlainLemmas.{length-patterns, pattern_at}
use Rattle.tdl_visits.specs.declared.rounds.ChosenChild.{ChosenChild}
use Rattle.tdl_visits.specs.Rounds.{IsChosenChild}
use Rattle.tdl_visits.specs.inside.Visits.{visits, visits_of_nth}
use Rattle.tdl_visits.specs.inside.Visited.{Ask, MayVisit}
use Rattle.tdl_visits.proofs.Asking.{may_whole}
use Rattle.tdl_visits.proofs.FewSteps.{load_of}
use Rattle.tdl_visits.proofs.Visits.{visits_chosen}

-- ---- the child whose turn it is, and the cycle that it plays then
pub round_row : (ids : List NodeId) (c : ℤ) (round : ChosenChild) → IsChosenChild ids c round → round.child.index + 1 ≤ rows_needed ids
round_row ids c round is = row_of ids (turn c (length ids)) round.child is.within is.child

pub round_load : (trees : List Tree) (ids : List NodeId) (c : ℤ) (round : ChosenChild) → IsChosenChild ids c round
    → (bounds (row trees round.child)).load ≤ loads (bounds_of (in_order trees ids))
round_load trees ids c round is = load_of trees ids (turn c (length ids)) round.child is.within is.child

module _ (trees : List Tree) (ids : List NodeId) (ask : Ask) (round : ChosenChild) (since : ℤ) (there : Arc)
    (is : IsChosenChild ids ask.cycle round) (passed : since ≡ ask.cycle -ℤ round.cycle)
    (asks : there ≡ map_arc (λ t. t -ℚ whole (to_z w64 (of_z w64 since))) ask.arc)
    (visit : MayVisit (tree.Cat (in_order trees ids)) ask) where
  abbrev c : ℤ
  c = ask.cycle

  -- how many cycles later it is then, in what 64 bits hold
  abbrev by : ℤ
  by = to_z w64 (of_z w64 since)

  near : nat_abs c ≤ 2 ^ 36
  near = (cycle_small (tree.Cat (in_order trees ids)) c (may_whole (tree.Cat (in_order trees ids)) c ask.arc visit.may visit.inside)).0

  after : to_z w64 (of_z w64 since) ≡ c -ℤ round.cycle
  after = passed_worked_out c (length ids) round.cycle since near (omega (arith, is.within)) is.cycle passed

  pub round_passed : nat_abs by ≤ 2 ^ 36
  round_passed =
      let fewer = rounds_passed c (length ids) (omega (arith, is.within)) in
      let few : nat_abs (c -ℤ rounds c (length ids)) ≤ 2 ^ 36 = omega (arith, fewer, near) in
      subst (λ z. nat_abs z ≤ 2 ^ 36) (sym (after ∙ ap (λ z. c -ℤ z) is.cycle)) few

  abbrev n : ℕ
  n = length (patterns (in_order trees ids))

  same_count : length ids ≡ length (patterns (in_order trees ids))
  same_count = sym (length-patterns trees ids)

  its_turn : turn c (length ids) ≡ turn c (length (patterns (in_order trees ids)))
  its_turn = ap (turn c) same_count

  its_by : by ≡ c -ℤ rounds c (length (patterns (in_order trees ids)))
  its_by = after ∙ ap (λ z. c -ℤ z) (is.cycle ∙ ap (rounds c) same_count)

  its_ask : there ≡ map_arc (λ t. t -ℚ whole (c -ℤ rounds c (length (patterns (in_order trees ids))))) ask.arc
  its_ask = asks ∙ ap (λ z. map_arc (λ t. t -ℚ whole z) ask.arc) its_by

  its_pattern : cyc (row trees round.child) ≡ get_or (patterns (in_order trees ids)) (turn c (length (patterns (in_order trees ids)))) silence
  its_pattern =
      ap (λ y. cyc (row trees y)) is.child ∙ sym (pattern_at trees ids (turn c (length ids)) round.child is.within)
      ∙ ap (λ j. get_or (patterns (in_order trees ids)) j silence) its_turn

  pub round_inside : IsInside there (cycle_arc round.cycle)
  round_inside =
      subst (λ b. IsInside b (cycle_arc round.cycle)) (sym (asks ∙ ap (λ z. map_arc (λ t. t -ℚ whole z) ask.arc) after))
      (later_inside c round.cycle ask.arc visit.inside)

  pub cat_over : map (moved (λ t. t +ℚ whole by)) (over (cyc (row trees round.child)) there) ≡ over (cat (patterns (in_order trees ids))) ask.arc
  cat_over =
      ap₂ (λ z es. map (moved (λ t. t +ℚ whole z)) es) its_by (ap₂ over its_pattern its_ask)
      ∙ sym (over-cat (patterns (in_order trees ids)) c ask.arc visit.may.asked.is_arc visit.inside)

  pub cat_visits : 1 + visits (row trees round.child) round.cycle there ≡ visits (tree.Cat (in_order trees ids)) c ask.arc
  cat_visits =
      let own = sym (visits_chosen trees round.cycle there ids (turn c (length ids)) round.child is.within is.child) in
      let by_turn = ap (λ j. visits_of_nth (in_order trees ids) j round.cycle there) its_turn in
      let by_round = ap₂ (λ z b. visits_of_nth (in_order trees ids) (turn c n) z b) (is.cycle ∙ ap (rounds c) same_count) its_ask in
      ap (λ m. 1 + m) (own ∙ by_turn ∙ by_round)
