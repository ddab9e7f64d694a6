-- What each kind of node answers for an arc of one cycle, as the evaluator makes it of the rows of a table.
use Rattle.std.proofs.Common.{◌≡◌, ℕ, Bool, true, false, if◌then◌else◌, cond, ◌+◌, ◌≤◌, List, [], ◌∷◌}
use Rattle.std.proofs.Common.{◌++◌, take, drop, length, Result, Ok, ℤ, pos, ◌+ℤ◌, ◌-ℤ◌, nat_abs}
use Rattle.std.proofs.Common.{refl, sym, ap, ◌∙◌, subst, arith}
use Rattle.std.specs.List.{flat_map, filter, sum_by}
use Rattle.std.proofs.lemmas.Int.{ints}
use Rattle.std.proofs.lemmas.List.{take_all, drop_all}
use Rattle.std.proofs.lemmas.Result.{IfOk-equal, on_ok_weaker}
use Rattle.tdl_control.specs.declared.faults.NoMemory.{NoMemory}
use Rattle.tdl_fraction.specs.Rational.{Rational, floor, ceil}
use Rattle.tdl_fraction.specs.Arc.{Arc, IsArc, IsInside, meet}
use Rattle.tdl_event.specs.Event.{Event}
use Rattle.tdl_expr.specs.declared.ids.NodeId.{NodeId}
use Rattle.tdl_expr.specs.declared.rounds.Test.{Test}
use Rattle.tdl_expr.specs.Tree.{Tree}
use Rattle.tdl_expr.specs.Tree as tree
use Rattle.tdl_expr.specs.Bounds.{bounds, bounds_of, loads}
use Rattle.tdl_expr.specs.declared.nodes.Node.{Node}
use Rattle.tdl_expr.specs.Rows.{IsNode, children, row, in_order}
use Rattle.tdl_meaning.specs.Pattern.{Pattern, over, cycle_arc, cycles_of, whole_range, stack}
use Rattle.tdl_meaning.specs.Pattern.{turn}
use Rattle.tdl_meaning.specs.Kinds.{one_of, fragments, passes, ply, gate}
use Rattle.tdl_meaning.specs.Values.{meets}
use Rattle.tdl_meaning.specs.Meaning.{cyc, patterns}
use Rattle.tdl_meaning.specs.Proper.{HasProperEvents}
use Rattle.tdl_meaning.specs.inside.Arcs.{over_met}
use Rattle.tdl_meaning.specs.inside.Children.{rows_needed}
use Rattle.tdl_meaning.proofs.Cycles.{length-whole_range}
use Rattle.tdl_meaning.proofs.Cuts.{over_by_cycles}
use Rattle.tdl_meaning.proofs.ByKind.{over-stack}
use Rattle.tdl_meaning.proofs.kinds.When.{over-when}
use Rattle.tdl_meaning.proofs.kinds.Ply.{over-ply}
use Rattle.tdl_meaning.proofs.kinds.Gate.{over-gate}
use Rattle.tdl_meaning.proofs.PlainLemmas.{rows_below}
use Rattle.tdl_visits.specs.inside.Visits.{visits, visits_in, visits_of, if_met}
use Rattle.tdl_visits.specs.inside.Visited.{Ask, MayVisit, IsVisit}
use Rattle.tdl_visits.proofs.Visits.{for_child}

-- ---- a row's node
module _ (x node : Node) (is : x ≡ node) where
  pub is_node : (n : ℕ) → IsNode n x → IsNode n node
  is_node n valid = subst (IsNode n) is valid

  pub rows_under : (n : ℕ) → IsNode n x → rows_needed (children node) ≤ n
  rows_under n valid = rows_below (children node) n (is_node n valid).below

-- ---- an arc, cycle by cycle
count_of : (f z : ℤ) (n : ℕ) → f +ℤ pos n ≡ z → n ≡ nat_abs (z -ℤ f)
count_of f z n e = omega (arith, ints)

pub cycles_counted : (a : Arc) (n : ℕ) → floor a.start +ℤ pos n ≡ ceil a.stop → n ≡ length (cycles_of a)
cycles_counted a n e = count_of (floor a.start) (ceil a.stop) n e ∙ sym (length-whole_range (floor a.start) _)

module _ (a : Arc) (n k : ℕ) (stop : floor a.start +ℤ pos n ≡ ceil a.stop) (all : n ≡ k) where
  pub over_made : (p : Pattern) → HasProperEvents p → flat_map (λ c. over_met p (meet (cycle_arc c) a)) (whole_range (floor a.start) k) ≡ over p a
  over_made p well =
      ap (λ m. flat_map (λ c. over_met p (meet (cycle_arc c) a)) (whole_range (floor a.start) m))
      (sym all ∙ count_of (floor a.start) (ceil a.stop) n stop)
      ∙ sym (over_by_cycles p well a)

  pub visits_made : (e : Tree) → sum_by (λ c. if_met (visits e c) (meet (cycle_arc c) a)) (whole_range (floor a.start) k) ≡ visits_in e a
  visits_made e =
      ap (λ m. sum_by (λ c. if_met (visits e c) (meet (cycle_arc c) a)) (whole_range (floor a.start) m))
      (sym all ∙ count_of (floor a.start) (ceil a.stop) n stop)

-- the one row or the other, by a test of the cycle
module _ (trees : List Tree) (modulus : ℕ) (test : Test) (yes no x : NodeId) (ask : Ask)
    (is : x ≡ (if meets test (turn ask.cycle modulus) then yes else no)) where
  by_either : (P : NodeId → Type 0) → P yes → P no → P x
  by_either P met other = subst P (sym is) (either (meets test (turn ask.cycle modulus)))
    where
      either : (b : Bool) → P (if b then yes else no)
      either true = met
      either false = other

  pub when_row : x.index + 1 ≤ rows_needed (yes ∷ no ∷ [])
  when_row = by_either (λ y. y.index + 1 ≤ rows_needed (yes ∷ no ∷ [])) (omega arith) (omega arith)

  when_load : (bounds (row trees x)).load ≤ (bounds (row trees yes)).load + (bounds (row trees no)).load
  when_load = by_either (λ y. (bounds (row trees y)).load ≤ (bounds (row trees yes)).load + (bounds (row trees no)).load) (omega arith) (omega arith)

  when_visits : visits (row trees x) ask.cycle ask.arc
      ≡ cond (meets test (turn ask.cycle modulus)) (visits (row trees yes) ask.cycle ask.arc) (visits (row trees no) ask.cycle ask.arc)
  when_visits = ap (λ y. visits (row trees y) ask.cycle ask.arc) is ∙ either (meets test (turn ask.cycle modulus))
    where
      either : (b : Bool) → visits (row trees (if b then yes else no)) ask.cycle ask.arc
          ≡ cond b (visits (row trees yes) ask.cycle ask.arc) (visits (row trees no) ask.cycle ask.arc)
      either true = refl
      either false = refl

  module _ (visit : MayVisit (tree.When modulus test (row trees yes) (row trees no)) ask) where
    when_over : over (cyc (row trees x)) ask.arc ≡ over (cyc (tree.When modulus test (row trees yes) (row trees no))) ask.arc
    when_over =
        ap (λ y. over (cyc (row trees y)) ask.arc) is ∙ either (meets test (turn ask.cycle modulus))
        ∙ sym (over-when modulus (meets test) (cyc (row trees yes)) (cyc (row trees no)) ask.cycle ask.arc visit.may.asked.is_arc visit.inside)
      where
        either : (b : Bool) → over (cyc (row trees (if b then yes else no))) ask.arc ≡ over (one_of b (cyc (row trees yes)) (cyc (row trees no))) ask.arc
        either true = refl
        either false = refl

    pub when_visit : (r : Result (Unit {0}) NoMemory) (old new : List Event) (s0 s1 : ℕ) → IsVisit (row trees x) ask r old new s0 s1
        → IsVisit (tree.When modulus test (row trees yes) (row trees no)) ask r old new s0 (s1 + 1)
    when_visit r old new s0 s1 h = record {
      events = IfOk-equal r new _ _ h.events (ap (λ es. old ++ es) when_over);
      exact = on_ok_weaker r (λ taken. for_child _ _ _ _ taken when_visits) h.exact;
      few = omega (arith, h.few, when_load);
    }

pub ply_over : (n : ℕ) (p : Pattern) (a : Arc) (events : List Event) → events ≡ over p a → flat_map (fragments n) events ≡ over (ply n p) a
ply_over n p a events made = ap (flat_map (fragments n)) made ∙ sym (over-ply n p a)

pub gate_over : (from to : Rational) (inside : Bool) (p : Pattern) (a : Arc) → filter (passes from to inside) (over p a) ≡ over (gate from to inside p) a
gate_over from to inside p a = sym (over-gate from to inside p a)

-- ---- children together
stack_over : (trees : List Tree) (ids : List NodeId) (c : ℤ) (a : Arc) → IsArc a → IsInside a (cycle_arc c)
    → flat_map (λ id. over (cyc (row trees id)) a) ids ≡ over (stack (patterns (in_order trees ids))) a
stack_over trees ids c a h inside = each ids ∙ sym (over-stack (patterns (in_order trees ids)) c a h inside)
  where
    each : (ids : List NodeId) → flat_map (λ id. over (cyc (row trees id)) a) ids ≡ flat_map (λ p. over p a) (patterns (in_order trees ids))
    each [] = refl
    each (id ∷ ids) = ap (λ es. over (cyc (row trees id)) a ++ es) (each ids)

module _ (trees : List Tree) (children ids : List NodeId) (same : ids
    ≡ children) (ask : Ask) (visit : MayVisit (tree.Stack (in_order trees children)) ask) where
  pub stack_visit : (old new : List Event) (i s0 s1 : ℕ) → length ids ≤ i → new ≡ old ++ flat_map (λ id. over (cyc (row trees id)) ask.arc) (take i ids)
      → s1 + visits_of (in_order trees (drop i ids)) ask.cycle ask.arc ≡ s0 + visits_of (in_order trees ids) ask.cycle ask.arc
      → s1 + loads (bounds_of (in_order trees (drop i ids))) ≤ s0 + loads (bounds_of (in_order trees ids))
      → IsVisit (tree.Stack (in_order trees children)) ask (Ok tt) old new s0 (s1 + 1)
  stack_visit old new i s0 s1 h events exact few =
      let has = λ (id : NodeId). over (cyc (row trees id)) ask.arc in
      let all = ap (flat_map has) (take_all i ids h) ∙ stack_over trees ids ask.cycle ask.arc visit.may.asked.is_arc visit.inside in
      let none = ap (λ xs. visits_of (in_order trees xs) ask.cycle ask.arc) (drop_all i ids h) in
      subst (λ xs. IsVisit (tree.Stack (in_order trees xs)) ask (Ok tt) old new s0 (s1 + 1)) same
      (record { events = events ∙ ap (λ es. old ++ es) all; exact = omega (arith, exact, none); few = omega (arith, few) })
