-- What a visit on counts may be asked, and what it gains, by what a visit on fractions does for the same arcs.
use Rattle.std.proofs.Common.{◌≡◌, ℕ, ◌+◌, ◌≤◌, ◌^◌, List, [], Result, OnOk, refl, sym, subst, arith}
use Rattle.std.specs.Result.{IsErrAnd}
use Rattle.std.proofs.lemmas.Result.{on_ok_weaker, err_from_is_err_and}
use Rattle.tdl_control.specs.declared.faults.NoMemory.{NoMemory}
use Rattle.tdl_fraction.specs.Arc.{Arc}
use Rattle.tdl_event.specs.Event.{Event}
use Rattle.tdl_expr.specs.declared.nodes.Node.{Node}
use Rattle.tdl_expr.specs.Tree.{Tree}
use Rattle.tdl_expr.specs.Bounds.{bounds, grid}
use Rattle.tdl_expr.specs.Valid.{max_fine}
use Rattle.tdl_expr.specs.Rows.{tree_of}
use Rattle.tdl_expr.proofs.Numbers.{grid_positive, own_grid, le_lcm_right}
use Rattle.tdl_meaning.specs.Pattern.{over}
use Rattle.tdl_meaning.specs.Meaning.{cyc}
use Rattle.tdl_meaning.specs.inside.Conditions.{HasRoom}
use Rattle.tdl_visits.specs.inside.Visited.{MayVisit, Adds as AddsEvents}
use Rattle.tdl_visits.specs.inside.Visits.{visits}
use Rattle.tdl_grid.specs.Span.{arc_of}
use Rattle.tdl_grid.specs.Item.{Item, Adds}
use Rattle.tdl_grid.specs.declared.asks.CountAsk.{CountAsk}
use Rattle.tdl_grid.specs.inside.Asked.{time_ask, MayCount, MayCountVisit}
use Rattle.tdl_grid.specs.inside.Visited.{Gains, IsVisit}

-- ---- what is asked
pub may_visit : (e : Tree) (ask : CountAsk) → MayCountVisit e ask → MayVisit e (time_ask ask)
may_visit e ask visit = record { may = visit.count.may; inside = visit.inside }

pub ask_small : (q m : ℕ) (e : Tree) → HasRoom q m e → q ≤ max_fine
ask_small q m e room = omega (arith, le_lcm_right (grid e) q (grid_positive e room.valid) room.on_grid, own_grid e q, room.not_too_fine)

pub unit_small : (e : Tree) (u : ℕ) (a : Arc) → MayCount e u a → u ≤ 2 ^ 88
unit_small e u a count = omega (arith, count.unit.small, ask_small count.may.q count.may.m e count.may.room)

-- ---- what is gained
module _ (u : ℕ) (new : List Event) (taken most : ℕ) (r : Result (Unit {0}) NoMemory) (out out' : List Item) (s0 s1 : ℕ) where
  -- where memory runs out
  pub ran_out : (Q : NoMemory → Type 0) → IsErrAnd r Q → s1 ≤ s0 + most → Gains u new taken most r out out' s0 s1
  ran_out Q h few =
      let p = err_from_is_err_and r h in
      subst (λ x. Gains u new taken most x out out' s0 s1) (sym p.1) (record { items = tt; exact = tt; few = few })

  -- the same events, put behind none, by the same steps
  pub in_times : Gains u new taken most r out out' s0 s1 → AddsEvents new taken most r [] new s0 s1
  in_times h = record { events = on_ok_weaker r (λ _. refl) h.exact; exact = h.exact; few = h.few }

-- what is said of a tree is said of one that is equal
of_equal : (r : Result (Unit {0}) NoMemory) (e node : Tree) → e ≡ node → (ask : CountAsk) (out out' : List Item) (s0 s1 : ℕ)
    → IsVisit node ask r out out' s0 s1 → IsVisit e ask r out out' s0 s1
of_equal r e node is ask out out' s0 s1 h = subst (λ t. IsVisit t ask r out out' s0 s1) (sym is) h

-- of the tree of a row, what is said of the one that its node makes
module _ (r : Result (Unit {0}) NoMemory) (trees : List Tree) (x node : Node) (is : x ≡ node) (e : Tree) (at : e ≡ tree_of trees x)
    (ask : CountAsk) (out out' : List Item) (s0 s1 : ℕ) (tick : s1 ≡ s0 + 1) where
  -- after its own step
  pub of_node : (s2 : ℕ) → IsVisit (tree_of trees node) ask r out out' s1 (s2 + 1) → IsVisit e ask r out out' s0 s2
  of_node s2 h = of_equal r e (tree_of trees node) (subst (λ y. e ≡ tree_of trees y) is at) ask out out' s0 s2 (record {
    items = h.items;
    exact = on_ok_weaker r (λ exact. less s0 s1 s2 _ tick exact) h.exact;
    few = omega (arith, tick, h.few);
  })
    where
      less : (s0 s1 s2 n : ℕ) → s1 ≡ s0 + 1 → s2 + 1 ≡ s1 + n → s2 ≡ s0 + n
      less s0 s1 s2 n tick after = omega arith

  -- where its own step is all
  pub of_leaf : visits (tree_of trees node) ask.cycle (arc_of ask.unit ask.arc) ≡ 1 → 1 ≤ (bounds (tree_of trees node)).load
      → OnOk r (Adds ask.unit out out' (over (cyc (tree_of trees node)) (arc_of ask.unit ask.arc))) → IsVisit e ask r out out' s0 s1
  of_leaf single fits h = of_equal r e (tree_of trees node) (subst (λ y. e ≡ tree_of trees y) is at) ask out out' s0 s1 (record {
    items = h;
    exact = on_ok_weaker r (λ _. one s0 s1 _ tick single) h;
    few = omega (arith, tick, fits);
  })
    where
      one : (s0 s1 n : ℕ) → s1 ≡ s0 + 1 → n ≡ 1 → s1 ≡ s0 + n
      one s0 s1 n tick is = omega arith
