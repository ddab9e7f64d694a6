-- A leaf that is a step of a sequence lasts for the step's share of the cycle.
use Rattle.std.proofs.Common.{◌≡◌, ℕ, ◌+◌, ◌*◌, ◌<◌, List, [], ◌∷◌, ◌++◌, map, Option, Some, None, option_map, Result, Ok, OnOk}
use Rattle.std.proofs.Common.{ℤ, pos, ◌+ℤ◌, ◌-ℤ◌, refl, sym, ap, ap₂, ◌∙◌, subst, arith, append-nil}
use Rattle.std.proofs.lemmas.Int.{ints}
use Rattle.std.proofs.lemmas.Result.{on_ok_weaker}
use Rattle.std.proofs.Math.Nat.{mul-pos}
use Rattle.tdl_control.specs.declared.faults.NoMemory.{NoMemory}
use Rattle.tdl_control.specs.declared.leaves.Leaf.{Leaf}
use Rattle.tdl_fraction.specs.Arc.{Arc}
use Rattle.tdl_event.specs.Event.{Event}
use Rattle.tdl_expr.specs.Tree.{Tree}
use Rattle.tdl_expr.specs.Tree as tree
use Rattle.tdl_meaning.specs.Pattern.{over, pure, moved, squeezed}
use Rattle.tdl_meaning.specs.Meaning.{cyc}
use Rattle.tdl_meaning.specs.inside.Arcs.{over_met, step_ask}
use Rattle.tdl_meaning.proofs.ByKind.{over-pure, ask_inside}
use Rattle.tdl_visits.specs.inside.Visits.{visits, if_met}
use Rattle.tdl_grid.specs.Span.{Span, met, cycle_span, earlier_span, arc_of}
use Rattle.tdl_grid.specs.Item.{Item, delayed, event_of}
use Rattle.tdl_grid.specs.Step.{IsStep, step_delay, share_span}
use Rattle.tdl_grid.specs.declared.steps.Step.{Step}
use Rattle.tdl_grid.specs.inside.Visited.{Gains, IsStepVisit}
use Rattle.tdl_grid.proofs.SpanArcs.{cycle_span_arc}
use Rattle.tdl_grid.proofs.Sequences.{start_later, stop_later, step_asked, items_squeezed}

there_and_back : (n by : ℤ) → (n -ℤ by) +ℤ by ≡ n
there_and_back n by = omega (arith, ints)

module _ (s : Step) (is : IsStep s) (v : Leaf) (a : Span) where
  total : 0 < s.total
  total = omega (arith, is.within, is.weight)

  abbrev by : ℤ
  by = step_delay s.cycle s.before s.weight s.total s.width

  abbrev share : Span
  share = share_span s.cycle s.before s.weight s.total s.width

  asks : (own : Option Span) → met share a ≡ own
      → step_ask s.cycle s.before s.weight s.total (arc_of (s.width * s.total) a) ≡ option_map (arc_of (s.width * s.weight)) (option_map (earlier_span by) own)
  asks own met_is =
      step_asked s.cycle s.before s.weight s.total s.width is.weight total is.width a
      ∙ ap (λ m. option_map (arc_of (s.width * s.weight)) (option_map (earlier_span by) m)) met_is

  abbrev pub LeafGains : Result (Unit {0}) NoMemory → List Item → List Item → ℕ → ℕ → Type 0
  LeafGains = IsStepVisit (tree.Pure v) s a

  module _ (part : Span) (met_is : met share a ≡ Some part) where
    abbrev own : Span
    own = earlier_span by part

    -- in the step's own cycle
    abbrev leaf : Item
    leaf = record { whole = cycle_span (s.width * s.weight) s.cycle; part = own; value = v }

    abbrev shared : Item
    shared = record { whole = share; part = part; value = v }

    leaf_event : map (event_of (s.width * s.weight)) (leaf ∷ []) ≡ over (pure v) (arc_of (s.width * s.weight) own)
    leaf_event =
        let u = s.width * s.weight in
        let there = ask_inside s.cycle s.before s.weight s.total (arc_of (s.width * s.total) a) is.weight total (arc_of u own) (asks (Some part) met_is) in
        let event : Arc → Event = λ whole. record { whole = whole; part = arc_of u own; value = v } in
        ap (λ whole. event whole ∷ []) (cycle_span_arc s.cycle u (mul-pos is.width is.weight))
        ∙ sym (over-pure v s.cycle (arc_of u own) there.0 there.1)

    leaf_moved : delayed by leaf ≡ shared
    leaf_moved =
        let span : ℤ → ℤ → Span = λ start stop. record { start = start; stop = stop } in
        let item : Span → Span → Item = λ whole part. record { whole = whole; part = part; value = v } in
        ap₂ item
        (ap₂ span (start_later s.cycle (pos (s.width * s.weight)) by (pos (s.before * s.width)) (pos (s.width * s.total)) refl)
        (stop_later s.cycle (pos s.width) (pos s.before) (pos s.weight) (pos s.total)))
        (ap₂ span (there_and_back part.start by) (there_and_back part.stop by))

    shared_plays : map (event_of (s.width * s.total)) (shared ∷ [])
        ≡ map (moved (squeezed s.cycle s.before s.weight s.total)) (over (cyc (tree.Pure v)) (arc_of (s.width * s.weight) own))
    shared_plays =
        ap (λ i. map (event_of (s.width * s.total)) (i ∷ [])) (sym leaf_moved)
        ∙ items_squeezed s.cycle s.before s.weight s.total s.width is.weight total is.width (leaf ∷ [])
        ∙ ap (map (moved (squeezed s.cycle s.before s.weight s.total))) leaf_event

    pub leaf_gains : (r : Result (Unit {0}) NoMemory) (old new : List Item) (s0 s1 : ℕ) → OnOk r (new ≡ old ++ shared ∷ []) → s1 ≡ s0 + 1
        → LeafGains r old new s0 s1
    leaf_gains r old new s0 s1 put tick =
        subst (λ m. Gains (s.width * s.total) (map (moved (squeezed s.cycle s.before s.weight s.total)) (over_met (cyc (tree.Pure v)) m))
        (if_met (visits (tree.Pure v) s.cycle) m) 1 r old new s0 s1)
        (sym (asks (Some part) met_is))
        (record {
          items = on_ok_weaker r (λ pushed. record { made = shared ∷ []; behind = pushed; plays = shared_plays }) put;
          exact = on_ok_weaker r (λ _. tick) put;
          few = omega (arith, tick);
        })

  pub no_leaf_gains : (list : List Item) (n : ℕ) → met share a ≡ None → LeafGains (Ok tt) list list n n
  no_leaf_gains list n none =
      subst (λ m. Gains (s.width * s.total) (map (moved (squeezed s.cycle s.before s.weight s.total)) (over_met (cyc (tree.Pure v)) m))
      (if_met (visits (tree.Pure v) s.cycle) m) 1 (Ok tt) list list n n)
      (sym (asks None none))
      (record {
        items = record { made = []; behind = sym (append-nil list); plays = refl };
        exact = omega arith;
        few = omega arith;
      })

-- the visit of a row whose tree is that leaf
pub leaf_visited : (s : Step) (a : Span) (e : Tree) (v : Leaf) (r : Result (Unit {0}) NoMemory) (old new : List Item) (s0 s1 : ℕ) → e ≡ tree.Pure v
    → IsStepVisit (tree.Pure v) s a r old new s0 s1 → IsStepVisit e s a r old new s0 s1
leaf_visited s a e v r old new s0 s1 is h = subst (λ t. IsStepVisit t s a r old new s0 s1) (sym is) h
