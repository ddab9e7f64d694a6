-- Stacks of sequences at a pace, row by row.
use Rattle.std.proofs.Common.{◌≡◌, ℕ, Bool, true, false, pos, ◌==◌, ◌+◌, ◌<◌, List, [], ◌∷◌, ◌++◌, map, length, take, get_or, Result, refl, sym, ap, ◌∙◌}
use Rattle.std.proofs.Common.{subst}
use Rattle.std.specs.List.{list_all}
use Rattle.std.proofs.lemmas.List.Folds.{list_all-map}
use Rattle.tdl_fraction.specs.Rational.{Rational, whole}
use Rattle.tdl_expr.specs.declared.ids.NodeId.{NodeId}
use Rattle.tdl_expr.specs.declared.nodes.Node.{Node}
use Rattle.tdl_expr.specs.declared.tables.PushFault.{PushFault}
use Rattle.tdl_expr.specs.Tree.{Tree}
use Rattle.tdl_mini_rows.specs.declared.joins.WeightedRow.{WeightedRow}
use Rattle.tdl_rows.specs.Built.{Built, kept, ◌▸◌, each}
use Rattle.tdl_rows.specs.Joined.{Weighted, tree_of, stack_of, cat_of}
use Rattle.tdl_mini_rows.specs.Lowered.{paced, paced_stack, is_even, at_pace, a_cycle_each}
use Rattle.tdl_rows.specs.Lowers.{Refused, Lowers, LowersTo}
use Rattle.tdl_rows.specs.Lowers.{trees_at}
use Rattle.tdl_rows.specs.inside.Views.{LowersIds}
use Rattle.tdl_mini_rows.specs.inside.Views.{step_at, steps_at, AreRows}
use Rattle.tdl_rows.proofs.Gained.{Refused-append, Refused-first, LowersTo-then}
use Rattle.tdl_rows.proofs.Loops.{run_refused, refused_along, each-map, LowersIds-more}
use Rattle.tdl_mini_rows.specs.inside.Stays.{step_after}

module _ (old : List Node) (rate : Rational) (steps : List WeightedRow) (are : AreRows old steps) where
  abbrev each_paced : List WeightedRow → Built (List Tree)
  each_paced = each (λ s. paced rate (step_at old s))

  all_paced : each_paced steps ≡ each (paced rate) (steps_at old steps)
  all_paced = sym (each-map (paced rate) (step_at old) steps)

  module _ (mid : List Node) (i : ℕ) (d : WeightedRow) (h : i < length steps) (ids : List NodeId)
      (before : LowersIds old mid (each_paced (take i steps)) ids) where
    here : step_at mid (get_or steps i d) ≡ step_at old (get_or steps i d)
    here = step_after before.gains (get_or steps i d) (are i d h)

    pub paced_more : (new : List Node) (id : NodeId) (more : List NodeId) → more ≡ ids ++ id ∷ []
        → Lowers mid new (paced rate (step_at mid (get_or steps i d))) id → LowersIds old new (each_paced (take (i + 1) steps)) more
    paced_more new id more e made =
        let P : Weighted → Type 0 = λ s. Lowers mid new (paced rate s) id in
        LowersIds-more (λ s. paced rate (step_at old s)) steps i d more h e before (subst P here made)

    pub paced_refused : (new : List Node) (fault : PushFault) → Refused mid new (paced rate (step_at mid (get_or steps i d))).rows fault
        → Refused old new (paced_stack (steps_at old steps) rate).rows fault
    paced_refused new fault refused =
        let P : Weighted → Type 0 = λ s. Refused mid new (paced rate s).rows fault in
        let G : List Tree → WeightedRow → Built (List Tree) = λ ys s. paced rate (step_at old s) ▸ λ y. kept (ys ++ y ∷ []) in
        let at = run_refused G (kept []) steps i d h old new fault (Refused-append before.gains (Refused-first [] (subst P here refused))) in
        Refused-first _ (refused_along old new _ _ fault (ap (λ (b : Built (List Tree)). b.rows) all_paced) at)

  pub paced_all : (mid new : List Node) (ids : List NodeId) (trees : List Tree) (result : Result NodeId PushFault)
      → LowersIds old mid (each_paced steps) ids → trees ≡ trees_at mid ids → LowersTo mid new (stack_of trees) result
      → LowersTo old new (paced_stack (steps_at old steps) rate) result
  paced_all mid new ids trees result before same made =
      let P : List Tree → Type 0 = λ ts. LowersTo mid new (stack_of ts) result in
      let Q : Built (List Tree) → Type 0 = λ b. LowersTo old new (b ▸ λ ts. stack_of ts) result in
      subst Q all_paced (LowersTo-then new (each_paced steps) stack_of before.gains result (subst P (same ∙ before.are) made))

-- a step a cycle, where all weights are 1 and where not
module _ (nodes : List Node) (steps : List WeightedRow) (parts : ℕ) {r : Bool} (tested : r ≡ list_all (λ s. s.parts == 10000) steps) where
  is_even-steps : r ≡ is_even (steps_at nodes steps)
  is_even-steps = tested ∙ sym (list_all-map (λ (s : Weighted). s.parts == 10000) (step_at nodes) steps)

  pub even_cat : r ≡ true → cat_of (map tree_of (steps_at nodes steps)) ≡ a_cycle_each parts (steps_at nodes steps)
  even_cat e = rw (sym is_even-steps ∙ e) refl

  pub uneven_pace : (one : Rational) → one ≡ whole (pos 1) → r ≡ false → at_pace one parts (steps_at nodes steps) ≡ a_cycle_each parts (steps_at nodes steps)
  uneven_pace one is e = rw (sym is_even-steps ∙ e, is) refl
