-- Rows for each number of a chosen argument, and the choice among them.
use Rattle.std.proofs.Common.{◌≡◌, ℕ, ◌+◌, ◌<◌, ◌≤◌, ◌^◌, List, [], ◌∷◌, ◌++◌, length, take, get_or, Result, sym, ap, ◌∙◌, subst, arith, length-take}
use Rattle.tdl_fraction.specs.Rational.{Rational}
use Rattle.tdl_expr.specs.declared.args.Arg.{Arg}
use Rattle.tdl_expr.specs.declared.args.Arg.TheVariants.{Chosen}
use Rattle.tdl_expr.specs.declared.ids.NodeId.{NodeId}
use Rattle.tdl_expr.specs.declared.nodes.Node.{Node}
use Rattle.tdl_expr.specs.declared.tables.PushFault.{PushFault}
use Rattle.tdl_expr.specs.Tree.{Tree}
use Rattle.tdl_expr.specs.Rows.{IsRow, tree_at}
use Rattle.tdl_rows.specs.Built.{Built, kept, ◌▸◌, each}
use Rattle.tdl_rows.specs.Joined.{picked, choose, pick_of}
use Rattle.tdl_rows.specs.Lowers.{Refused, Lowers, LowersTo, trees_at}
use Rattle.tdl_rows.specs.Arguments.{argument_at, IsArgument}
use Rattle.tdl_rows.specs.inside.Views.{LowersIds}
use Rattle.tdl_rows.proofs.Gained.{Refused-append, Refused-first, LowersTo-then}
use Rattle.tdl_rows.proofs.Loops.{length-ids, run_refused, LowersIds-more}

module _ (old : List Node) (f : Rational → Built Tree) (values : List Rational) where
  module _ (mid : List Node) (i : ℕ) (x : Rational) (h : i < length values) (is : get_or values i x ≡ x) (ids : List NodeId)
      (before : LowersIds old mid (each f (take i values)) ids) where
    pub chosen_more : (new : List Node) (id : NodeId) (more : List NodeId) → more ≡ ids ++ id ∷ [] → (built : Built Tree) → built ≡ f x
        → Lowers mid new built id → LowersIds old new (each f (take (i + 1) values)) more
    chosen_more new id more e built same made =
        let P : Built Tree → Type 0 = λ b. Lowers mid new b id in
        LowersIds-more f values i x more h e before (subst P (same ∙ ap f (sym is)) made)

    pub chosen_refused : (new : List Node) (fault : PushFault) (t : Tree) (built : Built Tree) → built ≡ f x → Refused mid new built.rows fault
        → Refused old new (choose (picked t values) f).rows fault
    chosen_refused new fault t built same refused =
        let P : Built Tree → Type 0 = λ b. Refused mid new b.rows fault in
        let G : List Tree → Rational → Built (List Tree) = λ ys r. f r ▸ λ y. kept (ys ++ y ∷ []) in
        Refused-first _
        (run_refused G (kept []) values i x h old new fault (Refused-append before.gains (Refused-first [] (subst P (same ∙ ap f (sym is)) refused))))

  pub chosen_all : (mid new : List Node) (ids : List NodeId) (selector : NodeId) (result : Result NodeId PushFault) → IsRow old selector
      → LowersIds old mid (each f values) ids → LowersTo mid new (pick_of (tree_at mid selector) (trees_at mid ids)) result
      → LowersTo old new (choose (picked (tree_at old selector) values) f) result
  chosen_all mid new ids selector result row before made =
      let P : List Tree → Type 0 = λ ts. LowersTo mid new (pick_of (tree_at old selector) ts) result in
      let Q : Tree → Type 0 = λ t. LowersTo mid new (pick_of t (trees_at mid ids)) result in
      LowersTo-then new (each f values) (pick_of (tree_at old selector)) before.gains result
      (subst P before.are (subst Q (before.gains.older selector row) made))

-- an argument by its variant
pub chosen_is : (nodes : List Node) (argument : Arg) (selector : NodeId) (values : List Rational) (f : Rational → Built Tree)
    → argument ≡ Chosen selector values → choose (picked (tree_at nodes selector) values) f ≡ choose (argument_at nodes argument) f
chosen_is nodes argument selector values f e = ap (λ (a : Arg). choose (argument_at nodes a) f) (sym e)

pub selector_row : (nodes : List Node) (argument : Arg) (selector : NodeId) (values : List Rational) → argument ≡ Chosen selector values
    → IsArgument nodes argument → IsRow nodes selector
selector_row nodes argument selector values e h = (subst (IsArgument nodes) e h).0

pub selector_few : (nodes : List Node) (argument : Arg) (selector : NodeId) (values : List Rational) → argument ≡ Chosen selector values
    → IsArgument nodes argument → length values ≤ 2 ^ 31
selector_few nodes argument selector values e h = (subst (IsArgument nodes) e h).1

-- as many rows as choices so far
pub few_ids : {old new : List Node} (f : Rational → Built Tree) (values : List Rational) (i : ℕ) (ids : List NodeId)
    → LowersIds old new (each f (take i values)) ids → length values ≤ 2 ^ 31 → length ids ≤ 2 ^ 31
few_ids f values i ids made few = omega (arith, length-ids f (take i values) ids made, length-take i values)
