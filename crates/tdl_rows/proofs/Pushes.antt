-- What a push and a join of rows give of the tree that they are for.
use Rattle.std.proofs.Common.{◌≡◌, ℕ, zero, suc, ◌+◌, ◌≤◌, List, [], ◌∷◌, map, length, Option, None, Some, Result, Ok, Err, IfOk, IfErr, IfSome, OnErr, ◌⊎◌}
use Rattle.std.proofs.Common.{inl, inr, refl, sym, ap, ◌∙◌, arith, append-nil, length-append}
use Rattle.std.proofs.lemmas.List.{length-map}
use Rattle.std.proofs.lemmas.List.Sums.{sum_by-cons}
use Rattle.tdl_expr.specs.declared.ids.NodeId.{NodeId}
use Rattle.tdl_expr.specs.declared.nodes.Node.{Node}
use Rattle.tdl_expr.specs.declared.tables.PushFault.{PushFault}
use Rattle.tdl_expr.specs.declared.tables.PushFault.TheVariants.{NoMemory}
use Rattle.tdl_expr.specs.declared.nodes.Node.TheVariants.{Pick}
use Rattle.tdl_expr.specs.Tree as tree
use Rattle.tdl_expr.specs.Tree.{Tree, Trees, Steps, child, step, Stack, Cat, TimeCat}
use Rattle.tdl_expr.specs.Rows.{links_of, sum_links, tree_at, tree_of as tree_of_node, trees_of, in_order, weighted}
use Rattle.tdl_expr.specs.Pushed.{IsPushed, overflow, overflow_of}
use Rattle.tdl_expr.specs.Joins.{Joins, joined, joined_rows, shared_rows, join_overflow}
use Rattle.tdl_expr.specs.EqualShares.{equal_steps, in_equal_shares}
use Rattle.tdl_expr.specs.Weights.{even_steps}
use Rattle.tdl_rows.specs.Built.{one_row}
use Rattle.tdl_rows.specs.Joined.{joins, stack_of, cat_of, fastcat_of, pick_of, trees_from}
use Rattle.tdl_rows.specs.Lowers.{overflow_or, overflow_in, Gains, LowersTo, trees_at}

overflow_alone : (o : Option PushFault) → overflow_or o None ≡ o
overflow_alone None = refl
overflow_alone (Some fault) = refl

-- what was not refused has no overflow
no_overflow : (o : Option PushFault) (r : Result NodeId PushFault) (id : NodeId) → r ≡ Ok id → IfSome o (λ fault. r ≡ Err fault) → o ≡ None
no_overflow None r id e h = refl
no_overflow (Some fault) r id e h = cc

-- a node pushed for a tree
pub pushed_row : (old new : List Node) (node : Node) (links : ℕ) (t : Tree) (result : Result NodeId PushFault) → links_of node ≡ links
    → tree_of_node (trees_of old) node ≡ t → IfOk result (IsPushed old new node) → IfSome (overflow_of old node) (λ fault. result ≡ Err fault)
    → IfErr result (λ fault. (overflow_of old node ≡ Some fault) ⊎ (fault ≡ NoMemory)) → OnErr result (new ≡ old) → LowersTo old new (one_row links t) result
pushed_row old new node links t (Ok id) count is ok refused only err =
    let none : overflow_of old node ≡ None = no_overflow (overflow_of old node) (Ok id) id refl refused in
    record {
      row = omega (arith, ok.row, ap length ok.nodes, length-append old (node ∷ []));
      is = ok.tree ∙ is;
      gains = record {
        added = node ∷ [];
        nodes = ok.nodes;
        rows = ap (λ (n : ℕ). n ∷ []) count;
        older = ok.older;
        fits = overflow_alone _ ∙ (ap (λ (n : ℕ). overflow (length old + 1) (sum_links old + n)) (sym count) ∙ none);
      };
    }
pushed_row old new node links t (Err fault) count is ok refused only err = record {
  reason = elim only [
    | inl e ↦ inl (overflow_alone _ ∙ (ap (λ (n : ℕ). overflow (length old + 1) (sum_links old + n)) (sym count) ∙ e))
    | inr e ↦ inr e
  ];
  added = [];
  nodes = err ∙ sym (append-nil old);
}

one_added : (added : List Node) (links : ℕ) → length added ≡ 1 → sum_links added ≡ links → map links_of added ≡ links ∷ []
one_added [] links one sum = absurd (omega arith)
one_added (node ∷ []) links one sum =
    let same : links_of node ≡ links = omega (arith, sum_by-cons links_of node []) in
    ap (λ (n : ℕ). n ∷ []) same
one_added (node ∷ other ∷ added) links one sum = absurd (omega arith)

none_added : (added : List Node) → length added ≡ 0 → added ≡ []
none_added [] none = refl
none_added (node ∷ added) none = absurd (omega arith)

-- what was not refused, and did not run out of memory, has no overflow
none_or_memory : (o : Option PushFault) (r : Result NodeId PushFault) (id : NodeId) → r ≡ Ok id → IfSome o (λ fault. (r ≡ Err fault) ⊎ (r ≡ Err NoMemory))
    → o ≡ None
none_or_memory None r id is h = refl
none_or_memory (Some fault) r id is h = elim h [ inl e ↦ cc | inr e ↦ cc ]

joined_gains : (old new : List Node) (t : Tree) (count : ℕ) (id : NodeId) → Joins old new t count id → join_overflow old count ≡ None
    → Gains old new (joins count t).rows
joined_gains old new t zero id made none = record {
  added = made.added;
  nodes = made.nodes;
  rows = one_added made.added 0 made.rows made.links;
  older = made.older;
  fits = overflow_alone _ ∙ (ap (λ (n : ℕ). overflow (length old + 1) n) (omega arith) ∙ none);
}
joined_gains old new t (suc zero) id made none = record {
  added = made.added;
  nodes = made.nodes;
  rows = ap (map links_of) (none_added made.added made.rows);
  older = made.older;
  fits = refl;
}
joined_gains old new t (suc (suc more)) id made none = record {
  added = made.added;
  nodes = made.nodes;
  rows = one_added made.added (suc (suc more)) made.rows made.links;
  older = made.older;
  fits = overflow_alone _ ∙ none;
}

pub joined_value : (t : Tree) (count : ℕ) → (joins count t).value ≡ t
joined_value t zero = refl
joined_value t (suc zero) = refl
joined_value t (suc (suc more)) = refl

join_refused : (old : List Node) (t : Tree) (count : ℕ) (fault : PushFault) → join_overflow old count ≡ Some fault
    → overflow_in old (joins count t).rows ≡ Some fault
join_refused old t zero fault e = overflow_alone _ ∙ (ap (λ (n : ℕ). overflow (length old + 1) n) (omega arith) ∙ e)
join_refused old t (suc zero) fault e = e
join_refused old t (suc (suc more)) fault e = overflow_alone _ ∙ e

-- rows that are joined
pub joined_row : (old new : List Node) (t : Tree) (count : ℕ) (result : Result NodeId PushFault) → IfOk result (Joins old new t count)
    → IfSome (join_overflow old count) (λ fault. (result ≡ Err fault) ⊎ (result ≡ Err NoMemory))
    → IfErr result (λ fault. (join_overflow old count ≡ Some fault) ⊎ (fault ≡ NoMemory)) → OnErr result (new ≡ old)
    → LowersTo old new (joins count t) result
joined_row old new t count (Ok id) ok refused only err = record {
  row = ok.row;
  is = ok.is ∙ sym (joined_value t count);
  gains = joined_gains old new t count id ok (none_or_memory _ (Ok id) id refl refused);
}
joined_row old new t count (Err fault) ok refused only err = record {
  reason = elim only [ inl e ↦ inl (join_refused old t count fault e) | inr e ↦ inr e ];
  added = [];
  nodes = err ∙ sym (append-nil old);
}

in_order-ids : (nodes : List Node) (ids : List NodeId) → in_order (trees_of nodes) ids ≡ trees_from (trees_at nodes ids)
in_order-ids nodes [] = refl
in_order-ids nodes (id ∷ ids) = ap (λ (ts : Trees). child (tree_at nodes id) ts) (in_order-ids nodes ids)

pub same_joins : (count other : ℕ) (t u : Tree) → count ≡ other → t ≡ u → joins count t ≡ joins other u
same_joins count other t u e f = ap (λ (n : ℕ). joins n t) e ∙ ap (joins other) f

length-trees_at : (nodes : List Node) (ids : List NodeId) → length ids ≡ length (trees_at nodes ids)
length-trees_at nodes ids = sym (length-map ids (tree_at nodes))

pub stack-ids : (nodes : List Node) (ids : List NodeId) → joins (length ids) (joined_rows Stack nodes ids) ≡ stack_of (trees_at nodes ids)
stack-ids nodes ids = same_joins _ _ _ _ (length-trees_at nodes ids) (ap (joined Stack) (in_order-ids nodes ids))

pub cat-ids : (nodes : List Node) (ids : List NodeId) → joins (length ids) (joined_rows Cat nodes ids) ≡ cat_of (trees_at nodes ids)
cat-ids nodes ids = same_joins _ _ _ _ (length-trees_at nodes ids) (ap (joined Cat) (in_order-ids nodes ids))

equal-ids : (nodes : List Node) (ids : List NodeId) → weighted (trees_of nodes) (even_steps ids) ≡ equal_steps (trees_at nodes ids)
equal-ids nodes [] = refl
equal-ids nodes (id ∷ ids) = ap (λ (ts : Steps). step 1 (tree_at nodes id) ts) (equal-ids nodes ids)

shared-ids : (nodes : List Node) (ids : List NodeId) → shared_rows nodes (even_steps ids) ≡ in_equal_shares (trees_at nodes ids)
shared-ids nodes [] = refl
shared-ids nodes (id ∷ []) = refl
shared-ids nodes (id ∷ other ∷ ids) = ap TimeCat (equal-ids nodes (id ∷ other ∷ ids))

pub fastcat-ids : (nodes : List Node) (ids : List NodeId) → joins (length ids) (shared_rows nodes (even_steps ids)) ≡ fastcat_of (trees_at nodes ids)
fastcat-ids nodes ids = same_joins _ _ _ _ (length-trees_at nodes ids) (shared-ids nodes ids)

-- the choice among rows that are there
pub picked_row : (old new : List Node) (selector : NodeId) (ids : List NodeId) (result : Result NodeId PushFault) → 1 ≤ length ids
    → IfOk result (IsPushed old new (Pick selector ids)) → IfSome (overflow_of old (Pick selector ids)) (λ fault. result ≡ Err fault)
    → IfErr result (λ fault. (overflow_of old (Pick selector ids) ≡ Some fault) ⊎ (fault ≡ NoMemory)) → OnErr result (new ≡ old)
    → LowersTo old new (pick_of (tree_at old selector) (trees_at old ids)) result
picked_row old new selector [] result some ok refused only err = absurd (omega arith)
picked_row old new selector (id ∷ ids) result some ok refused only err =
    pushed_row old new (Pick selector (id ∷ ids)) _ _ result (ap (λ (n : ℕ). suc (suc n)) (sym (length-map ids (tree_at old))))
    (ap (λ (ts : Trees). tree.Pick (tree_at old selector) (child (tree_at old id) ts)) (in_order-ids old ids)) ok refused only err
