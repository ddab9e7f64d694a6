-- What a push gives a join of several rows.
use Rattle.std.proofs.Common.{◌≡◌, ◌⊎◌, inl, ℕ, zero, suc, ◌+◌, ◌/◌, ◌<◌, ◌≤◌, ◌^◌, List, [], ◌∷◌, map, length, get_or, Option, None, Some, IfSome, IfOk}
use Rattle.std.proofs.Common.{IfErr}
use Rattle.std.proofs.Common.{OnErr, Result, Ok, Err, refl, sym, ap, ◌∙◌, subst, arith, append-nil}
use Rattle.std.specs.List.{All, sum_by, sum, zip}
use Rattle.std.proofs.lemmas.List.{length-map}
use Rattle.std.proofs.lemmas.List.Elements.{All-head, All-tail, All-cons}
use Rattle.std.proofs.lemmas.List.Sums.{sum_by-cons}
use Rattle.std.proofs.lemmas.List.Folds.{fold-map}
use Rattle.tdl_expr.specs.declared.ids.NodeId.{NodeId}
use Rattle.tdl_expr.specs.declared.steps.Step.{Step}
use Rattle.tdl_expr.specs.declared.nodes.Node.{Node}
use Rattle.tdl_expr.specs.declared.nodes.Node.TheVariants as node
use Rattle.tdl_expr.specs.declared.tables.PushFault.{PushFault}
use Rattle.tdl_expr.specs.declared.tables.PushFault.TheVariants.{NoMemory}
use Rattle.tdl_expr.specs.Tree.{Tree, Trees, Steps}
use Rattle.tdl_expr.specs.Tree as tree
use Rattle.tdl_expr.specs.Rows.{links_of, sum_links, IsNode, IsRow, in_order, weighted, tree_of, trees_of}
use Rattle.tdl_expr.specs.Pushed.{IsPushed, overflow, overflow_of}
use Rattle.tdl_expr.specs.Joins.{Joins, JoinsTo, joined, joined_steps, joined_rows, shared_rows, join_rows, join_links, join_overflow}
use Rattle.tdl_expr.specs.Weights.{even_steps, steps_of}
use Rattle.tdl_expr.proofs.RowTrees.{one_more}
use Rattle.tdl_expr.proofs.TableRows.{sum_links-append}

pub if_ok : {T E : Type 0} {P Q : T → Type 0} → ((x : T) → P x → Q x) → (r : Result T E) → IfOk r P → IfOk r Q
if_ok follows (Ok x) p = follows x p
if_ok follows (Err e) p = p

pub if_some : {T : Type 0} {P Q : T → Type 0} → ((x : T) → P x → Q x) → (o : Option T) → IfSome o P → IfSome o Q
if_some follows (Some x) p = follows x p
if_some follows None p = p

-- several children are joined by the kind
joined_many : (kind : Trees → Tree) (trees : List Tree) (ids : List NodeId) → 2 ≤ length ids → joined kind (in_order trees ids) ≡ kind (in_order trees ids)
joined_many kind trees [] h = absurd (omega arith)
joined_many kind trees (first ∷ []) h = absurd (omega arith)
joined_many kind trees (first ∷ second ∷ ids) h = refl

pub joined_steps_many : (kind : Steps → Tree) (trees : List Tree) (steps : List Step) → 2 ≤ length steps
    → joined_steps kind (weighted trees steps) ≡ kind (weighted trees steps)
joined_steps_many kind trees [] h = absurd (omega arith)
joined_steps_many kind trees (first ∷ []) h = absurd (omega arith)
joined_steps_many kind trees (first ∷ second ∷ steps) h = refl

pub rows_many : (count : ℕ) → 2 ≤ count → join_rows count ≡ 1
rows_many zero h = absurd (omega arith)
rows_many (suc zero) h = absurd (omega arith)
rows_many (suc (suc others)) h = refl

pub links_many : (count : ℕ) → 2 ≤ count → join_links count ≡ count
links_many zero h = absurd (omega arith)
links_many (suc zero) h = absurd (omega arith)
links_many (suc (suc others)) h = refl

-- one child is no reason to refuse
pub one_fits : (nodes : List Node) (count : ℕ) → count ≡ 1 → join_overflow nodes count ≡ None
one_fits nodes zero h = absurd (omega arith)
one_fits nodes (suc zero) h = refl
one_fits nodes (suc (suc others)) h = absurd (omega arith)

overflow_many : (nodes : List Node) (count : ℕ) → 2 ≤ count → join_overflow nodes count ≡ overflow (length nodes + 1) (sum_links nodes + count)
overflow_many nodes zero h = absurd (omega arith)
overflow_many nodes (suc zero) h = absurd (omega arith)
overflow_many nodes (suc (suc others)) h = refl

-- a node is too large for a table where it has as many links as the join
node_overflow : (old : List Node) (count : ℕ) → 2 ≤ count → (node : Node) → links_of node ≡ count → overflow_of old node ≡ join_overflow old count
node_overflow old count many node links =
    ap (λ (n : ℕ). overflow (length old + 1) (sum_links old + n)) links ∙ sym (overflow_many old count many)

-- what the push of a node answers
pub record PushAnswers (old new : List Node) (node : Node) (result : Result NodeId PushFault) : Type 0 where
  pub ok : IfOk result (IsPushed old new node)
  pub refused : IfSome (overflow_of old node) (λ fault. result ≡ Err fault)
  pub only : IfErr result (λ fault. (overflow_of old node ≡ Some fault) ⊎ (fault ≡ NoMemory))
  pub err : OnErr result (new ≡ old)

-- silence is pushed for no rows
pub joins_silent : (old new : List Node) (count : ℕ) → count < 1 → (result : Result NodeId PushFault)
    → PushAnswers old new node.Silence result → JoinsTo old new tree.Silence count result
joins_silent old new zero none result push =
    let same : overflow_of old node.Silence ≡ join_overflow old 0 = ap (overflow (length old + 1)) (omega arith) in
    record {
      ok = if_ok
          (λ id pushed. record {
            row = omega (arith, pushed.row, ap length pushed.nodes, one_more old node.Silence);
            is = pushed.tree;
            added = node.Silence ∷ [];
            nodes = pushed.nodes;
            rows = refl;
            links = refl;
            older = pushed.older;
          })
          result push.ok;
      refused = subst (λ o. IfSome o (λ fault. (result ≡ Err fault) ⊎ (result ≡ Err NoMemory))) same
          (if_some (λ fault e. inl e) (overflow_of old node.Silence) push.refused);
      only = subst (λ o. IfErr result (λ fault. (o ≡ Some fault) ⊎ (fault ≡ NoMemory))) same push.only;
      err = push.err;
    }
joins_silent old new (suc count) none result push = absurd (omega arith)

module _ (old new : List Node) (ids : List NodeId) (many : 2 ≤ length ids) where
  -- a pushed node joins the rows, where it has their tree and as many links
  joins_many : (node : Node) (t : Tree) → tree_of (trees_of old) node ≡ t → links_of node ≡ length ids → (id : NodeId) → IsPushed old new node id
      → Joins old new t (length ids) id
  joins_many node t is links id pushed = record {
    row = omega (arith, pushed.row, ap length pushed.nodes, one_more old node);
    is = pushed.tree ∙ is;
    added = node ∷ [];
    nodes = pushed.nodes;
    rows = sym (rows_many (length ids) many);
    links = sum_links-append [] node ∙ omega (arith, links, links_many (length ids) many);
    older = pushed.older;
  }

  -- what the push of such a node answers is what the join answers
  join_pushed : (node : Node) (t : Tree) → tree_of (trees_of old) node ≡ t → links_of node ≡ length ids
      → (result : Result NodeId PushFault) → PushAnswers old new node result → JoinsTo old new t (length ids) result
  join_pushed node t is links result push =
      let same = node_overflow old (length ids) many node links in
      record {
        ok = if_ok (joins_many node t is links) result push.ok;
        refused = subst (λ o. IfSome o (λ fault. (result ≡ Err fault) ⊎ (result ≡ Err NoMemory))) same
            (if_some (λ fault e. inl e) (overflow_of old node) push.refused);
        only = subst (λ o. IfErr result (λ fault. (o ≡ Some fault) ⊎ (fault ≡ NoMemory))) same push.only;
        err = push.err;
      }

  pub joins_cat : (result : Result NodeId PushFault) → PushAnswers old new (node.Cat ids) result
      → JoinsTo old new (joined_rows tree.Cat old ids) (length ids) result
  joins_cat = join_pushed (node.Cat ids) _ (sym (joined_many tree.Cat (trees_of old) ids many)) refl

  pub joins_stack : (result : Result NodeId PushFault) → PushAnswers old new (node.Stack ids) result
      → JoinsTo old new (joined_rows tree.Stack old ids) (length ids) result
  joins_stack = join_pushed (node.Stack ids) _ (sym (joined_many tree.Stack (trees_of old) ids many)) refl

  -- steps as many as the rows
  pub joins_steps : (steps : List Step) → length steps ≡ length ids → (result : Result NodeId PushFault)
      → PushAnswers old new (node.TimeCat steps) result → JoinsTo old new (shared_rows old steps) (length ids) result
  joins_steps steps count =
      join_pushed (node.TimeCat steps) _ (sym (joined_steps_many tree.TimeCat (trees_of old) steps (omega arith)))
      (length-map steps (λ s. s.child) ∙ count)

-- the rows of even steps, and their weights
even_children : (ids : List NodeId) → map (λ s. s.child) (even_steps ids) ≡ ids
even_children [] = refl
even_children (id ∷ ids) = ap (λ (others : List NodeId). id ∷ others) (even_children ids)

even_positive : (ids : List NodeId) → All (λ s. 0 < s.weight) (even_steps ids)
even_positive [] = λ k d h. absurd (omega arith)
even_positive (id ∷ ids) = All-cons (λ s. 0 < s.weight) (record { weight = 1; child = id }) (even_steps ids) (omega arith) (even_positive ids)

even_sum : (ids : List NodeId) → sum_by (λ s. s.weight) (even_steps ids) ≡ length ids
even_sum [] = refl
even_sum (id ∷ ids) = omega (arith, sum_by-cons (λ (s : Step). s.weight) (record { weight = 1; child = id }) (even_steps ids), even_sum ids)

pub even_length : (ids : List NodeId) → length (even_steps ids) ≡ length ids
even_length ids = length-map ids _

-- rows of a table, not too many, can be even steps
pub even_node : (old : List Node) (ids : List NodeId) → All (IsRow old) ids → 2 ≤ length ids → length ids ≤ 2 ^ 31
    → IsNode (length old) (node.TimeCat (even_steps ids))
even_node old ids rows many few = record {
  below = subst (All (λ id. id.index < length old)) (sym (even_children ids)) rows;
  counts = (omega (arith, even_length ids), omega (arith, even_length ids));
  shares = (even_positive ids, omega (arith, even_sum ids));
}

pub All-of_map : {X Y : Type 0} (P : Y → Type 0) (f : X → Y) (xs : List X) → All P (map f xs) → All (λ x. P (f x)) xs
All-of_map P f [] all = λ k d h. absurd (omega arith)
All-of_map P f (x ∷ xs) all = All-cons (λ x. P (f x)) x xs (All-head P (f x) (map f xs) all) (All-of_map P f xs (All-tail P (f x) (map f xs) all))

-- the rows of weighted steps, and their weights
given_children : (weights : List ℕ) (ids : List NodeId) → length weights ≡ length ids → map (λ s. s.child) (steps_of weights ids) ≡ ids
given_children [] [] h = refl
given_children [] (id ∷ ids) h = absurd (omega arith)
given_children (w ∷ ws) [] h = absurd (omega arith)
given_children (w ∷ ws) (id ∷ ids) h = ap (λ (others : List NodeId). id ∷ others) (given_children ws ids (omega arith))

given_weights : (weights : List ℕ) (ids : List NodeId) → length weights ≡ length ids → map (λ s. s.weight) (steps_of weights ids) ≡ weights
given_weights [] ids h = refl
given_weights (w ∷ ws) [] h = absurd (omega arith)
given_weights (w ∷ ws) (id ∷ ids) h = ap (λ (others : List ℕ). w ∷ others) (given_weights ws ids (omega arith))

pub steps_length : (weights : List ℕ) (ids : List NodeId) → length weights ≡ length ids → length (steps_of weights ids) ≡ length ids
steps_length weights ids h = sym (length-map (steps_of weights ids) (λ s. s.child)) ∙ ap length (given_children weights ids h)

pub steps_node : (old : List Node) (weights : List ℕ) (ids : List NodeId) → length weights ≡ length ids → All (λ n. 0 < n) weights → sum weights ≤ 2 ^ 40
    → All (IsRow old) ids → 2 ≤ length ids → length ids ≤ 2 ^ 31 → IsNode (length old) (node.TimeCat (steps_of weights ids))
steps_node old weights ids same positive few rows many short =
    let steps = steps_of weights ids in
    let total : sum_by (λ (s : Step). s.weight) steps ≡ sum weights = sym (fold-map (λ (a n : ℕ). a + n) (λ (s : Step). s.weight) 0 steps)
    ∙ ap sum (given_weights weights ids same) in
    record {
      below = subst (All (λ id. id.index < length old)) (sym (given_children weights ids same)) rows;
      counts = (omega (arith, steps_length weights ids same), omega (arith, steps_length weights ids same));
      shares = (All-of_map (λ n. 0 < n) (λ (s : Step). s.weight) steps (subst (All (λ n. 0 < n)) (sym (given_weights weights ids same)) positive), omega arith);
    }

-- counts that are divided before they are given to rows, or with them
pub divided_pairs : (d : ℕ) (counts : List ℕ) (ids : List NodeId)
    → map (λ p. record { weight = p.0 / d; child = p.1 }) (zip counts ids) ≡ steps_of (map (λ count. count / d) counts) ids
divided_pairs d [] ids = refl
divided_pairs d (n ∷ ns) [] = refl
divided_pairs d (n ∷ ns) (id ∷ ids) = ap (λ (steps : List Step). record { weight = n / d; child = id } ∷ steps) (divided_pairs d ns ids)

-- no rows have no steps
pub steps_none : (weights : List ℕ) (ids : List NodeId) → length ids < 1 → steps_of weights ids ≡ []
steps_none [] ids none = refl
steps_none (n ∷ ns) [] none = refl
steps_none (n ∷ ns) (id ∷ ids) none = absurd (omega arith)

-- one step is its row
pub joins_one : (old : List Node) (weights : List ℕ) (ids : List NodeId) (d : NodeId) → length ids ≡ 1 → length weights ≡ length ids → All (IsRow old) ids
    → Joins old old (joined_steps tree.TimeCat (weighted (trees_of old) (steps_of weights ids))) (length ids) (get_or ids 0 d)
joins_one old weights [] d one same rows = absurd (omega arith)
joins_one old weights (id ∷ second ∷ ids) d one same rows = absurd (omega arith)
joins_one old [] (id ∷ []) d one same rows = absurd (omega arith)
joins_one old (w ∷ v ∷ ws) (id ∷ []) d one same rows = absurd (omega arith)
joins_one old (w ∷ []) (id ∷ []) d one same rows = record {
  row = All-head (IsRow old) id [] rows;
  is = refl;
  added = [];
  nodes = sym (append-nil old);
  rows = refl;
  links = refl;
  older = λ other h. refl;
}
