-- Fineness and reach of a tree, of those of its children, capped.
use Rattle.std.proofs.Common.{◌≡◌, ◌⊎◌, ℕ, ◌+◌, ◌*◌, ◌^◌, ◌<◌, max, List, ◌∷◌, length, get_or, take, drop, add-one, ⊎_elim, sym, ap, ◌∙◌, subst, refl, arith}
use Rattle.std.specs.List.{All}
use Rattle.std.proofs.lemmas.List.{length-take, get_or-take}
use Rattle.std.proofs.Math.Nat.{one-dvd}
use Rattle.std.proofs.Math.Seq.{drop-cons}
use Rattle.tdl_fraction.specs.Divisor.{lcm}
use Rattle.tdl_fraction.proofs.Coprime.{lcm_positive}
use Rattle.tdl_expr.specs.declared.ids.NodeId.{NodeId}
use Rattle.tdl_expr.specs.declared.steps.Step.{Step}
use Rattle.tdl_expr.specs.declared.nodes.Node.{Node}
use Rattle.tdl_expr.specs.declared.joinings.Op.{Op}
use Rattle.tdl_expr.specs.declared.joinings.Side.{Side}
use Rattle.tdl_expr.specs.declared.nodes.Node.TheVariants.{Join}
use Rattle.tdl_expr.specs.Tree.{Tree, Trees, empty, child}
use Rattle.tdl_expr.specs.Rows.{children, IsNode, IsTable, weighted, row, tree_of, trees_of, tree_at}
use Rattle.tdl_expr.specs.Bounds.{hang, grid, fine, fine_of, fine_of_steps, reach, reach_of_steps, left_ask, right_ask, left_far, right_far}
use Rattle.tdl_expr.specs.Valid.{IsValid, AreValid}
use Rattle.tdl_expr.proofs.Numbers.{grid_positive, ask_at_most_fine, ask_at_most_reach}
use Rattle.tdl_expr.proofs.ValidRows.{valid_row}
use Rattle.tdl_compile.specs.declared.sizes.RowBounds.{RowBounds}
use Rattle.tdl_compile.specs.Compiled.{capped}
use Rattle.tdl_compile.specs.inside.Sizes.{fine_below, reach_below, IsTooFine, IsTooFar, NumbersStandFor, AreKnown}
use Rattle.tdl_compile.proofs.Capped.{cases_capped, capped_lcm_left, both_past}
use Rattle.tdl_compile.proofs.Words.{multiple_divided}
use Rattle.tdl_compile.proofs.Standing.{below_fine, below_reach, too_fine, too_far}
use Rattle.tdl_compile.proofs.OtherKinds.{left_ask_positive, right_ask_positive}

-- ---- what is asked may be capped
pub fine_capped : (e : Tree) (q : ℕ) → IsValid e → 0 < q → capped (fine e (capped q)) ≡ capped (fine e q)
fine_capped e q valid p =
    ⊎_elim
    (λ x. ap (λ n. capped (fine e n)) x)
    (λ x. both_past (fine e (capped q)) (fine e q)
    (let l = ask_at_most_fine e (capped q) valid (omega arith) in omega (arith, x.0)) (let l = ask_at_most_fine e q valid p in omega (arith, x.1)))
    (cases_capped q)

pub reach_capped : (e : Tree) (m : ℕ) → capped (reach e (capped m)) ≡ capped (reach e m)
reach_capped e m =
    ⊎_elim
    (λ x. ap (λ n. capped (reach e n)) x)
    (λ x. both_past (reach e (capped m)) (reach e m)
    (let l = ask_at_most_reach e (capped m) in omega (arith, x.0)) (let l = ask_at_most_reach e m in omega (arith, x.1)))
    (cases_capped m)

pub fine_of_capped : (trees : Trees) (q : ℕ) → AreValid trees → 0 < q → capped (fine_of trees (capped q)) ≡ capped (fine_of trees q)
fine_of_capped empty q valid p = refl
fine_of_capped (child e trees) q valid p =
    let first = fine_capped e q valid.0 p in
    let rest = fine_of_capped trees q valid.1 p in
    omega arith

-- ---- a tree
pub fine_whole : (e : Tree) (q g own below r : ℕ) → IsValid e → 0 < q → (g ≡ capped (grid e)) ⊎ IsTooFine (fine_below e)
    → own ≡ capped (lcm g q) → below ≡ capped (fine_below e q) → r ≡ max own below → r ≡ capped (fine e q)
fine_whole e q g own below r valid p h o b f =
    let l = below_fine e q in
    ⊎_elim
    (λ x. let exact : own ≡ capped (lcm (grid e) q) =
    o ∙ ap (λ n. capped (lcm n q)) x ∙ capped_lcm_left (grid e) q (grid_positive e valid) p in
    omega arith)
    (λ x. omega (arith, x.past q p))
    h

pub reach_whole : (e : Tree) (m h own below r : ℕ) → (capped h ≡ capped (hang e)) ⊎ IsTooFar (reach_below e)
    → own ≡ capped (m + capped h) → below ≡ capped (reach_below e m) → r ≡ max own below → r ≡ capped (reach e m)
reach_whole e m h own below r s o b f =
    let l = below_reach e m in
    ⊎_elim (λ x. omega arith) (λ x. omega (arith, x.past m)) s

-- a leaf meets what it is asked for
pub leaf_fine : (e leaf : Tree) (q r : ℕ) → e ≡ leaf → fine leaf q ≡ lcm 1 q → q < 2 ^ 64 → r ≡ q → r ≡ capped (fine e q)
leaf_fine e leaf q r is own word same =
    let whole : fine e q ≡ q = ap (λ x. fine x q) is ∙ own ∙ multiple_divided 1 q (one-dvd q) in
    omega arith

-- of choices, where the selector's grid is exact, or the selector is too fine itself
pub fine_chosen : (s : Tree) (trees : Trees) (q g chosen first rest r : ℕ) → IsValid s → AreValid trees → 0 < q
    → (g ≡ capped (grid s)) ⊎ IsTooFine (fine_below s) → chosen ≡ capped (lcm g q) → first ≡ capped (fine s q)
    → rest ≡ capped (fine_of trees chosen) → r ≡ max first rest → r ≡ capped (max (fine s q) (fine_of trees (lcm (grid s) q)))
fine_chosen s trees q g chosen first rest r valid more p h c f t is =
    ⊎_elim
    (λ x. let exact : chosen ≡ capped (lcm (grid s) q) =
    c ∙ ap (λ n. capped (lcm n q)) x ∙ capped_lcm_left (grid s) q (grid_positive s valid) p in
    let finest : rest ≡ capped (fine_of trees (lcm (grid s) q)) =
    t ∙ ap (λ n. capped (fine_of trees n)) exact ∙ fine_of_capped trees (lcm (grid s) q) more (lcm_positive (grid s) q (grid_positive s valid) p) in
    omega arith)
    (λ x. let l = below_fine s q in omega (arith, x.past q p))
    h

-- of a join's sides, where what each is asked is exact, or the other is too fine or too far itself
pub fine_sides : (side : Side) (d e : Tree) (q a b x y r : ℕ) → IsValid d → IsValid e → 0 < q → 0 < a → 0 < b
    → (a ≡ capped (left_ask side d e q)) ⊎ IsTooFine (fine_below e) → (b ≡ capped (right_ask side d e q)) ⊎ IsTooFine (fine_below d)
    → x ≡ capped (fine d a) → y ≡ capped (fine e b) → r ≡ max x y → r ≡ capped (max (fine d (left_ask side d e q)) (fine e (right_ask side d e q)))
fine_sides side d e q a b x y r first second p left right h k f g is =
    let on_left = left_ask_positive side d e q second p in
    let on_right = right_ask_positive side d e q first p in
    ⊎_elim
    (λ u. ⊎_elim
    (λ v. let exact : x ≡ capped (fine d (left_ask side d e q)) = f ∙ ap (λ n. capped (fine d n)) u ∙ fine_capped d (left_ask side d e q) first on_left in
    let other : y ≡ capped (fine e (right_ask side d e q)) = g ∙ ap (λ n. capped (fine e n)) v ∙ fine_capped e (right_ask side d e q) second on_right in
    omega arith)
    (λ v. omega (arith, (too_fine d v).past a left, (too_fine d v).past (left_ask side d e q) on_left))
    k)
    (λ u. omega (arith, (too_fine e u).past b right, (too_fine e u).past (right_ask side d e q) on_right))
    h

pub reach_sides : (side : Side) (d e : Tree) (m a b x y r : ℕ)
    → (a ≡ capped (left_far side d e m)) ⊎ IsTooFar (reach_below e) → (b ≡ capped (right_far side d e m)) ⊎ IsTooFar (reach_below d)
    → x ≡ capped (reach d a) → y ≡ capped (reach e b) → r ≡ max x y → r ≡ capped (max (reach d (left_far side d e m)) (reach e (right_far side d e m)))
reach_sides side d e m a b x y r h k f g is =
    ⊎_elim
    (λ u. ⊎_elim
    (λ v. let exact : x ≡ capped (reach d (left_far side d e m)) = f ∙ ap (λ n. capped (reach d n)) u ∙ reach_capped d (left_far side d e m) in
    let other : y ≡ capped (reach e (right_far side d e m)) = g ∙ ap (λ n. capped (reach e n)) v ∙ reach_capped e (right_far side d e m) in
    omega arith)
    (λ v. omega (arith, (too_far d v).past a, (too_far d v).past (left_far side d e m)))
    k)
    (λ u. omega (arith, (too_far e u).past b, (too_far e u).past (right_far side d e m)))
    h

-- ---- one more of several
pub most_more : (so_far x a b total : ℕ) → max so_far (capped (max a b)) ≡ total → x ≡ capped a → max (max so_far x) (capped b) ≡ total
most_more so_far x a b total h e = omega arith

-- one more step, which is asked as its weight has it
pub fine_step : (trees : List Tree) (steps : List Step) (k : ℕ) (d : Step) (ask so_far x total : ℕ) → k < length steps
    → IsValid (row trees (get_or steps k d).child) → 0 < ask * (get_or steps k d).weight
    → max so_far (capped (fine_of_steps (weighted trees (drop k steps)) ask)) ≡ total
    → x ≡ capped (fine (row trees (get_or steps k d).child) (capped (ask * (get_or steps k d).weight)))
    → max (max so_far x) (capped (fine_of_steps (weighted trees (drop (k + 1) steps)) ask)) ≡ total
fine_step trees steps k d ask so_far x total h valid p so e =
    let s = get_or steps k d in
    let tree = row trees s.child in
    let cons : drop k steps ≡ s ∷ drop (k + 1) steps = rw (add-one k) (drop-cons steps k d h) in
    let whole : max so_far (capped (max (fine tree (ask * s.weight)) (fine_of_steps (weighted trees (drop (k + 1) steps)) ask))) ≡ total =
    ap (λ (xs : List Step). max so_far (capped (fine_of_steps (weighted trees xs) ask))) (sym cons) ∙ so in
    most_more so_far x (fine tree (ask * s.weight)) (fine_of_steps (weighted trees (drop (k + 1) steps)) ask) total whole
    (e ∙ fine_capped tree (ask * s.weight) valid p)

pub reach_step : (trees : List Tree) (steps : List Step) (k : ℕ) (d : Step) (far so_far x total : ℕ) → k < length steps
    → max so_far (capped (reach_of_steps (weighted trees (drop k steps)) far)) ≡ total
    → x ≡ capped (reach (row trees (get_or steps k d).child) far)
    → max (max so_far x) (capped (reach_of_steps (weighted trees (drop (k + 1) steps)) far)) ≡ total
reach_step trees steps k d far so_far x total h so e =
    let s = get_or steps k d in
    let tree = row trees s.child in
    let rest = reach_of_steps (weighted trees (drop (k + 1) steps)) far in
    let cons : drop k steps ≡ s ∷ drop (k + 1) steps = rw (add-one k) (drop-cons steps k d h) in
    let whole : max so_far (capped (max (reach tree far) rest)) ≡ total =
    ap (λ (xs : List Step). max so_far (capped (reach_of_steps (weighted trees xs) far))) (sym cons) ∙ so in
    most_more so_far x (reach tree far) rest total whole e

-- ---- the rows before one
pub known_before : (nodes : List Node) (rows : List RowBounds) (k : ℕ) → AreKnown nodes rows → AreKnown nodes (take k rows)
known_before nodes rows k known = record {
  table = known.table;
  within = omega (arith, length-take k rows, known.within);
  stand = record {
    each = λ id h d.
        let below : id.index < k = omega (arith, length-take k rows) in
        let within : id.index < length rows = omega (arith, length-take k rows) in
        subst (λ (b : RowBounds). NumbersStandFor b (row (trees_of nodes) id)) (sym (get_or-take k rows id.index d below)) (known.stand.each id within d);
  };
}

-- ---- a row by the kind of its node
module _ (nodes : List Node) (id : NodeId) (node kind : Node) (is : node ≡ kind) (tree_is : tree_at nodes id ≡ tree_of (trees_of nodes) node) where
  pub kind_tree : tree_at nodes id ≡ tree_of (trees_of nodes) kind
  kind_tree = tree_is ∙ ap (tree_of (trees_of nodes)) is

  pub kind_valid : IsTable nodes → IsValid (tree_of (trees_of nodes) kind)
  kind_valid table = subst IsValid kind_tree (valid_row nodes id table)

  pub kind_fine : (q r : ℕ) → r ≡ capped (fine_below (tree_of (trees_of nodes) kind) q) → r ≡ capped (fine_below (tree_at nodes id) q)
  kind_fine q r h = h ∙ ap (λ e. capped (fine_below e q)) (sym kind_tree)

  pub kind_reach : (m r : ℕ) → r ≡ capped (reach_below (tree_of (trees_of nodes) kind) m) → r ≡ capped (reach_below (tree_at nodes id) m)
  kind_reach m r h = h ∙ ap (λ e. capped (reach_below e m)) (sym kind_tree)

module _ (rows count : ℕ) (node kind : Node) (is : node ≡ kind) (h : IsNode count node) (same : rows ≡ count) where
  pub kind_below : All (λ id. id.index < rows) (children kind)
  kind_below = subst (λ (n : ℕ). All (λ id. id.index < n) (children kind)) (sym same) (subst (IsNode count) is h).below

-- the sides of a join
pub sides_below : (rows count : ℕ) (node : Node) (side : Side) (op : Op) (left right : NodeId) → node ≡ Join side op left right → IsNode count node
    → rows ≡ count → (left.index < rows) × (right.index < rows)
sides_below rows count node side op left right is h same =
    let all = kind_below rows count node (Join side op left right) is h same in (all 0 left (omega arith), all 1 right (omega arith))
