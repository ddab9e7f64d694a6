-- What texts lower to, as runs over the lists of the program's trees.
use Rattle.std.proofs.Common.{◌≡◌, ℕ, zero, suc, ◌+◌, ◌<◌, List, [], ◌∷◌, ◌++◌, map, length, take, get_or, replicate, Option, Some, None, refl, sym, ap}
use Rattle.std.proofs.Common.{◌∙◌, subst, arith, append-nil}
use Rattle.std.specs.List.{All, fold}
use Rattle.std.proofs.lemmas.List.{map-append}
use Rattle.std.proofs.lemmas.List.Elements.{All-append, All-cons}
use Rattle.tdl_expr.specs.declared.ids.NodeId.{NodeId}
use Rattle.tdl_expr.specs.declared.nodes.Node.{Node}
use Rattle.tdl_expr.specs.declared.tables.PushFault.{PushFault}
use Rattle.tdl_expr.specs.Tree.{Tree}
use Rattle.tdl_expr.specs.Rows.{IsRow}
use Rattle.tdl_mini_tree.specs.declared.leaves.Number.{Number}
use Rattle.tdl_mini_tree.specs.declared.tree.Element.{Element}
use Rattle.tdl_mini_tree.specs.declared.tree.Element.TheVariants as element
use Rattle.tdl_mini_tree.specs.declared.tree.MiniStep.{MiniStep as Changed}
use Rattle.tdl_mini_tree.specs.declared.tree.Group.{Group}
use Rattle.tdl_mini_tree.specs.declared.tree.Sequence.{Sequence}
use Rattle.tdl_mini_tree.specs.declared.tree.StepChange.{StepChange}
use Rattle.tdl_mini_tree.specs.declared.tree.StepChange.TheVariants as change
use Rattle.tdl_mini_tree.specs.Tree as tree
use Rattle.tdl_mini_tree.specs.Sizes.{unit, weight_of, times_of}
use Rattle.tdl_mini_tree.specs.Values.{range_of}
use Rattle.tdl_mini_tree.specs.View.{element_of, group_of, sequence_of, layers_of, step_of, changed}
use Rattle.tdl_mini_rows.specs.declared.joins.WeightedRow.{WeightedRow}
use Rattle.tdl_rows.specs.Built.{Built, kept, ◌▸◌}
use Rattle.tdl_rows.specs.Joined.{Weighted, timecat_of}
use Rattle.tdl_mini_rows.specs.Leaves.{Play}
use Rattle.tdl_mini_rows.specs.Lowered.{Finish, laid, parts_of, longer_last, and_last, range_built, layers_built, sequence_built, groups_built, group_built}
use Rattle.tdl_mini_rows.specs.Lowered.{element_built, step_built}
use Rattle.tdl_rows.specs.Lowers.{Gains, Refused, Lowers}
use Rattle.tdl_mini_rows.specs.inside.Views.{step_at, steps_at, AreRows, AreSteps, LowersSteps}
use Rattle.tdl_mini_rows.specs.inside.Changes.{change_built}
use Rattle.tdl_rows.proofs.Gained.{Gains-none, Gains-append, Refused-append, Refused-first}
use Rattle.tdl_rows.proofs.Loops.{after, run, run_more, run_refused, All-one_more}
use Rattle.tdl_mini_rows.specs.inside.Stays.{steps_after, steps_at-after}

module _ (trees : List tree.Layers) (play : Play) where
  abbrev pub element_step : List Weighted → Element → Built (List Weighted)
  element_step steps e = element_built play steps (element_of trees e)

  group_from : (g : tree.Group) (es : List Element) → group_built play (fold (λ g e. tree.element g (element_of trees e)) g es) ≡ run element_step
      (group_built play g) es
  unfolding layers_built
  group_from g [] = refl
  group_from g (e ∷ es) = group_from (tree.element g (element_of trees e)) es

  pub group_run : (es : List Element) → group_built play (group_of trees es) ≡ run element_step (kept []) es
  unfolding layers_built
  group_run es = group_from tree.no_element es

  abbrev pub group_step : List Weighted → Group → Built (List Weighted)
  group_step steps g = group_built play (group_of trees g.elements.items) ▸ λ inner. timecat_of inner ▸ λ t. kept (steps ++ laid unit t ∷ [])

  groups_from : (s : tree.Sequence) (gs : List Group) → groups_built play (fold (λ s g. tree.group s (group_of trees g.elements.items)) s gs)
      ≡ run group_step (groups_built play s) gs
  unfolding layers_built
  groups_from s [] = refl
  groups_from s (g ∷ gs) = groups_from (tree.group s (group_of trees g.elements.items)) gs

  pub groups_run : (gs : List Group) → groups_built play (sequence_of trees gs) ≡ run group_step (kept []) gs
  unfolding layers_built
  groups_run gs = groups_from tree.no_group gs

  abbrev pub sequence_step : Finish → List Weighted → Sequence → Built (List Weighted)
  sequence_step finish done s = sequence_built play (sequence_of trees s.groups.items) ▸ λ steps. finish
      (parts_of (sequence_of trees s.groups.items)) steps ▸ λ t. kept (done ++ laid (parts_of (sequence_of trees s.groups.items)) t ∷ [])

  layers_from : (finish : Finish) (ls : tree.Layers) (ss : List Sequence)
      → layers_built play finish (fold (λ ls s. tree.layer ls (sequence_of trees s.groups.items)) ls ss) ≡ run (sequence_step finish)
      (layers_built play finish ls) ss
  unfolding layers_built
  layers_from finish ls [] = refl
  layers_from finish ls (s ∷ ss) = layers_from finish (tree.layer ls (sequence_of trees s.groups.items)) ss

  pub layers_run : (finish : Finish) (ss : List Sequence) → layers_built play finish (layers_of trees ss) ≡ run (sequence_step finish) (kept []) ss
  unfolding layers_built
  layers_run finish ss = layers_from finish tree.no_layer ss

  one_change : (s : tree.MiniStep) (c : StepChange) → step_built play (changed trees s c) ≡ after (change_built trees) (step_built play s) c
  unfolding layers_built
  one_change s (change.Fast o) = refl
  one_change s (change.Slow o) = refl
  one_change s (change.Euclid k n None) = refl
  one_change s (change.Euclid k n (Some r)) = refl

  pub changes_run : (s : tree.MiniStep) (cs : List StepChange) → step_built play (fold (changed trees) s cs) ≡ run (change_built trees) (step_built play s) cs
  changes_run s [] = refl
  changes_run s (c ∷ cs) = changes_run (changed trees s c) cs ∙ ap (λ (b : Built Tree). run (change_built trees) b cs) (one_change s c)

  still_several : (s : tree.Sequence) (b c : tree.Group) (rest : List Group)
      → groups_built play (fold (λ s g. tree.group s (group_of trees g.elements.items)) (tree.group (tree.group s b) c) rest) ≡ sequence_built play
      (fold (λ s g. tree.group s (group_of trees g.elements.items)) (tree.group (tree.group s b) c) rest)
  unfolding layers_built
  still_several s b c [] = refl
  still_several s b c (x ∷ rest) = still_several (tree.group s b) c (group_of trees x.elements.items) rest

  -- several groups
  pub several : (gs : List Group) → (length gs ≡ 1 → ⊥) → groups_built play (sequence_of trees gs) ≡ sequence_built play (sequence_of trees gs)
  unfolding layers_built
  several [] h = refl
  several (g ∷ []) h = absurd (h refl)
  several (g ∷ k ∷ rest) h = still_several tree.no_group (group_of trees g.elements.items) (group_of trees k.elements.items) rest

  pub single : (gs : List Group) (g : Group) (d : Group) → length gs ≡ 1 → g ≡ get_or gs 0 d
      → group_built play (group_of trees g.elements.items) ≡ sequence_built play (sequence_of trees gs)
  unfolding layers_built
  single [] g d h e = absurd (omega arith)
  single (x ∷ []) g d h e = ap (λ (y : Group). group_built play (group_of trees y.elements.items)) e
  single (x ∷ y ∷ rest) g d h e = absurd (omega arith)

-- one item more of a run of steps
module _ {X : Type 0} {old mid : List Node} {items : List WeightedRow} (g : List Weighted → X → Built (List Weighted)) (b : Built (List Weighted)) (xs : List X)
    (i : ℕ) (x : X) (h : i < length xs) (is : x ≡ get_or xs i x) (before : LowersSteps old mid (run g b (take i xs)) items) where
  pub steps_more : (new : List Node) (more : List WeightedRow) → LowersSteps mid new (g (steps_at mid items) x) more
      → LowersSteps old new (run g b (take (i + 1) xs)) more
  steps_more new more made =
      let R : X → Type 0 = λ y. LowersSteps mid new (g (steps_at mid items) y) more in
      let P : List Weighted → Type 0 = λ ws. LowersSteps mid new (g ws (get_or xs i x)) more in
      let here = subst P before.are (subst R is made) in
      let Q : Built (List Weighted) → Type 0 = λ built. LowersSteps old new built more in
      subst Q (sym (run_more g b xs i x h)) (record { rows = here.rows; are = here.are; gains = Gains-append before.gains here.gains })

  pub steps_refused : (new : List Node) (fault : PushFault) → Refused mid new (g (steps_at mid items) x).rows fault → Refused old new (run g b xs).rows fault
  steps_refused new fault refused =
      let R : X → Type 0 = λ y. Refused mid new (g (steps_at mid items) y).rows fault in
      let P : List Weighted → Type 0 = λ ws. Refused mid new (g ws (get_or xs i x)).rows fault in
      run_refused g b xs i x h old new fault (Refused-append before.gains (subst P before.are (subst R is refused)))

-- a step with its weight at the end
pub and_step : {mid new : List Node} {id : NodeId} (items : List WeightedRow) (built : Built Tree) (parts : ℕ) (more : List WeightedRow) → AreRows mid items
    → Lowers mid new built id → more ≡ items ++ record { parts = parts; id = id } ∷ []
    → LowersSteps mid new (built ▸ λ t. kept (steps_at mid items ++ laid parts t ∷ [])) more
and_step {mid = mid} {new = new} {id = id} items built parts more rows made e =
    let s : WeightedRow = record { parts = parts; id = id } in
    record {
      rows = subst (AreRows new) (sym e) (All-one_more (λ r. IsRow new r.id) items s (steps_after made.gains items rows) made.row);
      are = ap (steps_at new) e
          ∙ (map-append (step_at new) items (s ∷ [])
          ∙ (ap (λ (ws : List Weighted). ws ++ step_at new s ∷ []) (steps_at-after made.gains items rows)
          ∙ ap (λ (t : Tree). steps_at mid items ++ laid parts t ∷ []) made.is));
      gains = subst (Gains mid new) (sym (append-nil _)) made.gains;
    }

pub LowersSteps-same : (old new : List Node) (built other : Built (List Weighted)) (items : List WeightedRow) → built ≡ other → LowersSteps old new built items
    → LowersSteps old new other items
LowersSteps-same old new built other items e h = let P : Built (List Weighted) → Type 0 = λ b. LowersSteps old new b items in subst P e h

pub RefusedSteps-same : (old new : List Node) (built other : Built (List Weighted)) (fault : PushFault) → built ≡ other → Refused old new built.rows fault
    → Refused old new other.rows fault
RefusedSteps-same old new built other fault e h = let P : Built (List Weighted) → Type 0 = λ b. Refused old new b.rows fault in subst P e h

pub no_steps : (nodes : List Node) (items : List WeightedRow) → items ≡ [] → LowersSteps nodes nodes (kept []) items
no_steps nodes items e = record {
  rows = subst (AreRows nodes) (sym e) (λ k d h. absurd (omega arith));
  are = ap (steps_at nodes) e;
  gains = Gains-none nodes;
}

-- elements
module _ (trees : List tree.Layers) (play : Play) (e : Element) where
  element_is : (other : Element) (steps : List Weighted) (built : Built (List Weighted)) → e ≡ other
      → built ≡ element_built play steps (element_of trees other) → built ≡ element_built play steps (element_of trees e)
  element_is other steps built same is = is ∙ ap (λ (x : Element). element_built play steps (element_of trees x)) (sym same)

  pub played_is : (s : Changed) (weight count : Option Number) (steps : List Weighted) → e ≡ element.Played s weight count
      → (step_built play (step_of trees s) ▸ λ t. kept (steps ++ replicate (times_of count) (laid (weight_of weight) t))) ≡ element_built play steps
      (element_of trees e)
  unfolding layers_built
  played_is s weight count steps is = element_is (element.Played s weight count) steps _ is refl

  pub range_is : (a b : Number) (steps : List Weighted) → e ≡ element.Range a b
      → range_built play steps (range_of a b) ≡ element_built play steps (element_of trees e)
  unfolding layers_built
  range_is a b steps is = element_is (element.Range a b) steps _ is refl

  pub hold_is : (steps : List Weighted) → e ≡ element.Hold → kept (longer_last steps) ≡ element_built play steps (element_of trees e)
  unfolding layers_built
  hold_is steps is = element_is element.Hold steps _ is refl

  pub repeat_is : (steps : List Weighted) → e ≡ element.Repeat → kept (and_last steps) ≡ element_built play steps (element_of trees e)
  unfolding layers_built
  repeat_is steps is = element_is element.Repeat steps _ is refl

pub same_steps : (nodes : List Node) (values : List Weighted) (items : List WeightedRow) → AreSteps nodes values items
    → LowersSteps nodes nodes (kept values) items
same_steps nodes values items h = record { rows = h.rows; are = h.are; gains = Gains-none nodes }

All-replicate : {X : Type 0} (P : X → Type 0) (n : ℕ) (x : X) → P x → All P (replicate n x)
All-replicate P zero x p = λ k d h. absurd (omega arith)
All-replicate P (suc n) x p = All-cons P x (replicate n x) p (All-replicate P n x p)

map-copies : {X Y : Type 0} (f : X → Y) (n : ℕ) (x : X) → map f (replicate n x) ≡ replicate n (f x)
map-copies f zero x = refl
map-copies f (suc n) x = ap (λ ys. f x ∷ ys) (map-copies f n x)

-- a step so many times at the end
pub and_copies : {mid new : List Node} {id : NodeId} (items : List WeightedRow) (built : Built Tree) (parts weight times n : ℕ) (more : List WeightedRow)
    → AreRows mid items → Lowers mid new built id → parts ≡ weight → times ≡ n → more ≡ items ++ replicate times (record { parts = parts; id = id })
    → LowersSteps mid new (built ▸ λ t. kept (steps_at mid items ++ replicate n (laid weight t))) more
and_copies {mid = mid} {new = new} {id = id} items built parts weight times n more rows made w c e =
    let s : WeightedRow = record { parts = parts; id = id } in
    record {
      rows = subst (AreRows new) (sym e)
          (All-append (λ r. IsRow new r.id) items (replicate times s) (steps_after made.gains items rows)
          (All-replicate (λ r. IsRow new r.id) times s made.row));
      are = ap (steps_at new) e
          ∙ (map-append (step_at new) items (replicate times s)
          ∙ (ap (λ (ws : List Weighted). ws ++ map (step_at new) (replicate times s)) (steps_at-after made.gains items rows)
          ∙ (ap (λ (ws : List Weighted). steps_at mid items ++ ws) (map-copies (step_at new) times s)
          ∙ (ap (λ (t : Tree). steps_at mid items ++ replicate times (laid parts t)) made.is
          ∙ (ap (λ (k : ℕ). steps_at mid items ++ replicate times (laid k built.value)) w
          ∙ ap (λ (k : ℕ). steps_at mid items ++ replicate k (laid weight built.value)) c)))));
      gains = subst (Gains mid new) (sym (append-nil _)) made.gains;
    }

-- steps that are joined, as a step of weight p
module _ {mid next : List Node} (built : Built (List Weighted)) (f : ℕ → List Weighted → Built Tree) (p q : ℕ) (inner items : List WeightedRow)
    (made : LowersSteps mid next built inner) (same : q ≡ p) where
  joined_is : f q (steps_at next inner) ≡ f p built.value
  joined_is = ap (λ (n : ℕ). f n (steps_at next inner)) same ∙ ap (f p) made.are

  pub joined_more : {new : List Node} {id : NodeId} (more : List WeightedRow) → AreRows mid items → Lowers next new (f q (steps_at next inner)) id
      → more ≡ items ++ record { parts = q; id = id } ∷ [] → LowersSteps mid new
      (built ▸ λ steps. f p steps ▸ λ t. kept (steps_at mid items ++ laid p t ∷ [])) more
  joined_more {new = new} {id = id} more rows joined e =
      let P : Built Tree → Type 0 = λ b. Lowers next new b id in
      let here : LowersSteps next new (f p built.value ▸ λ t. kept (steps_at next items ++ laid p t ∷ [])) more =
      and_step items (f p built.value) p more (steps_after made.gains items rows) (subst P joined_is joined)
      (e ∙ ap (λ (n : ℕ). items ++ record { parts = n; id = id } ∷ []) same) in
      let old_items = steps_at-after made.gains items rows in
      record {
        rows = here.rows;
        are = here.are ∙ ap (λ (ws : List Weighted). ws ++ laid p (f p built.value).value ∷ []) old_items;
        gains = Gains-append made.gains here.gains;
      }

  pub joined_refused : (new : List Node) (fault : PushFault) → Refused next new (f q (steps_at next inner)).rows fault
      → Refused mid new (built ▸ λ steps. f p steps ▸ λ t. kept (steps_at mid items ++ laid p t ∷ [])).rows fault
  joined_refused new fault refused =
      let P : Built Tree → Type 0 = λ b. Refused next new b.rows fault in
      Refused-append made.gains (Refused-first [] (subst P joined_is refused))

pub inner_same : (old new : List Node) (built : Built (List Weighted)) (items others : List WeightedRow) → items ≡ others → LowersSteps old new built others
    → LowersSteps old new built items
inner_same old new built items others e h = let P : List WeightedRow → Type 0 = λ ss. LowersSteps old new built ss in subst P (sym e) h
