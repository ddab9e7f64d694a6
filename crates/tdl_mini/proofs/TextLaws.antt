-- What sequences of steps become, whatever stands before and after.
use Rattle.std.proofs.Common.{◌≡◌, ℕ, ◌+◌, None, Option, List, [], ◌∷◌, ◌++◌, map, ◌*◌, ◌/◌, refl, sym, ap, ap₂, ◌∙◌, append-nil, append_assoc}
use Rattle.std.proofs.Common.{arith, length}
use Rattle.std.proofs.lemmas.List.{length-map}
use Rattle.std.specs.List.{fold}
use Rattle.std.proofs.lemmas.List.Sums.{fold-append}
use Rattle.tdl_fraction.specs.Divisor.{gcd, lcm}
use Rattle.tdl_fraction.specs.Rational.{Rational, frac}
use Rattle.tdl_expr.specs.Tree.{Tree, TimeCat, step, Cat, child, empty}
use Rattle.tdl_expr.specs.Joins.{joined_steps}
use Rattle.tdl_expr.specs.Weights.{scaled, lowest}
use Rattle.tdl_mini_tree.specs.declared.leaves.Kind.{Kind}
use Rattle.tdl_mini_tree.specs.declared.leaves.Number.{Number}
use Rattle.tdl_mini_tree.specs.Sizes.{Size, size_of, size_with, unit, weight_of}
use Rattle.tdl_mini_tree.specs.Tree as tree
use Rattle.tdl_rows.specs.Built.{Built, kept, ◌▸◌}
use Rattle.tdl_rows.proofs.Pushes.{joined_value, same_joins}
use Rattle.tdl_rows.specs.Joined.{Weighted, joins, fastcat_of, timecat_of, weight_of_parts, whole_parts, steps_from}
use Rattle.tdl_rows.specs.Joined as joined
use Rattle.tdl_mini_rows.specs.Leaves.{Play, leaf_of}
use Rattle.tdl_mini_rows.specs.Lowered.{Finish, in_turn, stacked, layers_built, group_built, element_built, step_built, laid, longer_last, and_last}
use Rattle.tdl_mini.specs.Laws.{text, once, twice_as_long, alone, turns, tree_of}
use Rattle.tdl_expr.specs.EqualShares.{equal_steps, in_equal_shares}
use Rattle.tdl_rows.proofs.Loops.{after, run}

-- ---- the elements of a sequence, one after another
abbrev group_of : List tree.Element → tree.Group
group_of elements = fold tree.element tree.no_element elements

abbrev elements_built : Play → List tree.Element → Built (List Weighted)
elements_built play elements = run (element_built play) (kept []) elements

group_from : (play : Play) (g : tree.Group) (elements : List tree.Element) →
    group_built play (fold tree.element g elements) ≡ run (element_built play) (group_built play g) elements
unfolding layers_built
group_from play g [] = refl
group_from play g (e ∷ es) = group_from play (tree.element g e) es

group_is : (play : Play) (elements : List tree.Element) → group_built play (group_of elements) ≡ elements_built play elements
unfolding layers_built
group_is play elements = group_from play tree.no_element elements

-- ---- and its size
size_from : (g : tree.Group) (elements : List tree.Element) → size_of (fold tree.element g elements) ≡ fold size_with (size_of g) elements
size_from g [] = refl
size_from g (e ∷ es) = size_from (tree.element g e) es

module _ (before others : List tree.Element) where
  elements_append : (play : Play) → elements_built play (before ++ others) ≡ run (element_built play) (elements_built play before) others
  elements_append play = fold-append (after (element_built play)) (kept []) before others

  size_append : size_of (group_of (before ++ others)) ≡ fold size_with (size_of (group_of before)) others
  size_append = ap size_of (fold-append tree.element tree.no_element before others) ∙ size_from (group_of before) others

-- ---- layers of one such sequence
abbrev one_layer : Finish → ℕ → Built (List Weighted) → Built (List Weighted)
one_layer finish parts built = kept [] ▸ λ ss. built ▸ λ steps. finish parts steps ▸ λ t. kept (ss ++ laid parts t ∷ [])

abbrev parts_of_group : tree.Group → ℕ
parts_of_group g = (size_of g).sum

layers_group : (play : Play) (finish : Finish) (g : tree.Group) →
    layers_built play finish (tree.layer tree.no_layer (tree.group tree.no_group g)) ≡ one_layer finish (parts_of_group g) (group_built play g)
unfolding layers_built
layers_group play finish g = refl

layers_text : (play : Play) (finish : Finish) (elements : List tree.Element) →
    layers_built play finish (text elements) ≡ one_layer finish (parts_of_group (group_of elements)) (elements_built play elements)
layers_text play finish elements =
    layers_group play finish (group_of elements) ∙ ap (one_layer finish (parts_of_group (group_of elements))) (group_is play elements)

tree_of_text : (kind : Kind) (elements : List tree.Element) → tree_of kind elements ≡ (timecat_of (elements_built (leaf_of kind) elements).value).value
tree_of_text kind elements = ap (λ (b : Built (List Weighted)). (stacked b).value) (layers_text (leaf_of kind) in_turn elements)

same_built : {A : Type 0} (b c : Built A) → b.value ≡ c.value → b.rows ≡ c.rows → b ≡ c
same_built {A = A} b c e f = ap₂ (λ (v : A) (rows : List ℕ). record { value = v; rows = rows }) e f

run_value : {V X : Type 0} (g : V → X → Built V) (b c : Built V) (xs : List X) → b.value ≡ c.value → (run g b xs).value ≡ (run g c xs).value
run_value g b c [] e = e
run_value {V = V} g b c (x ∷ xs) e = run_value g (after g b x) (after g c x) xs (ap (λ (v : V). (g v x).value) e)

-- ---- holds and repetitions
longer-last : (steps : List Weighted) (s : Weighted) → longer_last (steps ++ s ∷ []) ≡ steps ++ laid (s.parts + unit) s.tree ∷ []
longer-last [] s = refl
longer-last (x ∷ []) s = refl
longer-last (x ∷ y ∷ ys) s = ap (λ (ws : List Weighted). x ∷ ws) (longer-last (y ∷ ys) s)

and-last : (steps : List Weighted) (s : Weighted) → and_last (steps ++ s ∷ []) ≡ (steps ++ s ∷ []) ++ s ∷ []
and-last [] s = refl
and-last (x ∷ []) s = refl
and-last (x ∷ y ∷ ys) s = ap (λ (ws : List Weighted). x ∷ ws) (and-last (y ∷ ys) s)

module _ (play : Play) (b : Built (List Weighted)) (a : tree.MiniStep) where
  held : after (element_built play) (after (element_built play) b (once a)) tree.hold ≡ after (element_built play) b (twice_as_long a)
  unfolding layers_built
  held = same_built _ _ (longer-last b.value (laid unit (step_built play a).value)) (append-nil _)

  repeated : (weight : Option Number) →
      (after (element_built play) (after (element_built play) b (tree.played a weight None)) tree.repeat).value
      ≡ (after (element_built play) (after (element_built play) b (tree.played a weight None)) (tree.played a weight None)).value
  unfolding layers_built
  repeated weight = and-last b.value (laid (weight_of weight) (step_built play a).value)

size-held : (s : Size) (a : tree.MiniStep) → size_with (size_with s (once a)) tree.hold ≡ size_with s (twice_as_long a)
size-held s a =
    let sum : s.sum + 1 * 10000 + 10000 ≡ s.sum + 1 * 20000 = omega arith in
    ap (λ (n : ℕ). record { steps = s.steps + 1; sum = n; last = 20000 }) sum

module _ (play : Play) (finish : Finish) (a : tree.MiniStep) (before others : List tree.Element) where
  hold_parts : parts_of_group (group_of (before ++ once a ∷ tree.hold ∷ others)) ≡ parts_of_group (group_of (before ++ twice_as_long a ∷ others))
  hold_parts =
      let from = λ (s : Size). fold size_with s others in
      let sum = λ (s : Size). s.sum in
      let same = ap from (size-held (size_of (group_of before)) a) in
      ap sum (size_append before (once a ∷ tree.hold ∷ others) ∙ (same ∙ sym (size_append before (twice_as_long a ∷ others))))

  hold_elements : elements_built play (before ++ once a ∷ tree.hold ∷ others) ≡ elements_built play (before ++ twice_as_long a ∷ others)
  hold_elements =
      let from = λ (b : Built (List Weighted)). run (element_built play) b others in
      let same = ap from (held play (elements_built play before) a) in
      elements_append before (once a ∷ tree.hold ∷ others) play ∙ (same ∙ sym (elements_append before (twice_as_long a ∷ others) play))

  -- a hold makes the weight 2
  pub hold_doubles : layers_built play finish (text (before ++ once a ∷ tree.hold ∷ others))
      ≡ layers_built play finish (text (before ++ twice_as_long a ∷ others))
  hold_doubles =
      layers_text play finish (before ++ once a ∷ tree.hold ∷ others)
      ∙ (ap₂ (one_layer finish) hold_parts hold_elements ∙ sym (layers_text play finish (before ++ twice_as_long a ∷ others)))

module _ (play : Play) (finish : Finish) (a : tree.MiniStep) (weight : Option Number) (before others : List tree.Element) where
  abbrev e : tree.Element
  e = tree.played a weight None

  abbrev again : List tree.Element
  again = before ++ e ∷ tree.repeat ∷ others

  abbrev doubled : List tree.Element
  doubled = before ++ e ∷ e ∷ others

  again_parts : parts_of_group (group_of again) ≡ parts_of_group (group_of doubled)
  again_parts = ap (λ (s : Size). s.sum) (size_append before (e ∷ tree.repeat ∷ others) ∙ sym (size_append before (e ∷ e ∷ others)))

  again_elements : (elements_built play again).value ≡ (elements_built play doubled).value
  again_elements =
      let value = λ (b : Built (List Weighted)). b.value in
      let same = run_value (element_built play) _ _ others (repeated play (elements_built play before) a weight) in
      ap value (elements_append before (e ∷ tree.repeat ∷ others) play) ∙ (same ∙ sym (ap value (elements_append before (e ∷ e ∷ others) play)))

  -- a repetition is the step again
  pub repeat_again : (layers_built play finish (text again)).value ≡ (layers_built play finish (text doubled)).value
  repeat_again =
      let value = λ (b : Built (List Weighted)). b.value in
      let of = λ (parts : ℕ) (steps : List Weighted). laid parts (finish parts steps).value ∷ [] in
      ap value (layers_text play finish again) ∙ (ap₂ of again_parts again_elements ∙ sym (ap value (layers_text play finish doubled)))

-- ---- equal shares
abbrev ones : List Tree → List ℕ
ones ts = map (λ t. 1) ts

abbrev shares : List Tree → List Rational
shares ts = map (λ s. weight_of_parts s.parts) (map (laid unit) ts)

den-ones : (ts : List Tree) → fold (λ common weight. lcm common weight.den) 1 (shares ts) ≡ 1
unfolding frac gcd lcm
den-ones [] = refl
den-ones (t ∷ ts) = den-ones ts

counts-ones : (ts : List Tree) → map (scaled 1) (shares ts) ≡ ones ts
unfolding frac gcd
counts-ones [] = refl
counts-ones (t ∷ ts) = ap (λ (ns : List ℕ). 1 ∷ ns) (counts-ones ts)

divisor-ones : (ts : List Tree) → fold gcd 1 (ones ts) ≡ 1
unfolding gcd
divisor-ones [] = refl
divisor-ones (t ∷ ts) = divisor-ones ts

quotients-ones : (ts : List Tree) → map (λ count. count / 1) (ones ts) ≡ ones ts
quotients-ones [] = refl
quotients-ones (t ∷ ts) = ap (λ (ns : List ℕ). 1 ∷ ns) (quotients-ones ts)

lowest-ones : (ts : List Tree) → lowest (ones ts) ≡ ones ts
unfolding gcd
lowest-ones [] = refl
lowest-ones (t ∷ ts) = ap (λ (g : ℕ). map (λ count. count / g) (ones (t ∷ ts))) (divisor-ones ts) ∙ quotients-ones (t ∷ ts)

parts-ones : (ts : List Tree) → whole_parts (map (laid unit) ts) ≡ ones ts
parts-ones ts =
    ap (λ (common : ℕ). lowest (map (scaled common) (shares ts))) (den-ones ts) ∙ (ap lowest (counts-ones ts) ∙ lowest-ones ts)

trees-laid : (ts : List Tree) → map joined.tree_of (map (laid unit) ts) ≡ ts
trees-laid [] = refl
trees-laid (t ∷ ts) = ap (λ (us : List Tree). t ∷ us) (trees-laid ts)

steps-ones : (ts : List Tree) → steps_from (ones ts) ts ≡ equal_steps ts
steps-ones [] = refl
steps-ones (t ∷ ts) = ap (step 1 t) (steps-ones ts)

joined-shares : (ts : List Tree) → joined_steps TimeCat (equal_steps ts) ≡ in_equal_shares ts
joined-shares [] = refl
joined-shares (t ∷ []) = refl
joined-shares (t ∷ u ∷ ts) = refl

-- steps of weight 1 are one after another in equal shares, by the same rows
timecat-even : (ts : List Tree) → timecat_of (map (laid unit) ts) ≡ fastcat_of ts
timecat-even ts =
    let steps = ap₂ steps_from (parts-ones ts) (trees-laid ts) ∙ steps-ones ts in
    same_joins (length (map (laid unit) ts)) (length ts) _ _ (length-map ts (laid unit)) (ap (joined_steps TimeCat) steps ∙ joined-shares ts)

tree-alone : (kind : Kind) (a : tree.MiniStep) → tree_of kind (alone a) ≡ (step_built (leaf_of kind) a).value
unfolding layers_built
tree-alone kind a = refl

abbrev pub each_alone : Kind → List tree.MiniStep → List Tree
each_alone kind steps = map (λ a. tree_of kind (alone a)) steps

steps_laid : (kind : Kind) (b : Built (List Weighted)) (steps : List tree.MiniStep) →
    (run (element_built (leaf_of kind)) b (map once steps)).value ≡ b.value ++ map (laid unit) (each_alone kind steps)
unfolding layers_built
steps_laid kind b [] = sym (append-nil b.value)
steps_laid kind b (a ∷ steps) =
    let play = leaf_of kind in
    let one : List Weighted = laid unit (step_built play a).value ∷ [] in
    steps_laid kind (after (element_built play) b (once a)) steps ∙ append_assoc b.value one (map (laid unit) (each_alone kind steps))

pub steps_share : (kind : Kind) (steps : List tree.MiniStep) → tree_of kind (map once steps) ≡ in_equal_shares (each_alone kind steps)
steps_share kind steps =
    let same = ap (λ (ss : List Weighted). (timecat_of ss).value) (steps_laid kind (kept []) steps) in
    let even = ap (λ (b : Built Tree). b.value) (timecat-even (each_alone kind steps)) in
    tree_of_text kind (map once steps) ∙ (same ∙ (even ∙ joined_value (in_equal_shares (each_alone kind steps)) (length (each_alone kind steps))))

-- ---- by turns
pub turns_cat : (kind : Kind) (a b : tree.MiniStep) → tree_of kind (turns a b) ≡ Cat (child (tree_of kind (alone a)) (child (tree_of kind (alone b)) empty))
unfolding layers_built
turns_cat kind a b = refl
