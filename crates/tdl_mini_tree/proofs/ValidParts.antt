-- The parts of valid layers, sequences, groups, elements, steps and operands are valid.
use Rattle.std.proofs.Common.{◌≡◌, ℕ, ◌+◌, ◌<◌, ◌≤◌, Bool, ◌&&◌, nat_le, ◌*◌, List, [], ◌∷◌, ◌++◌, length, take, drop, get_or, Option, Some, None, IsTrue}
use Rattle.std.proofs.Common.{sym, ◌∙◌, subst, arith}
use Rattle.std.specs.List.{fold, All}
use Rattle.std.proofs.lemmas.Bool.{leb-true, and_parts}
use Rattle.std.proofs.lemmas.List.{take-append-drop}
use Rattle.std.proofs.lemmas.List.Elements.{All-cons}
use Rattle.std.proofs.lemmas.List.Sums.{fold-append}
use Rattle.tdl_mini_tree.specs.declared.leaves.Kind.{Kind}
use Rattle.tdl_mini_tree.specs.declared.leaves.Kind.TheVariants.{Count}
use Rattle.tdl_mini_tree.specs.declared.leaves.Number.{Number}
use Rattle.tdl_mini_tree.specs.declared.tree.NestId.{NestId}
use Rattle.tdl_mini_tree.specs.declared.tree.Sequence.{Sequence}
use Rattle.tdl_mini_tree.specs.declared.tree.Group.{Group}
use Rattle.tdl_mini_tree.specs.declared.tree.Element.{Element}
use Rattle.tdl_mini_tree.specs.declared.tree.Element.TheVariants.{Played}
use Rattle.tdl_mini_tree.specs.declared.tree.MiniStep.{MiniStep}
use Rattle.tdl_mini_tree.specs.declared.tree.Term.{Term}
use Rattle.tdl_mini_tree.specs.declared.tree.Last.{Last}
use Rattle.tdl_mini_tree.specs.declared.tree.Last.TheVariants as last
use Rattle.tdl_mini_tree.specs.declared.tree.StepChange.{StepChange}
use Rattle.tdl_mini_tree.specs.declared.tree.StepChange.TheVariants as change
use Rattle.tdl_mini_tree.specs.Tree as tree
use Rattle.tdl_mini_tree.specs.Sizes.{size_of, steps_of, groups_of}
use Rattle.tdl_mini_tree.specs.View.{named, layers_of, sequence_of, group_of, element_of, step_of, term_of, changed, braces_of, operand_with}
use Rattle.tdl_mini_tree.specs.Valid.{is_valid, is_valid_sequence, is_valid_group, is_valid_element, is_valid_step, is_valid_term, is_valid_operand}
use Rattle.tdl_mini_tree.specs.Valid.{is_valid_braces, is_weight_or_none, is_count_or_none, is_small_sequence, is_light, is_shallow}

-- three tests that all hold
pub and_three : (a b c : Bool) → IsTrue (a && b && c) → IsTrue a × IsTrue b × IsTrue c
and_three a b c h =
    let (first, last) = and_parts (a && b) c h in
    let (one, two) = and_parts a b first in
    (one, two, last)

-- and four
pub and_four : (a b c d : Bool) → IsTrue (a && b && c && d) → IsTrue a × IsTrue b × IsTrue c × IsTrue d
and_four a b c d h =
    let (first, last) = and_parts (a && b && c) d h in
    let (one, two, three) = and_three a b c first in
    (one, two, three, last)

-- what a test of a fold says of each item, where it says so of the last
module _ {A X : Type 0} (f : A → X → A) (V : A → Type 0) (W : X → Type 0) (before : (a : A) (x : X) → V (f a x) → V a)
    (item : (a : A) (x : X) → V (f a x) → W x) where
  pub fold_start : (a : A) (xs : List X) → V (fold f a xs) → V a
  fold_start a [] v = v
  fold_start a (x ∷ xs) v = before a x (fold_start (f a x) xs v)

  pub fold_item : (a : A) (xs : List X) → V (fold f a xs) → All W xs
  fold_item a [] v = λ i d h. absurd (omega arith)
  fold_item a (x ∷ xs) v = All-cons W x xs (item a x (fold_start (f a x) xs v)) (fold_item (f a x) xs v)

  -- of the items so far too
  pub fold_prefix : (a : A) (xs : List X) (i : ℕ) → V (fold f a xs) → V (fold f a (take i xs))
  fold_prefix a xs i v =
      let P : List X → Type 0 = λ ys. V (fold f a ys) in
      let whole : V (fold f a (take i xs ++ drop i xs)) = subst P (sym (take-append-drop i xs)) v in
      fold_start (fold f a (take i xs)) (drop i xs) (subst V (fold-append f a (take i xs) (drop i xs)) whole)

-- the parts of valid layers, sequences and groups
module _ (kind : Kind) where
  pub layer_parts : (ls : tree.Layers) (s : tree.Sequence) → IsTrue (is_valid kind (tree.layer ls s)) → IsTrue (is_valid kind ls)
      × IsTrue (is_valid_sequence kind s)
  layer_parts ls s h =
      let (before, item, shallow) = and_three (is_valid kind ls) (is_valid_sequence kind s) (is_shallow (tree.layer ls s)) h in
      (before, item)

  pub group_parts : (s : tree.Sequence) (g : tree.Group) → IsTrue (is_valid_sequence kind (tree.group s g)) → IsTrue (is_valid_sequence kind s)
      × IsTrue (is_valid_group kind g)
  group_parts s g h =
      let (before, item, small) = and_three (is_valid_sequence kind s) (is_valid_group kind g) (is_small_sequence (tree.group s g)) h in
      (before, item)

  pub element_parts : (g : tree.Group) (e : tree.Element) → IsTrue (is_valid_group kind (tree.element g e)) → IsTrue (is_valid_group kind g)
      × IsTrue (is_valid_element kind e)
  element_parts g e h =
      let (before, item, light) = and_three (is_valid_group kind g) (is_valid_element kind e) (is_light (tree.element g e)) h in
      (before, item)

  -- a valid group's weights are within the limits
  pub group_light : (g : tree.Group) → IsTrue (is_valid_group kind g) → (size_of g).sum ≤ 16384 * 10000
  group_light tree.no_element h = omega arith
  group_light (tree.element g e) h =
      let (before, item, light) = and_three (is_valid_group kind g) (is_valid_element kind e) (is_light (tree.element g e)) h in
      leb-true (size_of (tree.element g e)).sum (16384 * 10000) light

  -- a valid sequence has no more groups than it may
  pub groups_few : (s : tree.Sequence) → IsTrue (is_valid_sequence kind s) → groups_of s ≤ 1024
  groups_few tree.no_group h = omega arith
  groups_few (tree.group s g) h =
      let (before, item, small) = and_three (is_valid_sequence kind s) (is_valid_group kind g) (is_small_sequence (tree.group s g)) h in
      leb-true (groups_of (tree.group s g)) 1024 ((and_parts (nat_le (steps_of (tree.group s g)) 1024) _ small).1)

module _ (kind : Kind) (trees : List tree.Layers) where
  abbrev with_sequence : tree.Layers → Sequence → tree.Layers
  with_sequence ls s = tree.layer ls (sequence_of trees s.groups.items)

  abbrev with_group : tree.Sequence → Group → tree.Sequence
  with_group s g = tree.group s (group_of trees g.elements.items)

  abbrev with_element : tree.Group → Element → tree.Group
  with_element g e = tree.element g (element_of trees e)

  -- each sequence of valid layers
  pub sequences_valid : (sequences : List Sequence) → IsTrue (is_valid kind (layers_of trees sequences))
      → All (λ s. IsTrue (is_valid_sequence kind (sequence_of trees s.groups.items))) sequences
  sequences_valid sequences v =
      fold_item with_sequence (λ ls. IsTrue (is_valid kind ls)) (λ s. IsTrue (is_valid_sequence kind (sequence_of trees s.groups.items)))
      (λ ls s h. (layer_parts kind ls (sequence_of trees s.groups.items) h).0)
      (λ ls s h. (layer_parts kind ls (sequence_of trees s.groups.items) h).1)
      tree.no_layer sequences v

  -- each group of a valid sequence
  pub groups_valid : (groups : List Group) → IsTrue (is_valid_sequence kind (sequence_of trees groups))
      → All (λ g. IsTrue (is_valid_group kind (group_of trees g.elements.items))) groups
  groups_valid groups v =
      fold_item with_group (λ s. IsTrue (is_valid_sequence kind s)) (λ g. IsTrue (is_valid_group kind (group_of trees g.elements.items)))
      (λ s g h. (group_parts kind s (group_of trees g.elements.items) h).0)
      (λ s g h. (group_parts kind s (group_of trees g.elements.items) h).1)
      tree.no_group groups v

  element_before : (g : tree.Group) (e : Element) → IsTrue (is_valid_group kind (with_element g e)) → IsTrue (is_valid_group kind g)
  element_before g e h = (element_parts kind g (element_of trees e) h).0

  -- each element of a valid group
  pub elements_valid : (elements : List Element) → IsTrue (is_valid_group kind (group_of trees elements))
      → All (λ e. IsTrue (is_valid_element kind (element_of trees e))) elements
  elements_valid elements v =
      fold_item with_element (λ g. IsTrue (is_valid_group kind g)) (λ e. IsTrue (is_valid_element kind (element_of trees e)))
      element_before
      (λ g e h. (element_parts kind g (element_of trees e) h).1)
      tree.no_element elements v

  -- the first elements of a valid group are one
  pub elements_prefix : (elements : List Element) (i : ℕ) → IsTrue (is_valid_group kind (group_of trees elements))
      → IsTrue (is_valid_group kind (group_of trees (take i elements)))
  elements_prefix elements i v = fold_prefix with_element (λ g. IsTrue (is_valid_group kind g)) (λ e. Unit {0}) element_before
      (λ g e h. tt) tree.no_element elements i v

  groups_from : (s : tree.Sequence) (groups : List Group) → groups_of (fold with_group s groups) ≡ groups_of s + length groups
  groups_from s [] = omega arith
  groups_from s (g ∷ groups) = groups_from (with_group s g) groups ∙ omega arith

  -- a sequence has as many groups as there are
  pub groups_length : (groups : List Group) → groups_of (sequence_of trees groups) ≡ length groups
  groups_length groups = groups_from tree.no_group groups ∙ omega arith

  -- a step is valid before each change
  pub step_before : (s : tree.MiniStep) (c : StepChange) → IsTrue (is_valid_step kind (changed trees s c)) → IsTrue (is_valid_step kind s)
  step_before s (change.Fast o) h = (and_parts (is_valid_step kind s) _ h).0
  step_before s (change.Slow o) h = (and_parts (is_valid_step kind s) _ h).0
  step_before s (change.Euclid k n None) h =
      (and_parts (is_valid_step kind s) _ ((and_three (is_valid_step kind s && is_valid Count (named trees k)) (is_valid Count (named trees n)) _ h).0)).0
  step_before s (change.Euclid k n (Some r)) h =
      (and_parts (is_valid_step kind s) _
      ((and_three (is_valid_step kind s && is_valid Count (named trees k)) (is_valid Count (named trees n)) _
      ((and_parts (is_valid_step kind s && is_valid Count (named trees k) && is_valid Count (named trees n) && is_valid Count (named trees r)) _
      h).0)).0)).0

  -- the term of a valid step
  pub term_valid : (s : MiniStep) → IsTrue (is_valid_step kind (step_of trees s)) → IsTrue (is_valid_term kind (term_of trees s.term))
  term_valid s v = fold_start (changed trees) (λ s. IsTrue (is_valid_step kind s)) (λ c. Unit {0}) step_before (λ s c h. tt)
      (tree.begins (term_of trees s.term)) s.changes.items v

  -- the parts of a valid element that plays a step
  pub played_valid : (s : MiniStep) (weight count : Option Number) → IsTrue (is_valid_element kind (element_of trees (Played s weight count)))
      → IsTrue (is_valid_step kind (step_of trees s)) × IsTrue (is_weight_or_none weight) × IsTrue (is_count_or_none count)
  played_valid s weight count v =
      let p = is_valid_step kind (step_of trees s) in (
        (and_three p (is_weight_or_none weight) (is_count_or_none count) v).0,
        (and_three p (is_weight_or_none weight) (is_count_or_none count) v).1,
        (and_parts (p && is_weight_or_none weight) (is_count_or_none count) v).1,
      )

  braces_start : (bs : tree.Braces) (ids : List NestId) → IsTrue (is_valid_braces kind (fold (λ bs id. tree.brace bs (named trees id)) bs ids))
      → IsTrue (is_valid_braces kind bs)
  braces_start bs ids v = fold_start (λ bs id. tree.brace bs (named trees id)) (λ bs. IsTrue (is_valid_braces kind bs)) (λ id. Unit {0})
      (λ bs id h. (and_parts (is_valid_braces kind bs) _ h).0) (λ bs id h. tt) bs ids v

  -- the first of valid braces
  brace_valid : (id : NestId) (ids : List NestId) → IsTrue (is_valid_braces kind (braces_of trees (id ∷ ids))) → IsTrue (is_valid kind (named trees id))
  brace_valid id ids v = braces_start (tree.brace tree.no_brace (named trees id)) ids v

  -- the braces of a valid operand
  pub braces_valid : (braces : List NestId) (last : Last) → IsTrue (is_valid_operand kind (operand_with trees (braces_of trees braces) last))
      → IsTrue (is_valid_braces kind (braces_of trees braces))
  braces_valid braces (last.Number n) v = (and_parts (is_valid_braces kind (braces_of trees braces)) _ v).0
  braces_valid braces (last.Nest shape id) v = (and_parts (is_valid_braces kind (braces_of trees braces)) _ v).0

  -- the first brace of a valid operand
  pub first_valid : (ids braces : List NestId) (last : Last) (d : NestId) → braces ≡ ids → 1 ≤ length ids
      → IsTrue (is_valid_operand kind (operand_with trees (braces_of trees braces) last)) → IsTrue (is_valid kind (named trees (get_or ids 0 d)))
  first_valid [] braces last d e h v = absurd (omega arith)
  first_valid (id ∷ ids) braces last d e h v =
      let P : List NestId → Type 0 = λ bs. IsTrue (is_valid_braces kind (braces_of trees bs)) in
      brace_valid id ids (subst P e (braces_valid braces last v))

  -- the parts as a loop reads them
  pub sequence_at : (sequences read : List Sequence) (i : ℕ) (s : Sequence) → read ≡ sequences → i < length read → s ≡ get_or read i s
      → IsTrue (is_valid kind (layers_of trees sequences)) → IsTrue (is_valid_sequence kind (sequence_of trees s.groups.items))
  sequence_at sequences read i s e h is v =
      let P : List Sequence → Type 0 = λ xs. IsTrue (is_valid kind (layers_of trees xs)) in
      let Q : Sequence → Type 0 = λ x. IsTrue (is_valid_sequence kind (sequence_of trees x.groups.items)) in
      subst Q (sym is) (sequences_valid read (subst P (sym e) v) i s h)

  pub group_at : (groups read : List Group) (i : ℕ) (g : Group) → read ≡ groups → i < length read → g ≡ get_or read i g
      → IsTrue (is_valid_sequence kind (sequence_of trees groups)) → IsTrue (is_valid_group kind (group_of trees g.elements.items))
  group_at groups read i g e h is v =
      let P : List Group → Type 0 = λ xs. IsTrue (is_valid_sequence kind (sequence_of trees xs)) in
      let Q : Group → Type 0 = λ x. IsTrue (is_valid_group kind (group_of trees x.elements.items)) in
      subst Q (sym is) (groups_valid read (subst P (sym e) v) i g h)

  pub few_groups : (groups read : List Group) → read ≡ groups → IsTrue (is_valid_sequence kind (sequence_of trees groups)) → length read ≤ 1024
  few_groups groups read e v =
      let P : List Group → Type 0 = λ xs. IsTrue (is_valid_sequence kind (sequence_of trees xs)) in
      rw (sym (groups_length read)) (groups_few kind (sequence_of trees read) (subst P (sym e) v))

  pub element_at : (elements read : List Element) (i : ℕ) (x : Element) → read ≡ elements → i < length read → x ≡ get_or read i x
      → IsTrue (is_valid_group kind (group_of trees elements)) → IsTrue (is_valid_element kind (element_of trees x))
  element_at elements read i x e h is v =
      let P : List Element → Type 0 = λ xs. IsTrue (is_valid_group kind (group_of trees xs)) in
      let Q : Element → Type 0 = λ y. IsTrue (is_valid_element kind (element_of trees y)) in
      subst Q (sym is) (elements_valid read (subst P (sym e) v) i x h)

  -- the term of an element that plays a step
  pub played_term : (x : Element) (s : MiniStep) (weight count : Option Number) (term : Term) → x ≡ Played s weight count → s.term ≡ term
      → IsTrue (is_valid_element kind (element_of trees x)) → IsTrue (is_valid_term kind (term_of trees term))
  played_term x s weight count term is at v =
      let P : Element → Type 0 = λ y. IsTrue (is_valid_element kind (element_of trees y)) in
      let Q : Term → Type 0 = λ t. IsTrue (is_valid_term kind (term_of trees t)) in
      subst Q at (term_valid s (played_valid s weight count (subst P is v)).0)
