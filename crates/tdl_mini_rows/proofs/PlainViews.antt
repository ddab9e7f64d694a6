-- Which of the program's trees are one number, and how long sequences last.
use Rattle.std.proofs.Common.{◌≡◌, ℕ, ◌+◌, ◌*◌, ◌≤◌, List, [], ◌∷◌, length, get_or, Some, None, refl, sym, ap, ◌∙◌, arith}
use Rattle.std.specs.List.{fold}
use Rattle.tdl_mini_tree.specs.declared.tree.StepChange.{StepChange}
use Rattle.tdl_mini_tree.specs.declared.tree.StepChange.TheVariants as change
use Rattle.tdl_mini_tree.specs.declared.tree.Element.{Element}
use Rattle.tdl_mini_tree.specs.declared.tree.Group.{Group}
use Rattle.tdl_mini_tree.specs.declared.tree.Sequence.{Sequence}
use Rattle.tdl_mini_tree.specs.Tree as tree
use Rattle.tdl_mini_tree.specs.Sizes.{unit, groups_of}
use Rattle.tdl_mini_tree.specs.View.{changed, group_of, sequence_of, layers_of, element_of}
use Rattle.tdl_mini_rows.specs.Lowered.{plain_step, plain_group, plain_sequence, plain_number, parts_of, first_parts}

module _ (trees : List tree.Layers) where
  one_change : (s : tree.MiniStep) (c : StepChange) → plain_step (changed trees s c) ≡ None
  one_change s (change.Fast o) = refl
  one_change s (change.Slow o) = refl
  one_change s (change.Euclid k n None) = refl
  one_change s (change.Euclid k n (Some r)) = refl

  still_none : (s : tree.MiniStep) (cs : List StepChange) → plain_step s ≡ None → plain_step (fold (changed trees) s cs) ≡ None
  still_none s [] e = e
  still_none s (c ∷ cs) e = still_none (changed trees s c) cs (one_change s c)

  pub changed_none : (s : tree.MiniStep) (cs : List StepChange) → (cs ≡ [] → ⊥) → None ≡ plain_step (fold (changed trees) s cs)
  changed_none s [] h = absurd (h refl)
  changed_none s (c ∷ cs) h = sym (still_none (changed trees s c) cs (one_change s c))

  elements_still : (g : tree.Group) (a b : tree.Element) (es : List Element)
      → plain_group (fold (λ g e. tree.element g (element_of trees e)) (tree.element (tree.element g a) b) es) ≡ None
  elements_still g a b [] = refl
  elements_still g a b (e ∷ es) = elements_still (tree.element g a) b (element_of trees e) es

  elements_none : (es : List Element) → (length es ≡ 1 → ⊥) → None ≡ plain_group (group_of trees es)
  elements_none [] h = refl
  elements_none (e ∷ []) h = absurd (h refl)
  elements_none (e ∷ f ∷ es) h = sym (elements_still tree.no_element (element_of trees e) (element_of trees f) es)

  groups_still : (s : tree.Sequence) (a b : tree.Group) (gs : List Group)
      → plain_sequence (fold (λ s g. tree.group s (group_of trees g.elements.items)) (tree.group (tree.group s a) b) gs) ≡ None
  groups_still s a b [] = refl
  groups_still s a b (g ∷ gs) = groups_still (tree.group s a) b (group_of trees g.elements.items) gs

  pub groups_none : (gs other : List Group) → gs ≡ other → (length gs ≡ 1 → ⊥) → None ≡ plain_sequence (sequence_of trees other)
  groups_none [] other e h = ap (λ (xs : List Group). plain_sequence (sequence_of trees xs)) e
  groups_none (g ∷ []) other e h = absurd (h refl)
  groups_none (g ∷ k ∷ gs) other e h = sym (groups_still tree.no_group (group_of trees g.elements.items) (group_of trees k.elements.items) gs)
      ∙ ap (λ (xs : List Group). plain_sequence (sequence_of trees xs)) e

  -- a group of several elements, or of none
  pub group_none : (gs other : List Group) (g : Group) (es : List Element) (d : Group) → gs ≡ other → length gs ≡ 1 → g ≡ get_or gs 0 d
      → es ≡ g.elements.items → (length es ≡ 1 → ⊥) → None ≡ plain_sequence (sequence_of trees other)
  group_none [] other g es d e one is same h = absurd (omega arith)
  group_none (x ∷ []) other g es d e one is same h =
      elements_none es h
      ∙ (ap (λ (ys : List Element). plain_group (group_of trees ys)) (same ∙ ap (λ (y : Group). y.elements.items) is)
      ∙ ap (λ (xs : List Group). plain_sequence (sequence_of trees xs)) e)
  group_none (x ∷ y ∷ gs) other g es d e one is same h = absurd (omega arith)

  layers_still : (ls : tree.Layers) (a b : tree.Sequence) (ss : List Sequence)
      → plain_number (fold (λ ls s. tree.layer ls (sequence_of trees s.groups.items)) (tree.layer (tree.layer ls a) b) ss) ≡ None
  layers_still ls a b [] = refl
  layers_still ls a b (s ∷ ss) = layers_still (tree.layer ls a) b (sequence_of trees s.groups.items) ss

  pub layers_none : (ss other : List Sequence) → ss ≡ other → (length ss ≡ 1 → ⊥) → None ≡ plain_number (layers_of trees other)
  layers_none [] other e h = ap (λ (xs : List Sequence). plain_number (layers_of trees xs)) e
  layers_none (s ∷ []) other e h = absurd (h refl)
  layers_none (s ∷ t ∷ ss) other e h = sym (layers_still tree.no_layer (sequence_of trees s.groups.items) (sequence_of trees t.groups.items) ss)
      ∙ ap (λ (xs : List Sequence). plain_number (layers_of trees xs)) e

  parts_still : (s : tree.Sequence) (a b : tree.Group) (gs : List Group)
      → parts_of (fold (λ s g. tree.group s (group_of trees g.elements.items)) (tree.group (tree.group s a) b) gs) ≡
      (groups_of (tree.group (tree.group s a) b) + length gs) * unit
  parts_still s a b [] = omega arith
  parts_still s a b (g ∷ gs) = parts_still (tree.group s a) b (group_of trees g.elements.items) gs ∙ omega arith

  -- a sequence of several groups
  pub parts_several : (gs other : List Group) → gs ≡ other → (length gs ≡ 1 → ⊥) → (length gs ≡ 0 → ⊥) → length gs * unit ≡ parts_of (sequence_of trees other)
  parts_several [] other same h k = absurd (k refl)
  parts_several (g ∷ []) other same h k = absurd (h refl)
  parts_several (g ∷ f ∷ gs) other same h k =
      let more : length (g ∷ f ∷ gs) * unit ≡
      (groups_of (tree.group (tree.group tree.no_group (group_of trees g.elements.items)) (group_of trees f.elements.items)) + length gs) * unit =
      omega arith in
      more ∙ (sym (parts_still tree.no_group (group_of trees g.elements.items) (group_of trees f.elements.items) gs)
      ∙ ap (λ (xs : List Group). parts_of (sequence_of trees xs)) same)

  first_still : (ls : tree.Layers) (a : tree.Sequence) (ss : List Sequence)
      → first_parts (fold (λ ls s. tree.layer ls (sequence_of trees s.groups.items)) (tree.layer ls a) ss) ≡ first_parts (tree.layer ls a)
  first_still ls a [] = refl
  first_still ls a (s ∷ ss) = first_still (tree.layer ls a) (sequence_of trees s.groups.items) ss

  -- the first sequence of layers
  pub first_of_layers : (ss other : List Sequence) (s d : Sequence) (n : ℕ) → ss ≡ other → 1 ≤ length ss → s ≡ get_or ss 0 d
      → n ≡ parts_of (sequence_of trees s.groups.items) → n ≡ first_parts (layers_of trees other)
  first_of_layers [] other s d n same some is r = absurd (omega arith)
  first_of_layers (x ∷ ss) other s d n same some is r =
      r ∙ (ap (λ (y : Sequence). parts_of (sequence_of trees y.groups.items)) is
      ∙ (sym (first_still tree.no_layer (sequence_of trees x.groups.items) ss) ∙ ap (λ (xs : List Sequence). first_parts (layers_of trees xs)) same))
