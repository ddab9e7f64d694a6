-- Operands: their first braces, and those whose factors come after them.
use Rattle.std.proofs.Common.{◌≡◌, ℕ, List, [], ◌∷◌, ◌++◌, map, refl, sym, ap, ◌∙◌, append_assoc, append-nil}
use Rattle.std.specs.List.{fold}
use Rattle.std.proofs.lemmas.List.Sums.{fold-append}
use Rattle.tdl_mini_tree.specs.declared.leaves.Number.{Number as Numeral}
use Rattle.tdl_mini_tree.specs.declared.leaves.Bracket.{Bracket}
use Rattle.tdl_mini_tree.specs.declared.tree.NestId.{NestId}
use Rattle.tdl_mini_tree.specs.declared.tree.Last.{Last}
use Rattle.tdl_mini_tree.specs.declared.tree.Last.TheVariants.{Number, Nest}
use Rattle.tdl_mini_tree.specs.Numbers.{number_value}
use Rattle.tdl_mini_tree.specs.Values.{values_of}
use Rattle.tdl_mini_tree.specs.View.{named, operand_with, braces_of}
use Rattle.tdl_mini_tree.specs.Tree as tree
use Rattle.tdl_rows.specs.Built.{Built, kept, ◌▸◌}
use Rattle.tdl_rows.specs.Joined.{Argument, picked, choose}
use Rattle.tdl_mini_rows.specs.Leaves.{Play, distinct}
use Rattle.tdl_mini_rows.specs.Lowered.{in_turn, at_pace, finish_of, stacked, selected, selecting, at_factor, indices_of, paced_stack, layers_built}
use Rattle.tdl_mini_rows.specs.Lowered.{operand_built, braces_built, factor_built, factors_built}
use Rattle.tdl_mini_rows.specs.inside.Waits.{Wait, and_wait, waits_built, back}

pub first_then : tree.Layers → tree.Braces → tree.Braces
first_then l tree.no_brace = tree.brace tree.no_brace l
first_then l (tree.brace bs x) = tree.brace (first_then l bs) x

same_built : {V : Type 0} (v : V) (a b : List ℕ) → a ≡ b → (let x : Built V = record { value = v; rows = a } in x) ≡
    (let y : Built V = record { value = v; rows = b } in y)
same_built {V = V} v a b e = let make : List ℕ → Built V = λ ns. record { value = v; rows = ns } in ap make e

assoc : {A B C : Type 0} (x : Built A) (f : A → Built B) (g : B → Built C) → ((x ▸ f) ▸ g) ≡ (x ▸ λ v. f v ▸ g)
assoc x f g = same_built (g (f x.value).value).value _ _ (append_assoc x.rows (f x.value).rows (g (f x.value).value).rows)

back_last : (ws : List Wait) (w : Wait) (a : Argument) → back (ws ++ w ∷ []) a ≡ (choose a (paced_stack w.sequences) ▸ λ t. back ws (picked t w.values))
back_last [] w a = refl
back_last (v ∷ ws) w a =
    ap (λ (b : Built Argument). b ▸ λ argument. choose argument (paced_stack v.sequences) ▸ λ t. kept (picked t v.values)) (back_last ws w a)
    ∙ assoc (choose a (paced_stack w.sequences)) (λ t. back ws (picked t w.values))
    (λ argument. choose argument (paced_stack v.sequences) ▸ λ t. kept (picked t v.values))

-- braces with a factor, all sequences first
abbrev pub all_back : Built (List Wait) → Built Argument → Built Argument
all_back waits factor = waits ▸ λ ws. factor ▸ λ a. back ws a

five : (w l f c b : List ℕ) → w ++ (((l ++ (f ++ c)) ++ []) ++ b) ≡ (w ++ (l ++ [])) ++ (f ++ (c ++ b))
five w l f c b = simp (append_assoc, append-nil)

one_wait : (waits : Built (List Wait)) (x : tree.Layers) (factor : Built Argument)
    → all_back waits (selecting x (at_factor (layers_built (indices_of x) in_turn x) factor)) ≡ all_back (and_wait waits x) factor
one_wait waits x factor =
    let ss = layers_built (indices_of x) in_turn x in
    let w : Wait = record { sequences = ss.value; values = distinct (values_of x) } in
    let c = choose factor.value (paced_stack ss.value) in
    let last = back waits.value (picked c.value (distinct (values_of x))) in
    same_built last.value _ _ (five waits.rows ss.rows factor.rows c.rows last.rows)
    ∙ ap (λ (b : Built Argument). and_wait waits x ▸ λ ws. factor ▸ λ a. b) (sym (back_last waits.value w factor.value))

module _ (trees : List tree.Layers) where
  abbrev and_brace : tree.Braces → NestId → tree.Braces
  and_brace bs id = tree.brace bs (named trees id)

  factors_from : (bs : tree.Braces) (waits : Built (List Wait)) → ((factor : Built Argument) → factors_built bs factor ≡ all_back waits factor)
      → (ids : List NestId) (factor : Built Argument) → factors_built (fold and_brace bs ids) factor ≡ all_back
      (fold and_wait waits (map (named trees) ids)) factor
  unfolding layers_built
  factors_from bs waits before [] factor = before factor
  factors_from bs waits before (id ∷ ids) factor =
      factors_from (and_brace bs id) (and_wait waits (named trees id))
      (λ other. before (selecting (named trees id) (at_factor (layers_built (indices_of (named trees id)) in_turn (named trees id)) other))
      ∙ one_wait waits (named trees id) other) ids factor

  none_wait : (factor : Built Argument) → factor ≡ all_back (kept []) factor
  none_wait factor = same_built factor.value _ _ (sym (append-nil factor.rows))

  pub factors_waits : (ids : List NestId) (factor : Built Argument)
      → factors_built (braces_of trees ids) factor ≡ all_back (waits_built (map (named trees) ids)) factor
  unfolding layers_built
  factors_waits ids factor = factors_from tree.no_brace (kept []) none_wait ids factor

  pub nested_waits : (ids : List NestId) (last : Last) (kind : Bracket) (nest : NestId) → last ≡ Nest kind nest
      → factor_built (operand_with trees (braces_of trees ids) last) ≡ all_back (waits_built (map (named trees) ids))
      (selected (named trees nest) (layers_built (indices_of (named trees nest)) (finish_of kind (named trees nest)) (named trees nest)))
  unfolding layers_built
  nested_waits ids last kind nest e = ap (λ (l : Last). factor_built (operand_with trees (braces_of trees ids) l)) e ∙ factors_waits ids _

  pub scaled_waits : (ids outer : List NestId) (inner : NestId) (last : Last) (n : Numeral) → last ≡ Number n → ids ≡ outer ++ inner ∷ []
      → factor_built (operand_with trees (braces_of trees ids) last) ≡ all_back (waits_built (map (named trees) outer))
      (selected (named trees inner) (layers_built (indices_of (named trees inner)) (at_pace (number_value n)) (named trees inner)))
  unfolding layers_built
  scaled_waits ids outer inner last n e split =
      ap (λ (l : Last). factor_built (operand_with trees (braces_of trees ids) l)) e
      ∙ (ap (λ (bs : tree.Braces). factor_built (tree.scaled bs n)) (ap (braces_of trees) split ∙ fold-append and_brace tree.no_brace outer (inner ∷ []))
      ∙ factors_waits outer _)

  fold_first : (l : tree.Layers) (bs : tree.Braces) (ids : List NestId) → fold and_brace (first_then l bs) ids ≡ first_then l (fold and_brace bs ids)
  unfolding first_then
  fold_first l bs [] = refl
  fold_first l bs (id ∷ ids) = fold_first l (and_brace bs id) ids

  abbrev further : tree.Layers → Built Argument → Built Argument
  further x factor = selecting x (at_factor (layers_built (indices_of x) in_turn x) factor)

  abbrev last_factor : Bracket → NestId → Built Argument
  last_factor kind nest = selected (named trees nest) (layers_built (indices_of (named trees nest)) (finish_of kind (named trees nest)) (named trees nest))

  module _ (play : Play) (l : tree.Layers) where
    braces_first : (bs : tree.Braces) (factor : Built Argument)
        → braces_built play (first_then l bs) factor ≡ at_factor (layers_built play in_turn l) (factors_built bs factor)
    unfolding layers_built first_then
    braces_first tree.no_brace factor = refl
    braces_first (tree.brace tree.no_brace x) factor = braces_first tree.no_brace (further x factor)
    braces_first (tree.brace (tree.brace bs y) x) factor = braces_first (tree.brace bs y) (further x factor)

    first_of : (bs : tree.Braces) (x : tree.Layers) (last : Last)
        → operand_built play (operand_with trees (first_then l (tree.brace bs x)) last) ≡ at_factor (layers_built play in_turn l)
        (factor_built (operand_with trees (tree.brace bs x) last))
    unfolding layers_built first_then
    first_of tree.no_brace x (Number n) = braces_first tree.no_brace (selected x (layers_built (indices_of x) (at_pace (number_value n)) x))
    first_of (tree.brace bs y) x (Number n) = braces_first (tree.brace bs y) (selected x (layers_built (indices_of x) (at_pace (number_value n)) x))
    first_of tree.no_brace x (Nest kind nest) = braces_first (tree.brace tree.no_brace x) (last_factor kind nest)
    first_of (tree.brace bs y) x (Nest kind nest) = braces_first (tree.brace (tree.brace bs y) x) (last_factor kind nest)

    first_on : (bs : tree.Braces) (x : tree.Layers) (ids : List NestId) (last : Last)
        → operand_built play (operand_with trees (first_then l (fold and_brace (tree.brace bs x) ids)) last) ≡ at_factor (layers_built play in_turn l)
        (factor_built (operand_with trees (fold and_brace (tree.brace bs x) ids) last))
    first_on bs x [] last = first_of bs x last
    first_on bs x (id ∷ ids) last = first_on (tree.brace bs x) (named trees id) ids last

    first_alone : (kind : Bracket) (nest : NestId) → operand_built play (operand_with trees (tree.brace tree.no_brace l) (Nest kind nest)) ≡ at_factor
        (layers_built play in_turn l) (factor_built (operand_with trees tree.no_brace (Nest kind nest)))
    unfolding layers_built
    first_alone kind nest = refl

    first_cases : (others : List NestId) (last : Last) → ((n : Numeral) → last ≡ Number n → others ≡ [] → ⊥)
        → operand_built play (operand_with trees (first_then l (braces_of trees others)) last) ≡ at_factor (layers_built play in_turn l)
        (factor_built (operand_with trees (braces_of trees others) last))
    unfolding first_then
    first_cases [] (Number n) h = absurd (h n refl refl)
    first_cases [] (Nest kind nest) h = first_alone kind nest
    first_cases (id ∷ ids) last h = first_on tree.no_brace (named trees id) ids last

  -- the first of several braces, whose factor is chosen
  pub operand_chosen : (play : Play) (ids : List NestId) (first : NestId) (others : List NestId) (last : Last) → ids ≡ first ∷ others
      → ((n : Numeral) → last ≡ Number n → others ≡ [] → ⊥) → at_factor (layers_built play in_turn (named trees first))
      (factor_built (operand_with trees (braces_of trees others) last)) ≡ operand_built play (operand_with trees (braces_of trees ids) last)
  unfolding first_then
  operand_chosen play ids first others last e h =
      sym (first_cases play (named trees first) others last h)
      ∙ ap (λ (bs : tree.Braces). operand_built play (operand_with trees bs last))
      (sym (ap (braces_of trees) e ∙ fold_first (named trees first) tree.no_brace others))

  -- one brace with a number
  pub operand_paced : (play : Play) (ids : List NestId) (first : NestId) (others : List NestId) (last : Last) (n : Numeral) → ids ≡ first ∷ others
      → others ≡ [] → last ≡ Number n → stacked (layers_built play (at_pace (number_value n)) (named trees first)) ≡ operand_built play
      (operand_with trees (braces_of trees ids) last)
  unfolding layers_built
  operand_paced play ids first others last n e f g =
      sym (ap (λ (is : List NestId). operand_built play (operand_with trees (braces_of trees is) last)) (e ∙ ap (λ (os : List NestId). first ∷ os) f)
      ∙ ap (λ (l : Last). operand_built play (operand_with trees (tree.brace tree.no_brace (named trees first)) l)) g)

  pub operand_nested : (play : Play) (ids : List NestId) (last : Last) (kind : Bracket) (nest : NestId) → ids ≡ [] → last ≡ Nest kind nest
      → stacked (layers_built play (finish_of kind (named trees nest)) (named trees nest)) ≡ operand_built play
      (operand_with trees (braces_of trees ids) last)
  unfolding layers_built
  operand_nested play ids last kind nest e f =
      sym (ap (λ (is : List NestId). operand_built play (operand_with trees (braces_of trees is) last)) e
      ∙ ap (λ (l : Last). operand_built play (operand_with trees tree.no_brace l)) f)
