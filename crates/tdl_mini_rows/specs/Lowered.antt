-- The trees that texts become, and the rows that are pushed for them, from left to right and children before
-- parents.
--     lowered              the tree of a text of a kind
--     argument_of          the argument that a text is
use Rattle.std.specs.Prelude.{ℕ, ◌+◌, ◌*◌, Bool, ◌==◌, if◌then◌else◌, ℤ, pos, ◌*ℤ◌, Option, Some, None, List, [], ◌∷◌, ◌++◌, map, replicate}
use Rattle.std.specs.List.{fold, list_all}
use Rattle.tdl_fraction.specs.Rational.{Rational, frac, whole}
use Rattle.tdl_expr.specs.Tree.{Tree, Silence, Pure}
use Rattle.tdl_mini_tree.specs.declared.leaves.Bracket.{Bracket}
use Rattle.tdl_mini_tree.specs.declared.leaves.Bracket.TheVariants.{Square, Angle, Brace}
use Rattle.tdl_mini_tree.specs.declared.leaves.Kind.{Kind}
use Rattle.tdl_mini_tree.specs.declared.leaves.Number.{Number}
use Rattle.tdl_mini_tree.specs.Numbers.{number_value}
use Rattle.tdl_mini_tree.specs.Sizes.{unit, size_of, weight_of, times_of, groups_of}
use Rattle.tdl_mini_tree.specs.Values.{values_of, range_of}
use Rattle.tdl_mini_tree.specs.Tree as tree
use Rattle.tdl_mini_rows.specs.Leaves.{Play, leaf_of, distinct, index_leaf, integer_value}
use Rattle.tdl_rows.specs.Built.{Built, kept, one_row, ◌▸◌, each}
use Rattle.tdl_rows.specs.Joined.{Weighted, tree_of, weight_of_parts, stack_of, cat_of, timecat_of, fast_of, slow_of}
use Rattle.tdl_rows.specs.Joined.{Argument, plain, picked, choose, euclid_of}

abbrev pub longer_last : List Weighted → List Weighted
longer_last [] = []
longer_last (s ∷ []) = record { parts = s.parts + unit; tree = s.tree } ∷ []
longer_last (s ∷ t ∷ others) = s ∷ longer_last (t ∷ others)

abbrev pub and_last : List Weighted → List Weighted
and_last [] = []
and_last (s ∷ []) = s ∷ s ∷ []
and_last (s ∷ t ∷ others) = s ∷ and_last (t ∷ others)

-- how many cycles the steps of a sequence last, in ten-thousandths: the sum of the weights, or the number of
-- groups where there are several
abbrev pub parts_of : tree.Sequence → ℕ
parts_of tree.no_group = 0
parts_of (tree.group tree.no_group g) = (size_of g).sum
parts_of (tree.group (tree.group s h) g) = groups_of (tree.group (tree.group s h) g) * unit

-- a tree that lasts so long
abbrev pub laid : ℕ → Tree → Weighted
laid parts t = record { parts = parts; tree = t }

-- a rate over so many ten-thousandths
abbrev pub over_parts : Rational → ℕ → Rational
over_parts rate parts = frac (rate.num *ℤ pos unit) (rate.den * parts)

-- at so many steps in a cycle; without steps it stays
abbrev pub paced : Rational → Weighted → Built Tree
paced rate s = if s.parts == 0 then kept s.tree else fast_of (over_parts rate s.parts) s.tree

abbrev pub first_parts : tree.Layers → ℕ
first_parts tree.no_layer = 0
first_parts (tree.layer tree.no_layer s) = parts_of s
first_parts (tree.layer (tree.layer ls t) s) = first_parts (tree.layer ls t)

abbrev pub is_even : List Weighted → Bool
is_even steps = list_all (λ s. s.parts == unit) steps

-- how the steps of a sequence, which last so long, are joined
abbrev pub Finish : Type 0
Finish = ℕ → List Weighted → Built Tree

abbrev pub in_turn : Finish
in_turn parts steps = timecat_of steps

abbrev pub at_pace : Rational → Finish
at_pace rate parts steps = timecat_of steps ▸ λ t. paced rate (laid parts t)

-- a step a cycle
abbrev pub a_cycle_each : Finish
a_cycle_each parts steps = if is_even steps then cat_of (map tree_of steps) else at_pace (whole (pos 1)) parts steps

abbrev pub finish_of : Bracket → tree.Layers → Finish
finish_of Square ls = in_turn
finish_of Angle ls = a_cycle_each
finish_of Brace ls = at_pace (weight_of_parts (first_parts ls))

abbrev pub stacked : Built (List Weighted) → Built Tree
stacked built = built ▸ λ ss. stack_of (map tree_of ss)

-- exactly one number
abbrev pub plain_term : tree.Term → Option Number
plain_term (tree.value (tree.number n)) = Some n
plain_term (tree.value (tree.sound text n)) = None
plain_term (tree.value (tree.name text)) = None
plain_term (tree.value (tree.note n)) = None
plain_term (tree.value (tree.truth b)) = None
plain_term tree.rest = None
plain_term (tree.bracketed o) = None

abbrev pub plain_step : tree.MiniStep → Option Number
plain_step (tree.begins t) = plain_term t
plain_step (tree.fast s o) = None
plain_step (tree.slow s o) = None
plain_step (tree.euclid s k n) = None
plain_step (tree.euclid_from s k n r) = None

abbrev pub plain_element : tree.Element → Option Number
plain_element (tree.played s None None) = plain_step s
plain_element (tree.played s None (Some n)) = None
plain_element (tree.played s (Some w) times) = None
plain_element (tree.range a b) = None
plain_element tree.hold = None
plain_element tree.repeat = None

abbrev pub plain_group : tree.Group → Option Number
plain_group tree.no_element = None
plain_group (tree.element tree.no_element e) = plain_element e
plain_group (tree.element (tree.element g d) e) = None

abbrev pub plain_sequence : tree.Sequence → Option Number
plain_sequence tree.no_group = None
plain_sequence (tree.group tree.no_group g) = plain_group g
plain_sequence (tree.group (tree.group s h) g) = None

abbrev pub plain_number : tree.Layers → Option Number
plain_number tree.no_layer = None
plain_number (tree.layer tree.no_layer s) = plain_sequence s
plain_number (tree.layer (tree.layer ls t) s) = None

abbrev pub unless_plain : Option Number → Built Argument → Built Argument
unless_plain (Some n) built = kept (plain (number_value n))
unless_plain None built = built

-- the play of a selector of these layers
abbrev pub indices_of : tree.Layers → Play
indices_of ls = index_leaf (distinct (values_of ls))

-- the argument of a selector with these layers' values
abbrev pub selecting : tree.Layers → Built Tree → Built Argument
selecting ls built = built ▸ λ selector. kept (picked selector (distinct (values_of ls)))

-- the argument whose selector is the stack of these layers' sequences
abbrev pub selected : tree.Layers → Built (List Weighted) → Built Argument
selected ls sequences = selecting ls (stacked sequences)

abbrev pub argument_from : tree.Layers → Built (List Weighted) → Built Argument
argument_from ls sequences = unless_plain (plain_number ls) (selected ls sequences)

-- the stack of sequences that are there, at a chosen pace
abbrev pub paced_stack : List Weighted → Rational → Built Tree
paced_stack ss rate = each (paced rate) ss ▸ λ ts. stack_of ts

-- the sequences of braces, and then their factor, which is chosen
abbrev pub at_factor : Built (List Weighted) → Built Argument → Built Tree
at_factor sequences factor = sequences ▸ λ ss. factor ▸ λ argument. choose argument (paced_stack ss)

-- further steps for whole numbers, each a row of its own
abbrev pub and_number : Play → Built (List Weighted) → ℤ → Built (List Weighted)
and_number play built n = built ▸ λ steps. one_row 0 (Pure (play (integer_value n))) ▸ λ t. kept (steps ++ laid unit t ∷ [])

abbrev pub range_built : Play → List Weighted → List ℤ → Built (List Weighted)
range_built play steps numbers = fold (and_number play) (kept steps) numbers

unfoldable mutual
  -- the sequences of layers, each joined so
  pub layers_built : Play → Finish → tree.Layers → Built (List Weighted)
  layers_built play finish tree.no_layer = kept []
  layers_built play finish (tree.layer ls s) =
      layers_built play finish ls ▸ λ ss.
      sequence_built play s ▸ λ steps.
      finish (parts_of s) steps ▸ λ t.
      kept (ss ++ laid (parts_of s) t ∷ [])

  -- the steps of a sequence: those of its group, or its groups where there are several
  pub sequence_built : Play → tree.Sequence → Built (List Weighted)
  sequence_built play tree.no_group = kept []
  sequence_built play (tree.group tree.no_group g) = group_built play g
  sequence_built play (tree.group (tree.group s h) g) =
      groups_built play (tree.group s h) ▸ λ ts.
      group_built play g ▸ λ steps.
      timecat_of steps ▸ λ t.
      kept (ts ++ laid unit t ∷ [])

  pub groups_built : Play → tree.Sequence → Built (List Weighted)
  groups_built play tree.no_group = kept []
  groups_built play (tree.group s g) = groups_built play s ▸ λ ts. group_built play g ▸ λ steps. timecat_of steps ▸ λ t. kept (ts ++ laid unit t ∷ [])

  pub group_built : Play → tree.Group → Built (List Weighted)
  group_built play tree.no_element = kept []
  group_built play (tree.element g e) = group_built play g ▸ λ steps. element_built play steps e

  -- a repeated step is one row; each number of a range has a row
  pub element_built : Play → List Weighted → tree.Element → Built (List Weighted)
  element_built play steps (tree.played s weight times) = step_built play s ▸ λ t. kept (steps ++ replicate (times_of times) (laid (weight_of weight) t))
  element_built play steps (tree.range a b) = range_built play steps (range_of a b)
  element_built play steps tree.hold = kept (longer_last steps)
  element_built play steps tree.repeat = kept (and_last steps)

  pub step_built : Play → tree.MiniStep → Built Tree
  step_built play (tree.begins t) = term_built play t
  step_built play (tree.fast s o) = step_built play s ▸ λ t. factor_built o ▸ λ factor. choose factor (λ rate. fast_of rate t)
  step_built play (tree.slow s o) = step_built play s ▸ λ t. factor_built o ▸ λ factor. choose factor (λ rate. slow_of rate t)
  step_built play (tree.euclid s k n) =
      step_built play s ▸ λ t.
      argument_from k (layers_built (indices_of k) in_turn k) ▸ λ hits.
      argument_from n (layers_built (indices_of n) in_turn n) ▸ λ steps.
      choose hits (λ k'. choose steps (λ n'. euclid_of t k' n' (whole (pos 0))))
  step_built play (tree.euclid_from s k n r) =
      step_built play s ▸ λ t.
      argument_from k (layers_built (indices_of k) in_turn k) ▸ λ hits.
      argument_from n (layers_built (indices_of n) in_turn n) ▸ λ steps.
      argument_from r (layers_built (indices_of r) in_turn r) ▸ λ from.
      choose hits (λ k'. choose steps (λ n'. choose from (λ r'. euclid_of t k' n' r')))

  pub term_built : Play → tree.Term → Built Tree
  term_built play (tree.value v) = one_row 0 (Pure (play v))
  term_built play tree.rest = one_row 0 Silence
  term_built play (tree.bracketed o) = operand_built play o

  -- an operand as a term; one that begins with a number is none
  pub operand_built : Play → tree.Operand → Built Tree
  operand_built play (tree.scaled tree.no_brace n) = one_row 0 Silence
  operand_built play (tree.scaled (tree.brace tree.no_brace ls) n) = stacked (layers_built play (at_pace (number_value n)) ls)
  operand_built play (tree.scaled (tree.brace (tree.brace bs first) ls) n) =
      braces_built play (tree.brace bs first) (selected ls (layers_built (indices_of ls) (at_pace (number_value n)) ls))
  operand_built play (tree.nested tree.no_brace bracket ls) = stacked (layers_built play (finish_of bracket ls) ls)
  operand_built play (tree.nested (tree.brace bs first) bracket ls) =
      braces_built play (tree.brace bs first) (selected ls (layers_built (indices_of ls) (finish_of bracket ls) ls))

  -- braces whose last has this factor, as a term
  pub braces_built : Play → tree.Braces → Built Argument → Built Tree
  braces_built play tree.no_brace factor = one_row 0 Silence
  braces_built play (tree.brace tree.no_brace ls) factor = at_factor (layers_built play in_turn ls) factor
  braces_built play (tree.brace (tree.brace bs first) ls) factor =
      braces_built play (tree.brace bs first) (selecting ls (at_factor (layers_built (indices_of ls) in_turn ls) factor))

  -- an operand as a factor
  pub factor_built : tree.Operand → Built Argument
  factor_built (tree.scaled tree.no_brace n) = kept (plain (number_value n))
  factor_built (tree.scaled (tree.brace bs ls) n) = factors_built bs (selected ls (layers_built (indices_of ls) (at_pace (number_value n)) ls))
  factor_built (tree.nested bs bracket ls) = factors_built bs (selected ls (layers_built (indices_of ls) (finish_of bracket ls) ls))

  -- braces whose last has this factor, as a factor
  pub factors_built : tree.Braces → Built Argument → Built Argument
  factors_built tree.no_brace factor = factor
  factors_built (tree.brace bs ls) factor = factors_built bs (selecting ls (at_factor (layers_built (indices_of ls) in_turn ls) factor))

abbrev pub lowered : Kind → tree.Layers → Built Tree
lowered kind ls = stacked (layers_built (leaf_of kind) in_turn ls)

abbrev pub argument_of : tree.Layers → Built Argument
argument_of ls = argument_from ls (layers_built (indices_of ls) in_turn ls)
