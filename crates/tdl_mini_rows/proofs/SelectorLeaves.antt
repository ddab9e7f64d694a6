-- The leaves of a selector: each is the index of a number among those that the text plays.
use Rattle.std.proofs.Common.{Bool, true, ◌&&◌, ℤ, pos, negsuc, Some, None, List, [], ◌∷◌, ◌++◌, map, length, IsTrue, sym, ◌∙◌}
use Rattle.std.specs.List.{fold, list_all}
use Rattle.std.proofs.lemmas.Bool.{and_parts, ltb-true}
use Rattle.std.proofs.lemmas.List.Folds.{list_all-append}
use Rattle.tdl_control.specs.declared.leaves.Leaf.{Leaf}
use Rattle.tdl_fraction.specs.Rational.{Rational, whole}
use Rattle.tdl_mini_tree.specs.declared.leaves.Kind.TheVariants.{Count, Ratio}
use Rattle.tdl_mini_tree.specs.Numbers.{number_value}
use Rattle.tdl_mini_tree.specs.Sizes.{times_of, weight_of}
use Rattle.tdl_mini_tree.specs.Tree as tree
use Rattle.tdl_mini_tree.specs.Valid.{is_factor, is_value, is_weight_or_none, is_count_or_none, is_valid, is_valid_sequence, is_valid_group, is_valid_element}
use Rattle.tdl_mini_tree.specs.Valid.{is_valid_step, is_valid_term, is_valid_operand, is_valid_braces}
use Rattle.tdl_mini_tree.specs.Values.{range_of, value_number, values_of, sequence_values, group_values, element_values, step_values, term_values}
use Rattle.tdl_mini_tree.specs.Values.{operand_values, braces_values, is_accepted, is_accepted_from}
use Rattle.tdl_rows.specs.Built.{Built, kept}
use Rattle.tdl_rows.specs.Joined.{Weighted, Argument, fast_of, slow_of}
use Rattle.tdl_mini_rows.specs.Leaves.{Play, distinct, index_leaf, integer_value}
use Rattle.tdl_mini_rows.specs.Lowered.{Finish, laid, in_turn, at_pace, finish_of, stacked, paced_stack, and_number, parts_of, indices_of, argument_of}
use Rattle.tdl_mini_rows.specs.Lowered.{layers_built, sequence_built, groups_built, group_built, element_built, step_built, term_built, operand_built}
use Rattle.tdl_mini_rows.specs.Lowered.{braces_built, factor_built}
use Rattle.tdl_rows.specs.Arguments.{Plays, IsIndexBelow}
use Rattle.tdl_mini_tree.proofs.ValidParts.{and_three, and_four, layer_parts, group_parts, element_parts}
use Rattle.tdl_mini_rows.proofs.DistinctValues.{is_among, among_distinct}
use Rattle.tdl_rows.proofs.MadeLeaves.{EachPlays, timecat-plays, fast-plays, slow-plays, choose-plays}
use Rattle.tdl_mini_rows.proofs.BuiltLeaves.{Joining, plays-append, plays-copies, plays-longer, plays-again, stacked-plays}
use Rattle.tdl_mini_rows.proofs.BuiltLeaves.{paced_stack-plays, rhythms-play, rhythms-play-from, joining-in_turn, joining-at_pace}
use Rattle.tdl_mini_rows.proofs.BuiltLeaves.{joining-finish}

both : {X : Type 0} (p : X → Bool) (xs ys : List X) → IsTrue (list_all p (xs ++ ys)) → IsTrue (list_all p xs) × IsTrue (list_all p ys)
both p xs ys h = and_parts (list_all p xs) (list_all p ys) (sym (list_all-append p xs ys) ∙ h)

module _ (numbers : List Rational) where
  abbrev play : Play
  play = index_leaf numbers

  abbrev P : Leaf → Type 0
  P = IsIndexBelow (length numbers)

  abbrev Among : List Rational → Type 0
  Among values = IsTrue (list_all (is_among numbers) values)

  value-plays : (v : tree.Value) → IsTrue (is_value Ratio v) → Among (value_number v) → P (play v)
  value-plays (tree.sound text None) v h = (cc)
  value-plays (tree.sound text (Some n)) v h = (cc)
  value-plays (tree.name text) v h = (cc)
  value-plays (tree.note n) v h = (cc)
  value-plays (tree.truth b) v h = (cc)
  value-plays (tree.number n) v h = ltb-true _ _ (and_parts (is_among numbers (number_value n)) true h).0

  integer-plays : (n : ℤ) → IsTrue (is_among numbers (whole n)) → P (play (integer_value n))
  unfolding whole
  integer-plays (pos n) h = ltb-true _ _ h
  integer-plays (negsuc n) h = ltb-true _ _ h

  numbers-play : (b : Built (List Weighted)) (ns : List ℤ) → EachPlays P b.value → Among (map whole ns) → EachPlays P (fold (and_number play) b ns).value
  numbers-play b [] p h = p
  numbers-play b (n ∷ ns) p h =
      let (first, rest) = and_parts (is_among numbers (whole n)) (list_all (is_among numbers) (map whole ns)) h in
      numbers-play (and_number play b n) ns (plays-append P b.value _ p (integer-plays n first, tt)) rest

  mutual
    unfolding layers_built

    pub layers-play : (finish : Finish) → Joining P finish → (ls : tree.Layers) → IsTrue (is_valid Ratio ls) → Among (values_of ls)
        → EachPlays P (layers_built play finish ls).value
    layers-play finish joining tree.no_layer v h = tt
    layers-play finish joining (tree.layer ls s) v h =
        let (before, item) = layer_parts Ratio ls s v in
        let (first, last) = both (is_among numbers) (values_of ls) (sequence_values s) h in
        plays-append P (layers_built play finish ls).value _ (layers-play finish joining ls before first)
        (joining (parts_of s) (sequence_built play s).value (sequence-plays s item last), tt)

    sequence-plays : (s : tree.Sequence) → IsTrue (is_valid_sequence Ratio s) → Among (sequence_values s) → EachPlays P (sequence_built play s).value
    sequence-plays tree.no_group v h = tt
    sequence-plays (tree.group tree.no_group g) v h = group-plays g (group_parts Ratio tree.no_group g v).1 h
    sequence-plays (tree.group (tree.group s i) g) v h =
        let (before, item) = group_parts Ratio (tree.group s i) g v in
        let (first, last) = both (is_among numbers) (sequence_values (tree.group s i)) (group_values g) h in
        plays-append P (groups_built play (tree.group s i)).value _ (groups-play (tree.group s i) before first)
        (timecat-plays P _ (group-plays g item last), tt)

    groups-play : (s : tree.Sequence) → IsTrue (is_valid_sequence Ratio s) → Among (sequence_values s) → EachPlays P (groups_built play s).value
    groups-play tree.no_group v h = tt
    groups-play (tree.group s g) v h =
        let (before, item) = group_parts Ratio s g v in
        let (first, last) = both (is_among numbers) (sequence_values s) (group_values g) h in
        plays-append P (groups_built play s).value _ (groups-play s before first) (timecat-plays P _ (group-plays g item last), tt)

    group-plays : (g : tree.Group) → IsTrue (is_valid_group Ratio g) → Among (group_values g) → EachPlays P (group_built play g).value
    group-plays tree.no_element v h = tt
    group-plays (tree.element g e) v h =
        let (before, item) = element_parts Ratio g e v in
        let (first, last) = both (is_among numbers) (group_values g) (element_values e) h in
        element-plays (group_built play g).value e (group-plays g before first) item last

    element-plays : (ss : List Weighted) (e : tree.Element) → EachPlays P ss → IsTrue (is_valid_element Ratio e) → Among (element_values e)
        → EachPlays P (element_built play ss e).value
    element-plays ss (tree.played s weight times) p v h =
        let (item, some, count) = and_three (is_valid_step Ratio s) (is_weight_or_none weight) (is_count_or_none times) v in
        plays-append P ss _ p (plays-copies P (times_of times) (laid (weight_of weight) (step_built play s).value) (step-plays s item h))
    element-plays ss (tree.range a b) p v h = numbers-play (kept ss) (range_of a b) p h
    element-plays ss tree.hold p v h = plays-longer P ss p
    element-plays ss tree.repeat p v h = plays-again P ss p

    step-plays : (s : tree.MiniStep) → IsTrue (is_valid_step Ratio s) → Among (step_values s) → Plays P (step_built play s).value
    step-plays (tree.begins t) v h = term-plays t v h
    step-plays (tree.fast s o) v h =
        let before = (and_parts (is_valid_step Ratio s) (is_valid_operand Ratio o) v).0 in
        choose-plays P (factor_built o).value (λ r. fast_of r (step_built play s).value) (λ r. fast-plays P r (step_built play s).value (step-plays s before h))
    step-plays (tree.slow s o) v h =
        let before = (and_parts (is_valid_step Ratio s) (is_valid_operand Ratio o) v).0 in
        choose-plays P (factor_built o).value (λ r. slow_of r (step_built play s).value) (λ r. slow-plays P r (step_built play s).value (step-plays s before h))
    step-plays (tree.euclid s k n) v h =
        let before = (and_four (is_valid_step Ratio s) (is_valid Count k) (is_valid Count n) (is_accepted (values_of k) (values_of n)) v).0 in
        rhythms-play P (argument_of k).value (argument_of n).value (step_built play s).value (whole (pos 0)) (step-plays s before h)
    step-plays (tree.euclid_from s k n r) v h =
        let counts = is_valid_step Ratio s && is_valid Count k && is_valid Count n && is_valid Count r in
        let all = (and_parts counts (is_accepted_from (values_of k) (values_of n) (values_of r)) v).0 in
        let before = (and_four (is_valid_step Ratio s) (is_valid Count k) (is_valid Count n) (is_valid Count r) all).0 in
        rhythms-play-from P (argument_of k).value (argument_of n).value (argument_of r).value (step_built play s).value (step-plays s before h)

    term-plays : (t : tree.Term) → IsTrue (is_valid_term Ratio t) → Among (term_values t) → Plays P (term_built play t).value
    term-plays (tree.value x) v h = value-plays x v h
    term-plays tree.rest v h = tt
    term-plays (tree.bracketed o) v h = operand-plays o v h

    operand-plays : (o : tree.Operand) → IsTrue (is_valid_operand Ratio o) → Among (operand_values o) → Plays P (operand_built play o).value
    operand-plays (tree.scaled tree.no_brace n) v h = tt
    operand-plays (tree.scaled (tree.brace tree.no_brace ls) n) v h =
        let item = (and_parts (is_valid Ratio ls) (is_factor n) v).0 in
        stacked-plays P _ (layers-play (at_pace (number_value n)) (joining-at_pace P (number_value n)) ls item h)
    operand-plays (tree.scaled (tree.brace (tree.brace bs first) ls) n) v h =
        let all = (and_parts (is_valid_braces Ratio (tree.brace (tree.brace bs first) ls)) (is_factor n) v).0 in
        braces-plays (tree.brace bs first) _ (and_parts (is_valid_braces Ratio (tree.brace bs first)) (is_valid Ratio ls) all).0 h
    operand-plays (tree.nested tree.no_brace shape ls) v h = stacked-plays P _ (layers-play (finish_of shape ls) (joining-finish P shape ls) ls v h)
    operand-plays (tree.nested (tree.brace bs first) shape ls) v h =
        braces-plays (tree.brace bs first) _ (and_parts (is_valid_braces Ratio (tree.brace bs first)) (is_valid Ratio ls) v).0 h

    braces-plays : (bs : tree.Braces) (factor : Built Argument) → IsTrue (is_valid_braces Ratio bs) → Among (braces_values bs)
        → Plays P (braces_built play bs factor).value
    braces-plays tree.no_brace factor v h = tt
    braces-plays (tree.brace tree.no_brace ls) factor v h =
        let ss = (layers_built play in_turn ls).value in
        choose-plays P factor.value (paced_stack ss) (λ r. paced_stack-plays P ss r (layers-play in_turn (joining-in_turn P) ls v h))
    braces-plays (tree.brace (tree.brace bs first) ls) factor v h =
        braces-plays (tree.brace bs first) _ (and_parts (is_valid_braces Ratio (tree.brace bs first)) (is_valid Ratio ls) v).0 h

-- a selector plays indices below the number of its choices
pub selector-indices : (ls : tree.Layers) → IsTrue (is_valid Ratio ls)
    → Plays (IsIndexBelow (length (distinct (values_of ls)))) (stacked (layers_built (indices_of ls) in_turn ls)).value
selector-indices ls v =
    let numbers = distinct (values_of ls) in
    let P = IsIndexBelow (length numbers) in
    stacked-plays P _ (layers-play numbers in_turn (joining-in_turn P) ls v (among_distinct (values_of ls)))
