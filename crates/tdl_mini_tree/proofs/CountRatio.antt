-- A valid text of counts is one of ratios.
--     valid_ratio      of layers
use Rattle.std.proofs.Common.{Bool, ◌&&◌, Some, None, IsTrue}
use Rattle.std.proofs.lemmas.Bool.{and_parts, and_from}
use Rattle.tdl_mini_tree.specs.declared.leaves.Number.{Number}
use Rattle.tdl_mini_tree.specs.declared.leaves.Kind.TheVariants.{Count, Ratio}
use Rattle.tdl_mini_tree.specs.Numbers.{is_whole}
use Rattle.tdl_mini_tree.specs.Values.{values_of, is_accepted, is_accepted_from}
use Rattle.tdl_mini_tree.specs.Valid.{is_factor, is_numeral, is_value, is_weight_or_none, is_count_or_none, is_small_sequence, is_light, is_shallow, is_valid}
use Rattle.tdl_mini_tree.specs.Valid.{is_valid_sequence, is_valid_group, is_valid_element, is_valid_step, is_valid_term, is_valid_operand, is_valid_braces}
use Rattle.tdl_mini_tree.specs.Tree as tree

-- the first of some tests in the stage of another
first_of_two : (a b c : Bool) → (IsTrue a → IsTrue b) → IsTrue (a && c) → IsTrue (b && c)
first_of_two a b c f h = let (x, z) = and_parts a c h in and_from b c (f x) z

numeral_ratio : (n : Number) → IsTrue (is_numeral Count n) → IsTrue (is_numeral Ratio n)
numeral_ratio n h = (and_parts (is_whole n) (is_factor n) h).1

value_ratio : (v : tree.Value) → IsTrue (is_value Count v) → IsTrue (is_value Ratio v)
value_ratio (tree.sound text None) h = h
value_ratio (tree.sound text (Some n)) h = h
value_ratio (tree.name text) h = h
value_ratio (tree.note n) h = h
value_ratio (tree.truth b) h = h
value_ratio (tree.number n) h = numeral_ratio n h

mutual
  pub valid_ratio : (ls : tree.Layers) → IsTrue (is_valid Count ls) → IsTrue (is_valid Ratio ls)
  valid_ratio tree.no_layer h = h
  valid_ratio (tree.layer ls s) h =
      let (parts, shallow) = and_parts (is_valid Count ls && is_valid_sequence Count s) (is_shallow (tree.layer ls s)) h in
      let (before, item) = and_parts (is_valid Count ls) (is_valid_sequence Count s) parts in
      and_from (is_valid Ratio ls && is_valid_sequence Ratio s) (is_shallow (tree.layer ls s))
      (and_from (is_valid Ratio ls) (is_valid_sequence Ratio s) (valid_ratio ls before) (sequence_ratio s item)) shallow

  sequence_ratio : (s : tree.Sequence) → IsTrue (is_valid_sequence Count s) → IsTrue (is_valid_sequence Ratio s)
  sequence_ratio tree.no_group h = h
  sequence_ratio (tree.group s g) h =
      let few = is_small_sequence (tree.group s g) in
      let (parts, small) = and_parts (is_valid_sequence Count s && is_valid_group Count g) few h in
      let (before, item) = and_parts (is_valid_sequence Count s) (is_valid_group Count g) parts in
      and_from (is_valid_sequence Ratio s && is_valid_group Ratio g) few
      (and_from (is_valid_sequence Ratio s) (is_valid_group Ratio g) (sequence_ratio s before) (group_ratio g item)) small

  group_ratio : (g : tree.Group) → IsTrue (is_valid_group Count g) → IsTrue (is_valid_group Ratio g)
  group_ratio tree.no_element h = h
  group_ratio (tree.element g e) h =
      let light = is_light (tree.element g e) in
      let (parts, small) = and_parts (is_valid_group Count g && is_valid_element Count e) light h in
      let (before, item) = and_parts (is_valid_group Count g) (is_valid_element Count e) parts in
      and_from (is_valid_group Ratio g && is_valid_element Ratio e) light
      (and_from (is_valid_group Ratio g) (is_valid_element Ratio e) (group_ratio g before) (element_ratio e item)) small

  element_ratio : (e : tree.Element) → IsTrue (is_valid_element Count e) → IsTrue (is_valid_element Ratio e)
  element_ratio (tree.played s weight times) h =
      first_of_two (is_valid_step Count s && is_weight_or_none weight) (is_valid_step Ratio s && is_weight_or_none weight) (is_count_or_none times)
      (first_of_two (is_valid_step Count s) (is_valid_step Ratio s) (is_weight_or_none weight) (step_ratio s)) h
  element_ratio (tree.range a b) h =
      let (first, last) = and_parts (is_numeral Count a) (is_numeral Count b) h in
      and_from (is_numeral Ratio a) (is_numeral Ratio b) (numeral_ratio a first) (numeral_ratio b last)
  element_ratio tree.hold h = h
  element_ratio tree.repeat h = h

  step_ratio : (s : tree.MiniStep) → IsTrue (is_valid_step Count s) → IsTrue (is_valid_step Ratio s)
  step_ratio (tree.begins t) h = term_ratio t h
  step_ratio (tree.fast s o) h = first_of_two (is_valid_step Count s) (is_valid_step Ratio s) (is_valid_operand Ratio o) (step_ratio s) h
  step_ratio (tree.slow s o) h = first_of_two (is_valid_step Count s) (is_valid_step Ratio s) (is_valid_operand Ratio o) (step_ratio s) h
  step_ratio (tree.euclid s k n) h =
      let a = is_valid_step Count s in
      let b = is_valid_step Ratio s in
      let hits = is_valid Count k in
      let steps = is_valid Count n in
      first_of_two (a && hits && steps) (b && hits && steps) (is_accepted (values_of k) (values_of n))
      (first_of_two (a && hits) (b && hits) steps (first_of_two a b hits (step_ratio s))) h
  step_ratio (tree.euclid_from s k n r) h =
      let a = is_valid_step Count s in
      let b = is_valid_step Ratio s in
      let hits = is_valid Count k in
      let steps = is_valid Count n in
      let from = is_valid Count r in
      first_of_two (a && hits && steps && from) (b && hits && steps && from) (is_accepted_from (values_of k) (values_of n) (values_of r))
      (first_of_two (a && hits && steps) (b && hits && steps) from (first_of_two (a && hits) (b && hits) steps (first_of_two a b hits (step_ratio s)))) h

  term_ratio : (t : tree.Term) → IsTrue (is_valid_term Count t) → IsTrue (is_valid_term Ratio t)
  term_ratio (tree.value v) h = value_ratio v h
  term_ratio tree.rest h = h
  term_ratio (tree.bracketed o) h = operand_ratio o h

  operand_ratio : (o : tree.Operand) → IsTrue (is_valid_operand Count o) → IsTrue (is_valid_operand Ratio o)
  operand_ratio (tree.scaled bs n) h = first_of_two (is_valid_braces Count bs) (is_valid_braces Ratio bs) (is_factor n) (braces_ratio bs) h
  operand_ratio (tree.nested tree.no_brace shape ls) h = valid_ratio ls h
  operand_ratio (tree.nested (tree.brace bs first) shape ls) h =
      first_of_two (is_valid_braces Count (tree.brace bs first)) (is_valid_braces Ratio (tree.brace bs first)) (is_valid Ratio ls)
      (braces_ratio (tree.brace bs first)) h

  braces_ratio : (bs : tree.Braces) → IsTrue (is_valid_braces Count bs) → IsTrue (is_valid_braces Ratio bs)
  braces_ratio tree.no_brace h = h
  braces_ratio (tree.brace tree.no_brace ls) h = valid_ratio ls h
  braces_ratio (tree.brace (tree.brace bs first) ls) h =
      first_of_two (is_valid_braces Count (tree.brace bs first)) (is_valid_braces Ratio (tree.brace bs first)) (is_valid Ratio ls)
      (braces_ratio (tree.brace bs first)) h
