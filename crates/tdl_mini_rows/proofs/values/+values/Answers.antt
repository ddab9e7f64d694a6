use Rattle.std.proofs.Common.{List, take, take_all, ap, ◌∙◌, sym, arith, length-take}
use Rattle.std.specs.List.{fold}
use Rattle.tdl_fraction.specs.Rational.{Rational}
use Rattle.tdl_mini_tree.specs.declared.tree.Layers.{Layers as Nest}
use Rattle.tdl_mini_tree.specs.Tree.{Layers}
use Rattle.tdl_mini_tree.specs.Values.{values_of}
use Rattle.tdl_mini_tree.specs.View.{layers_of, trees_of}
use Rattle.tdl_mini_rows.specs.Leaves.{and_distinct}
use Rattle.tdl_mini_tree.proofs.Named.{named-at, named-past, named_valid}
use Rattle.tdl_mini_tree.proofs.SpanPlaces.{played_values}
use Rattle.tdl_mini_rows.proofs.Added.{added_same}
use Rattle.tdl_mini_tree.specs.declared.leaves.Kind.TheVariants.{Ratio}
use Rattle.tdl_mini_tree.proofs.ValidParts.{sequence_at, group_at, element_at, played_term}
use Rattle.tdl_mini_rows.proofs.values.+values.Goals as goal

pub add_layers-add_sequence-requires : goal.add_layers-add_sequence-requires
add_layers-add_sequence-requires t c = (
  omega (arith, length-take c.args.id.index c.args.nests.now),
  sequence_at Ratio (trees_of (take c.args.id.index c.args.nests.now)) c.index-nests-at.result.sequences.items _ _ c.sequence-item.result
      (c.as_slice-sequence-items.ensures ∙ ap (λ (ls : Nest). ls.sequences.items) (sym c.index-nests-at.is)) c.loop-sequence-test.true c.sequence-item.is
      (named_valid c.args.nests.now c.args.id c.index-nests-at.result (omega arith) c.index-nests-at.is Ratio c.requires),
)

pub add_layers-returns-then-at-nests : goal.add_layers-returns-then-at-nests
add_layers-returns-then-at-nests t c = ap (λ (ls : Layers). fold and_distinct c.args.numbers.now (values_of ls))
    (sym (named-past c.args.nests.now c.args.id (omega arith)))

pub add_layers-returns : goal.add_layers-returns
add_layers-returns t c =
    let whole = take_all c.loop-sequence.sequence-index c.as_slice-sequence-items.result.now c.loop-sequence-test.false in
    c.loop-sequence.invariant ∙ ap (λ (ls : Layers). fold and_distinct c.args.numbers.now (values_of ls))
    (ap (layers_of (trees_of (take c.args.id.index c.args.nests.now)))
    (whole ∙ (c.as_slice-sequence-items.ensures ∙ ap (λ (ls : Nest). ls.sequences.items) (sym c.index-nests-at.is)))
    ∙ sym (named-at c.args.nests.now c.args.id c.index-nests-at.result (omega arith) c.index-nests-at.is))

pub add_element-returns-in-Value : goal.add_element-returns-in-Value
add_element-returns-in-Value t c = added_same _ _ _ _ c.add_value.result
    (sym (played_values (trees_of c.args.nests.now) _ _ _ _ _ c.in-Played.is c.in-Value.is)) c.add_value.ensures

pub add_element-returns-in-Rest : goal.add_element-returns-in-Rest
add_element-returns-in-Rest t c = ap (λ (vs : List Rational). fold and_distinct c.args.numbers.now vs)
    (sym (played_values (trees_of c.args.nests.now) _ _ _ _ _ c.in-Played.is c.in-Rest.is))

pub add_element-returns-in-None : goal.add_element-returns-in-None
add_element-returns-in-None t c = ap (λ (vs : List Rational). fold and_distinct c.args.numbers.now vs)
    (sym (played_values (trees_of c.args.nests.now) _ _ _ _ _ c.in-Played.is c.in-Bracketed.is ∙ c.in-None.ensures.values (trees_of c.args.nests.now)))

pub add_element-returns-in-Some : goal.add_element-returns-in-Some
add_element-returns-in-Some t c = added_same _ _ _ _ c.add_layers.result
    (sym (played_values (trees_of c.args.nests.now) _ _ _ _ _ c.in-Played.is c.in-Bracketed.is ∙ c.in-Some.ensures.values (trees_of c.args.nests.now)))
    c.add_layers.ensures

pub add_sequence-add_group-requires : goal.add_sequence-add_group-requires
add_sequence-add_group-requires t c = (
  omega arith,
  group_at Ratio (trees_of c.args.nests.now) _ _ _ c.group-item.result c.as_slice-group-items.ensures c.loop-group-test.true
      c.group-item.is c.requires,
)

pub add_group-add_element-requires : goal.add_group-add_element-requires
add_group-add_element-requires t c = (
  omega arith,
  element_at Ratio (trees_of c.args.nests.now) _ _ _ c.element-item.result c.deref-element-items.ensures.value c.loop-element-test.true
      c.element-item.is c.requires,
)

pub add_element-add_value-requires : goal.add_element-add_value-requires
add_element-add_value-requires t c = played_term Ratio (trees_of c.args.nests.now) _ _ _ _ _ c.in-Played.is c.in-Value.is c.requires

pub add_element-add_layers-requires : goal.add_element-add_layers-requires
add_element-add_layers-requires t c = (
  omega arith,
  c.in-Some.ensures.valid Ratio (trees_of c.args.nests.now)
      (played_term Ratio (trees_of c.args.nests.now) _ _ _ _ _ c.in-Played.is c.in-Bracketed.is c.requires),
)
