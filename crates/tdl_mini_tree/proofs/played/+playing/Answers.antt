use Rattle.std.proofs.Common.{take, take_all, ap, ◌∙◌, sym, arith}
use Rattle.tdl_mini_tree.specs.declared.tree.Layers.{Layers}
use Rattle.tdl_mini_tree.specs.Values.{values_of, element_values}
use Rattle.tdl_mini_tree.specs.View.{element_of, layers_of, named_values, trees_of}
use Rattle.tdl_mini_tree.proofs.Named.{named-at, named-past}
use Rattle.tdl_mini_tree.proofs.SpanPlaces.{step_values_of, span_moves}
use Rattle.tdl_mini_tree.proofs.played.+playing.Goals as goal

pub extremes_of-returns-then-at-nests : goal.extremes_of-returns-then-at-nests
extremes_of-returns-then-at-nests t c = span_moves c.empty-span.result _ _ c.empty-span.ensures
    (sym (ap values_of (named-past c.args.nests.now c.args.id (omega arith))))

pub extremes_of-returns : goal.extremes_of-returns
extremes_of-returns t c =
    let whole = take_all c.loop-sequence.sequence-index c.as_slice-sequence-items.result.now c.loop-sequence-test.false in
    let nest = c.index-nests-at.result in
    let shown = c.as_slice-sequence-items.ensures ∙ ap (λ (ls : Layers). ls.sequences.items) (sym c.index-nests-at.is) in
    span_moves c.loop-sequence.span _ _ c.loop-sequence.invariant
    (ap values_of (ap (layers_of (trees_of (take c.args.id.index c.args.nests.now))) (whole ∙ shown)
    ∙ sym (named-at c.args.nests.now c.args.id nest (omega arith) c.index-nests-at.is)))

pub element_span-returns-in-Played : goal.element_span-returns-in-Played
element_span-returns-in-Played t c =
    let trees = trees_of c.args.nests.now in
    span_moves c.term_span.result _ _ c.term_span.ensures (sym (step_values_of trees c.in-Played.step)
    ∙ ap (λ e. element_values (element_of trees e)) (sym c.in-Played.is))

pub operand_span-returns-in-Some : goal.operand_span-returns-in-Some
operand_span-returns-in-Some t c =
    let trees = trees_of c.args.nests.now in
    span_moves c.extremes_of.result _ _ c.extremes_of.ensures (ap (named_values trees) (sym c.in-Some.is) ∙ sym (c.first.ensures.values trees))
