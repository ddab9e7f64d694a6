use Rattle.std.proofs.Common.{ap, sym, ◌∙◌, Ok, rules}
use Rattle.std.proofs.lemmas.Result.{err_from_is_err_and}
use Rattle.tdl_mini_reader.specs.declared.stages.Stage.TheVariants.{Ready, Repeating}
use Rattle.tdl_mini_machine.specs.Machine.States as machine
use Rattle.tdl_mini_machine.specs.Machine.States.{and_then}
use Rattle.tdl_mini_machine.specs.Machine.Marks.{with_repeat}
use Rattle.tdl_mini_reader.specs.TokenView.{tok_value}
use Rattle.tdl_mini_reader.specs.ReaderView.{state_of, stage_of}
use Rattle.tdl_mini_reader.proofs.ReaderLemmas.{refusal_by, refusal_then, then_refusal, refused_is, group_none, group_some, ends_same, repeat_none}
use Rattle.tdl_mini_reader.proofs.ReaderLemmas.{repeat_some}
use Rattle.tdl_mini_reader.proofs.reader.MiniTokenReader.take_repeat.Goals as goal

pub returns-in_err-settle : goal.returns-in_err-settle
returns-in_err-settle c = record {
  ok = search rules;
  nests = search rules;
  err = let p = err_from_is_err_and c.from_residual.result c.from_residual.ensures.1 in rw (p.1, p.2)
      (λ trees. refusal_then _ _ _ (c.in_err-settle.ensures.err trees));
}

pub returns-then-not-has_element : goal.returns-then-not-has_element
returns-then-not-has_element c = record {
  ok = search rules;
  nests = search rules;
  err = λ trees. then_refusal _ _ _ c.refused.result (c.in_ok-settle.ensures.ok trees)
      (refusal_by _ _ c.refused.result
      (repeat_none (state_of trees c.settle.new.self Ready) (tok_value c.args.tok.now) _
      (group_none trees c.settle.new.self.level.elements.items c.if-not-has_element.ensures))
      (refused_is trees c.settle.new.self Ready (tok_value c.args.tok.now) c.refused.result c.refused.ensures));
}

pub returns : goal.returns
returns c = rw c.follow.ensures (record {
  ok = λ trees. ap (λ a. and_then a (λ f. with_repeat f (tok_value c.args.tok.now) (machine.ends_step (stage_of trees c.args.stage.now))))
      (c.in_ok-settle.ensures.ok trees)
      ∙ repeat_some (state_of trees c.settle.new.self Ready) (tok_value c.args.tok.now) _ _
      (group_some trees c.settle.new.self.level.elements.items c.if-not-has_element.ensures)
      (ends_same trees c.args.stage.now ∙ sym c.ends_step-takes_count.ensures)
      ∙ ap Ok (c.begin.ensures.state trees (Repeating c.ends_step-takes_count.result));
  nests = search rules;
  err = search rules;
})
