use Rattle.std.proofs.Common.{ap, sym, ◌∙◌, Ok, rules}
use Rattle.tdl_mini_reader.specs.TokenView.{tok_value}
use Rattle.tdl_mini_reader.specs.ReaderView.{state_of}
use Rattle.tdl_mini_tree.specs.SizeView.{held}
use Rattle.tdl_mini_reader.specs.declared.stages.Stage.TheVariants.{Ready}
use Rattle.tdl_mini_reader.proofs.ReaderLemmas.{refusal_by, refused_is, group_none, group_some, hold_none, hold_ok, hold_fails, next_state, on_ok, if_err}
use Rattle.tdl_mini_reader.proofs.reader.MiniTokenReader.add_hold.Goals as goal

pub returns-then-not-has_element : goal.returns-then-not-has_element
returns-then-not-has_element c = record {
  ok = search rules;
  nests = search rules;
  err = λ trees. refusal_by _ _ c.refused.result
      (hold_none (state_of trees c.args.self.now Ready) (tok_value c.args.tok.now)
      (group_none trees c.args.self.now.level.elements.items c.if-not-has_element.ensures))
      (refused_is trees c.args.self.now Ready (tok_value c.args.tok.now) c.refused.result c.refused.ensures);
}

pub returns : goal.returns
returns c = record {
  ok = on_ok c.grow.result (λ h trees. hold_ok (state_of trees c.args.self.now Ready) (tok_value c.args.tok.now) c.args.self.now.level.before _
      (group_some trees c.args.self.now.level.elements.items c.if-not-has_element.ensures) (c.args.self.now.level.steps trees)
      (c.and_hold-size.ensures.value ∙ ap held (c.args.self.now.level.sizes trees)) h.0
      ∙ ap (λ s. Ok (next_state s)) (sym (h.1 trees Ready))) c.grow.ensures.ok;
  nests = c.grow.ensures.nests;
  err = if_err c.grow.result
      (λ fault h trees. hold_fails (state_of trees c.args.self.now Ready) (tok_value c.args.tok.now) c.args.self.now.level.before _ _
      (group_some trees c.args.self.now.level.elements.items c.if-not-has_element.ensures) (c.args.self.now.level.steps trees)
      (c.and_hold-size.ensures.value ∙ ap held (c.args.self.now.level.sizes trees)) h) c.grow.ensures.err;
}
