use Rattle.std.proofs.Common.{sym, ap, subst, ◌∙◌, Ok, rules}
use Rattle.std.proofs.lemmas.Result.{err_from_is_err_and}
use Rattle.tdl_mini_tree.specs.declared.faults.MiniKind.TheVariants.{TooManySteps}
use Rattle.tdl_mini_tree.specs.Tree.{range}
use Rattle.tdl_mini_reader.specs.TokenView.{tok_value}
use Rattle.tdl_mini_reader.specs.ReaderView.{state_of}
use Rattle.tdl_mini_reader.specs.inside.Calls.{FailsAt}
use Rattle.tdl_mini_reader.proofs.ReaderLemmas.{refusal_by, refused_is, range_refused, range_ok, range_fails, within_any, next_state}
use Rattle.tdl_mini_reader.proofs.reader.MiniTokenReader.take_last.Goals as goal

pub returns-then-not-is_end : goal.returns-then-not-is_end
returns-then-not-is_end c = record {
  ok = search rules;
  nests = search rules;
  err = λ trees. refusal_by _ _ c.refused.result
      (range_refused trees (state_of trees c.args.self.now c.args.stage.now)
      (tok_value c.args.tok.now) c.args.number c.args.stage.now c.args.first c.requires c.if-not-is_end.ensures)
      (refused_is trees c.args.self.now c.args.stage.now (tok_value c.args.tok.now) c.refused.result c.refused.ensures);
}

pub returns-in_err-add_range : goal.returns-in_err-add_range
returns-in_err-add_range c = record {
  ok = search rules;
  nests = search rules;
  err = let p = err_from_is_err_and c.from_residual-in_err-add_range.result c.from_residual-in_err-add_range.ensures.1 in rw
      (p.1, p.2) (λ trees. range_fails trees (state_of trees c.args.self.now c.args.stage.now)
      (tok_value c.args.tok.now) c.args.number c.args.stage.now c.args.first _ c.requires c.if-not-is_end.ensures
      c.in_ok-check_number.ensures.ok
      (subst (λ b. FailsAt TooManySteps c.args.self.now.level.start b c.in_err-add_range.field-0.0)
      (within_any c.args.self.now.level trees (range c.args.first c.args.number)) c.in_err-add_range.ensures.err));
}

pub returns : goal.returns
returns c = record {
  ok = λ trees. range_ok trees (state_of trees c.args.self.now c.args.stage.now)
      (tok_value c.args.tok.now) c.args.number c.args.stage.now c.args.first c.requires c.if-not-is_end.ensures
      c.in_ok-check_number.ensures.ok (sym (within_any c.args.self.now.level trees (range c.args.first c.args.number))
      ∙ c.in_ok-add_range.ensures.ok.0) ∙ ap (λ s. Ok (next_state s)) (sym (c.in_ok-add_range.ensures.ok.1 trees c.args.stage.now));
  nests = search rules;
  err = search rules;
}
