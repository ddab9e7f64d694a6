use Rattle.std.proofs.Common.{◌≡◌, ◌∙◌, subst, Ok, rules}
use Rattle.std.proofs.lemmas.Result.{err_from_is_err_and}
use Rattle.tdl_mini_tree.specs.declared.leaves.Kind.TheVariants.{Count}
use Rattle.tdl_mini_reader.specs.declared.stages.Stage.TheVariants.{Ready}
use Rattle.tdl_mini_machine.specs.Machine.States as machine
use Rattle.tdl_mini_machine.specs.Machine.Brackets.{opened_at}
use Rattle.tdl_mini_reader.specs.TokenView.{tok_value}
use Rattle.tdl_mini_tree.specs.View.{step_of}
use Rattle.tdl_mini_reader.specs.ReaderView.{state_of, level_of, Refusal}
use Rattle.tdl_mini_reader.specs.inside.Calls.{past_of}
use Rattle.tdl_mini_reader.proofs.ReaderLemmas.{refusal_by, length_of_frames, arguments_full, arguments_ok, if_err, on_ok}
use Rattle.tdl_mini_reader.proofs.reader.MiniTokenReader.take_arguments.Goals as goal

pub returns-then-is_full : goal.returns-then-is_full
returns-then-is_full c = record {
  ok = search rules;
  nests = search rules;
  err = λ trees. refusal_by _ _ c.unfit.result
      (arguments_full (state_of trees c.args.self.now c.args.stage.now) (tok_value c.args.tok.now) _ _
      (length_of_frames trees c.args.self.now.frames.items) c.if-is_full.ensures) (c.unfit.ensures trees);
}

pub returns-in_err-step : goal.returns-in_err-step
returns-in_err-step c = record {
  ok = search rules;
  nests = search rules;
  err = let p = err_from_is_err_and c.from_residual.result c.from_residual.ensures.1 in rw (p.1, p.2) (λ trees. c.in_err-step.ensures.err trees _);
}

pub returns : goal.returns
returns c = rw c.in_ok-step.ensures.ready (record {
  ok = on_ok c.open.result
      (λ h trees. arguments_ok (state_of trees c.args.self.now c.args.stage.now) (tok_value c.args.tok.now) _ (step_of trees c.in_ok-step.step) _
      (c.in_ok-step.ensures.ok trees) (length_of_frames trees c.args.self.now.frames.items) c.if-is_full.ensures
      ∙ subst (λ r. opened_at (state_of trees r c.args.stage.now) (tok_value c.args.tok.now) (level_of trees r.level)
      (machine.hits (step_of trees c.in_ok-step.step)) Count ≡ Ok (past_of trees c.open.new.self Ready)) c.in_ok-step.ensures.same (h c.args.stage.now trees))
      c.open.ensures.ok;
  nests = search rules;
  err = if_err c.open.result
      (λ fault h trees. refusal_by _ _ fault
      (arguments_ok (state_of trees c.args.self.now c.args.stage.now) (tok_value c.args.tok.now) _ (step_of trees c.in_ok-step.step) _
      (c.in_ok-step.ensures.ok trees) (length_of_frames trees c.args.self.now.frames.items) c.if-is_full.ensures)
      (subst (λ r. Refusal
      (opened_at (state_of trees r c.args.stage.now) (tok_value c.args.tok.now) (level_of trees r.level) (machine.hits (step_of trees c.in_ok-step.step)) Count)
      fault) c.in_ok-step.ensures.same (h c.args.stage.now trees))) c.open.ensures.err;
})
