use Rattle.std.proofs.Common.{◌≡◌, List, Some, refl, ◌∙◌}
use Rattle.tdl_mini_tree.specs.Tree.{Layers}
use Rattle.tdl_mini_tree.specs.View.{step_of}
use Rattle.tdl_mini_machine.specs.Machine.States.{pending}
use Rattle.tdl_mini_reader.specs.ReaderView.{stage_of}
use Rattle.tdl_mini_reader.specs.TokenView.{tok_value}
use Rattle.tdl_mini_reader.proofs.ReaderLemmas.{on_ok, if_err, refusal_by, refused_is, settled_weighted, settled_repeating, settled_other, begun_voiced}
use Rattle.tdl_mini_reader.proofs.ReaderLemmas.{begun_numbered, step_ends, step_fails}
use Rattle.tdl_mini_reader.proofs.reader.MiniTokenReader.finish.Goals as goal

pub returns-in-Weighted-clause-ok : goal.returns-in-Weighted-clause-ok
returns-in-Weighted-clause-ok c =
    on_ok c.add_step.result (λ h trees. settled_weighted trees c.args.self.now c.args.stage (tok_value c.args.tok.now) _ _ c.in-Weighted.is
    ∙ h trees c.args.stage) c.add_step.ensures.ok

pub returns-in-Weighted-clause-err : goal.returns-in-Weighted-clause-err
returns-in-Weighted-clause-err c =
    if_err c.add_step.result
    (λ fault h trees. refusal_by _ _ fault (settled_weighted trees c.args.self.now c.args.stage (tok_value c.args.tok.now) _ _ c.in-Weighted.is)
    (h trees c.args.stage)) c.add_step.ensures.err

pub returns-in-Repeating-clause-ok : goal.returns-in-Repeating-clause-ok
returns-in-Repeating-clause-ok c =
    on_ok c.add_repeat.result (λ h trees. settled_repeating trees c.args.self.now c.args.stage (tok_value c.args.tok.now) _ c.in-Repeating.is
    ∙ h trees c.args.stage) c.add_repeat.ensures.ok

pub returns-in-Repeating-clause-err : goal.returns-in-Repeating-clause-err
returns-in-Repeating-clause-err c = if_err c.add_repeat.result
    (λ fault h trees. refusal_by _ _ fault (settled_repeating trees c.args.self.now c.args.stage (tok_value c.args.tok.now) _ c.in-Repeating.is)
    (h trees c.args.stage)) c.add_repeat.ensures.err

pub returns-in-Voiced : goal.returns-in-Voiced
returns-in-Voiced c =
    let is : (trees : List Layers) → pending (stage_of trees c.args.stage) ≡ Some (step_of trees c.begins.result) =
    begun_voiced c.args.stage c.in-Voiced.word c.begins.result c.in-Voiced.is c.begins.ensures.term c.begins.ensures.changes in
    record {
      ok = step_ends c.args.self.now c.add_step-in-Voiced.new.self c.args.stage (tok_value c.args.tok.now)
          c.begins.result c.add_step-in-Voiced.result is c.add_step-in-Voiced.ensures.ok;
      nests = c.add_step-in-Voiced.ensures.nests;
      err = step_fails c.args.self.now c.args.stage (tok_value c.args.tok.now)
          c.begins.result c.add_step-in-Voiced.result is c.add_step-in-Voiced.ensures.err;
    }

pub returns-in-Numbered : goal.returns-in-Numbered
returns-in-Numbered c =
    let is : (trees : List Layers) → pending (stage_of trees c.args.stage) ≡ Some (step_of trees c.begins-in-Numbered.result) =
    begun_numbered c.args.stage c.in-Numbered.number c.begins-in-Numbered.result c.in-Numbered.is
    c.begins-in-Numbered.ensures.term c.begins-in-Numbered.ensures.changes in
    record {
      ok = step_ends c.args.self.now c.add_step-in-Numbered.new.self c.args.stage (tok_value c.args.tok.now)
          c.begins-in-Numbered.result c.add_step-in-Numbered.result is c.add_step-in-Numbered.ensures.ok;
      nests = c.add_step-in-Numbered.ensures.nests;
      err = step_fails c.args.self.now c.args.stage (tok_value c.args.tok.now)
          c.begins-in-Numbered.result c.add_step-in-Numbered.result is c.add_step-in-Numbered.ensures.err;
    }

pub returns-in-Stepping : goal.returns-in-Stepping
returns-in-Stepping c =
    let is : (trees : List Layers) → pending (stage_of trees c.args.stage) ≡ Some (step_of trees c.in-Stepping.step) =
    λ trees. rw c.in-Stepping.is refl in
    record {
      ok = step_ends c.args.self.now c.add_step-in-Stepping.new.self c.args.stage (tok_value c.args.tok.now)
          c.in-Stepping.step c.add_step-in-Stepping.result is c.add_step-in-Stepping.ensures.ok;
      nests = c.add_step-in-Stepping.ensures.nests;
      err = step_fails c.args.self.now c.args.stage (tok_value c.args.tok.now)
          c.in-Stepping.step c.add_step-in-Stepping.result is c.add_step-in-Stepping.ensures.err;
    }

pub returns-in-Braced : goal.returns-in-Braced
returns-in-Braced c = rw c.in-Braced.is (record {
  ok = c.add_braced.ensures.ok c.args.tok.now;
  nests = c.add_braced.ensures.nests;
  err = c.add_braced.ensures.err c.args.tok.now;
})

pub returns : goal.returns
returns c = record {
  ok = tt;
  nests = tt;
  err = λ trees. refusal_by _ _ c.refused.result
      (settled_other trees c.args.self.now c.args.stage (tok_value c.args.tok.now) c.in_default.not-Ready c.in_default.not-Weighted
      c.in_default.not-Repeating c.in_default.not-Voiced c.in_default.not-Numbered c.in_default.not-Stepping c.in_default.not-Braced)
      (refused_is trees c.args.self.now c.args.stage (tok_value c.args.tok.now) c.refused.result c.refused.ensures);
}
