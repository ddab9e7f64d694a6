use Rattle.std.proofs.Common.{rules}
use Rattle.tdl_mini_reader.specs.TokenView.{tok_value}
use Rattle.tdl_mini_reader.specs.ReaderView.{state_of}
use Rattle.tdl_mini_tree.specs.View.{value_of}
use Rattle.tdl_mini_reader.specs.declared.stages.Stage.TheVariants.{Ready}
use Rattle.tdl_mini_reader.proofs.ReaderLemmas.{refused_is, valued_none, valued_ok}
use Rattle.tdl_mini_reader.proofs.reader.MiniTokenReader.take_first.Goals as goal

pub returns-in_default : goal.returns-in_default
returns-in_default c = record {
  ok = search rules;
  nests = search rules;
  err = λ trees. valued_none (state_of trees c.args.self.now Ready) (tok_value c.args.tok.now) _ c.refused.result c.in_default.ensures
      (refused_is trees c.args.self.now Ready (tok_value c.args.tok.now) c.refused.result c.refused.ensures);
}

pub returns : goal.returns
returns c = rw c.follow.ensures (record {
  ok = λ trees. valued_ok (state_of trees c.args.self.now Ready) (tok_value c.args.tok.now) _
      (value_of c.in-Some.value) _ c.in-Some.ensures c.in_ok-check_value.ensures.ok (c.value_stage.ensures trees);
  nests = search rules;
  err = search rules;
})
