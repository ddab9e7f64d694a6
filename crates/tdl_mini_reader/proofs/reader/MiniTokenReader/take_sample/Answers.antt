use Rattle.std.proofs.Common.{rules}
use Rattle.tdl_mini_reader.specs.TokenView.{tok_value}
use Rattle.tdl_mini_reader.specs.ReaderView.{state_of}
use Rattle.tdl_mini_reader.proofs.ReaderLemmas.{refusal_by, refused_is, sample_refused}
use Rattle.tdl_mini_reader.proofs.reader.MiniTokenReader.take_sample.Goals as goal

pub returns-then-not-is_sample : goal.returns-then-not-is_sample
returns-then-not-is_sample c = record {
  ok = search rules;
  nests = search rules;
  err = λ trees. refusal_by _ _ c.refused.result
      (sample_refused trees (state_of trees c.args.self.now c.args.stage.now)
      (tok_value c.args.tok.now) c.args.number c.args.stage.now _ c.requires c.if-not-is_sample.ensures)
      (refused_is trees c.args.self.now c.args.stage.now (tok_value c.args.tok.now) c.refused.result c.refused.ensures);
}
