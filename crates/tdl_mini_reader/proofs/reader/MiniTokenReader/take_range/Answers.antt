use Rattle.tdl_mini_reader.specs.TokenView.{tok_value}
use Rattle.tdl_mini_reader.specs.ReaderView.{state_of}
use Rattle.tdl_mini_reader.proofs.ReaderLemmas.{refusal_by, range_other}
use Rattle.tdl_mini_reader.proofs.reader.MiniTokenReader.take_range.Goals as goal

pub returns-in_default : goal.returns-in_default
returns-in_default c = record {
  ok = tt;
  nests = tt;
  err = λ trees. refusal_by _ _ c.unfit.result
      (range_other trees (state_of trees c.args.self.now c.args.stage.now) (tok_value c.args.tok.now) c.args.stage.now c.in_default.not-Numbered)
      (c.unfit.ensures trees);
}
