use Rattle.tdl_mini_reader.specs.TokenView.{tok_value}
use Rattle.tdl_mini_reader.specs.ReaderView.{state_of}
use Rattle.tdl_mini_reader.proofs.ReaderLemmas.{refusal_by, refused_is, uncounted_repeating, uncounted_other}
use Rattle.tdl_mini_reader.proofs.reader.MiniTokenReader.uncounted.Goals as goal

pub returns-in-Repeating : goal.returns-in-Repeating
returns-in-Repeating c = λ trees. refusal_by _ _ c.refused.result
    (uncounted_repeating trees (state_of trees c.args.self.now c.args.stage.now) (tok_value c.args.tok.now) c.args.stage.now _ c.in-Repeating.is)
    (refused_is trees c.args.self.now c.args.stage.now (tok_value c.args.tok.now) c.refused.result c.refused.ensures)

pub returns-in_default : goal.returns-in_default
returns-in_default c = λ trees. refusal_by _ _ c.unfit.result
    (uncounted_other trees (state_of trees c.args.self.now c.args.stage.now) (tok_value c.args.tok.now) c.args.stage.now c.in_default.not-Repeating)
    (c.unfit.ensures trees)
