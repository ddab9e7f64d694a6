use Rattle.tdl_mini_reader.specs.TokenView.{tok_value}
use Rattle.tdl_mini_reader.specs.declared.stages.Stage.TheVariants.{Ready}
use Rattle.tdl_mini_reader.proofs.ReaderLemmas.{refusal_then, then_refusal, refused_is}
use Rattle.tdl_mini_reader.proofs.reader.MiniTokenReader.unfit.Goals as goal

pub returns-in-Err : goal.returns-in-Err
returns-in-Err c = λ trees. refusal_then _ _ _ (c.in-Err.ensures.err trees)

pub returns-in-Ok : goal.returns-in-Ok
returns-in-Ok c = λ trees. then_refusal _ _ _ c.refused.result (c.in-Ok.ensures.ok trees)
    (refused_is trees c.settle.new.self Ready (tok_value c.args.tok.now) c.refused.result c.refused.ensures)
