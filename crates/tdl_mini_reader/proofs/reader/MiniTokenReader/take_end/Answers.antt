use Rattle.std.proofs.Common.{rules}
use Rattle.tdl_mini_reader.specs.TokenView.{tok_value}
use Rattle.tdl_mini_reader.specs.ReaderView.{state_of, frames_of}
use Rattle.tdl_mini_reader.specs.declared.stages.Stage.TheVariants.{Ready}
use Rattle.tdl_mini_reader.proofs.ReaderLemmas.{refusal_by, refused_is, length_of_frames, end_open}
use Rattle.tdl_mini_reader.proofs.reader.MiniTokenReader.take_end.Goals as goal

pub returns-then-has_frame : goal.returns-then-has_frame
returns-then-has_frame c = record {
  ok = search rules;
  nests = search rules;
  err = λ trees. refusal_by _ _ c.refused.result
      (end_open (state_of trees c.args.self.now Ready) (tok_value c.args.tok.now) (frames_of trees c.args.self.now.frames.items) _
      (length_of_frames trees c.args.self.now.frames.items) c.if-has_frame.ensures)
      (refused_is trees c.args.self.now Ready (tok_value c.args.tok.now) c.refused.result c.refused.ensures);
}
