use Rattle.std.proofs.Common.{ap, ◌∙◌}
use Rattle.tdl_mini_reader.specs.TokenView.{tok_value}
use Rattle.tdl_mini_reader.specs.ReaderView.{state_of, level_of, hole_of}
use Rattle.tdl_mini_reader.proofs.ReaderLemmas.{refusal_by, refused_is, length_of_frames, opened_full, opened_ok, opened_state}
use Rattle.tdl_mini_reader.proofs.reader.MiniTokenReader.open.Goals as goal

pub returns-then-is_full-clause-err : goal.returns-then-is_full-clause-err
returns-then-is_full-clause-err c = λ stage trees. refusal_by _ _ c.refused.result
    (opened_full (state_of trees c.args.self.now stage) (tok_value c.args.tok.now) (level_of trees c.args.self.now.level)
    (hole_of trees c.args.hole) c.args.kind _ (length_of_frames trees c.args.self.now.frames.items) c.if-is_full.ensures)
    (refused_is trees c.args.self.now stage (tok_value c.args.tok.now) c.refused.result c.refused.ensures)

pub returns-clause-ok : goal.returns-clause-ok
returns-clause-ok c = λ stage trees. opened_ok (state_of trees c.args.self.now stage) (tok_value c.args.tok.now) (level_of trees c.args.self.now.level)
    (hole_of trees c.args.hole) c.args.kind _ (length_of_frames trees c.args.self.now.frames.items) c.if-is_full.ensures
    ∙ opened_state trees c.args.self.now (record { level = c.swap.new.y; hole = c.args.hole }) c.push_frame.new.frames.items c.swap.new.x
    c.args.kind c.in_ok-push_frame.ensures (ap (level_of trees) c.swap.ensures.y_after)
    (ap (level_of trees) c.swap.ensures.x_after ∙ c.new-level.ensures trees)
