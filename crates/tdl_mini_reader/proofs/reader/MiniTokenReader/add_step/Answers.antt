use Rattle.std.proofs.Common.{ap, ap₂, sym, ◌∙◌, None, Ok}
use Rattle.tdl_mini_tree.specs.Sizes.{and_steps}
use Rattle.tdl_mini_tree.specs.Tree.{played}
use Rattle.tdl_mini_tree.specs.View.{step_of}
use Rattle.tdl_mini_reader.specs.ReaderView.{state_of}
use Rattle.tdl_mini_reader.proofs.ReaderLemmas.{on_ok, added_ok}
use Rattle.tdl_mini_reader.proofs.reader.MiniTokenReader.add_step.Goals as goal

pub returns-clause-ok : goal.returns-clause-ok
returns-clause-ok c =
    on_ok c.grow.result (λ h trees stage. added_ok (state_of trees c.args.self.now stage)
    (played (step_of trees c.args.step) c.args.weight None) c.args.self.now.level.before _ (c.args.self.now.level.steps trees)
    (c.and_steps-size.ensures.value ∙ ap₂ (λ z w. and_steps z 1 w) (c.args.self.now.level.sizes trees) c.weight_of.ensures.value) h.0
    ∙ ap Ok (sym (h.1 trees stage))) c.grow.ensures.ok
