use Rattle.std.proofs.Common.{ap, sym, ◌∙◌, Ok}
use Rattle.tdl_mini_tree.specs.Sizes.{and_steps}
use Rattle.tdl_mini_tree.specs.Tree.{repeat}
use Rattle.tdl_mini_reader.specs.ReaderView.{state_of}
use Rattle.tdl_mini_reader.proofs.ReaderLemmas.{on_ok, added_ok}
use Rattle.tdl_mini_reader.proofs.reader.MiniTokenReader.add_repeat.Goals as goal

pub returns-clause-ok : goal.returns-clause-ok
returns-clause-ok c =
    on_ok c.grow.result (λ h trees stage. added_ok (state_of trees c.args.self.now stage) repeat c.args.self.now.level.before _
    (c.args.self.now.level.steps trees) (c.and_steps-size.ensures.value ∙ ap (λ z. and_steps z 1 z.last) (c.args.self.now.level.sizes trees)) h.0
    ∙ ap Ok (sym (h.1 trees stage))) c.grow.ensures.ok
