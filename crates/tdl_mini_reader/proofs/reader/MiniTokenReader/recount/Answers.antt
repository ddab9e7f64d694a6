use Rattle.std.proofs.Common.{sym, true, ◌∙◌}
use Rattle.std.proofs.lemmas.Result.{err_from_is_err_and}
use Rattle.tdl_mini_machine.specs.Machine.Values.{with_count}
use Rattle.tdl_mini_tree.specs.View.{group_of}
use Rattle.tdl_mini_reader.specs.ReaderView.{state_of}
use Rattle.tdl_mini_reader.specs.declared.stages.Stage.TheVariants.{Repeating}
use Rattle.tdl_mini_reader.proofs.ReaderLemmas.{counted_fails}
use Rattle.tdl_mini_reader.proofs.reader.MiniTokenReader.recount.Goals as goal

pub returns-in_err-check-clause-err : goal.returns-in_err-check-clause-err
returns-in_err-check-clause-err c = let p = err_from_is_err_and c.from_residual.result c.from_residual.ensures.1 in rw (p.1, p.2)
    (λ trees. counted_fails (state_of trees c.args.self.now (Repeating true))
    (with_count (group_of trees c.args.self.now.level.elements.items) c.args.number) c.args.self.now.level.before _ _ (c.args.self.now.level.steps trees)
    (c.size_with_count-size.ensures.sizes trees) (sym c.is_within.ensures ∙ c.in_err-check.ensures.err.1) c.in_err-check.ensures.err.0)
