use Rattle.std.proofs.Common.{◌≡◌, List, Some, ap, sym}
use Rattle.tdl_mini_tree.specs.Tree.{Layers}
use Rattle.tdl_mini_tree.specs.View.{step_of}
use Rattle.tdl_mini_reader.specs.declared.stages.Stage.{Stage}
use Rattle.tdl_mini_reader.specs.declared.stages.Stage.TheVariants.{Braced}
use Rattle.tdl_mini_machine.specs.Machine.States.{pending}
use Rattle.tdl_mini_reader.specs.ReaderView.{stage_of}
use Rattle.tdl_mini_reader.specs.TokenView.{tok_value}
use Rattle.tdl_mini_reader.proofs.ReaderLemmas.{step_ends, step_fails}
use Rattle.tdl_mini_reader.proofs.reader.MiniTokenReader.add_braced.Goals as goal

pub returns : goal.returns
returns c =
    let stage : Stage = Braced c.args.role c.args.braces c.args.last in
    let is : (trees : List Layers) → pending (stage_of trees stage) ≡ Some (step_of trees c.in_ok-step.step) =
    λ trees. ap Some (sym (c.in_ok-step.ensures trees)) in
    record {
      ok = λ tok. step_ends c.args.self.now c.add_step.new.self stage (tok_value tok) c.in_ok-step.step c.add_step.result is c.add_step.ensures.ok;
      nests = c.add_step.ensures.nests;
      err = λ tok. step_fails c.args.self.now stage (tok_value tok) c.in_ok-step.step c.add_step.result is c.add_step.ensures.err;
    }
