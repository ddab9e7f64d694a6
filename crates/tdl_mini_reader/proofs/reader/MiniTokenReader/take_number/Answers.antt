use Rattle.std.proofs.Common.{◌≡◌, List, true, ◌∙◌}
use Rattle.tdl_mini_tree.specs.Tree.{Layers}
use Rattle.tdl_mini_machine.specs.Machine.Values.{with_number, with_value}
use Rattle.tdl_mini_reader.specs.TokenView.{tok_value}
use Rattle.tdl_mini_reader.specs.ReaderView.{state_of, stage_of}
use Rattle.tdl_mini_reader.proofs.ReaderLemmas.{refusal_by, number_other, if_err, on_ok}
use Rattle.tdl_mini_reader.proofs.reader.MiniTokenReader.take_number.Goals as goal

pub returns-in-Wanting : goal.returns-in-Wanting
returns-in-Wanting c = c.take_factor.ensures c.args.tok.now

pub returns-in-Weighing : goal.returns-in-Weighing
returns-in-Weighing c = c.take_weight.ensures c.args.tok.now

pub returns-in_default : goal.returns-in_default
returns-in_default c =
    let is : (trees : List Layers) → with_number true (state_of trees c.args.self.now c.args.stage.now) (tok_value c.args.tok.now) c.args.number
    (stage_of trees c.args.stage.now) ≡ with_value true (state_of trees c.args.self.now c.args.stage.now) (tok_value c.args.tok.now) =
    λ trees. number_other trees (state_of trees c.args.self.now c.args.stage.now)
    (tok_value c.args.tok.now) c.args.number c.args.stage.now c.in_default.not-Sampling c.in_default.not-Ranging c.in_default.not-Wanting
    c.in_default.not-Weighing in
    record {
      ok = on_ok c.take_value.result (λ h trees. is trees ∙ h trees) c.take_value.ensures.ok;
      nests = c.take_value.ensures.nests;
      err = if_err c.take_value.result (λ fault h trees. refusal_by _ _ fault (is trees) (h trees)) c.take_value.ensures.err;
    }
