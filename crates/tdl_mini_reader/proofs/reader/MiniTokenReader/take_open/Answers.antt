use Rattle.std.proofs.Common.{◌≡◌, List, ap, sym, ◌∙◌, true}
use Rattle.std.proofs.lemmas.Result.{err_from_is_err_and}
use Rattle.tdl_mini_tree.specs.Tree.{no_brace, Layers}
use Rattle.tdl_mini_machine.specs.Machine.States.{State, Taken, and_then, begun_at, operand, term}
use Rattle.tdl_mini_machine.specs.Machine.Brackets.{with_open, opened_at}
use Rattle.tdl_mini_reader.specs.TokenView.{tok_value}
use Rattle.tdl_mini_reader.specs.ReaderView.{state_of, level_of, stage_of}
use Rattle.tdl_mini_tree.specs.View.{braces_of}
use Rattle.tdl_mini_reader.specs.declared.stages.Stage.TheVariants.{Ready}
use Rattle.tdl_mini_reader.proofs.ReaderLemmas.{open_other, refusal_by, refusal_then, if_err, on_ok}
use Rattle.tdl_mini_reader.proofs.reader.MiniTokenReader.take_open.Goals as goal

pub returns-in_err-settle : goal.returns-in_err-settle
returns-in_err-settle c =
    let p = err_from_is_err_and c.from_residual.result c.from_residual.ensures.1 in
    rw (p.1, p.2) (record {
      ok = tt;
      nests = tt;
      err = λ trees. refusal_by _ _ _
          (open_other trees (state_of trees c.args.self.now c.args.stage.now) (tok_value c.args.tok.now) c.args.bracket c.args.stage.now
          c.in_default.not-Wanting)
          (refusal_then _ _ _ (c.in_err-settle.ensures.err trees));
    })

pub returns : goal.returns
returns c =
    let inside : (trees : List Layers) → State → Taken = λ trees f. opened_at f (tok_value c.args.tok.now) (begun_at f.level f.read)
    (operand term no_brace c.args.bracket) f.level.kind in
    let is : (trees : List Layers) → with_open true (state_of trees c.args.self.now c.args.stage.now) (tok_value c.args.tok.now) c.args.bracket
    (stage_of trees c.args.stage.now) ≡ opened_at (state_of trees c.settle.new.self Ready) (tok_value c.args.tok.now)
    (begun_at (level_of trees c.settle.new.self.level) c.settle.new.self.read)
    (operand term (braces_of trees c.new.result.items) c.args.bracket) c.settle.new.self.level.kind =
    λ trees. open_other trees (state_of trees c.args.self.now c.args.stage.now) (tok_value c.args.tok.now) c.args.bracket c.args.stage.now
    c.in_default.not-Wanting
    ∙ ap (λ a. and_then a (inside trees)) (c.in_ok-settle.ensures.ok trees)
    ∙ ap (λ xs. opened_at (state_of trees c.settle.new.self Ready) (tok_value c.args.tok.now)
    (begun_at (level_of trees c.settle.new.self.level) c.settle.new.self.read)
    (operand term (braces_of trees xs) c.args.bracket) c.settle.new.self.level.kind) (sym c.new.ensures.items) in
    rw c.in_ok-settle.ensures.ready (record {
      ok = on_ok c.open.result (λ h trees. is trees ∙ h Ready trees) c.open.ensures.ok;
      nests = on_ok c.open.result (λ e. e ∙ c.in_ok-settle.ensures.nests) c.open.ensures.nests;
      err = if_err c.open.result (λ fault h trees. refusal_by _ _ fault (is trees) (h Ready trees)) c.open.ensures.err;
    })
