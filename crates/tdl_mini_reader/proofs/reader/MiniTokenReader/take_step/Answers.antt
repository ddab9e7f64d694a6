use Rattle.std.proofs.Common.{subst, true}
use Rattle.tdl_mini_machine.specs.Machine.Settling.{unfit}
use Rattle.tdl_mini_reader.specs.TokenView.{tok_value}
use Rattle.tdl_mini_reader.specs.ReaderView.{state_of, Refusal}
use Rattle.tdl_mini_reader.specs.inside.PartView.{IsPending}
use Rattle.tdl_mini_reader.proofs.ReaderLemmas.{continued_none}
use Rattle.tdl_mini_reader.proofs.reader.MiniTokenReader.take_step.Goals as goal

pub returns-in-None-clause-err : goal.returns-in-None-clause-err
returns-in-None-clause-err c =
    let is = subst (IsPending c.args.stage.now c.pending.new.self) c.in-None.is c.in_ok-step.ensures in
    λ trees next. continued_none (state_of trees c.args.self.now c.args.stage.now) (tok_value c.args.tok.now) _ next c.unfit.result (is.1 trees)
    (subst (λ q. Refusal (unfit true (state_of trees c.args.self.now q) (tok_value c.args.tok.now)) c.unfit.result) is.0 (c.unfit.ensures trees))
