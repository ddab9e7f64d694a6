-- A comma is read once the last element is settled.
use Rattle.std.proofs.Common.{true, rules}
use Rattle.std.proofs.lemmas.Result.{err_from_is_err_and}
use Rattle.tdl_mini_reader.specs.TokenView.{tok_value}
use Rattle.tdl_mini_reader.specs.NestsView.{trees_in}
use Rattle.tdl_mini_machine.specs.Machine.Settling.{settled}
use Rattle.tdl_mini_machine.specs.Machine.Brackets.{parted}
use Rattle.tdl_mini_reader.specs.ReaderView.{state_of}
use Rattle.tdl_mini_reader.proofs.ReaderLemmas.{if_err}
use Rattle.tdl_mini_reader.proofs.EndLemmas.{refused_then, then_refused}
use Rattle.tdl_mini_reader.proofs.reader.MiniTokenReader.take_comma.Goals as goal

pub returns-in_err-settle : goal.returns-in_err-settle
returns-in_err-settle c = record {
  ok = search rules;
  grown = search rules;
  err = let p = err_from_is_err_and c.from_residual.result c.from_residual.ensures.1 in rw (p.1, p.2)
      (refused_then (λ ts. settled true (state_of ts c.args.self.now c.args.stage.now) (tok_value c.args.tok.now))
      (λ f. parted f (tok_value c.args.tok.now) f.frames) (trees_in c.args.self.now.nests) _ c.in_err-settle.ensures.err);
}

pub returns : goal.returns
returns c = record {
  ok = search rules;
  grown = search rules;
  err = if_err c.part.result
      (λ fault h. then_refused (λ ts. settled true (state_of ts c.args.self.now c.args.stage.now) (tok_value c.args.tok.now))
      (λ f. parted f (tok_value c.args.tok.now) f.frames) c.settle.new.self c.args.self.now.nests fault c.in_ok-settle.ensures.ok c.in_ok-settle.ensures.nests
      h) c.part.ensures.err;
}
