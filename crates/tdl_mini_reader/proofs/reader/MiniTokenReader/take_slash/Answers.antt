use Rattle.std.proofs.Common.{rules}
use Rattle.std.proofs.lemmas.Result.{err_from_is_err_and}
use Rattle.tdl_mini_reader.proofs.reader.MiniTokenReader.take_slash.Goals as goal

pub returns-in_err-step : goal.returns-in_err-step
returns-in_err-step c = record {
  ok = search rules;
  nests = search rules;
  err = let p = err_from_is_err_and c.from_residual.result c.from_residual.ensures.1 in rw (p.1, p.2) (λ trees. c.in_err-step.ensures.err trees _);
}
