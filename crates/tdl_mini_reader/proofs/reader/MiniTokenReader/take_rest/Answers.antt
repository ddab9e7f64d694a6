use Rattle.std.proofs.Common.{rules}
use Rattle.std.proofs.lemmas.Result.{err_from_is_err_and}
use Rattle.tdl_mini_reader.proofs.ReaderLemmas.{refusal_then}
use Rattle.tdl_mini_reader.proofs.reader.MiniTokenReader.take_rest.Goals as goal

pub returns-in_err-settle : goal.returns-in_err-settle
returns-in_err-settle c = record {
  ok = search rules;
  nests = search rules;
  err = let p = err_from_is_err_and c.from_residual.result c.from_residual.ensures.1 in rw (p.1, p.2)
      (λ trees. refusal_then _ _ _ (c.in_err-settle.ensures.err trees));
}
