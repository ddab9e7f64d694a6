use Rattle.std.proofs.Common.{sym, ◌∙◌, rules}
use Rattle.std.proofs.lemmas.Result.{err_from_is_err_and}
use Rattle.tdl_mini_reader.proofs.ReaderLemmas.{dot_ok, dot_fails}
use Rattle.tdl_mini_reader.proofs.reader.MiniTokenReader.take_dot.Goals as goal

pub returns-in_err-check : goal.returns-in_err-check
returns-in_err-check c = record {
  ok = search rules;
  nests = search rules;
  err = let p = err_from_is_err_and c.from_residual.result c.from_residual.ensures.1 in rw (p.1, p.2)
      (λ trees. dot_fails trees c.args.self.now _ (sym c.has_room.ensures ∙ c.in_err-check.ensures.err.1) c.in_err-check.ensures.err.0);
}

pub returns : goal.returns
returns c = record {
  ok = λ trees. dot_ok trees c.args.self.now c.end_group.new.self (sym c.has_room.ensures ∙ c.in_ok-check.ensures.ok) (c.in_ok-end_group.ensures trees);
  nests = search rules;
  err = search rules;
}
