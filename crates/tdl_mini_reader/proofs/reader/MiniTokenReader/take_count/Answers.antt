use Rattle.std.proofs.Common.{sym, ◌∙◌, rules}
use Rattle.std.proofs.lemmas.Result.{err_from_is_err_and}
use Rattle.tdl_mini_reader.specs.TokenView.{tok_value}
use Rattle.tdl_mini_reader.specs.ReaderView.{state_of}
use Rattle.tdl_mini_reader.proofs.ReaderLemmas.{refusal_by, refused_is, counting_other, counting_none, counting_is, counting_fails}
use Rattle.tdl_mini_reader.proofs.reader.MiniTokenReader.take_count.Goals as goal

pub returns-in_default : goal.returns-in_default
returns-in_default c = record {
  ok = tt;
  nests = tt;
  err = λ trees. refusal_by _ _ c.unfit.result
      (counting_other trees (state_of trees c.args.self.now c.args.stage.now) (tok_value c.args.tok.now) c.args.number c.args.stage.now
      c.in_default.not-Repeating) (c.unfit.ensures trees);
}

pub returns-then-not-takes_count : goal.returns-then-not-takes_count
returns-then-not-takes_count c = record {
  ok = tt;
  nests = tt;
  err = λ trees. refusal_by _ _ c.refused.result
      (counting_none trees (state_of trees c.args.self.now c.args.stage.now) (tok_value c.args.tok.now) c.args.number c.args.stage.now _ c.in-Repeating.is
      c.if-not-takes_count.true)
      (refused_is trees c.args.self.now c.args.stage.now (tok_value c.args.tok.now) c.refused.result c.refused.ensures);
}

pub returns-in_err-check : goal.returns-in_err-check
returns-in_err-check c = record {
  ok = search rules;
  nests = search rules;
  err = let p = err_from_is_err_and c.from_residual.result c.from_residual.ensures.1 in rw (p.1, p.2)
      (λ trees. counting_fails trees c.args.self.now (tok_value c.args.tok.now) c.args.number c.args.stage.now _ _ c.in-Repeating.is c.if-not-takes_count.false
      (sym c.is_count.ensures ∙ c.in_err-check.ensures.err.1) c.in_err-check.ensures.err.0);
}

pub returns-in_err-recount : goal.returns-in_err-recount
returns-in_err-recount c = record {
  ok = search rules;
  nests = search rules;
  err = let p = err_from_is_err_and c.from_residual-in_err-recount.result c.from_residual-in_err-recount.ensures.1 in rw (p.1, p.2)
      (λ trees. refusal_by _ _ _
      (counting_is trees c.args.self.now (tok_value c.args.tok.now) c.args.number c.args.stage.now _ c.in-Repeating.is c.if-not-takes_count.false
      (sym c.is_count.ensures ∙ c.in_ok-check.ensures.ok)) (c.in_err-recount.ensures.err trees));
}

pub returns : goal.returns
returns c = record {
  ok = λ trees. counting_is trees c.args.self.now (tok_value c.args.tok.now) c.args.number c.args.stage.now _ c.in-Repeating.is c.if-not-takes_count.false
      (sym c.is_count.ensures ∙ c.in_ok-check.ensures.ok) ∙ c.in_ok-recount.ensures.ok trees;
  nests = search rules;
  err = search rules;
}
