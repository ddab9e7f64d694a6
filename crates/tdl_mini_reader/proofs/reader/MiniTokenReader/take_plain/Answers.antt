use Rattle.std.proofs.Common.{rules}
use Rattle.std.proofs.lemmas.Result.{err_from_is_err_and}
use Rattle.tdl_mini_reader.specs.ReaderView.{state_of}
use Rattle.tdl_mini_reader.proofs.ReaderLemmas.{refusal_by, refusal_then, then_refusal, if_err}
use Rattle.tdl_mini_reader.proofs.InsideLemmas.{inside_count, inside_number, inside_uncounted, inside_word, inside_end}
use Rattle.tdl_mini_reader.proofs.reader.MiniTokenReader.take_plain.Goals as goal

pub returns-in_err-settle-in-End : goal.returns-in_err-settle-in-End
returns-in_err-settle-in-End c = record {
  ok = search rules;
  nests = search rules;
  err = let p = err_from_is_err_and c.from_residual.result c.from_residual.ensures.1 in
      rw (p.1, p.2)
      (λ trees. refusal_by _ _ _ (inside_end (state_of trees c.args.self.now c.args.stage.now) c.args.tok.now c.in-End.is)
      (refusal_then _ _ _ (c.in_err-settle-in-End.ensures.err trees)));
}

pub returns-in_ok-settle-in-End : goal.returns-in_ok-settle-in-End
returns-in_ok-settle-in-End c = record {
  ok = search rules;
  nests = search rules;
  err = if_err c.take_end.result
      (λ fault h trees. refusal_by _ _ fault (inside_end (state_of trees c.args.self.now c.args.stage.now) c.args.tok.now c.in-End.is)
      (then_refusal _ _ _ fault (c.in_ok-settle-in-End.ensures.ok trees) (h trees))) c.take_end.ensures.err;
}

pub returns-then-is_count : goal.returns-then-is_count
returns-then-is_count c = record {
  ok = search rules;
  nests = search rules;
  err = if_err c.take_count.result
      (λ fault h trees. refusal_by _ _ fault (inside_count (state_of trees c.args.self.now c.args.stage.now) c.args.tok.now _ _ _ c.in-Number.is
      c.if-is_count.true) (h trees)) c.take_count.ensures.err;
}

pub returns-else-is_count : goal.returns-else-is_count
returns-else-is_count c = record {
  ok = search rules;
  nests = search rules;
  err = if_err c.take_number.result
      (λ fault h trees. refusal_by _ _ fault
      (inside_number (state_of trees c.args.self.now c.args.stage.now) c.args.tok.now _ _ _ c.in-Number.is c.if-is_count.false) (h trees))
      c.take_number.ensures.err;
}

pub returns-then-is_count-2 : goal.returns-then-is_count-2
returns-then-is_count-2 c = record {
  ok = tt;
  nests = tt;
  err = λ trees. refusal_by _ _ c.uncounted.result
      (inside_uncounted (state_of trees c.args.self.now c.args.stage.now) c.args.tok.now _ _ c.in-Word.is c.if-is_count-2.true) (c.uncounted.ensures trees);
}

pub returns-else-is_count-2 : goal.returns-else-is_count-2
returns-else-is_count-2 c = record {
  ok = search rules;
  nests = search rules;
  err = if_err c.take_value.result
      (λ fault h trees. refusal_by _ _ fault
      (inside_word (state_of trees c.args.self.now c.args.stage.now) c.args.tok.now _ _ c.in-Word.is c.if-is_count-2.false) (h trees))
      c.take_value.ensures.err;
}
