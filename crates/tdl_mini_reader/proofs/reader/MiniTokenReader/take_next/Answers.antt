use Rattle.std.proofs.Common.{◌++◌, rules}
use Rattle.tdl_mini_reader.specs.NestsView.{trees_in}
use Rattle.tdl_mini_reader.specs.ReaderView.{state_of}
use Rattle.tdl_mini_reader.proofs.ReaderLemmas.{refusal_by, if_err}
use Rattle.tdl_mini_reader.proofs.InsideLemmas.{inside_mark}
use Rattle.tdl_mini_reader.proofs.reader.MiniTokenReader.take_next.Goals as goal

pub returns-in-Mark : goal.returns-in-Mark
returns-in-Mark c = record {
  ok = search rules;
  grown = search rules;
  err = if_err c.take_mark.result
      (λ fault h more. refusal_by _ _ fault
      (inside_mark (state_of (trees_in c.args.self.now.nests ++ more) c.args.self.now c.args.stage.now) c.args.tok.now _ c.in-Mark.is) (h more))
      c.take_mark.ensures.err;
}

pub returns-in_default : goal.returns-in_default
returns-in_default c = record {
  ok = search rules;
  grown = search rules;
  err = if_err c.take_plain.result (λ fault h more. h (trees_in c.args.self.now.nests ++ more)) c.take_plain.ensures.err;
}
