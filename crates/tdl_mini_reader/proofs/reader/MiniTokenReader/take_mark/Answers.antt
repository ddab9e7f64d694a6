use Rattle.std.proofs.Common.{◌++◌, rules}
use Rattle.tdl_mini_reader.specs.NestsView.{trees_in}
use Rattle.tdl_mini_reader.proofs.ReaderLemmas.{if_err}
use Rattle.tdl_mini_reader.proofs.reader.MiniTokenReader.take_mark.Goals as goal

pub returns-in-Close : goal.returns-in-Close
returns-in-Close c = record {
  ok = search rules;
  grown = search rules;
  err = rw c.in-Close.is c.take_close.ensures.err;
}

pub returns-in-CloseRound : goal.returns-in-CloseRound
returns-in-CloseRound c = record {
  ok = search rules;
  grown = search rules;
  err = rw c.in-CloseRound.is c.take_euclid.ensures.err;
}

pub returns-in-Comma : goal.returns-in-Comma
returns-in-Comma c = record {
  ok = search rules;
  grown = search rules;
  err = rw c.in-Comma.is c.take_comma.ensures.err;
}

pub returns-in_default : goal.returns-in_default
returns-in_default c = record {
  ok = search rules;
  grown = search rules;
  err = if_err c.take_inside.result (λ fault h more. h (trees_in c.args.self.now.nests ++ more)) c.take_inside.ensures.err;
}
