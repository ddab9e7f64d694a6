use Rattle.std.proofs.Common.{rules}
use Rattle.tdl_mini_reader.proofs.reader.MiniTokenReader.take_inside.Goals as goal

pub returns-in-Rest : goal.returns-in-Rest
returns-in-Rest c = record {
  ok = search rules;
  nests = search rules;
  err = rw c.in-Rest.is c.take_rest.ensures.err;
}

pub returns-in-Open : goal.returns-in-Open
returns-in-Open c = record {
  ok = search rules;
  nests = search rules;
  err = rw c.in-Open.is c.take_open.ensures.err;
}

pub returns-in-OpenRound : goal.returns-in-OpenRound
returns-in-OpenRound c = record {
  ok = search rules;
  nests = search rules;
  err = rw c.in-OpenRound.is c.take_arguments.ensures.err;
}

pub returns-in-Repeat : goal.returns-in-Repeat
returns-in-Repeat c = record {
  ok = search rules;
  nests = search rules;
  err = rw c.in-Repeat.is c.take_repeat.ensures.err;
}

pub returns-in-Star : goal.returns-in-Star
returns-in-Star c = record {
  ok = search rules;
  nests = search rules;
  err = rw c.in-Star.is c.take_star.ensures.err;
}

pub returns-in-Slash : goal.returns-in-Slash
returns-in-Slash c = record {
  ok = search rules;
  nests = search rules;
  err = rw c.in-Slash.is c.take_slash.ensures.err;
}

pub returns-in-At : goal.returns-in-At
returns-in-At c = record {
  ok = search rules;
  nests = search rules;
  err = rw c.in-At.is c.take_at.ensures.err;
}

pub returns-in-Colon : goal.returns-in-Colon
returns-in-Colon c = record {
  ok = search rules;
  nests = search rules;
  err = rw c.in-Colon.is c.take_colon.ensures.err;
}

pub returns-in-Percent : goal.returns-in-Percent
returns-in-Percent c = record {
  ok = search rules;
  nests = search rules;
  err = rw c.in-Percent.is c.take_percent.ensures.err;
}

pub returns-in-Range : goal.returns-in-Range
returns-in-Range c = record {
  ok = search rules;
  nests = search rules;
  err = rw c.in-Range.is c.take_range.ensures.err;
}

pub returns-in-Hold : goal.returns-in-Hold
returns-in-Hold c = record {
  ok = search rules;
  nests = search rules;
  err = rw c.in-Hold.is c.take_hold.ensures.err;
}

pub returns-in-Dot : goal.returns-in-Dot
returns-in-Dot c = record {
  ok = search rules;
  nests = search rules;
  err = rw c.in-Dot.is c.take_next_group.ensures.err;
}

pub returns-in-Question : goal.returns-in-Question
returns-in-Question c = record {
  ok = search rules;
  nests = search rules;
  err = rw c.in-Question.is c.unfit.ensures;
}

pub returns-in-Bar : goal.returns-in-Bar
returns-in-Bar c = record {
  ok = search rules;
  nests = search rules;
  err = rw c.in-Bar.is c.unfit-in-Bar.ensures;
}

pub returns-in-Caret : goal.returns-in-Caret
returns-in-Caret c = record {
  ok = search rules;
  nests = search rules;
  err = rw c.in-Caret.is c.unfit-in-Caret.ensures;
}
