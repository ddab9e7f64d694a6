use Rattle.std.proofs.Common.{subst}
use Rattle.tdl_mini_reader.specs.inside.Calls.{mark_at, IsRefused}
use Rattle.tdl_mini_reader.specs.ReaderView.{state_of}
use Rattle.tdl_mini_reader.specs.TokenView.{tok_value}
use Rattle.tdl_mini_machine.specs.declared.marks.Mark.TheVariants.{Percent}
use Rattle.tdl_mini_reader.proofs.ReaderLemmas.{refusal_by, percent_other}
use Rattle.tdl_mini_reader.proofs.reader.MiniTokenReader.take_percent.Goals as goal

pub returns-in_default : goal.returns-in_default
returns-in_default c = record {
  ok = tt;
  nests = tt;
  err = subst (λ p. IsRefused (mark_at c.args.self.now p c.args.tok.now Percent) c.unfit.result) c.replace.ensures.value
      (λ trees. refusal_by _ _ c.unfit.result
      (percent_other trees (state_of trees c.args.self.now c.replace.result) (tok_value c.args.tok.now) c.replace.result c.in_default.not-Braced)
      (c.unfit.ensures trees));
}
