use Rattle.tdl_score.proofs.Cuts.{same_changes, same_performed, same_texts}
use Rattle.tdl_score.proofs.laws.cuts_do_not_matter.Goals as goal

pub returns : goal.returns
returns g c = record {
  changes = λ wire one other changes has_one has_other together p q first second.
      same_changes g.R.Reader.reads c.reading_law.ensures wire one other together p q first second changes has_one has_other;
  ticks = λ wire one other same together p q first second.
      same_performed g.R.Reader.reads c.reading_law.ensures wire one other together p q first second same;
  texts = λ wire one other same together p q first second.
      same_texts g.R.Reader.reads c.reading_law.ensures wire one other together p q first second same;
}
