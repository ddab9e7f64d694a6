-- The argument that a comma ends is taken off.
use Rattle.std.proofs.lemmas.Grind.{common_steps}
use Rattle.std.proofs.Common.{ap, refl, ◌∙◌, ◌++◌, rules, arith}
use Rattle.tdl_mini_reader.specs.TokenView.{tok_value}
use Rattle.tdl_mini_reader.specs.NestsView.{trees_in}
use Rattle.tdl_mini_reader.specs.ReaderView.{level_of}
use Rattle.tdl_mini_reader.specs.declared.stages.Stage.TheVariants.{Ready}
use Rattle.tdl_mini_reader.specs.declared.stages.Hole.TheVariants.{Hits, Steps, From}
use Rattle.tdl_mini_reader.proofs.ReaderLemmas.{refusal_by, refused_is}
use Rattle.tdl_mini_reader.proofs.PartLemmas.{parts, parted_other}
use Rattle.tdl_mini_reader.proofs.reader.MiniTokenReader.part.Goals as goal

pub returns-in_ok-hits-in-Hits : goal.returns-in_ok-hits-in-Hits
returns-in_ok-hits-in-Hits c = record {
  ok = let kept = c.in_ok-hits-in-Hits.ensures in
      let after = c.go_on-in-Hits.ensures in
      parts c.args.self.now c.nest.new.self c.go_on-in-Hits.new.self (tok_value c.args.tok.now) c.pop.new.self.items c.in-Some.field-0 c.in_ok-hits-in-Hits.hits
      (Hits c.in-Hits.step) (Steps c.in-Hits.step c.in_ok-hits-in-Hits.hits) c.go_on-in-Hits.result
      c.in-Some.ensures.items c.requires.stays (record { trees = kept.nested.trees; name = kept.nested.name }) c.in-Hits.is (λ trees. refl) (λ trees. refl)
      (λ trees. ap (level_of trees) kept.level ∙ c.new.ensures trees)
      (ap (λ v. v.items) kept.frames) kept.read after.frames after.level after.nests after.read;
  grown = search rules;
  err = search rules;
}

pub returns-in_ok-steps-in-Steps : goal.returns-in_ok-steps-in-Steps
returns-in_ok-steps-in-Steps c = record {
  ok = let kept = c.in_ok-steps-in-Steps.ensures in
      let after = c.go_on-in-Steps.ensures in
      parts c.args.self.now c.nest-in-Steps.new.self c.go_on-in-Steps.new.self
      (tok_value c.args.tok.now) c.pop.new.self.items c.in-Some.field-0 c.in_ok-steps-in-Steps.steps (Steps c.in-Steps.step c.in-Steps.hits)
      (From c.in-Steps.step c.in-Steps.hits c.in_ok-steps-in-Steps.steps) c.go_on-in-Steps.result
      c.in-Some.ensures.items c.requires.stays (record { trees = kept.nested.trees; name = kept.nested.name }) c.in-Steps.is (λ trees. refl) (λ trees. refl)
      (λ trees. ap (level_of trees) kept.level ∙ c.new-in-Steps.ensures trees)
      (ap (λ v. v.items) kept.frames) kept.read after.frames after.level after.nests after.read;
  grown = search rules;
  err = search rules;
}

pub returns-in-From : goal.returns-in-From
returns-in-From c = record {
  ok = search rules;
  grown = search rules;
  err = λ more.
      let trees = trees_in c.args.self.now.nests ++ more in
      refusal_by _ _ c.refused-refused.result
      (parted_other trees c.args.self.now (tok_value c.args.tok.now) c.pop.new.self.items c.in-Some.field-0 c.in-From.step c.in-From.hits c.in-From.steps
      c.in-Some.ensures.items c.in-From.is)
      (refused_is trees c.args.self.now Ready (tok_value c.args.tok.now) c.refused-refused.result c.refused-refused.ensures);
}

pub returns-in_ok-end_sequence-in-Operand : goal.returns-in_ok-end_sequence-in-Operand
returns-in_ok-end_sequence-in-Operand c = record {
  ok = grind (arith, common_steps);
  grown = search rules;
  err = search rules;
}
