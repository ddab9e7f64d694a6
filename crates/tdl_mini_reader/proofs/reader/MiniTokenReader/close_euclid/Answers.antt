-- The arguments that end are taken off.
use Rattle.std.proofs.Common.{ap, refl, ◌++◌, rules}
use Rattle.tdl_mini_reader.specs.TokenView.{tok_value}
use Rattle.tdl_mini_reader.specs.NestsView.{trees_in}
use Rattle.tdl_mini_reader.specs.declared.stages.Stage.TheVariants.{Ready}
use Rattle.tdl_mini_reader.specs.declared.stages.Hole.TheVariants.{Steps, From}
use Rattle.tdl_mini_reader.proofs.ReaderLemmas.{refusal_by, refused_is}
use Rattle.tdl_mini_reader.proofs.EuclidLemmas.{euclid_ok, euclid_err, euclid_other}
use Rattle.tdl_mini_reader.proofs.reader.MiniTokenReader.close_euclid.Goals as goal

pub returns-in_ok-steps-in-Steps : goal.returns-in_ok-steps-in-Steps
returns-in_ok-steps-in-Steps c = record {
  ok = let kept = c.in_ok-steps-in-Steps.ensures in
      euclid_ok c.args.self.now c.nest.new.self (tok_value c.args.tok.now) c.pop.new.self.items c.in-Some.field-0
      (Steps c.in-Steps.step c.in-Steps.hits) c.in_ok-steps-in-Steps.steps c.end_euclid.new.stage c.end_euclid.result
      (record {
        items = c.in-Some.ensures.items;
        stays = c.requires.nests.stays;
        nested = record { trees = kept.nested.trees; name = kept.nested.name };
        level =
            kept.level;
        frames = ap (λ v. v.items) kept.frames;
        read = kept.read;
      })
      c.in-Steps.is (λ trees. refl) c.end_euclid.ensures.accepted c.end_euclid.ensures.ok;
  grown = search rules;
  err = let kept = c.in_ok-steps-in-Steps.ensures in
      euclid_err c.args.self.now c.nest.new.self (tok_value c.args.tok.now) c.pop.new.self.items c.in-Some.field-0
      (Steps c.in-Steps.step c.in-Steps.hits) c.in_ok-steps-in-Steps.steps c.end_euclid.result
      (record {
        items = c.in-Some.ensures.items;
        stays = c.requires.nests.stays;
        nested = record { trees = kept.nested.trees; name = kept.nested.name };
        level =
            kept.level;
        frames = ap (λ v. v.items) kept.frames;
        read = kept.read;
      })
      c.in-Steps.is (λ trees. refl) c.end_euclid.ensures.err;
}

pub returns-in_ok-from-in-From : goal.returns-in_ok-from-in-From
returns-in_ok-from-in-From c = record {
  ok = let kept = c.in_ok-from-in-From.ensures in
      euclid_ok c.args.self.now c.nest-in-From.new.self (tok_value c.args.tok.now) c.pop.new.self.items c.in-Some.field-0
      (From c.in-From.step c.in-From.hits c.in-From.steps) c.in_ok-from-in-From.from c.end_euclid-in-From.new.stage c.end_euclid-in-From.result
      (record {
        items = c.in-Some.ensures.items;
        stays = c.requires.nests.stays;
        nested = record { trees = kept.nested.trees; name = kept.nested.name };
        level =
            kept.level;
        frames = ap (λ v. v.items) kept.frames;
        read = kept.read;
      })
      c.in-From.is (λ trees. refl) c.end_euclid-in-From.ensures.accepted c.end_euclid-in-From.ensures.ok;
  grown = search rules;
  err = let kept = c.in_ok-from-in-From.ensures in
      euclid_err c.args.self.now c.nest-in-From.new.self (tok_value c.args.tok.now) c.pop.new.self.items c.in-Some.field-0
      (From c.in-From.step c.in-From.hits c.in-From.steps) c.in_ok-from-in-From.from c.end_euclid-in-From.result
      (record {
        items = c.in-Some.ensures.items;
        stays = c.requires.nests.stays;
        nested = record { trees = kept.nested.trees; name = kept.nested.name };
        level =
            kept.level;
        frames = ap (λ v. v.items) kept.frames;
        read = kept.read;
      })
      c.in-From.is (λ trees. refl) c.end_euclid-in-From.ensures.err;
}

pub returns-in_default-hole : goal.returns-in_default-hole
returns-in_default-hole c = record {
  ok = search rules;
  grown = search rules;
  err = λ more.
      let trees = trees_in c.args.self.now.nests ++ more in
      refusal_by _ _ c.refused-refused.result
      (euclid_other trees c.args.self.now (tok_value c.args.tok.now) c.pop.new.self.items c.in-Some.field-0 c.in-Some.ensures.items
      c.in_default-hole.not-Steps c.in_default-hole.not-From)
      (refused_is trees c.args.self.now Ready (tok_value c.args.tok.now) c.refused-refused.result c.refused-refused.ensures);
}
