-- The innermost bracket is taken off.
use Rattle.std.proofs.Common.{ap, sym, ◌++◌, rules}
use Rattle.tdl_mini_reader.specs.TokenView.{tok_value}
use Rattle.tdl_mini_reader.specs.NestsView.{trees_in}
use Rattle.tdl_mini_reader.specs.declared.stages.Stage.TheVariants.{Ready}
use Rattle.tdl_mini_reader.proofs.ReaderLemmas.{refusal_by, refused_is}
use Rattle.tdl_mini_reader.proofs.EndLemmas.{closed_unlike, closed_other, closes}
use Rattle.tdl_mini_reader.proofs.reader.MiniTokenReader.close.Goals as goal

pub returns-then-not-is_same_bracket : goal.returns-then-not-is_same_bracket
returns-then-not-is_same_bracket c = record {
  ok = search rules;
  grown = search rules;
  err = λ more.
      let trees = trees_in c.args.self.now.nests ++ more in
      refusal_by _ _ c.refused-refused.result
      (closed_unlike trees c.args.self.now (tok_value c.args.tok.now) c.args.bracket c.pop.new.self.items c.in-Some.field-0 c.in-Operand.role
      c.in-Operand.braces c.in-Operand.opened c.in-Some.ensures.items c.in-Operand.is (sym c.if-not-is_same_bracket.ensures))
      (refused_is trees c.args.self.now Ready (tok_value c.args.tok.now) c.refused-refused.result c.refused-refused.ensures);
}

pub returns-in_ok-next-in-Operand : goal.returns-in_ok-next-in-Operand
returns-in_ok-next-in-Operand c = rw c.follow.ensures (record {
  ok = closes c.args.self.now c.nest.new.self (tok_value c.args.tok.now) c.args.bracket c.pop.new.self.items c.in-Some.field-0 c.in-Operand.role
      c.in-Operand.braces c.in-Operand.opened c.in_ok-nest-in-Operand.nest c.in_ok-next-in-Operand.next
      (record {
        items = c.in-Some.ensures.items;
        stays = c.requires.nests.stays;
        nested =
            record { trees = c.in_ok-nest-in-Operand.ensures.nested.trees; name = c.in_ok-nest-in-Operand.ensures.nested.name };
        level =
            c.in_ok-nest-in-Operand.ensures.level;
        frames = ap (λ v. v.items) c.in_ok-nest-in-Operand.ensures.frames;
        read =
            c.in_ok-nest-in-Operand.ensures.read;
      })
      c.in-Operand.is (sym c.if-not-is_same_bracket.ensures) c.in_ok-next-in-Operand.ensures;
  grown = search rules;
  err = search rules;
})

pub returns-in_default-hole : goal.returns-in_default-hole
returns-in_default-hole c = record {
  ok = tt;
  grown = tt;
  err = λ more.
      let trees = trees_in c.args.self.now.nests ++ more in
      refusal_by _ _ c.refused-refused.result
      (closed_other trees c.args.self.now (tok_value c.args.tok.now) c.args.bracket c.pop.new.self.items c.in-Some.field-0 c.in-Some.ensures.items
      c.in_default-hole.not-Operand) (refused_is trees c.args.self.now Ready (tok_value c.args.tok.now) c.refused-refused.result c.refused-refused.ensures);
}
