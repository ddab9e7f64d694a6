use Rattle.std.proofs.Common.{◌∙◌, ◌+◌, subst, sym, drop}
use Rattle.tdl_osc.specs.inside.Said.{AreFreeArguments}
use Rattle.tdl_osc.proofs.ReadValues.{argument_left, said_argument_on}
use Rattle.tdl_osc.proofs.reading.values.arguments_of.Goals as goal

pub argument_of-requires : goal.argument_of-requires
argument_of-requires c =
    let here = argument_left c.args.tags.now c.loop-tag.rest.now c.loop-tag.tag-index c.loop-tag-test.true c.loop-tag.invariant.free in
    here.within

pub after_argument-rest-requires : goal.after_argument-rest-requires
after_argument-rest-requires c =
    let here = argument_left c.args.tags.now c.loop-tag.rest.now c.loop-tag.tag-index c.loop-tag-test.true c.loop-tag.invariant.free in
    here.within

pub loop-tag-preserved : goal.loop-tag-preserved
loop-tag-preserved c =
    let tags = c.args.tags.now in
    let rest = c.loop-tag.rest.now in
    let i = c.loop-tag.tag-index in
    let after = c.after_argument-rest.ensures in
    let here = argument_left tags rest i c.loop-tag-test.true c.loop-tag.invariant.free in
    record {
      said = said_argument_on c.loop-tag.args c.push.new.self c.in_ok-argument_of.field-0 tags rest _ i c.loop-tag-test.true
          c.in_ok-push.ensures.ok c.in_ok-argument_of.ensures after ∙ c.loop-tag.invariant.said;
      free = subst (λ left. AreFreeArguments (drop (i + 1) tags) left) (sym after) here.free;
    }
