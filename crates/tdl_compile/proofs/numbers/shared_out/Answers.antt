use Rattle.tdl_compile.proofs.Words.{shared_alone, shared_capped, shared_word_positive}
use Rattle.tdl_compile.proofs.numbers.shared_out.Goals as goal

pub returns-then-factor-eq1 : goal.returns-then-factor-eq1
returns-then-factor-eq1 c =
    let a = c.args.number in
    let n = c.args.factor in
    let d = c.args.divisor in
    let value =
    shared_alone a n d _ c.requires.number c.requires.lowest c.without_shared-quotient.ensures c.if-factor-eq1.true c.without_shared-quotient.type_inv in
    record { value = value; positive = shared_word_positive a n d _ c.requires.number c.requires.factor value }

pub returns : goal.returns
returns c =
    let a = c.args.number in
    let n = c.args.factor in
    let d = c.args.divisor in
    let value =
    shared_capped a n d _ _ _ c.requires.number c.requires.lowest c.without_shared-quotient.ensures c.saturating_mul.ensures c.capped.ensures in
    record { value = value; positive = shared_word_positive a n d _ c.requires.number c.requires.factor value }
