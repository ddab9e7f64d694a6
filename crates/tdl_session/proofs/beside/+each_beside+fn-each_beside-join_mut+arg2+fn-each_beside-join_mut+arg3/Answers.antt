use Rattle.std.proofs.Common.{◌≡◌, ◌++◌, length, ◌∙◌, sym, subst, rules}
use Rattle.tdl_session.specs.inside.Beside.{AllMay, EachDid}
use Rattle.tdl_session.proofs.PairWorks.{did_append, may_same, may_halves}
use Rattle.tdl_session.proofs.beside.+each_beside+fn-each_beside-join_mut+arg2+fn-each_beside-join_mut+arg3.Goals as goal

pub join_mut-requires-after_bounds : goal.join_mut-requires-after_bounds
join_mut-requires-after_bounds g t c =
    let xs = c.split_at_mut-front in let ys = c.split_at_mut-near in
    let may : AllMay (g.W.PairWork.may c.args.work.now) (xs.result.0.now ++ xs.result.1.now) (ys.result.0.now ++ ys.result.1.now) =
    subst (λ l. AllMay (g.W.PairWork.may c.args.work.now) (xs.result.0.now ++ xs.result.1.now) l) ys.ensures.value
    (subst (λ l. AllMay (g.W.PairWork.may c.args.work.now) l c.args.seconds.now) xs.ensures.value c.requires.may) in
    let short : length xs.result.0.now ≡ length ys.result.0.now = xs.ensures.front_len ∙ sym ys.ensures.front_len in
    let halves = may_halves (g.W.PairWork.may c.args.work.now) xs.result.0.now xs.result.1.now ys.result.0.now ys.result.1.now short may in
    let front : AllMay (g.W.PairWork.may c.args.work.now) c.split_at_mut-front.result.0.now c.split_at_mut-near.result.0.now = halves.0 in
    let back : AllMay (g.W.PairWork.may c.args.work.now) c.split_at_mut-front.result.1.now c.split_at_mut-near.result.1.now = halves.1 in
    let long : length c.split_at_mut-front.result.1.now ≡ length c.split_at_mut-near.result.1.now = may_same (g.W.PairWork.may c.args.work.now) _ _ back in
    search rules

pub returns : goal.returns
returns g t c =
    let front : EachDid (g.W.PairWork.did c.args.work.now) c.split_at_mut-front.result.0.now c.front-1.given.0
    c.split_at_mut-near.result.0.now c.near-1.given.0 = search rules in
    let back : EachDid (g.W.PairWork.did c.args.work.now) c.split_at_mut-front.result.1.now c.back-1.given.0
    c.split_at_mut-near.result.1.now c.far-1.given.0 = search rules in
    rw (c.split_at_mut-front.ensures.value, c.split_at_mut-near.ensures.value)
    (did_append (g.W.PairWork.did c.args.work.now) _ _ _ _ _ _ _ _ front back)
