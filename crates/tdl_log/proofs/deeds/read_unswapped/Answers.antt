use Rattle.std.proofs.Common.{◌≡◌, ◌∙◌, sym, subst, true}
use Rattle.std.proofs.lemmas.Bool.{true≢false}
use Rattle.tdl_log.specs.inside.Deeds.{MayBePlain}
use Rattle.tdl_log.proofs.ReadDeeds.{plain_of, plain_once}
use Rattle.tdl_log.proofs.deeds.read_unswapped.Goals as goal

pub returns-else-may_be_done-clause-none : goal.returns-else-may_be_done-clause-none
returns-else-may_be_done-clause-none c = λ entries deed told may e.
    let same : deed ≡ c.in_ok-deed.deed =
    plain_once c.args.said.now deed c.in_ok-deed.deed (plain_of entries c.args.who deed may) c.in_ok-deed.ensures.plain e c.in_ok-deed.ensures.some in
    let yes : c.may_be_done.result ≡ true = (c.may_be_done.ensures entries told).1 (subst (MayBePlain entries c.args.who) same may) in
    true≢false (sym yes ∙ c.if-may_be_done.false)
