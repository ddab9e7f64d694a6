use Rattle.std.proofs.Common.{sym, ◌∙◌}
use Rattle.std.proofs.lemmas.Bool.{true≢false}
use Rattle.tdl_log.proofs.WalkSteps.{last_stands, none_stands}
use Rattle.tdl_log.proofs.walks.Walk.next.Goals as goal

pub returns-then-is_end-clause-some : goal.returns-then-is_end-clause-some
returns-then-is_end-clause-some g c = last_stands g.R.Reader.reads c.args.self.now c.requires c.args.line.now (c.is_end.ensures.0 c.if-is_end.true)

pub returns-clause-none : goal.returns-clause-none
returns-clause-none g c =
    none_stands g.R.Reader.reads c.args.self.now c.requires c.args.line.now (rw c.in_default.is at c.in_ok-entry.ensures.none)
    c.in_default-next_port.ensures.none (λ same. true≢false (sym (c.is_end.ensures.1 same) ∙ c.if-is_end.false))
