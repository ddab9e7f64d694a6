use Rattle.std.proofs.Common.{[], sym, ◌∙◌, subst, append-nil, arith}
use Rattle.std.proofs.lemmas.Result.{err_from_is_err_and}
use Rattle.tdl_control.specs.declared.faults.Faulted.{Faulted}
use Rattle.tdl_log.specs.declared.kinds.LogKind.{LogKind}
use Rattle.tdl_log.specs.Log.{log_of}
use Rattle.tdl_log.specs.LogGrammar.{RefusesLog}
use Rattle.tdl_log.specs.inside.Walks.{begun_lines}
use Rattle.tdl_log.proofs.WalkSteps.{step_fault, step_last, step_on}
use Rattle.tdl_log.proofs.walks.Walk.read_line.Goals as goal

pub returns-in_err-line-clause-err : goal.returns-in_err-line-clause-err
returns-in_err-line-clause-err g c =
    let lines = begun_lines (log_of c.args.self.now.sheet) in
    let p = err_from_is_err_and c.from_residual.result c.from_residual.ensures.1 in
    rw (p.1, p.2) (c.in_err-line.ensures.err (log_of c.args.self.now.sheet) lines [] c.requires.holds.sheet (sym (append-nil lines)) c.requires.read)

pub returns-in_default-clause-err : goal.returns-in_default-clause-err
returns-in_default-clause-err g c =
    subst (λ (fault : Faulted LogKind). RefusesLog g.R.Reader.reads c.args.text.now fault) (sym c.fault.ensures)
    (step_fault g.R.Reader.reads c.args.self.now c.requires.holds c.args.text.now c.in_ok-line.line.now c.requires.read c.in_ok-line.ensures.ok
    (rw c.in_default.is at c.in_ok-told.ensures.none))

pub returns-clause-holds : goal.returns-clause-holds
returns-clause-holds g c =
    let holds = c.in_ok-ended.ensures.holds in
    record { reading = holds.reading; sheet = holds.sheet; known = holds.known; least = holds.least }

pub returns-clause-goes_on : goal.returns-clause-goes_on
returns-clause-goes_on g c going =
    step_on g.R.Reader.reads c.args.self.now c.requires.holds c.args.text.now c.in_ok-line.line.now c.requires.read c.in_ok-line.ensures.ok
    (log_of c.take.new.self.sheet) c.in-Some.told _ (omega (arith, c.take.ensures.at)) (rw c.in-Some.is at c.in_ok-told.ensures.some)
    (sym c.in_ok-ended.ensures.ended ∙ going) c.in_ok-line.ensures.within c.in_ok-ended.ensures.log

pub returns-clause-ends : goal.returns-clause-ends
returns-clause-ends g c ends =
    step_last g.R.Reader.reads c.args.self.now c.requires.holds c.args.text.now c.in_ok-line.line.now c.requires.read c.in_ok-line.ensures.ok
    (log_of c.take.new.self.sheet) c.in-Some.told _ (omega (arith, c.take.ensures.at)) (rw c.in-Some.is at c.in_ok-told.ensures.some)
    (sym c.in_ok-ended.ensures.ended ∙ ends) c.in_ok-line.ensures.within c.in_ok-ended.ensures.log
