use Rattle.std.proofs.Common.{ℕ, refl, ap, sym, ◌∙◌, Err, Ok}
use Rattle.std.proofs.lemmas.Result.{err_from_is_err_and}
use Rattle.tdl_lines.proofs.PromptLemmas.{talking_none, talking_goes, asks, answers, asked_goes, reads_keep, talked, talked_fault}
use Rattle.tdl_answer.specs.Account.{Account, account}
use Rattle.tdl_answer.proofs.TakenLines.{calls_of, reads_line}
use Rattle.tdl_app.proofs.LinesPerformed.{progress_none, progress_line}
use Rattle.tdl_app.proofs.LinesStopped.{ends_line, ends_fault}
use Rattle.tdl_app.proofs.SameDevices.{same_at_first, same_again}
use Rattle.tdl_app.proofs.ScriptEnds.{finishes_ended, finishes_played, finishes_spent}
use Rattle.tdl_app.proofs.Unput.{ends_input_on, ends_out_on, finishes_input_on, finishes_out_on, progress_on, unput_keeps, unput_talks}
use Rattle.tdl_app.proofs.play.answer_lines.Goals as goal

pub lines-init : goal.lines-init
lines-init g c = (
  progress_none _ _ _ _ _ _ _ _ _ _ _ c.requires.core c.requires.fresh c.requires.read,
  (same_at_first _, talking_none c.requires.fresh c.requires.read),
)

pub returns-in_err-next-clause-err : goal.returns-in_err-next-clause-err
returns-in_err-next-clause-err g c =
    let p = err_from_is_err_and c.from_residual.result c.from_residual.ensures.1 in
    let t = g.T.Source in
    let k = g.T.Sink in
    let fault = c.in_err-next.field-0.0 in
    let before = c.lines.invariant.0 in
    let calls =
    calls_of t.left t.faults (Err fault) c.lines.reader c.next.new.self c.lines.talk c.next.new.source
    c.in_err-next.ensures.reads c.in_err-next.ensures.unasked c.in_err-next.ensures.counts in
    let kept =
    reads_keep g.met.T.Talk.apart (Err fault) c.lines.reader c.next.new.self c.lines.talk c.next.new.source before.took.taken before.took.given
    before.took.read c.in_err-next.ensures.reads in
    rw (p.1, p.2)
    (ends_out_on k.held k.faults c.args.talk.now c.lines.talk c.next.new.source kept c.lines.core
    (ends_fault fault (record { told = refl; faults = refl }) before calls (λ e. c.in_err-next.ensures.failed (ap Err e))))

pub returns-in_err-next-clause-prompt : goal.returns-in_err-next-clause-prompt
returns-in_err-next-clause-prompt g c =
    let p = err_from_is_err_and c.from_residual.result c.from_residual.ensures.1 in
    rw p.1 (talked_fault c.in_err-next.field-0.0 c.lines.invariant.1.1 c.in_err-next.ensures.reads)

pub lines-preserved : goal.lines-preserved
lines-preserved g c =
    let t = g.T.Source in
    let k = g.T.Sink in
    let laws = g.met.T.Talk.apart in
    let before = c.lines.invariant.0 in
    let a = c.lines.talk in
    let b = c.next.new.source in
    let d = c.play_line.new.out in
    let calls =
    calls_of t.left t.faults (Ok c.in_ok-next.field-0) c.lines.reader c.next.new.self a b
    c.in_ok-next.ensures.reads c.in_ok-next.ensures.unasked c.in_ok-next.ensures.counts in
    let reads =
    reads_line c.in_ok-next.field-0 c.line.result.now before.took.taken before.took.given c.in-Line.is calls c.line.ensures
    c.given_lines_are_the_first.ensures before.took.read in
    let kept =
    reads_keep laws (Ok c.in_ok-next.field-0) c.lines.reader c.next.new.self a b before.took.taken before.took.given before.took.read
    c.in_ok-next.ensures.reads in
    let put = c.in_ok-play_line-in-Line.ensures.put in
    let left = laws.took_keeps b put.0 d put.1 in
    let out : Account ℕ = account k.held k.faults b d in (
      progress_on t.left t.faults c.args.talk.now b d left _
          (progress_line {out' = out} c.line.result.now (record { told = refl; faults = refl })
          (record { told = kept.told_is; faults = kept.faults_are })
          (record { osc = record { told = refl; faults = refl }; midi = record { told = refl; faults = refl } })
          before reads c.in_ok-play_line-in-Line.ensures.answered
          (sym c.is_finished.ensures.value ∙ c.if-is_finished.false)),
      (
        same_again c.lines.invariant.1.0 c.in_ok-play_line-in-Line.ensures.same,
        answers put.0 (asks t.lost c.in_ok-next.field-0 c.in-Line.is c.lines.invariant.1.1 c.in_ok-next.ensures.reads) put.1,
      ),
    )

pub returns-then-is_finished-clause-ok : goal.returns-then-is_finished-clause-ok
returns-then-is_finished-clause-ok g c =
    let t = g.T.Source in
    let k = g.T.Sink in
    let laws = g.met.T.Talk.apart in
    let before = c.lines.invariant.0 in
    let a = c.lines.talk in
    let b = c.next.new.source in
    let d = c.play_line.new.out in
    let calls =
    calls_of t.left t.faults (Ok c.in_ok-next.field-0) c.lines.reader c.next.new.self a b
    c.in_ok-next.ensures.reads c.in_ok-next.ensures.unasked c.in_ok-next.ensures.counts in
    let reads =
    reads_line c.in_ok-next.field-0 c.line.result.now before.took.taken before.took.given c.in-Line.is calls c.line.ensures
    c.given_lines_are_the_first.ensures before.took.read in
    let kept =
    reads_keep laws (Ok c.in_ok-next.field-0) c.lines.reader c.next.new.self a b before.took.taken before.took.given before.took.read
    c.in_ok-next.ensures.reads in
    let put = c.in_ok-play_line-in-Line.ensures.put in
    let left = laws.took_keeps b put.0 d put.1 in
    let out : Account ℕ = account k.held k.faults b d in
    finishes_input_on t.left t.faults c.args.talk.now b d left _
    (finishes_played {out' = out} c.line.result.now (record { told = refl; faults = refl })
    (record { told = kept.told_is; faults = kept.faults_are })
    (record { osc = record { told = refl; faults = refl }; midi = record { told = refl; faults = refl } })
    before reads c.in_ok-play_line-in-Line.ensures.answered (sym c.is_finished.ensures.value ∙ c.if-is_finished.true))

pub returns-then-is_finished-clause-goes : goal.returns-then-is_finished-clause-goes
returns-then-is_finished-clause-goes g c =
    let put = c.in_ok-play_line-in-Line.ensures.put in
    talking_goes (answers put.0 (asks g.T.Source.lost c.in_ok-next.field-0 c.in-Line.is c.lines.invariant.1.1 c.in_ok-next.ensures.reads) put.1)

pub returns-in_err-play_line-in-Line-clause-err :
    goal.returns-in_err-play_line-in-Line-clause-err
returns-in_err-play_line-in-Line-clause-err g c =
    let p = err_from_is_err_and c.from_residual-in_err-play_line-in-Line.result c.from_residual-in_err-play_line-in-Line.ensures.1 in
    let t = g.T.Source in
    let k = g.T.Sink in
    let laws = g.met.T.Talk.apart in
    let before = c.lines.invariant.0 in
    let a = c.lines.talk in
    let b = c.next.new.source in
    let d = c.play_line.new.out in
    let stop = c.in_err-play_line-in-Line.field-0.0 in
    let calls =
    calls_of t.left t.faults (Ok c.in_ok-next.field-0) c.lines.reader c.next.new.self a b
    c.in_ok-next.ensures.reads c.in_ok-next.ensures.unasked c.in_ok-next.ensures.counts in
    let reads =
    reads_line c.in_ok-next.field-0 c.line.result.now before.took.taken before.took.given c.in-Line.is calls c.line.ensures
    c.given_lines_are_the_first.ensures before.took.read in
    let kept =
    reads_keep laws (Ok c.in_ok-next.field-0) c.lines.reader c.next.new.self a b before.took.taken before.took.given before.took.read
    c.in_ok-next.ensures.reads in
    let left = unput_keeps laws b d c.in_err-play_line-in-Line.ensures.unput in
    let out : Account ℕ = account k.held k.faults b d in
    rw (p.1, p.2)
    (ends_input_on t.left t.faults c.args.talk.now b d left c.play_line.new.core
    (ends_line {out' = out} stop c.line.result.now (record { told = refl; faults = refl })
    (record { told = kept.told_is; faults = kept.faults_are })
    (record { osc = record { told = refl; faults = refl }; midi = record { told = refl; faults = refl } })
    before reads c.last_plays_send_last.ensures.plays c.in_err-play_line-in-Line.ensures.answered))

pub returns-in_err-play_line-in-Line-clause-prompt : goal.returns-in_err-play_line-in-Line-clause-prompt
returns-in_err-play_line-in-Line-clause-prompt g c =
    let p = err_from_is_err_and c.from_residual-in_err-play_line-in-Line.result c.from_residual-in_err-play_line-in-Line.ensures.1 in
    rw p.1 (unput_talks (asked_goes (asks g.T.Source.lost c.in_ok-next.field-0 c.in-Line.is c.lines.invariant.1.1 c.in_ok-next.ensures.reads))
    c.in_err-play_line-in-Line.ensures.unput)

pub returns-in-Ended-clause-ok : goal.returns-in-Ended-clause-ok
returns-in-Ended-clause-ok g c =
    let t = g.T.Source in
    let before = c.lines.invariant.0 in
    let a = c.lines.talk in
    let b = c.next.new.source in
    let calls =
    calls_of t.left t.faults (Ok c.in_ok-next.field-0) c.lines.reader c.next.new.self a b
    c.in_ok-next.ensures.reads c.in_ok-next.ensures.unasked c.in_ok-next.ensures.counts in
    let kept =
    reads_keep g.met.T.Talk.apart (Ok c.in_ok-next.field-0) c.lines.reader c.next.new.self a b before.took.taken before.took.given before.took.read
    c.in_ok-next.ensures.reads in
    finishes_out_on g.T.Sink.held g.T.Sink.faults c.args.talk.now a b kept _
    (finishes_ended c.in_ok-next.field-0 c.in-Ended.is (record { told = refl; faults = refl }) before calls)

pub returns-in-Ended-clause-goes : goal.returns-in-Ended-clause-goes
returns-in-Ended-clause-goes g c = talked g.T.Source.lost c.in_ok-next.field-0 c.lines.invariant.1.1 c.in_ok-next.ensures.reads

pub returns-in-Spent-clause-ok : goal.returns-in-Spent-clause-ok
returns-in-Spent-clause-ok g c =
    let t = g.T.Source in
    let before = c.lines.invariant.0 in
    let a = c.lines.talk in
    let b = c.next.new.source in
    let calls =
    calls_of t.left t.faults (Ok c.in_ok-next.field-0) c.lines.reader c.next.new.self a b
    c.in_ok-next.ensures.reads c.in_ok-next.ensures.unasked c.in_ok-next.ensures.counts in
    let kept =
    reads_keep g.met.T.Talk.apart (Ok c.in_ok-next.field-0) c.lines.reader c.next.new.self a b before.took.taken before.took.given before.took.read
    c.in_ok-next.ensures.reads in
    finishes_out_on g.T.Sink.held g.T.Sink.faults c.args.talk.now a b kept _
    (finishes_spent c.in_ok-next.field-0 c.in-Spent.is (record { told = refl; faults = refl }) before calls)

pub returns-in-Spent-clause-goes : goal.returns-in-Spent-clause-goes
returns-in-Spent-clause-goes g c = talked g.T.Source.lost c.in_ok-next.field-0 c.lines.invariant.1.1 c.in_ok-next.ensures.reads
