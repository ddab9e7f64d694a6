use Rattle.std.proofs.Common.{ℕ, refl, ap, ◌∙◌, Ok, Err}
use Rattle.tdl_answer.specs.Account.{Account, account}
use Rattle.tdl_answer.proofs.TakenLines.{calls_of, reads_line}
use Rattle.tdl_lines.proofs.PromptLemmas.{talking_none, asks, answers, goes_to, reads_keep, talked, talked_fault}
use Rattle.tdl_perform.proofs.ServedPorts.{serving_none, serving_line, port_begun, port_ended, port_full, port_lost, port_spent}
use Rattle.tdl_perform.proofs.Talks.{port_sink_on, port_source_on, puts_keep, serving_on, talked_halted}
use Rattle.tdl_perform.proofs.performing.serve_lines.Goals as goal

pub lines-init : goal.lines-init
lines-init g c = (
  serving_none _ _ _ _ _ _ _ _ c.requires.new c.requires.fresh c.requires.read,
  ((refl, refl, refl, refl, refl), talking_none c.requires.fresh c.requires.read),
)

pub lines-preserved : goal.lines-preserved
lines-preserved g c =
    let t = g.T.Source in
    let k = g.T.Sink in
    let laws = g.met.T.Talk.apart in
    let before = c.lines.invariant.0 in
    let calls =
    calls_of t.left t.faults (Ok c.in-Ok-Line.field-0) c.lines.reader c.next.new.self c.lines.port c.next.new.source
    c.in-Ok-Line.ensures.reads c.in-Ok-Line.ensures.unasked c.in-Ok-Line.ensures.counts in
    let reads =
    reads_line c.in-Ok-Line.field-0 c.line.result.now before.took.taken before.took.given c.in-Ok-Line.field-0-is calls
    c.line.ensures c.given_lines_are_the_first.ensures before.took.read in
    let same = c.lines.invariant.1.0 in
    let now = c.serve_line.ensures.pass in
    let kept =
    reads_keep laws (Ok c.in-Ok-Line.field-0) c.lines.reader c.next.new.self c.lines.port c.next.new.source before.took.taken before.took.given
    before.took.read c.in-Ok-Line.ensures.reads in
    let put = c.in_default.ensures.put in
    let left = laws.took_keeps c.next.new.source put.0 c.serve_line.new.sink put.1 in
    let sink : Account ℕ = account k.held k.faults c.next.new.source c.serve_line.new.sink in (
      serving_on t.left t.faults c.args.port.now c.next.new.source c.serve_line.new.sink left
          (serving_line {sink' = sink} c.line.result.now (record { told = refl; faults = refl })
          (record { told = kept.told_is; faults = kept.faults_are }) before reads same.2 c.in_default.ensures.ok c.in_default.ensures.kept),
      (
        (now.0 ∙ same.0, now.1 ∙ same.1, now.2 ∙ same.2, now.3 ∙ same.3, now.4 ∙ same.4),
        answers put.0 (asks t.lost c.in-Ok-Line.field-0 c.in-Ok-Line.field-0-is c.lines.invariant.1.1 c.in-Ok-Line.ensures.reads) put.1,
      ),
    )

pub returns-in-Err-clause-port : goal.returns-in-Err-clause-port
returns-in-Err-clause-port g c =
    let t = g.T.Source in
    let k = g.T.Sink in
    let laws = g.met.T.Talk.apart in
    let before = c.lines.invariant.0 in
    let calls =
    calls_of t.left t.faults (Ok c.in-Ok-Line.field-0) c.lines.reader c.next.new.self c.lines.port c.next.new.source
    c.in-Ok-Line.ensures.reads c.in-Ok-Line.ensures.unasked c.in-Ok-Line.ensures.counts in
    let reads =
    reads_line c.in-Ok-Line.field-0 c.line.result.now before.took.taken before.took.given c.in-Ok-Line.field-0-is calls
    c.line.ensures c.given_lines_are_the_first.ensures before.took.read in
    let kept =
    reads_keep laws (Ok c.in-Ok-Line.field-0) c.lines.reader c.next.new.self c.lines.port c.next.new.source before.took.taken before.took.given
    before.took.read c.in-Ok-Line.ensures.reads in
    let left = puts_keep laws c.in-Err.halt c.next.new.source c.serve_line.new.sink c.in-Err.ensures.halted in
    let sink : Account ℕ = account k.held k.faults c.next.new.source c.serve_line.new.sink in
    rw c.end_of_halt.ensures
    (port_source_on t.left t.faults c.args.port.now c.next.new.source c.serve_line.new.sink left
    (port_begun {sink' = sink} c.in-Err.halt c.line.result.now (record { told = refl; faults = refl })
    (record { told = kept.told_is; faults = kept.faults_are }) before reads c.lines.invariant.1.0.2 c.in-Err.ensures.err c.in-Err.ensures.kept))

pub returns-in-Err-clause-prompt : goal.returns-in-Err-clause-prompt
returns-in-Err-clause-prompt g c =
    talked_halted c.in-Err.halt (asks g.T.Source.lost c.in-Ok-Line.field-0 c.in-Ok-Line.field-0-is c.lines.invariant.1.1 c.in-Ok-Line.ensures.reads)
    c.in-Err.ensures.halted

pub returns-in-Ok-Ended-clause-port : goal.returns-in-Ok-Ended-clause-port
returns-in-Ok-Ended-clause-port g c =
    let t = g.T.Source in
    let before = c.lines.invariant.0 in
    let calls =
    calls_of t.left t.faults (Ok c.in-Ok-Ended.field-0) c.lines.reader c.next.new.self c.lines.port c.next.new.source
    c.in-Ok-Ended.ensures.reads c.in-Ok-Ended.ensures.unasked c.in-Ok-Ended.ensures.counts in
    let kept =
    reads_keep g.met.T.Talk.apart (Ok c.in-Ok-Ended.field-0) c.lines.reader c.next.new.self c.lines.port c.next.new.source before.took.taken
    before.took.given before.took.read c.in-Ok-Ended.ensures.reads in
    port_sink_on g.T.Sink.held g.T.Sink.faults c.args.port.now c.lines.port c.next.new.source kept
    (port_ended c.in-Ok-Ended.field-0 c.in-Ok-Ended.field-0-is (record { told = refl; faults = refl }) before calls)

pub returns-in-Ok-Ended-clause-prompt : goal.returns-in-Ok-Ended-clause-prompt
returns-in-Ok-Ended-clause-prompt g c =
    goes_to (talked g.T.Source.lost c.in-Ok-Ended.field-0 c.lines.invariant.1.1 c.in-Ok-Ended.ensures.reads) refl

pub returns-in-Ok-Spent-clause-port : goal.returns-in-Ok-Spent-clause-port
returns-in-Ok-Spent-clause-port g c =
    let t = g.T.Source in
    let before = c.lines.invariant.0 in
    let calls =
    calls_of t.left t.faults (Ok c.in-Ok-Spent.field-0) c.lines.reader c.next.new.self c.lines.port c.next.new.source
    c.in-Ok-Spent.ensures.reads c.in-Ok-Spent.ensures.unasked c.in-Ok-Spent.ensures.counts in
    let kept =
    reads_keep g.met.T.Talk.apart (Ok c.in-Ok-Spent.field-0) c.lines.reader c.next.new.self c.lines.port c.next.new.source before.took.taken
    before.took.given before.took.read c.in-Ok-Spent.ensures.reads in
    port_sink_on g.T.Sink.held g.T.Sink.faults c.args.port.now c.lines.port c.next.new.source kept
    (port_spent c.in-Ok-Spent.field-0 c.in-Ok-Spent.field-0-is (record { told = refl; faults = refl }) before calls)

pub returns-in-Ok-Spent-clause-prompt : goal.returns-in-Ok-Spent-clause-prompt
returns-in-Ok-Spent-clause-prompt g c =
    goes_to (talked g.T.Source.lost c.in-Ok-Spent.field-0 c.lines.invariant.1.1 c.in-Ok-Spent.ensures.reads) refl

pub returns-in-Err-NoMemory-clause-port : goal.returns-in-Err-NoMemory-clause-port
returns-in-Err-NoMemory-clause-port g c =
    let t = g.T.Source in
    let before = c.lines.invariant.0 in
    let calls =
    calls_of t.left t.faults (Err c.in-Err-NoMemory.field-0) c.lines.reader c.next.new.self c.lines.port c.next.new.source
    c.in-Err-NoMemory.ensures.reads c.in-Err-NoMemory.ensures.unasked c.in-Err-NoMemory.ensures.counts in
    let kept =
    reads_keep g.met.T.Talk.apart (Err c.in-Err-NoMemory.field-0) c.lines.reader c.next.new.self c.lines.port c.next.new.source before.took.taken
    before.took.given before.took.read c.in-Err-NoMemory.ensures.reads in
    port_sink_on g.T.Sink.held g.T.Sink.faults c.args.port.now c.lines.port c.next.new.source kept
    (port_full c.in-Err-NoMemory.field-0 c.in-Err-NoMemory.field-0-is (record { told = refl; faults = refl }) before calls)

pub returns-in-Err-NoMemory-clause-prompt : goal.returns-in-Err-NoMemory-clause-prompt
returns-in-Err-NoMemory-clause-prompt g c =
    talked_fault c.in-Err-NoMemory.field-0 c.lines.invariant.1.1 c.in-Err-NoMemory.ensures.reads

pub returns-in-Err-Failed-clause-port : goal.returns-in-Err-Failed-clause-port
returns-in-Err-Failed-clause-port g c =
    let t = g.T.Source in
    let before = c.lines.invariant.0 in
    let calls =
    calls_of t.left t.faults (Err c.in-Err-Failed.field-0) c.lines.reader c.next.new.self c.lines.port c.next.new.source
    c.in-Err-Failed.ensures.reads c.in-Err-Failed.ensures.unasked c.in-Err-Failed.ensures.counts in
    let kept =
    reads_keep g.met.T.Talk.apart (Err c.in-Err-Failed.field-0) c.lines.reader c.next.new.self c.lines.port c.next.new.source before.took.taken
    before.took.given before.took.read c.in-Err-Failed.ensures.reads in
    port_sink_on g.T.Sink.held g.T.Sink.faults c.args.port.now c.lines.port c.next.new.source kept
    (port_lost c.in-Err-Failed.field-0 c.in-Err-Failed.field-0-is (record { told = refl; faults = refl }) before calls
    (c.in-Err-Failed.ensures.failed (ap Err c.in-Err-Failed.field-0-is)))

pub returns-in-Err-Failed-clause-prompt : goal.returns-in-Err-Failed-clause-prompt
returns-in-Err-Failed-clause-prompt g c =
    talked_fault c.in-Err-Failed.field-0 c.lines.invariant.1.1 c.in-Err-Failed.ensures.reads
