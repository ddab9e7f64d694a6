-- The loop reads token after token, as the machine does.
use Rattle.std.proofs.Common.{arith}
use Rattle.std.proofs.lemmas.Result.{err_from_is_err_and}
use Rattle.tdl_line_texts.proofs.LinePieces.{pieces, few_tokens}
use Rattle.tdl_script.proofs.TokenLoop.{read_none, read_further, stopped_there, read_all, stage_ends}
use Rattle.tdl_script.proofs.lines.read_tokens.Goals as goal

pub loop-i-init : goal.loop-i-init
loop-i-init c = read_none c.args.goal c.args.text.now c.args.tokens.now c.new-reader.result c.first_stage-stage.result c.new-reader.ensures
    c.first_stage-stage.ensures

pub tok_at-requires : goal.tok_at-requires
tok_at-requires c =
    let piece = pieces c.args.text.now c.args.tokens.now c.loop-i.i c.get.result.now c.requires.cut (omega arith) (c.get.ensures c.get.result.now) in
    record { short = c.requires.short; ordered = piece.ordered; within = piece.within; number = piece.number; quoted = piece.quoted }

pub take-requires : goal.take-requires
take-requires c =
    let few = few_tokens c.args.text.now c.args.tokens.now c.requires.cut in
    omega (arith, few, c.loop-i.invariant.count, c.requires.short)

pub returns-in_err-stage-clause-err : goal.returns-in_err-stage-clause-err
returns-in_err-stage-clause-err c =
    let p = err_from_is_err_and c.from_residual.result c.from_residual.ensures.1 in
    rw (p.1, p.2)
    (stopped_there c.args.goal c.args.text.now c.args.tokens.now c.loop-i.i c.get.result.now c.tok_at.result c.loop-i.reader c.loop-i.stage _
    c.requires.short c.requires.cut (omega arith) (c.get.ensures c.get.result.now) c.tok_at.ensures c.loop-i.invariant c.in_err-stage.ensures.err)

pub loop-i-preserved : goal.loop-i-preserved
loop-i-preserved c =
    read_further c.args.goal c.args.text.now c.args.tokens.now c.loop-i.i c.get.result.now c.tok_at.result c.loop-i.reader c.take.new.self
    c.loop-i.stage
    c.in_ok-stage.stage (omega arith) (c.get.ensures c.get.result.now) c.tok_at.ensures c.loop-i.invariant c.in_ok-stage.ensures.ok
    c.in_ok-stage.ensures.count

pub returns-clause-whole : goal.returns-clause-whole
returns-clause-whole c =
    read_all c.args.goal c.args.text.now c.args.tokens.now c.loop-i.i c.loop-i.reader c.loop-i.stage c.in-Ended.whole c.requires.short
    c.requires.cut (omega arith) c.loop-i.invariant c.in-Ended.is

pub unreachable-requires : goal.unreachable-requires
unreachable-requires c =
    let e = stage_ends c.args.goal c.args.text.now c.args.tokens.now c.loop-i.i c.loop-i.reader c.loop-i.stage c.requires.cut (omega arith)
    c.loop-i.invariant in
    absurd (c.in_default.not-Ended e.0 e.1)
