use Rattle.std.proofs.Common.{arith}
use Rattle.tdl_control.proofs.PrintLemmas.{on_err_always}
use Rattle.tdl_log.proofs.PutLines.{cut_at, pieces_more}
use Rattle.tdl_log.proofs.pages.Page.put_all.Goals as goal

pub returns-in_err-put-clause-err : goal.returns-in_err-put-clause-err
returns-in_err-put-clause-err g c =
    on_err_always c.from_residual.result
    (cut_at (λ piece. piece.now) c.args.pieces.now c.loop-piece.piece-index _ (omega arith) c.loop-piece.invariant.written c.in_err-put.ensures.err)

pub loop-piece-preserved : goal.loop-piece-preserved
loop-piece-preserved g c = record {
  written = pieces_more (λ piece. piece.now) c.args.pieces.now c.loop-piece.piece-index _ (omega arith) c.loop-piece.invariant.written c.in_ok-put.ensures.ok;
  kept = omega (arith, c.loop-piece.invariant.kept, c.put.ensures.cause.kept);
}
