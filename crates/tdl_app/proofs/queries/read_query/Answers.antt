use Rattle.std.proofs.Common.{refl}
use Rattle.tdl_command.specs.View.{pattern_of}
use Rattle.tdl_words.specs.View.{query_of}
use Rattle.tdl_app.specs.Answer.{no_arc}
use Rattle.tdl_app.specs.declared.query_faults.QueryFault.TheVariants.{Refused}
use Rattle.tdl_app.specs.declared.query_faults.QueryRefusal.TheVariants as refusal
use Rattle.tdl_app.specs.inside.QueryFaults.{IsFaultOf, of_text}
use Rattle.tdl_answer.specs.TextFaults.{of_reading, of_preparing}
use Rattle.tdl_app.proofs.Refused.{not_read, not_prepared}
use Rattle.tdl_answer.proofs.ReadTexts.{exit_err, prepared_fits}
use Rattle.tdl_app.proofs.queries.read_query.Goals as goal

pub returns-in_err-pattern-clause-err : goal.returns-in_err-pattern-clause-err
returns-in_err-pattern-clause-err c =
    let q = query_of c.args.query.now in
    let fault = c.in_err-pattern.field-0.0 in
    exit_err (IsFaultOf q) (of_text (of_reading fault)) c.from_residual.result c.from_residual.ensures.1 (not_read q fault c.in_err-pattern.ensures.refused)

pub returns-in_err-arc-clause-err : goal.returns-in_err-arc-clause-err
returns-in_err-arc-clause-err c =
    let q = query_of c.args.query.now in
    let fault = c.in_err-arc.field-0.0 in
    exit_err (IsFaultOf q) (Refused (refusal.Arc fault)) c.from_residual-in_err-arc.result c.from_residual-in_err-arc.ensures.1
    (no_arc (pattern_of c.in_ok-pattern.pattern.source) c.in_ok-pattern.ensures.pattern fault c.in_err-arc.ensures.err refl)

pub returns-in_err-program-clause-err : goal.returns-in_err-program-clause-err
returns-in_err-program-clause-err c =
    let q = query_of c.args.query.now in
    let fault = c.in_err-program.field-0.0 in
    exit_err (IsFaultOf q) (of_text (of_preparing fault)) c.from_residual-in_err-program.result c.from_residual-in_err-program.ensures.1
    (not_prepared q (pattern_of c.in_ok-pattern.pattern.source) c.in_ok-arc.arc
    (record { reads = c.in_ok-pattern.ensures.pattern; names = c.in_ok-arc.ensures.ok }) fault c.in_err-program.ensures.only)

pub returns-clause-ok : goal.returns-clause-ok
returns-clause-ok c = record {
  pattern = pattern_of c.in_ok-pattern.pattern.source;
  asks = record { reads = c.in_ok-pattern.ensures.pattern; names = c.in_ok-arc.ensures.ok };
  tree = c.in_ok-program.ensures.ok.tree;
  fits = prepared_fits _ c.in_ok-program.program _ refl c.in_ok-program.ensures.refused;
}
