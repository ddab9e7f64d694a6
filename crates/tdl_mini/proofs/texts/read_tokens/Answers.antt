-- The loop reads token after token, as the machine does.
use Rattle.std.proofs.Common.{arith, sym, ◌∙◌, subst}
use Rattle.std.specs.Prelude.{IsTrue}
use Rattle.std.proofs.lemmas.Result.{err_from_is_err_and}
use Rattle.tdl_mini_machine.specs.Tokens.{Tok}
use Rattle.tdl_mini_grammar.specs.Texts.{IsMini}
use Rattle.tdl_mini_reader.specs.TokenView.{tok_value}
use Rattle.tdl_mini_machine.specs.Readable.{is_readable}
use Rattle.tdl_mini_reader.specs.declared.stages.Stage.TheVariants.{Ready}
use Rattle.tdl_mini.proofs.TokenLoop.{read_none, read_further, stays_there, room_there, fault_there, read_all, whole_text, whole_kind, whole_valid}
use Rattle.tdl_mini_grammar.proofs.Pieced.{pieces, few_tokens}
use Rattle.tdl_mini.proofs.texts.read_tokens.Goals as goal

pub loop-i-init : goal.loop-i-init
loop-i-init c =
    read_none c.args.kind c.args.text.now c.args.tokens.now c.new-reader.result Ready c.new-reader.ensures.empty
    c.new-reader.ensures.state

pub tok_at-requires : goal.tok_at-requires
tok_at-requires c = pieces c.args.text.now c.args.tokens.now c.loop-i.i c.get.result.now c.requires.cut (omega arith) (c.get.ensures c.get.result.now)

pub take-requires-clause-stays : goal.take-requires-clause-stays
take-requires-clause-stays c = stays_there c.args.kind c.args.text.now c.args.tokens.now c.loop-i.i c.loop-i.reader c.loop-i.stage c.loop-i.invariant

pub take-requires-clause-readable : goal.take-requires-clause-readable
take-requires-clause-readable c =
    let piece = pieces c.args.text.now c.args.tokens.now c.loop-i.i c.get.result.now c.requires.cut (omega arith) (c.get.ensures c.get.result.now) in
    subst (λ (t : Tok). IsTrue (is_readable t)) (sym c.tok_at.ensures) piece.readable

pub take-requires-clause-room : goal.take-requires-clause-room
take-requires-clause-room c = c.loop-i.invariant.room

pub take-requires-clause-short : goal.take-requires-clause-short
take-requires-clause-short c = room_there c.args.kind c.args.text.now c.args.tokens.now c.loop-i.i c.loop-i.reader c.loop-i.stage c.loop-i.invariant
    (few_tokens c.args.text.now c.args.tokens.now c.requires.cut) c.requires.short (omega arith)

pub returns-in_err-take-clause-err : goal.returns-in_err-take-clause-err
returns-in_err-take-clause-err c =
    let p = err_from_is_err_and c.from_residual.result c.from_residual.ensures.1 in
    rw (p.1, p.2)
    (fault_there c.args.kind c.args.text.now c.args.tokens.now c.loop-i.i c.get.result.now
    (tok_value c.tok_at.result) c.loop-i.reader c.loop-i.stage _ c.requires.cut (omega arith)
    (c.get.ensures c.get.result.now) c.tok_at.ensures c.loop-i.invariant c.in_err-take.ensures.err)

pub loop-i-preserved : goal.loop-i-preserved
loop-i-preserved c =
    read_further c.args.kind c.args.text.now c.args.tokens.now c.loop-i.i c.get.result.now
    (tok_value c.tok_at.result) c.loop-i.reader c.take.new.self c.loop-i.stage c.take.new.stage (omega arith)
    (c.get.ensures c.get.result.now) c.tok_at.ensures c.loop-i.invariant
    (record {
      ok = c.in_ok-take.ensures.ok;
      grown = c.in_ok-take.ensures.grown;
      count =
          c.in_ok-take.ensures.count;
      room = c.in_ok-take.ensures.room;
    })

pub into_tree-requires-clause-room : goal.into_tree-requires-clause-room
into_tree-requires-clause-room c =
    let few = few_tokens c.args.text.now c.args.tokens.now c.requires.cut in
    omega (arith, few, c.loop-i.invariant.room, c.loop-i.invariant.count)

pub into_tree-requires-clause-valid : goal.into_tree-requires-clause-valid
into_tree-requires-clause-valid c =
    let done = read_all c.args.kind c.args.text.now c.args.tokens.now c.loop-i.i c.loop-i.reader c.loop-i.stage (omega arith) c.loop-i.invariant in
    whole_valid c.args.kind c.args.text.now c.args.tokens.now c.loop-i.reader c.loop-i.stage c.requires.key c.requires.cut done

pub returns-clause-text : goal.returns-clause-text
returns-clause-text c =
    let done = read_all c.args.kind c.args.text.now c.args.tokens.now c.loop-i.i c.loop-i.reader c.loop-i.stage (omega arith) c.loop-i.invariant in
    subst (IsMini c.args.kind c.args.text.now) (sym c.in_ok-into_tree.ensures.syntax)
    (whole_text c.args.kind c.args.text.now c.args.tokens.now c.loop-i.reader c.loop-i.stage c.requires.cut done)

pub returns-clause-kind : goal.returns-clause-kind
returns-clause-kind c =
    let done = read_all c.args.kind c.args.text.now c.args.tokens.now c.loop-i.i c.loop-i.reader c.loop-i.stage (omega arith) c.loop-i.invariant in
    c.in_ok-into_tree.ensures.kind ∙ whole_kind c.args.kind c.args.text.now c.args.tokens.now c.loop-i.reader c.loop-i.stage c.requires.cut done
