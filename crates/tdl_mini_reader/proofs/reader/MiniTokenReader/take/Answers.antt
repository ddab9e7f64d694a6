use Rattle.std.proofs.Common.{true, arith}
use Rattle.std.proofs.lemmas.Result.{err_from_is_err_and}
use Rattle.tdl_mini_reader.specs.NestsView.{trees_in}
use Rattle.tdl_mini_machine.specs.Machine.Running.{taken}
use Rattle.tdl_mini_reader.specs.TokenView.{tok_value}
use Rattle.tdl_mini_reader.specs.ReaderView.{state_of}
use Rattle.tdl_mini_reader.proofs.InsideLemmas.{refused_here, read_stays, few_layers}
use Rattle.tdl_mini_reader.proofs.reader.MiniTokenReader.take.Goals as goal

pub returns-in_err-take_next-clause-err : goal.returns-in_err-take_next-clause-err
returns-in_err-take_next-clause-err c =
    let p = err_from_is_err_and c.from_residual.result c.from_residual.ensures.1 in
    rw (p.1, p.2)
    (refused_here (λ ts. taken true (state_of ts c.args.self.now c.args.stage.now) (tok_value c.args.tok.now))
    (trees_in c.args.self.now.nests) _ c.in_err-take_next.ensures.err)

pub overflow_add-self : goal.overflow_add-self
overflow_add-self c =
    let same = read_stays c.args.self.now c.take_next.new.self c.args.stage.now c.take_next.new.stage
    (tok_value c.args.tok.now) c.in_ok-take_next.ensures.ok in
    omega (arith, same, c.requires.short)

pub returns-clause-count : goal.returns-clause-count
returns-clause-count c =
    let same = read_stays c.args.self.now c.take_next.new.self c.args.stage.now c.take_next.new.stage
    (tok_value c.args.tok.now) c.in_ok-take_next.ensures.ok in
    omega (arith, same)

pub returns-clause-room : goal.returns-clause-room
returns-clause-room c =
    let same = read_stays c.args.self.now c.take_next.new.self c.args.stage.now c.take_next.new.stage
    (tok_value c.args.tok.now) c.in_ok-take_next.ensures.ok in
    omega (arith, same, few_layers c.args.self.now.nests c.take_next.new.self.nests c.args.self.now.read c.in_ok-take_next.ensures.grown c.requires.room)
