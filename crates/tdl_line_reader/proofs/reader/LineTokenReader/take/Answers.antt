use Rattle.std.proofs.Common.{refl, arith}
use Rattle.std.proofs.lemmas.Result.{err_from_is_err_and}
use Rattle.tdl_line_reader.proofs.Answering.{stops_by}
use Rattle.tdl_line_reader.proofs.Counted.{read_stays, counted_state}
use Rattle.tdl_line_reader.proofs.reader.LineTokenReader.take.Goals as goal

pub returns-in_err-next-clause-err : goal.returns-in_err-next-clause-err
returns-in_err-next-clause-err g c =
    let p = err_from_is_err_and c.from_residual.result c.from_residual.ensures.1 in
    rw (p.1, p.2) (λ readings are. (c.in_err-next.ensures readings are).err)

pub overflow_add-self : goal.overflow_add-self
overflow_add-self g c =
    omega (
      arith,
      read_stays g.Q.Quoted.reads g.met.Q.Quoted.some c.args.self.now c.take_next.new.self c.args.stage c.in-Some.next c.args.tok.now
          (rw c.in-Some.is at c.in_ok-next.ensures),
      c.requires,
    )

pub returns-in-Some-clause-ok : goal.returns-in-Some-clause-ok
returns-in-Some-clause-ok g c =
    counted_state g.Q.Quoted.reads c.args.self.now c.take_next.new.self c.args.stage c.in-Some.next c.args.tok.now _ refl
    (rw c.in-Some.is at c.in_ok-next.ensures)

pub returns-in-Some-clause-count : goal.returns-in-Some-clause-count
returns-in-Some-clause-count g c =
    omega (
      arith,
      read_stays g.Q.Quoted.reads g.met.Q.Quoted.some c.args.self.now c.take_next.new.self c.args.stage c.in-Some.next c.args.tok.now
          (rw c.in-Some.is at c.in_ok-next.ensures),
    )

pub returns-in-None-clause-err : goal.returns-in-None-clause-err
returns-in-None-clause-err g c =
    λ readings are. stops_by _ _ _ (c.refused.ensures readings are) ((rw c.in-None.is at c.in_ok-next.ensures) readings are).ok
