use Rattle.std.proofs.Common.{◌≡◌, [], arith}
use Rattle.std.proofs.lemmas.Grind.{common_steps}
use Rattle.std.proofs.lemmas.Result.{on_ok_weaker, on_err_weaker}
use Rattle.tdl_log.proofs.PutPages.{cut_behind, written_out}
use Rattle.tdl_log.proofs.pages.Page.put.Goals as goal

pub returns-clause-ok : goal.returns-clause-ok
returns-clause-ok g c =
    let same : c.try_extend_from_slice.new.self.items ≡ c.args.self.now = grind (arith, common_steps) in
    let none : c.try_extend_from_slice-2.new.self.items ≡ [] = grind (arith, common_steps) in
    on_ok_weaker c.put.result (written_out same none c.in_ok-flush.ensures.ok) c.put.ensures.ok

pub returns-clause-err : goal.returns-clause-err
returns-clause-err g c =
    let same : c.try_extend_from_slice.new.self.items ≡ c.args.self.now = grind (arith, common_steps) in
    on_err_weaker c.put.result (cut_behind same c.in_ok-flush.ensures.ok) c.put.ensures.err
