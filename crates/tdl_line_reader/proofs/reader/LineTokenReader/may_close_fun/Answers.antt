use Rattle.std.proofs.Common.{arith}
use Rattle.tdl_line_reader.proofs.Pendings.{may_close_is}
use Rattle.tdl_line_reader.proofs.reader.LineTokenReader.may_close_fun.Goals as goal

pub returns-then-has_funs : goal.returns-then-has_funs
returns-then-has_funs c =
    let r = c.args.self.now in
    may_close_is r r.level.len _ _ (omega (arith, r.level.ok.0)) c.is_empty.ensures c.has_funs.ensures c.if-has_funs.true
