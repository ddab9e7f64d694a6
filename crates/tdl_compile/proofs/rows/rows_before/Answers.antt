use Rattle.tdl_compile.proofs.Walks.{known_before}
use Rattle.tdl_compile.proofs.rows.rows_before.Goals as goal

pub returns-clause-known : goal.returns-clause-known
returns-clause-known c = λ nodes known. known_before nodes c.args.rows.now _ known
