use Rattle.std.proofs.Common.{ap, refl, ◌∙◌}
use Rattle.tdl_line_reader.specs.ReaderView.{level_of}
use Rattle.tdl_line_reader.proofs.ReaderFacts.{pushed_is}
use Rattle.tdl_line_reader.proofs.reader.LineTokenReader.push.Goals as goal

pub returns-clause-ok : goal.returns-clause-ok
returns-clause-ok c =
    pushed_is c.args.self.now c.push.new.self.items (record { level = c.replace-level.result; depth = c.args.self.now.depth; hole = c.args.hole })
    c.replace-level.new.dest.items c.in_ok-push.ensures.items (ap (λ v. level_of v.items) c.replace-level.ensures.value) refl
    (ap (λ v. v.items) c.replace-level.ensures.after ∙ c.new.ensures.items) c.args.depth
