use Rattle.tdl_script.proofs.QuotedTexts.{near, read_as, refused_as}
use Rattle.tdl_script.proofs.quoted.QuotedTextQuoted.read.Goals as goal

pub returns-clause-ok : goal.returns-clause-ok
returns-clause-ok c = read_as c.args.kind c.args.self.bytes.now c.read_mini.result c.read_mini.ensures.kind c.read_mini.ensures.text

pub returns-clause-refused : goal.returns-clause-refused
returns-clause-refused c = refused_as c.args.kind c.args.self.bytes.now c.read_mini.result c.read_mini.ensures.refused

pub returns-clause-near : goal.returns-clause-near
returns-clause-near c = near c.args.kind c.args.self.bytes.now c.read_mini.result c.args.self.short c.read_mini.ensures.refused
