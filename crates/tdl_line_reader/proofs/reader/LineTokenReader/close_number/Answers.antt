use Rattle.std.proofs.Common.{rules, refl}
use Rattle.tdl_line_reader.specs.declared.stages.Hole.TheVariants as hole
use Rattle.tdl_line_machine.specs.Machine.Arguments.{number_hole}
use Rattle.tdl_line_reader.specs.ReaderView.{core_of}
use Rattle.tdl_line_reader.proofs.ClosedHoles.{closed_by, closed_refused}
use Rattle.tdl_line_reader.proofs.NumberHoles.{number_refused}
use Rattle.tdl_line_reader.proofs.reader.LineTokenReader.close_number.Goals.{in_default-via-in-Some+in-Bracketed+in_default, in_default-via-in-Some+in_default}
use Rattle.tdl_line_reader.proofs.reader.LineTokenReader.close_number.Goals.{in_default-via-in_default}
use Rattle.tdl_line_reader.proofs.reader.LineTokenReader.close_number.Goals as goal

pub returns-in-Some-Measure : goal.returns-in-Some-Measure
returns-in-Some-Measure c = λ t.
    closed_by c.args.self.now c.close.new.self c.close.result (hole.Measure c.in-Some-Measure.spot c.in-Some-Measure.call) t (number_hole t c.args.plain) _ _ _
    c.close.ensures (search rules) refl (rw (c.with_ratio.ensures, c.in_ok-ratio-in-Some-Measure.ensures.ok) at (c.called.ensures t))

pub returns : goal.returns
returns c = λ t.
    let mid = core_of c.close.new.self in
    let o = c.close.result in
    closed_refused c.args.self.now c.close.new.self o t (number_hole t c.args.plain) c.close.ensures (elim c.in_default.branch [
      | in_default-via-in-Some+in-Bracketed+in_default w ↦
          number_refused t c.args.plain mid o (search rules) (search rules) (search rules) (search rules) (search rules)
      | in_default-via-in-Some+in_default w ↦
          number_refused t c.args.plain mid o (search rules) (search rules) (search rules) (search rules) (search rules)
      | in_default-via-in_default w ↦ number_refused t c.args.plain mid o (search rules) (search rules) (search rules) (search rules) (search rules)
    ])
