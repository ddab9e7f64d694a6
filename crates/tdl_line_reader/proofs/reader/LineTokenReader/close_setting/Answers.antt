use Rattle.std.proofs.Common.{rules, refl}
use Rattle.tdl_line_reader.specs.declared.stages.Hole.TheVariants as hole
use Rattle.tdl_line_machine.specs.Machine.Settings.{setting_hole}
use Rattle.tdl_line_reader.specs.ReaderView.{core_of}
use Rattle.tdl_line_reader.proofs.ClosedHoles.{closed_by, closed_refused, setting_refused}
use Rattle.tdl_line_reader.proofs.reader.LineTokenReader.close_setting.Goals.{in_default-via-in-Some+in_default, in_default-via-in_default}
use Rattle.tdl_line_reader.proofs.reader.LineTokenReader.close_setting.Goals as goal

pub returns-in-Some-Setting : goal.returns-in-Some-Setting
returns-in-Some-Setting c = λ t.
    closed_by c.args.self.now c.close.new.self c.close.result (hole.Setting c.in-Some-Setting.key) t (setting_hole t c.args.number) _ _ _
    c.close.ensures (search rules) refl (c.operand.ensures t)

pub returns : goal.returns
returns c = λ t.
    let mid = core_of c.close.new.self in
    let o = c.close.result in
    closed_refused c.args.self.now c.close.new.self o t (setting_hole t c.args.number) c.close.ensures (elim c.in_default.branch [
      | in_default-via-in-Some+in_default w ↦ setting_refused t c.args.number mid o (search rules)
      | in_default-via-in_default w ↦ setting_refused t c.args.number mid o (search rules)
    ])
