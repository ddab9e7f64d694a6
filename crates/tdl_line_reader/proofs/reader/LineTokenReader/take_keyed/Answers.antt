use Rattle.std.proofs.Common.{◌≡◌, false, rules}
use Rattle.tdl_control.specs.Key.{takes_word}
use Rattle.tdl_command.specs.Rules.{kind_of}
use Rattle.tdl_line_reader.specs.ReaderView.{core_of}
use Rattle.tdl_line_reader.proofs.Answering.{answers_by}
use Rattle.tdl_line_reader.proofs.KeyTokens.{key_number, key_opened}
use Rattle.tdl_line_reader.proofs.reader.LineTokenReader.take_keyed.Goals.{then-not-takes_word, else-not-takes_word}
use Rattle.tdl_line_reader.proofs.reader.LineTokenReader.take_keyed.Goals as goal

pub returns-in_ok-text-in-Quoted : goal.returns-in_ok-text-in-Quoted
returns-in_ok-text-in-Quoted g c =
    let kind = kind_of c.args.key in
    let text = rw c.kind_of.ensures at c.in_ok-text-in-Quoted.ensures.ok in
    rw c.in-Quoted.is (λ readings are. rw (text (readings kind) (are kind)) (c.operand.ensures _))

pub returns-in_ok-check_whole-in-Number : goal.returns-in_ok-check_whole-in-Number
returns-in_ok-check_whole-in-Number g c = λ readings are.
    let word : takes_word c.args.key ≡ false = elim c.if-not-takes_word.branch [
      | then-not-takes_word w ↦ search rules
      | else-not-takes_word w ↦ absurd (search rules)
    ] in
    answers_by _ _ _ _ _ (c.operand-in-Number.ensures _)
    (key_number (core_of c.args.self.now) c.args.key readings c.args.tok.now c.in-Number.number c.in-Number.is word c.in_ok-check_whole-in-Number.ensures.ok)

pub returns-in-Mark-OpenRound : goal.returns-in-Mark-OpenRound
returns-in-Mark-OpenRound g c = λ readings are. answers_by _ _ _ _ _ (c.open.ensures _)
    (key_opened (core_of c.args.self.now) c.args.key readings c.args.tok.now c.in-Mark-OpenRound.field-0 c.in-Mark-OpenRound.is
    (rw c.in-Mark-OpenRound.is at c.in-Mark-OpenRound.field-0-is) (search rules))
