-- Tokens that follow a key that takes no word.
--     key_number       a whole number
--     key_opened       a `(`
use Rattle.std.proofs.Common.{◌≡◌, true, false, refl}
use Rattle.tdl_control.specs.declared.keys.Key.{Key}
use Rattle.tdl_control.specs.Key.{takes_word}
use Rattle.tdl_mini_tree.specs.declared.leaves.Kind.{Kind}
use Rattle.tdl_mini_tree.specs.declared.leaves.Number.{Number}
use Rattle.tdl_mini_tree.specs.Numbers.{is_whole}
use Rattle.tdl_command.specs.Tree as tree
use Rattle.tdl_line_machine.specs.declared.marks.Mark.{Mark}
use Rattle.tdl_line_machine.specs.declared.marks.Mark.TheVariants as mark
use Rattle.tdl_line_reader.specs.declared.tokens.Tok.{Tok}
use Rattle.tdl_line_reader.specs.declared.tokens.Tok.TheVariants as tok
use Rattle.tdl_mini_tree.specs.Reading.{Reading}
use Rattle.tdl_line_machine.specs.Machine.Expressions.{operand}
use Rattle.tdl_line_machine.specs.Machine.Open.{opened_to}
use Rattle.tdl_line_machine.specs.Machine.Settings.{at_key}
use Rattle.tdl_line_machine.specs.Machine.States.{Core, set, setting}
use Rattle.tdl_line_reader.specs.ReaderView.{tok_value}

pub key_number : {Q : Type 0} (c : Core) (key : Key) (readings : Kind → Reading) (t : Tok Q) (n : Number) → t ≡ tok.Number n → takes_word key ≡ false
    → is_whole n ≡ true → at_key true c (tok_value readings t) key ≡ operand c (tree.control key (tree.numeral n))
key_number c key readings t n e word whole = rw (e, word, whole) refl

pub key_opened : {Q : Type 0} (c : Core) (key : Key) (readings : Kind → Reading) (t : Tok Q) (m : Mark) → t ≡ tok.Mark m → m ≡ mark.OpenRound
    → takes_word key ≡ false → at_key true c (tok_value readings t) key ≡ opened_to true c (setting key) set
key_opened c key readings t m e same word = rw (e, same, word) refl
