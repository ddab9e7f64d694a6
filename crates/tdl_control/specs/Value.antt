-- What a value is in a map.
use Rattle.tdl_control.specs.declared.values.Value.{Value}
use Rattle.tdl_control.specs.declared.values.Value.TheVariants.{Int, Word}
use Rattle.tdl_control.specs.Setting.{Setting, Number, Spelling}
use Rattle.tdl_control.specs.Word.{word_bytes}

abbrev pub setting_of : Value → Setting
setting_of (Int number) = Number number
setting_of (Word word) = Spelling (word_bytes word)
