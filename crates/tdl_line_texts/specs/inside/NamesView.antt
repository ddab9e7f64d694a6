-- The table of names.
--     meaning_of     a row of it
--     begins_with    whether a row's name begins with a byte
use Rattle.std.specs.Prelude.{ℕ, Bool, false, ◌==◌, List, [], ◌∷◌}
use Rattle.tdl_line_texts.specs.declared.words.Meaning.{Meaning}
use Rattle.tdl_line_texts.specs.Names as names

abbrev pub meaning_of : Meaning → names.Meaning
meaning_of e = names.meaning e.0.now e.1

abbrev pub text_begins_with : ℕ → List ℕ → Bool
text_begins_with byte [] = false
text_begins_with byte (first ∷ others) = first == byte

abbrev pub begins_with : ℕ → names.Meaning → Bool
begins_with byte e = text_begins_with byte e.text
