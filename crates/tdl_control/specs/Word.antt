-- Words, and their bytes.
use Rattle.std.specs.Prelude.{ℕ, List, take}
use Rattle.tdl_control.specs.declared.words.Word.{Word}
pub use Rattle.tdl_control.specs.WordForm.{IsWord}

-- the bytes of a word, which are the first len of its letters; the other letters are zeros
abbrev pub word_bytes : Word → List ℕ
word_bytes word = take word.len word.letters
