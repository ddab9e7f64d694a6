-- Tokens as the grammar sees them, and the tokens of a text.
--     Tok                 a number with its bytes, a word, a mark, or the text's end; a number or a word that
--                         begins with a digit is a count where it stands directly after `!`
--     is_joined           whether it is one
--     value_of            the value that a token may be in a text of a kind; a number with `.` or `%` is one
--                         in every kind
use Rattle.std.specs.Prelude.{ℕ, Bool, true, false, not, ◌&&◌, ◌==◌, nat_le, if◌then◌else◌, Option, Some, None, List, [], ◌∷◌, length, codes, option_map}
use Rattle.std.specs.List.{list_any}
use Rattle.tdl_control.specs.Limits.{max_word}
use Rattle.tdl_mini_tree.specs.declared.leaves.Number.{Number}
use Rattle.tdl_mini_tree.specs.declared.leaves.Kind.{Kind}
use Rattle.tdl_mini_tree.specs.declared.leaves.Kind.TheVariants.{Sound, Note, Int, Word, Bool as Truths, Count, Ratio}
use Rattle.tdl_mini_machine.specs.declared.marks.Mark.{Mark}
use Rattle.tdl_mini_tree.specs.Numbers.{is_whole}
use Rattle.tdl_mini_machine.specs.Notes.{note_of}
use Rattle.tdl_mini_tree.specs.Tree.{Value, sound, name, note, truth, number}

pub data Tok : Type 0 where
  digits : Number → List ℕ → (is_count : Bool) → Tok
  letters : List ℕ → (is_count : Bool) → Tok
  mark : Mark → Tok
  end : Tok

-- it stands directly after `!` and begins with a digit
abbrev pub is_joined : Tok → Bool
is_joined (digits n text is_count) = is_count
is_joined (letters text is_count) = is_count
is_joined (mark m) = false
is_joined end = false

abbrev pub same_text : List ℕ → List ℕ → Bool
same_text [] [] = true
same_text [] (y ∷ ys) = false
same_text (x ∷ xs) [] = false
same_text (x ∷ xs) (y ∷ ys) = (x == y) && same_text xs ys

abbrev pub has_sharp : List ℕ → Bool
has_sharp text = list_any (λ byte. byte == 35) text

abbrev pub truth_of : List ℕ → Option Value
truth_of text =
    if same_text text (codes "t") then Some (truth true)
    else (if same_text text (codes "true") then Some (truth true)
    else (if same_text text (codes "f") then Some (truth false)
    else (if same_text text (codes "false") then Some (truth false)
    else None)))

abbrev pub word_value : Kind → List ℕ → Option Value
word_value Sound text = if has_sharp text then None else Some (sound text None)
word_value (Note key) text = option_map note (note_of text)
word_value (Int key) text = None
word_value (Word key) text = if has_sharp text then None else Some (name text)
word_value Truths text = truth_of text
word_value Count text = None
word_value Ratio text = None

-- a number without `.` and `%`
abbrev pub whole_value : Kind → Number → List ℕ → Option Value
whole_value Sound n text = if not n.is_negative && nat_le (length text) max_word then Some (sound text None) else None
whole_value (Note key) n text = Some (number n)
whole_value (Int key) n text = Some (number n)
whole_value (Word key) n text = None
whole_value Truths n text = if same_text text (codes "1") then Some (truth true) else (if same_text text (codes "0") then Some (truth false) else None)
whole_value Count n text = Some (number n)
whole_value Ratio n text = Some (number n)

abbrev pub value_of : Kind → Tok → Option Value
value_of kind (digits n text true) = None
value_of kind (digits n text false) = if is_whole n then whole_value kind n text else Some (number n)
value_of kind (letters text true) = None
value_of kind (letters text false) = word_value kind text
value_of kind (mark m) = None
value_of kind end = None
