-- The definitions at worked texts.
use Rattle.std.proofs.Common.{◌≡◌, ℕ, true, Ok, Err, List, [], ◌∷◌, ◌++◌, codes, refl, lit<, lit≤}
use Rattle.tdl_lexer.specs.declared.signs.Token.{Token}
use Rattle.tdl_lexer.specs.declared.signs.Mode.TheVariants.{Mini, Line}
use Rattle.tdl_lexer.specs.declared.signs.Sign.TheVariants as sign
use Rattle.tdl_lexer.specs.declared.signs.LexKind.TheVariants.{NotAscii, UnknownSign, NumberTooLarge, Unclosed}
use Rattle.tdl_lexer.specs.Languages.{at_front}
use Rattle.tdl_lexer.specs.MiniForms.{Numeral, Word, Plain, mini_notation}
use Rattle.tdl_lexer.specs.LineForms as line_forms
use Rattle.tdl_lexer.specs.LineForms.{line_notation}
use Rattle.tdl_lexer.specs.Tokens.{IsCut, IsFaultAt, NextToken, end_token}
use Rattle.tdl_lexer.specs.inside.FindMini.{mini_form_at}
use Rattle.tdl_lexer.specs.inside.FindLine.{line_form_at}
use Rattle.tdl_lexer.specs.inside.Lexeme.{lexeme_at}
use Rattle.tdl_lexer.proofs.LexemeLemmas.{fault_is}
use Rattle.tdl_lexer.proofs.ModeFinds.{mini_finds, line_finds}

-- ---- what a text goes on with, after a byte
abbrev blank : ℕ
blank = 32

abbrev digit : ℕ
digit = 53

number_with_tail : lexeme_at Mini blank (codes "1.5a") ≡ Ok (record { sign = sign.Number; len = 3 })
number_with_tail = refl

letter_after_number : lexeme_at Mini digit (codes "a") ≡ Err (at_front UnknownSign)
letter_after_number = refl

number_before_range : lexeme_at Mini blank (codes "1..2") ≡ Ok (record { sign = sign.Number; len = 1 })
number_before_range = refl

number_of_two_marks : lexeme_at Mini blank (codes "1.2%3") ≡ Ok (record { sign = sign.Number; len = 3 })
number_of_two_marks = refl

negative_number : lexeme_at Mini digit (codes "-12 ") ≡ Ok (record { sign = sign.Number; len = 3 })
negative_number = refl

minus_before_word : lexeme_at Mini blank (codes "-1a") ≡ Err (at_front UnknownSign)
minus_before_word = refl

largest_number : lexeme_at Mini blank (codes "2147483647.0001") ≡ Ok (record { sign = sign.Number; len = 15 })
largest_number = refl

digits_with_letter : lexeme_at Mini blank (codes "2147483648a") ≡ Ok (record { sign = sign.Word; len = 11 })
digits_with_letter = refl

denominator_above : lexeme_at Mini blank (codes "1%65536") ≡ Err (at_front NumberTooLarge)
denominator_above = refl

five_decimals : lexeme_at Mini blank (codes "1.00000a") ≡ Err (at_front NumberTooLarge)
five_decimals = refl

word_with_sharp : lexeme_at Mini blank (codes "c#5") ≡ Ok (record { sign = sign.Word; len = 3 })
word_with_sharp = refl

sharp_in_front : lexeme_at Mini blank (codes "#c") ≡ Err (at_front UnknownSign)
sharp_in_front = refl

hold_mark : lexeme_at Mini blank (codes "_ a") ≡ Ok (record { sign = sign.Mark; len = 1 })
hold_mark = refl

two_holds : lexeme_at Mini blank (codes "__") ≡ Err (at_front UnknownSign)
two_holds = refl

range_mark : lexeme_at Mini digit (codes "...") ≡ Ok (record { sign = sign.Mark; len = 2 })
range_mark = refl

dot_mark : lexeme_at Mini 46 (codes ".") ≡ Ok (record { sign = sign.Mark; len = 1 })
dot_mark = refl

dot_before_run : lexeme_at Mini blank (codes ".5") ≡ Err (at_front UnknownSign)
dot_before_run = refl

no_ascii : lexeme_at Mini blank (195 ∷ []) ≡ Err (at_front NotAscii)
no_ascii = refl

-- ---- a text of a word, a rest and its end
abbrev rest_after_word : List ℕ
rest_after_word = codes "bd ~"

abbrev word : Token
word = record { sign = sign.Word; at = 0; end = 2 }

abbrev rest : Token
rest = record { sign = sign.Mark; at = 3; end = 4 }

word_first : NextToken mini_notation rest_after_word 0 word
word_first = record {
  form = Word (codes "bd");
  place = refl;
  within = lit≤ tt;
  is = refl;
  stands = (record { filled = lit< tt; bytes = refl; starts = refl; ends = refl }, refl);
  flawless = refl;
  sign = refl;
}

rest_next : NextToken mini_notation rest_after_word 2 rest
rest_next = record {
  form = Plain 126;
  place = refl;
  within = lit≤ tt;
  is = refl;
  stands = refl;
  flawless = refl;
  sign = refl;
}

two_tokens_and_the_end : IsCut mini_notation rest_after_word (word ∷ rest ∷ end_token 4 ∷ [])
two_tokens_and_the_end = record {
  before = word ∷ rest ∷ [];
  to = 4;
  front = (word_first, (rest_next, refl));
  whole = refl;
  ends = refl;
}

-- ---- a letter directly after a number with a tail
abbrev number : Token
number = record { sign = sign.Number; at = 0; end = 4 }

number_first : NextToken mini_notation (codes "-1.5a") 0 number
number_first = record {
  form = Numeral (record { negative = true; whole = codes "1"; tail = codes ".5" });
  place = refl;
  within = lit≤ tt;
  is = refl;
  stands = record {
    run = record { filled = lit< tt; bytes = refl; starts = refl; ends = refl };
    digits = refl;
    tail = (refl, lit< tt, refl, refl);
  };
  flawless = refl;
  sign = refl;
}

fault_at_the_letter : IsFaultAt mini_notation (codes "-1.5a") UnknownSign 4
fault_at_the_letter = record {
  before = number ∷ [];
  to = 4;
  front = (number_first, refl);
  past = 0;
  place = refl;
  faulty = fault_is mini_notation mini_form_at mini_finds digit (codes "a") (at_front UnknownSign) (lit< tt) refl;
}

-- ---- lines
name_before_operator : lexeme_at Line blank (codes "a1#b") ≡ Ok (record { sign = sign.Word; len = 2 })
name_before_operator = refl

name_with_quote : lexeme_at Line blank (codes "every' 2") ≡ Ok (record { sign = sign.Word; len = 6 })
name_with_quote = refl

capital_in_front : lexeme_at Line blank (codes "Rev") ≡ Err (at_front UnknownSign)
capital_in_front = refl

longest_mark : lexeme_at Line blank (codes "|+|+|") ≡ Ok (record { sign = sign.Mark; len = 3 })
longest_mark = refl

mark_of_two_bytes : lexeme_at Line blank (codes "|+ |") ≡ Ok (record { sign = sign.Mark; len = 2 })
mark_of_two_bytes = refl

bar_alone : lexeme_at Line blank (codes "|") ≡ Err (at_front UnknownSign)
bar_alone = refl

minus_and_number : lexeme_at Line blank (codes "-1") ≡ Ok (record { sign = sign.Mark; len = 1 })
minus_and_number = refl

digits_before_operator : lexeme_at Line blank (codes "3#") ≡ Err (at_front UnknownSign)
digits_before_operator = refl

letter_behind_number : lexeme_at Line blank (codes "1.5a") ≡ Err (record { kind = UnknownSign; past = 3 })
letter_behind_number = refl

large_before_letter : lexeme_at Line blank (codes "1.00000a") ≡ Err (at_front NumberTooLarge)
large_before_letter = refl

comment_in_a_text : lexeme_at Line blank (codes "\"a--\" b") ≡ Ok (record { sign = sign.Quoted; len = 5 })
comment_in_a_text = refl

open_text : lexeme_at Line blank (codes "\"a--") ≡ Err (at_front Unclosed)
open_text = refl

high_byte : lexeme_at Line blank (195 ∷ []) ≡ Err (at_front NotAscii)
high_byte = refl

-- a line of a name, a text with a high byte in it, and a comment
abbrev name_and_text : List ℕ
name_and_text = codes "s \"" ++ 195 ∷ codes "\" -- \""

abbrev name : Token
name = record { sign = sign.Word; at = 0; end = 1 }

abbrev text : Token
text = record { sign = sign.Quoted; at = 2; end = 5 }

name_first : NextToken line_notation name_and_text 0 name
name_first = record {
  form = line_forms.Name (codes "s");
  place = refl;
  within = lit≤ tt;
  is = refl;
  stands = record { starts = refl; bytes = refl; ends = refl };
  flawless = refl;
  sign = refl;
}

text_next : NextToken line_notation name_and_text 1 text
text_next = record {
  form = line_forms.Quoted (195 ∷ []);
  place = refl;
  within = lit≤ tt;
  is = refl;
  stands = refl;
  flawless = refl;
  sign = refl;
}

comment_behind : IsCut line_notation name_and_text (name ∷ text ∷ end_token 10 ∷ [])
comment_behind = record { before = name ∷ text ∷ []; to = 5; front = (name_first, (text_next, refl)); whole = refl; ends = refl }

-- a line feed in a comment
line_feed : IsFaultAt line_notation (codes "-- a" ++ 10 ∷ codes "b") UnknownSign 4
line_feed = record {
  before = [];
  to = 0;
  front = refl;
  past = 0;
  place = refl;
  faulty = fault_is line_notation (λ last rest. line_form_at rest) line_finds 97 (10 ∷ codes "b") (at_front UnknownSign) (lit< tt) refl;
}
