-- What is found at the front of a text in each mode is the form that stands there.
use Rattle.std.proofs.Common.{◌≡◌, ℕ, ◌≤◌, ⊎_elim, Bool, true, false, cond, Option, Some, None, List, [], length, drop, refl, ap, arith, length-append}
use Rattle.std.specs.Prelude.{nat_eq, codes}
use Rattle.std.specs.List.{starts_with, take_while}
use Rattle.std.proofs.lemmas.List.{length-drop}
use Rattle.std.proofs.lemmas.List.Sums.{prefix_len-le-length}
use Rattle.tdl_lexer.specs.declared.signs.Mode.{Mode}
use Rattle.tdl_lexer.specs.declared.signs.Mode.TheVariants.{Mini, Line}
use Rattle.tdl_lexer.specs.declared.lexemes.Flaw.{Flaw}
use Rattle.tdl_lexer.specs.Bytes.{is_space, is_line_byte, is_run_byte, begins}
use Rattle.tdl_lexer.specs.Numbers.{is_small}
use Rattle.tdl_lexer.specs.MiniForms as mini_forms
use Rattle.tdl_lexer.specs.MiniForms.{mini_notation, mini_flaw, fits}
use Rattle.tdl_lexer.specs.LineForms.{Form, Numeral, Name, Quoted, Open, Mark, spelling, line_flaw, blanks_of, comment_of, blank_of, line_notation}
use Rattle.tdl_lexer.specs.Tokens.{language}
use Rattle.tdl_lexer.specs.inside.FindMini.{mini_form_at}
use Rattle.tdl_lexer.specs.inside.FindLine.{line_form_at}
use Rattle.tdl_lexer.specs.inside.Lexeme.{form_at}
use Rattle.tdl_lexer.proofs.Finders.{Finds, cond_some, same_some, none_is_some}
use Rattle.tdl_lexer.proofs.Fronts.{length-take_while}
use Rattle.tdl_lexer.proofs.MiniFound.{form_found}
use Rattle.tdl_lexer.proofs.MiniRead.{form_read, form_filled}
use Rattle.tdl_lexer.proofs.LineFound.{line_form_found, line_form_read, line_form_filled}

take_while_within : (p : ℕ → Bool) (text : List ℕ) → length (take_while p text) ≤ length text
take_while_within p text = omega (arith, length-take_while p text, prefix_len-le-length p text)

-- ---- mini-notation
-- a form without flaw fits
pub mini_fits : (form : mini_forms.Form) (after : List ℕ) → mini_flaw form after ≡ None → fits form ≡ true
mini_fits form after e = here (fits form) e
  where
    here : (b : Bool) → cond {A = Option Flaw} b None (Some (record { kind = mini_forms.excess form; past = 0 })) ≡ None → b ≡ true
    here true k = refl
    here false k = cc

mini_within : (form : mini_forms.Form) (after : List ℕ) (flaw : Flaw) → mini_flaw form after ≡ Some flaw → flaw.past ≤ length (mini_forms.form_text form)
mini_within form after flaw e =
    ⊎_elim
    (λ none. absurd (none_is_some flaw none.1))
    (λ some. let past = ap (λ (f : Flaw). f.past) (same_some _ flaw some.1) in omega (arith, past))
    (cond_some (fits form) None _ flaw e)

pub mini_finds : Finds mini_notation mini_form_at
mini_finds = record {
  found = form_found;
  read = form_read;
  filled = form_filled;
  within = mini_within;
  blank = take_while_within is_space;
}

-- ---- performers' lines
line_within : (form : Form) (after : List ℕ) (flaw : Flaw) → line_flaw form after ≡ Some flaw → flaw.past ≤ length (spelling form)
line_within (Numeral n) after flaw e =
    ⊎_elim
    (λ small. ⊎_elim
    (λ glued. let past = ap (λ (f : Flaw). f.past) (same_some _ flaw glued.1) in omega (arith, past))
    (λ none. absurd (none_is_some flaw none.1))
    (cond_some (begins is_run_byte after) _ None flaw small.1))
    (λ large. let past = ap (λ (f : Flaw). f.past) (same_some _ flaw large.1) in omega (arith, past))
    (cond_some (is_small n) _ _ flaw e)
line_within (Name name) after flaw e = absurd (none_is_some flaw e)
line_within (Quoted text) after flaw e = absurd (none_is_some flaw e)
line_within (Open text) after flaw e = let past = ap (λ (f : Flaw). f.past) (same_some _ flaw e) in omega (arith, past)
line_within (Mark mark) after flaw e = absurd (none_is_some flaw e)

comment_within : (text : List ℕ) → length (comment_of text) ≤ length text
comment_within text = here (starts_with nat_eq text (codes "--"))
  where
    here : (b : Bool) → length (cond b (take_while is_line_byte text) []) ≤ length text
    here true = take_while_within is_line_byte text
    here false = omega arith

blank_within : (text : List ℕ) → length (blank_of text) ≤ length text
blank_within text =
    let left = drop (length (blanks_of text)) text in
    omega (
      arith,
      length-append (blanks_of text) (comment_of left),
      comment_within left,
      length-drop (length (blanks_of text)) text,
      take_while_within is_space text,
    )

pub line_finds : Finds line_notation (λ last rest. line_form_at rest)
line_finds = record {
  found = λ last rest form e. line_form_found rest form e;
  read = λ form last after h. line_form_read form after h;
  filled = λ form last after h. line_form_filled form after h;
  within = line_within;
  blank = blank_within;
}

pub finds : (mode : Mode) → Finds (language mode) (form_at mode)
finds Mini = mini_finds
finds Line = line_finds
