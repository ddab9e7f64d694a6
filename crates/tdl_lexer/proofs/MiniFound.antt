-- A form of mini-notation that is found at the front of a text stands there.
use Rattle.std.proofs.Common.{◌≡◌, ℕ, ⊎_elim, true, false, ◌&&◌, ◌||◌, ◌==◌, Some, List, [], ◌∷◌, ◌++◌}
use Rattle.std.proofs.Common.{length, drop, codes, refl, ap, sym, subst, arith}
use Rattle.std.specs.List.{list_all}
use Rattle.std.specs.Char.{is_ascii_digit}
use Rattle.std.proofs.lemmas.Bool.{and_parts, or_parts}
use Rattle.std.proofs.lemmas.Bool.Decides.{nat_tests}
use Rattle.tdl_lexer.specs.Bytes.{is_run_byte, is_plain_mark, begins}
use Rattle.tdl_lexer.specs.Numbers.{IsRun}
use Rattle.tdl_lexer.specs.MiniForms.{Form, is_word, mini_notation}
use Rattle.tdl_lexer.specs.inside.FindNumber.{run_of}
use Rattle.tdl_lexer.specs.inside.FindMini.{is_hold, run_form, signed_form, dot_form, mini_form_at}
use Rattle.tdl_lexer.proofs.Finders.{Found, cond_some, same_some, none_is_some}
use Rattle.tdl_lexer.proofs.Fronts.{cut_of}
use Rattle.tdl_lexer.proofs.NumberLemmas.{run_there, number_there, digit_is_run}

-- ---- what a run begins
hold_text : (run : List ℕ) → is_hold run ≡ true → run ≡ codes "_"
hold_text [] e = cc
hold_text (byte ∷ []) e =
    let same : byte ≡ 95 = grind (arith, nat_tests) in
    ap (λ (b : ℕ). b ∷ []) same
hold_text (byte ∷ next ∷ rest) e = cc

run_found : (last : ℕ) (text : List ℕ) (form : Form) → is_run_byte last ≡ false → begins is_run_byte text ≡ true → run_form text ≡ Some form
    → Found mini_notation last text form
run_found last text form apart first e =
    let run = run_there last text apart first in
    let cut = cut_of is_run_byte text in
    let At : Form → Type 0 = Found mini_notation last text in
    ⊎_elim
    (λ digits. subst At (same_some _ _ digits.1) (number_there false last text apart first digits.0))
    (λ other. ⊎_elim
    (λ hold.
    let P : List ℕ → Type 0 = λ bytes. (text ≡ bytes ++ drop (length (run_of text)) text) × IsRun last bytes (drop (length (run_of text)) text) in
    let h = subst P (hold_text (run_of text) hold.0) (cut.joined, run) in
    subst At (same_some _ _ hold.1) (drop (length (run_of text)) text, h.0, h.1))
    (λ more. ⊎_elim
    (λ word. subst At (same_some _ _ word.1) (drop (length (run_of text)) text, cut.joined, (run, word.0)))
    (λ none. absurd (none_is_some form none.1))
    (cond_some (is_word (run_of text)) _ _ form more.1))
    (cond_some (is_hold (run_of text)) _ _ form other.1))
    (cond_some (list_all is_ascii_digit (run_of text)) _ _ form e)

-- ---- what a `-` or a `.` begins
signed_found : (last : ℕ) (text : List ℕ) (form : Form) → signed_form text ≡ Some form → Found mini_notation last (45 ∷ text) form
signed_found last text form e =
    ⊎_elim
    (λ found.
    let parts = and_parts (begins is_ascii_digit text) (list_all is_ascii_digit (run_of text)) found.0 in
    let At : Form → Type 0 = Found mini_notation last (45 ∷ text) in
    subst At (same_some _ _ found.1) (number_there true last text refl (digit_is_run text parts.0) parts.1))
    (λ none. absurd (none_is_some form none.1))
    (cond_some (begins is_ascii_digit text && list_all is_ascii_digit (run_of text)) _ _ form e)

range_text : (text : List ℕ) → begins (λ byte. byte == 46) text ≡ true → (46 ∷ text) ≡ codes ".." ++ drop 1 text
range_text [] e = cc
range_text (byte ∷ rest) e =
    let same : byte ≡ 46 = grind (arith, nat_tests) in
    ap (λ (b : ℕ). 46 ∷ b ∷ rest) same

dot_found : (last : ℕ) (text : List ℕ) (form : Form) → dot_form last text ≡ Some form → Found mini_notation last (46 ∷ text) form
dot_found last text form e =
    let At : Form → Type 0 = Found mini_notation last (46 ∷ text) in
    ⊎_elim
    (λ range. subst At (same_some _ _ range.1) (drop 1 text, range_text text range.0, tt))
    (λ single. ⊎_elim
    (λ none. absurd (none_is_some form none.1))
    (λ dot.
    let parts = or_parts (is_run_byte last) (begins is_run_byte text) dot.0 in
    subst At (same_some _ _ dot.1) (text, refl, record { apart = parts.0; ends = parts.1; single = single.0 }))
    (cond_some (is_run_byte last || begins is_run_byte text) _ _ form single.1))
    (cond_some (begins (λ byte. byte == 46) text) _ _ form e)

-- ---- all of them
after_byte : (last byte code : ℕ) (rest : List ℕ) (form : Form) → (byte == code) ≡ true → Found mini_notation last (code ∷ rest) form
    → Found mini_notation last (byte ∷ rest) form
after_byte last byte code rest form e h =
    let same : byte ≡ code = grind (arith, nat_tests) in
    let P : ℕ → Type 0 = λ b. Found mini_notation last (b ∷ rest) form in
    subst P (sym same) h

pub form_found : (last : ℕ) (text : List ℕ) (form : Form) → mini_form_at last text ≡ Some form → Found mini_notation last text form
form_found last [] form e = absurd (none_is_some form e)
form_found last (byte ∷ rest) form e =
    let At : Form → Type 0 = Found mini_notation last (byte ∷ rest) in
    ⊎_elim
    (λ run. ⊎_elim
    (λ none. absurd (none_is_some form none.1))
    (λ apart. run_found last (byte ∷ rest) form apart.0 run.0 apart.1)
    (cond_some (is_run_byte last) _ _ form run.1))
    (λ other. ⊎_elim
    (λ minus. after_byte last byte 45 rest form minus.0 (signed_found last rest form minus.1))
    (λ more. ⊎_elim
    (λ dot. after_byte last byte 46 rest form dot.0 (dot_found last rest form dot.1))
    (λ last_of. ⊎_elim
    (λ plain. subst At (same_some _ _ plain.1) (rest, refl, plain.0))
    (λ none. absurd (none_is_some form none.1))
    (cond_some (is_plain_mark byte) _ _ form last_of.1))
    (cond_some (byte == 46) _ _ form more.1))
    (cond_some (byte == 45) _ _ form other.1))
    (cond_some (is_run_byte byte) _ _ form e)
