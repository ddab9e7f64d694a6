-- From a fault of a part to what it says of the whole text.
--     exit_err                               what a `?` returns of a fault
--     line_not_read, line_not_prepared       of a performer's text
--     is_memory                              a fault that says nothing of it
--     prepared_fits                          what is prepared passes no limit
--     prepared_text                          what is prepared of a line is what its text asks for
use Rattle.std.proofs.Common.{◌≡◌, ℕ, ◌⊎◌, inl, inr, List, Option, Some, None, Result, Ok, Err, IfErr, IfSome, ⊎_elim, Bool, true, false}
use Rattle.std.proofs.Common.{refl, sym, ap, subst, ◌∙◌}
use Rattle.std.proofs.lemmas.Bool.{false≢true}
use Rattle.std.specs.Result.{IsErrAnd, is_err}
use Rattle.tdl_control.specs.declared.faults.Faulted.{Faulted}
use Rattle.tdl_control.specs.declared.faults.Faulted.TheVariants as faulted
use Rattle.tdl_expr.specs.Tree.{Tree}
use Rattle.tdl_rows.specs.Built.{Built}
use Rattle.tdl_command.specs.Tree.{Line}
use Rattle.tdl_line_machine.specs.declared.faults.LineKind.{LineKind}
use Rattle.tdl_line_texts.specs.Texts.{IsLine, IsTrimmed, RefusesLine}
use Rattle.tdl_prepare.specs.declared.faults.PrepareFault.{PrepareFault}
use Rattle.tdl_prepare.specs.declared.faults.PrepareFault.TheVariants as prepare
use Rattle.tdl_prepare.specs.declared.prepared.Prepared.{Prepared}
use Rattle.tdl_prepare.specs.declared.prepared.Prepared.TheVariants as prepared
use Rattle.tdl_prepare.specs.Asked.{Asked, asked, nothing, look, swap}
use Rattle.tdl_prepare.specs.Prepared.{IsPreparedAs, line_fault}
use Rattle.tdl_answer.specs.Texts.{RefusesText}
use Rattle.tdl_answer.specs.inside.PreparedTexts.{IsPreparedText}
use Rattle.tdl_answer.specs.TextFaults.{IsFaultOfText, of_reading, of_preparing}

-- what a `?` returns of a fault
pub exit_err : {X E : Type 0} (P : E → Type 0) (e : E) (result : Result X E) → IsErrAnd result (λ y. y ≡ e) → P e → IfErr result P
exit_err P e (Ok x) h p = absurd h
exit_err P e (Err y) h p = subst P (sym h) p

-- a line that is not read
pub line_not_read : (text : List ℕ) (fault : Faulted LineKind) → RefusesLine text fault → IsFaultOfText text (of_reading fault)
line_not_read text faulted.NoMemory h = tt
line_not_read text (faulted.At kind at) h = RefusesText.unread kind at h refl

abbrev pub is_memory : PrepareFault → Bool
is_memory prepare.NoMemory = true
is_memory (prepare.TooLarge rows links) = false
is_memory (prepare.TooDense load) = false
is_memory (prepare.TooFine grid) = false
is_memory (prepare.TooFar reach) = false

-- a line that is not prepared
pub line_not_prepared : (text : List ℕ) (line : Line) → IsLine text line → (fault : PrepareFault)
    → (line_fault (asked line) ≡ Some fault) ⊎ (fault ≡ prepare.NoMemory) → IsFaultOfText text (of_preparing fault)
line_not_prepared text line read prepare.NoMemory h = tt
line_not_prepared text line read (prepare.TooLarge rows links) (inl e) = RefusesText.too_large line read rows links e refl
line_not_prepared text line read (prepare.TooDense load) (inl e) = RefusesText.too_dense line read load e refl
line_not_prepared text line read (prepare.TooFine grid) (inl e) = RefusesText.too_fine line read grid e refl
line_not_prepared text line read (prepare.TooFar reach) (inl e) = RefusesText.too_far line read reach e refl
line_not_prepared text line read (prepare.TooLarge rows links) (inr e) = absurd (false≢true (ap is_memory e))
line_not_prepared text line read (prepare.TooDense load) (inr e) = absurd (false≢true (ap is_memory e))
line_not_prepared text line read (prepare.TooFine grid) (inr e) = absurd (false≢true (ap is_memory e))
line_not_prepared text line read (prepare.TooFar reach) (inr e) = absurd (false≢true (ap is_memory e))

-- what is prepared passes no limit
pub prepared_fits : {X : Type 0} (result : Result X PrepareFault) (x : X) (o : Option PrepareFault) → result ≡ Ok x
    → IfSome o (λ fault. (result ≡ Err fault) ⊎ (result ≡ Err prepare.NoMemory)) → o ≡ None
prepared_fits result x None is h = refl
prepared_fits result x (Some fault) is h = absurd (⊎_elim (λ e. ok_is_no_err (sym is ∙ e)) (λ e. ok_is_no_err (sym is ∙ e)) h)
  where
    ok_is_no_err : {y : PrepareFault} → Ok x ≡ Err y → ⊥
    ok_is_no_err e = false≢true (ap is_err e)

-- what is prepared of a line that asks for this
prepared_of : (text kept : List ℕ) (line : Line) → IsLine text line → IsTrimmed text kept → line_fault (asked line) ≡ None
    → (asks : Asked (Built Tree)) → asked line ≡ asks → (p : Prepared) → IsPreparedAs asks kept p → IsPreparedText text p
prepared_of text kept line read trimmed fits nothing is p h = subst (IsPreparedText text) (sym h) (record { line = line; read = read; asks = is })
prepared_of text kept line read trimmed fits look is p h = subst (IsPreparedText text) (sym h) (record { line = line; read = read; asks = is })
prepared_of text kept line read trimmed fits (swap every made) is prepared.Nothing h = absurd h
prepared_of text kept line read trimmed fits (swap every made) is prepared.Look h = absurd h
prepared_of text kept line read trimmed fits (swap every made) is (prepared.Swap t n change) h = record {
  line = line;
  read = read;
  trimmed = subst (λ (bytes : List ℕ). IsTrimmed text bytes) (sym h.0) trimmed;
  made = made;
  asks = is ∙ ap (λ (cycles : ℕ). swap cycles made) (sym h.1);
  programs = h.2;
  fits = fits;
}

pub prepared_text : (text kept : List ℕ) (line : Line) → IsLine text line → IsTrimmed text kept → line_fault (asked line) ≡ None
    → (p : Prepared) → IsPreparedAs (asked line) kept p → IsPreparedText text p
prepared_text text kept line read trimmed fits = prepared_of text kept line read trimmed fits (asked line) refl
