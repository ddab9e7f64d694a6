-- The tokens of a text, or the first fault of its bytes, as they are computed.
--     Cut          these tokens, or this fault
--     IsCutAs      what the definition says of one
--     cut          what a text is cut into
--     cut_is       the definition says so
use Rattle.std.proofs.Common.{◌≡◌, ℕ, zero, suc, ◌+◌, ◌<◌, ◌≤◌, ⊎_elim, Bool, cond, Result, Ok, Err}
use Rattle.std.proofs.Common.{List, [], ◌∷◌, ◌++◌, length, drop, leb, refl, sym, subst, arith}
use Rattle.std.proofs.lemmas.Bool.Decides.{leb_tells}
use Rattle.tdl_lexer.specs.declared.lexemes.Lexeme.{Lexeme}
use Rattle.tdl_lexer.specs.declared.lexemes.Flaw.{Flaw}
use Rattle.tdl_lexer.specs.declared.signs.LexKind.{LexKind}
use Rattle.tdl_lexer.specs.declared.signs.Mode.{Mode}
use Rattle.tdl_lexer.specs.declared.signs.Token.{Token}
use Rattle.tdl_lexer.specs.Tokens.{byte_before, IsCut, IsFaultAt, end_token, language}
use Rattle.tdl_lexer.specs.inside.Lexeme.{form_at, lexeme_at}
use Rattle.tdl_lexer.proofs.ModeFinds.{finds}
use Rattle.tdl_lexer.proofs.TokenSteps.{ReadUpTo, token, token_there, read_none, read_more, fault_there, cut_done}

pub data Cut : Type 0 where
  whole : List Token → Cut
  broken : LexKind → ℕ → Cut

abbrev pub IsCutAs : Mode → List ℕ → Cut → Type 0
IsCutAs mode text (whole tokens) = IsCut (language mode) text tokens
IsCutAs mode text (broken kind at) = IsFaultAt (language mode) text kind at

-- behind so many bytes, and the blank space after them
abbrev next : Mode → List ℕ → ℕ → ℕ
next mode text end = end + length ((language mode).blank (drop end text))

abbrev goes : Mode → List ℕ → List Token → ℕ → (List Token → ℕ → Cut) → Result Lexeme Flaw → Cut
goes mode text tokens at more (Ok x) = more (tokens ++ token x at ∷ []) (next mode text (at + x.len))
goes mode text tokens at more (Err flaw) = broken flaw.kind (at + flaw.past)

abbrev cut_from : Mode → List ℕ → ℕ → List Token → ℕ → Cut
cut_from mode text zero tokens at = whole (tokens ++ end_token at ∷ [])
cut_from mode text (suc more) tokens at =
    cond (leb (length text) at) (whole (tokens ++ end_token at ∷ []))
    (goes mode text tokens at (λ ts n. cut_from mode text more ts n) (lexeme_at mode (byte_before text at) (drop at text)))

abbrev pub cut : Mode → List ℕ → Cut
cut mode text = cut_from mode text (length text) [] (length ((language mode).blank text))

module _ (mode : Mode) (text : List ℕ) where
  ended : (tokens : List Token) (at : ℕ) → ReadUpTo (language mode) text tokens at → length text ≤ at → IsCutAs mode text (whole (tokens ++ end_token at ∷ []))
  ended tokens at h done = cut_done (language mode) text tokens (tokens ++ end_token at ∷ []) at h done refl

  goes_is : (fuel : ℕ) (tokens : List Token) (at : ℕ) → ReadUpTo (language mode) text tokens at → at < length text → length text ≤ at + suc fuel
      → (more : List Token → ℕ → Cut)
      → ((ts : List Token) (n : ℕ) → ReadUpTo (language mode) text ts n → length text ≤ n + fuel → IsCutAs mode text (more ts n))
      → (r : Result Lexeme Flaw) → r ≡ lexeme_at mode (byte_before text at) (drop at text) → IsCutAs mode text (goes mode text tokens at more r)
  goes_is fuel tokens at h inside few more each (Ok x) e =
      let there = token_there (language mode) (form_at mode) (finds mode) text tokens at x h e in
      let filled = there.filled in
      each (tokens ++ token x at ∷ []) (next mode text (at + x.len))
      (read_more (language mode) (form_at mode) (finds mode) text (drop (at + x.len) text) tokens _ at _ x h e refl refl refl) (omega (arith, filled))
  goes_is fuel tokens at h inside few more each (Err flaw) e =
      fault_there (language mode) (form_at mode) (finds mode) text tokens at flaw h inside e

  from_place : (fuel : ℕ) (tokens : List Token) (at : ℕ) → ReadUpTo (language mode) text tokens at → length text ≤ at + fuel
      → IsCutAs mode text (cut_from mode text fuel tokens at)
  from_place zero tokens at h few = ended tokens at h (omega (arith, few))
  from_place (suc fuel) tokens at h few =
      let onward = goes mode text tokens at (λ ts n. cut_from mode text fuel ts n) (lexeme_at mode (byte_before text at) (drop at text)) in
      let S : Bool → Type 0 = λ b. IsCutAs mode text (cond b (whole (tokens ++ end_token at ∷ [])) onward) in
      ⊎_elim
      (λ done. subst S (sym done.0) (ended tokens at h done.1))
      (λ inside.
      subst S (sym inside.0)
      (goes_is fuel tokens at h inside.1 few (λ ts n. cut_from mode text fuel ts n) (λ ts n k less. from_place fuel ts n k less)
      (lexeme_at mode (byte_before text at) (drop at text)) refl))
      (leb_tells (length text) at)

  pub cut_is : IsCutAs mode text (cut mode text)
  cut_is =
      let at = length ((language mode).blank text) in
      from_place (length text) [] at (read_none (language mode) (form_at mode) (finds mode) text [] at refl refl) (omega arith)
