-- Each text is cut into tokens, or has a first fault.
use Rattle.std.proofs.Common.{◌≡◌, ℕ, ◌+◌, ◌<◌, ◌≤◌, ◌⊎◌, ⊎_elim, inl, inr, zero, suc, Option, Result, Ok, Err}
use Rattle.std.proofs.Common.{List, [], ◌∷◌, ◌++◌, length, drop, refl, arith}
use Rattle.std.proofs.lemmas.Bool.Decides.{leb_tells}
use Rattle.tdl_lexer.specs.declared.lexemes.Lexeme.{Lexeme}
use Rattle.tdl_lexer.specs.declared.lexemes.Flaw.{Flaw}
use Rattle.tdl_lexer.specs.declared.signs.Token.{Token}
use Rattle.tdl_lexer.specs.declared.signs.LexKind.{LexKind}
use Rattle.tdl_lexer.specs.Languages.{Language}
use Rattle.tdl_lexer.specs.Tokens.{byte_before, IsCut, IsFaultAt, end_token}
use Rattle.tdl_lexer.specs.inside.Lexeme.{lexeme_or}
use Rattle.tdl_lexer.proofs.Finders.{Finds}
use Rattle.tdl_lexer.proofs.TokenSteps.{ReadUpTo, token, token_there, read_none, read_more, fault_there, cut_done}

abbrev pub CutOrFaulty : Language → List ℕ → Type 0
CutOrFaulty L text = ((tokens : List Token) × IsCut L text tokens) ⊎ ((kind : LexKind) × (at : ℕ) × IsFaultAt L text kind at)

module _ (L : Language) (find : ℕ → List ℕ → Option L.Form) (finds : Finds L find) where
  ended : (text : List ℕ) (tokens : List Token) (at : ℕ) → ReadUpTo L text tokens at → length text ≤ at → CutOrFaulty L text
  ended text tokens at h done = inl (tokens ++ end_token at ∷ [], cut_done L text tokens (tokens ++ end_token at ∷ []) at h done refl)

  -- the reader goes on from a place before the text's end
  goes_on : (text : List ℕ) (fuel : ℕ) (tokens : List Token) (at : ℕ) → ReadUpTo L text tokens at → at < length text → length text ≤ at + suc fuel
      → ((ts : List Token) (n : ℕ) → ReadUpTo L text ts n → length text ≤ n + fuel → CutOrFaulty L text)
      → (r : Result Lexeme Flaw) → r ≡ lexeme_or L (drop at text) (find (byte_before text at) (drop at text)) → CutOrFaulty L text
  goes_on text fuel tokens at h inside few more (Ok x) e =
      let end = at + x.len in
      let there = token_there L find finds text tokens at x h e in
      let filled = there.filled in
      let next = end + length (L.blank (drop end text)) in
      more (tokens ++ token x at ∷ []) next (read_more L find finds text (drop end text) tokens _ at _ x h e refl refl refl) (omega (arith, filled))
  goes_on text fuel tokens at h inside few more (Err flaw) e =
      inr (flaw.kind, at + flaw.past, fault_there L find finds text tokens at flaw h inside e)

  from_place : (text : List ℕ) (fuel : ℕ) (tokens : List Token) (at : ℕ) → ReadUpTo L text tokens at → length text ≤ at + fuel → CutOrFaulty L text
  from_place text zero tokens at h few = ended text tokens at h (omega (arith, few))
  from_place text (suc fuel) tokens at h few =
      ⊎_elim
      (λ done. ended text tokens at h done.1)
      (λ inside.
      goes_on text fuel tokens at h inside.1 few (λ ts n k less. from_place text fuel ts n k less)
      (lexeme_or L (drop at text) (find (byte_before text at) (drop at text))) refl)
      (leb_tells (length text) at)

  pub cut_or_faulty : (text : List ℕ) → CutOrFaulty L text
  cut_or_faulty text =
      from_place text (length text) [] (length (L.blank text)) (read_none L find finds text [] (length (L.blank text)) refl refl) (omega arith)
