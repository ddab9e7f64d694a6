-- Each text has a tree, or a first fault.
--     at_its_byte      the first fault of the tokens of a text stands at its byte
--     decided          each text has a tree, or is refused
use Rattle.std.proofs.Common.{◌≡◌, ℕ, suc, ◌+◌, ◌<◌, inl, inr, ⊎_elim, List, [], ◌∷◌, ◌++◌, length, get_or, take, drop, refl, sym, ◌∙◌, subst, arith}
use Rattle.std.proofs.Common.{length-take-le}
use Rattle.std.proofs.lemmas.List.{get_or_default}
use Rattle.tdl_grammar.specs.Grammar.{Grammar}
use Rattle.tdl_grammar.specs.Faults.{IsFault}
use Rattle.tdl_grammar.specs.inside.TokenMachine.{TokenMachine, IsExact}
use Rattle.tdl_grammar.proofs.FirstFault as first
use Rattle.tdl_lexer.specs.declared.signs.Token.{Token}
use Rattle.tdl_lexer.specs.Tokens.{IsCut, end_token, language}
use Rattle.tdl_lexer.proofs.ModeCuts.{is_decided}
use Rattle.tdl_texts.specs.Texts.{Notation, AreToks, IsNoText, IsDecided}
use Rattle.tdl_texts.specs.inside.Fits.{Fits}
use Rattle.tdl_texts.proofs.Toks.{ending, long, at_token}

module _ {g : Grammar} (n : Notation g) (m : TokenMachine g) (h : IsExact m) (f : Fits n m) where
  -- its token is one of the text's
  pub within_tokens : (text : List ℕ) (tokens : List Token) (toks : List g.Token) (kind : g.Kind) (place : g.Place) → AreToks n text tokens toks
      → IsFault g toks kind place → n.token place < length tokens
  within_tokens text tokens toks kind place are fault =
      let inside = f.within toks kind place fault in
      let as_many = long n m f text tokens toks are in
      omega (arith, inside, as_many)

  pub at_its_byte : (text : List ℕ) (tokens : List Token) (toks : List g.Token) (kind : g.Kind) (place : g.Place) (there : Token)
      → AreToks n text tokens toks → IsFault g toks kind place → there ≡ get_or tokens (n.token place) there
      → IsNoText n text kind (there.at + n.offset place)
  at_its_byte text tokens toks kind place there are fault is =
      let inside = within_tokens text tokens toks kind place are fault in
      record {
        tokens = tokens;
        toks = toks;
        tokenized = are;
        place = place;
        first = fault;
        before = take (n.token place) tokens;
        there = there;
        after = drop (suc (n.token place)) tokens;
        joined = at_token tokens (n.token place) there inside is;
        number = sym (length-take-le (n.token place) tokens (omega (arith, inside)));
        byte = refl;
      }

  tokens_decided : (text : List ℕ) (tokens : List Token) → IsCut (language n.mode) text tokens → IsDecided n text
  tokens_decided text tokens cut =
      let e = ending n m f text tokens cut in
      ⊎_elim
      (λ read. inl (read.0, record { tokens = tokens; toks = e.front ++ e.last ∷ []; tokenized = e.are; is = read.1 }))
      (λ fault.
      let place = fault.1 in
      let there = get_or tokens (n.token place) (end_token 0) in
      let inside = within_tokens text tokens (e.front ++ e.last ∷ []) fault.0 place e.are fault.2 in
      inr (
        fault.0,
        there.at + n.offset place,
        inr (at_its_byte text tokens (e.front ++ e.last ∷ []) fault.0 place there e.are fault.2
            (get_or_default tokens (n.token place) (end_token 0) there inside)),
      ))
      (first.decided g m h (e.front ++ e.last ∷ []) (first.ends_well g m h e.front e.last e.ends))

  pub decided : (text : List ℕ) → IsDecided n text
  decided text =
      ⊎_elim
      (λ cut. tokens_decided text cut.0 cut.1)
      (λ fault. inr (n.cut_kind fault.0, fault.1, inl (record { cause = fault.0; same = refl; fault = fault.2 })))
      (is_decided n.mode text)
