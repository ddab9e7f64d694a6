-- A text is read in one way.
--     one_tree         it has one tree at most
--     not_both         and no fault where it has one
--     one_fault        and one first fault at most
use Rattle.std.proofs.Common.{◌≡◌, ℕ, ◌+◌, inl, inr, List, [], ◌∷◌, ◌++◌, length, sym, ap, ◌∙◌, subst, arith}
use Rattle.tdl_grammar.specs.Grammar.{Grammar}
use Rattle.tdl_grammar.specs.Faults.{IsText, IsFault}
use Rattle.tdl_grammar.specs.inside.TokenMachine.{TokenMachine, IsExact}
use Rattle.tdl_grammar.proofs.OneFault as tokens
use Rattle.tdl_lexer.specs.declared.signs.Token.{Token}
use Rattle.tdl_lexer.proofs.ModeCuts.{IsCut-no_fault, IsFaultAt-unique}
use Rattle.tdl_texts.specs.Texts.{Notation, IsWritten, IsNoText, RefusesAt}
use Rattle.tdl_texts.specs.inside.Fits.{Fits}
use Rattle.tdl_texts.proofs.Toks.{one_list}

-- the token of a text, by how many stand before it
same_there : (a c : List Token) (t u : Token) (b d : List Token) → a ++ t ∷ b ≡ c ++ u ∷ d → length a ≡ length c → t ≡ u
same_there [] [] t u b d e same = cc
same_there [] (y ∷ c) t u b d e same = absurd (omega arith)
same_there (x ∷ a) [] t u b d e same = absurd (omega arith)
same_there (x ∷ a) (y ∷ c) t u b d e same = same_there a c t u b d (tails x y (a ++ t ∷ b) (c ++ u ∷ d) e) (omega arith)
  where
    tails : (x y : Token) (xs ys : List Token) → x ∷ xs ≡ y ∷ ys → xs ≡ ys
    tails x y xs ys e = cc

module _ {g : Grammar} (n : Notation g) (m : TokenMachine g) (h : IsExact m) (f : Fits n m) where
  same_text : (text : List ℕ) (a b : g.Tree) (x : IsWritten n text a) (y : IsWritten n text b) → IsText g y.toks a
  same_text text a b x y =
      subst (λ (ts : List g.Token). IsText g ts a) (one_list n m f text x.tokens y.tokens x.toks y.toks x.tokenized y.tokenized).1 x.is

  pub one_tree : (text : List ℕ) (a b : g.Tree) → IsWritten n text a → IsWritten n text b → a ≡ b
  one_tree text a b x y = tokens.Reads-unique g m h y.toks a b (same_text text a b x y).reads y.is.reads

  pub not_both : (text : List ℕ) (tree : g.Tree) (kind : g.Kind) (at : ℕ) → IsWritten n text tree → RefusesAt n text kind at → ⊥
  not_both text tree kind at x (inl y) = IsCut-no_fault n.mode text x.tokens y.cause at x.tokenized.cut y.fault
  not_both text tree kind at x (inr y) =
      tokens.IsText-no_fault g m h y.toks tree kind y.place
      (subst (λ (ts : List g.Token). IsText g ts tree) (one_list n m f text x.tokens y.tokens x.toks y.toks x.tokenized y.tokenized).1 x.is) y.first

  two_faults : (text : List ℕ) (k l : g.Kind) (i j : ℕ) → IsNoText n text k i → IsNoText n text l j → (k ≡ l) × (i ≡ j)
  two_faults text k l i j x y =
      let toks = one_list n m f text x.tokens y.tokens x.toks y.toks x.tokenized y.tokenized in
      let same = tokens.IsFault-unique g m h y.toks k l x.place y.place (subst (λ (ts : List g.Token). IsFault g ts k x.place) toks.1 x.first) y.first in
      let there = same_there x.before y.before x.there y.there x.after y.after (sym x.joined ∙ toks.0 ∙ y.joined)
      (sym x.number ∙ ap n.token same.1 ∙ y.number) in (
        same.0,
        x.byte ∙ ap (λ (t : Token). t.at + n.offset x.place) there ∙ ap (λ (p : g.Place). y.there.at + n.offset p) same.1 ∙ sym y.byte,
      )

  pub one_fault : (text : List ℕ) (k l : g.Kind) (i j : ℕ) → RefusesAt n text k i → RefusesAt n text l j → (k ≡ l) × (i ≡ j)
  one_fault text k l i j (inl x) (inl y) =
      let same = IsFaultAt-unique n.mode text x.cause y.cause i j x.fault y.fault in
      (x.same ∙ ap n.cut_kind same.0 ∙ sym y.same, same.1)
  one_fault text k l i j (inl x) (inr y) = absurd (IsCut-no_fault n.mode text y.tokens x.cause i y.tokenized.cut x.fault)
  one_fault text k l i j (inr x) (inl y) = absurd (IsCut-no_fault n.mode text x.tokens y.cause j x.tokenized.cut y.fault)
  one_fault text k l i j (inr x) (inr y) = two_faults text k l i j x y
