-- Texts of mini-notation are read in one way, and each has a tree or a first fault.
--     fits             the texts of a kind are a notation of the machine
--     toks_are         their tokens, as the grammar sees them
--     IsMini-unique, IsMini-no_fault, Refuses-unique    a text is read in one way
--     each_read        each text is read
use Rattle.std.proofs.Common.{◌≡◌, ℕ, List, [], ◌∷◌, map, refl, sym, ap₂, ◌∙◌}
use Rattle.std.specs.List.{AllZip}
use Rattle.tdl_control.specs.declared.faults.Faulted.TheVariants.{At}
use Rattle.tdl_lexer.specs.declared.signs.Token.{Token}
use Rattle.tdl_texts.specs.inside.Fits.{Fits}
use Rattle.tdl_texts.proofs.OneReading.{one_tree, not_both, one_fault}
use Rattle.tdl_texts.proofs.EachText.{decided}
use Rattle.tdl_mini_tree.specs.declared.faults.MiniKind.{MiniKind}
use Rattle.tdl_mini_tree.specs.declared.leaves.Kind.{Kind}
use Rattle.tdl_mini_tree.specs.Tree.{Layers}
use Rattle.tdl_mini_machine.specs.Tokens.{Tok}
use Rattle.tdl_mini_grammar.specs.Texts.{tok_of, mini_texts, IsMini, Refuses, Decided}
use Rattle.tdl_mini_grammar.proofs.MiniMachine.{mini_machine, is_exact}
use Rattle.tdl_mini_grammar.proofs.TestPlaces.{fault_within}

pub fits : (kind : Kind) → Fits (mini_texts kind) (mini_machine kind)
fits kind = record {
  some = λ text t. (tok_of text t, refl);
  one = λ text t x y h k. h ∙ sym k;
  ends = λ text at x h. h;
  within = fault_within kind;
}

-- each token of the grammar is that of its place
pub toks_are : (text : List ℕ) (tokens : List Token) (toks : List Tok) → AllZip (λ (t : Token) (tok : Tok). tok ≡ tok_of text t) tokens toks
    → toks ≡ map (tok_of text) tokens
toks_are text [] [] h = refl
toks_are text [] (x ∷ toks) h = absurd h
toks_are text (t ∷ tokens) [] h = absurd h
toks_are text (t ∷ tokens) (x ∷ toks) h = ap₂ (λ (u : Tok) (us : List Tok). u ∷ us) h.0 (toks_are text tokens toks h.1)

pub IsMini-unique : (kind : Kind) (text : List ℕ) (a b : Layers) → IsMini kind text a → IsMini kind text b → a ≡ b
IsMini-unique kind = one_tree (mini_texts kind) (mini_machine kind) (is_exact kind) (fits kind)

pub IsMini-no_fault : (kind : Kind) (text : List ℕ) (ls : Layers) (fault : MiniKind) (at : ℕ) → IsMini kind text ls → Refuses kind text (At fault at) → ⊥
IsMini-no_fault kind = not_both (mini_texts kind) (mini_machine kind) (is_exact kind) (fits kind)

pub Refuses-unique : (kind : Kind) (text : List ℕ) (k l : MiniKind) (m n : ℕ) → Refuses kind text (At k m) → Refuses kind text (At l n) → (k ≡ l) × (m ≡ n)
Refuses-unique kind = one_fault (mini_texts kind) (mini_machine kind) (is_exact kind) (fits kind)

pub each_read : (kind : Kind) (text : List ℕ) → Decided kind text
each_read kind = decided (mini_texts kind) (mini_machine kind) (is_exact kind) (fits kind)
