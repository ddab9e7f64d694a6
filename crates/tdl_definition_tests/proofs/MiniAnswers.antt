-- Texts of mini-notation, read as they are computed.
--     mini_answer     the tree of a text, or its first fault
--     reads           it is a text with this tree
--     refuses         it has this first fault
use Rattle.std.proofs.Common.{◌≡◌, ℕ, List, refl, subst}
use Rattle.tdl_control.specs.declared.faults.Faulted.TheVariants.{At}
use Rattle.tdl_mini_tree.specs.declared.faults.MiniKind.{MiniKind}
use Rattle.tdl_mini_tree.specs.declared.leaves.Kind.{Kind}
use Rattle.tdl_mini_tree.specs.Tree.{Layers}
use Rattle.tdl_mini_grammar.specs.Texts.{tok_of, mini_texts, IsMini, Refuses}
use Rattle.tdl_mini_grammar.proofs.MiniMachine.{mini_machine, is_exact}
use Rattle.tdl_mini_grammar.proofs.TextsRead.{fits}
use Rattle.tdl_definition_tests.proofs.Answers.{Answer, tree, fault, IsAnswer, answer, answer_is}

abbrev pub mini_answer : Kind → List ℕ → Answer Layers MiniKind
mini_answer kind text = answer (mini_texts kind) (mini_machine kind) tok_of text

pub mini_is : (kind : Kind) (text : List ℕ) → IsAnswer (mini_texts kind) text (mini_answer kind text)
mini_is kind text = answer_is (mini_texts kind) (mini_machine kind) (is_exact kind) (fits kind) tok_of (λ bytes t. refl) text

pub reads : (kind : Kind) (text : List ℕ) (ls : Layers) → mini_answer kind text ≡ tree ls → IsMini kind text ls
reads kind text ls e = subst (λ (a : Answer Layers MiniKind). IsAnswer (mini_texts kind) text a) e (mini_is kind text)

pub refuses : (kind : Kind) (text : List ℕ) (k : MiniKind) (at : ℕ) → mini_answer kind text ≡ fault k at → Refuses kind text (At k at)
refuses kind text k at e = subst (λ (a : Answer Layers MiniKind). IsAnswer (mini_texts kind) text a) e (mini_is kind text)
