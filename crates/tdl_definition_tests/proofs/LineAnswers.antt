-- Performers' lines and patterns alone, read as they are computed.
--     line_answer     the tree of a text, or its first fault
--     reads           it is a line, or a pattern alone, with this tree
--     refuses         it has this first fault
use Rattle.std.proofs.Common.{◌≡◌, ℕ, ◌-◌, ◌≤◌, inr, List, length, drop, take, slice_range, refl, subst}
use Rattle.tdl_control.specs.declared.faults.Faulted.TheVariants.{At}
use Rattle.tdl_lexer.specs.declared.signs.Sign.{Sign}
use Rattle.tdl_lexer.specs.declared.signs.Sign.TheVariants as sign
use Rattle.tdl_lexer.specs.declared.signs.Token.{Token}
use Rattle.tdl_mini_tree.specs.declared.faults.MiniKind.{MiniKind}
use Rattle.tdl_mini_tree.specs.declared.leaves.Kind.{Kind}
use Rattle.tdl_mini_tree.specs.Reading.{Reading, read, unread}
use Rattle.tdl_mini_tree.specs.Tree.{Layers}
use Rattle.tdl_mini_grammar.specs.Readings.{IsReading}
use Rattle.tdl_mini_grammar.specs.Texts.{mini_texts, number_of}
use Rattle.tdl_command.specs.Tree.{Whole}
use Rattle.tdl_line_machine.specs.declared.faults.LineKind.{LineKind}
use Rattle.tdl_line_machine.specs.declared.goals.Goal.{Goal}
use Rattle.tdl_line_machine.specs.Tokens.{Tok}
use Rattle.tdl_line_machine.specs.Tokens as token
use Rattle.tdl_line_grammar.proofs.LineMachine.{line_machine, is_exact}
use Rattle.tdl_line_texts.specs.Limits.{max_line}
use Rattle.tdl_line_texts.specs.Names.{name_of}
use Rattle.tdl_line_texts.specs.Texts.{mark_of, line_texts, IsSigned, IsWhole, RefusesWhole}
use Rattle.tdl_line_texts.proofs.LineTokens.{fits}
use Rattle.tdl_definition_tests.proofs.Answers.{Answer, tree, fault, IsAnswer, answer, answer_is}
use Rattle.tdl_definition_tests.proofs.MiniAnswers.{mini_answer, mini_is}

abbrev reading : Kind → Answer Layers MiniKind → Reading
reading kind (tree ls) = read kind ls
reading kind (fault k at) = unread k at

reading_is : (kind : Kind) (text : List ℕ) (a : Answer Layers MiniKind) → IsAnswer (mini_texts kind) text a → IsReading kind text (reading kind a)
reading_is kind text (tree ls) h = (refl, h)
reading_is kind text (fault k at) h = h

-- what is between the quotes
abbrev inner : List ℕ → List ℕ
inner bytes = take (length bytes - 2) (drop 1 bytes)

abbrev signed : Sign → List ℕ → Tok
signed sign.Number bytes = token.number (number_of bytes)
signed sign.Word bytes = token.name (name_of bytes)
signed sign.Quoted bytes = token.quoted (λ kind. reading kind (mini_answer kind (inner bytes)))
signed sign.Mark bytes = token.mark (mark_of bytes)
signed sign.End bytes = token.end

signed_is : (s : Sign) (bytes : List ℕ) → IsSigned s bytes (signed s bytes)
signed_is sign.Number bytes = refl
signed_is sign.Word bytes = refl
signed_is sign.Quoted bytes = (
  λ kind. reading kind (mini_answer kind (inner bytes)),
  refl,
  λ kind. reading_is kind (inner bytes) (mini_answer kind (inner bytes)) (mini_is kind (inner bytes)),
)
signed_is sign.Mark bytes = refl
signed_is sign.End bytes = refl

abbrev tok_of : List ℕ → Token → Tok
tok_of text t = signed t.sign (slice_range text t.at t.end)

abbrev pub line_answer : Goal → List ℕ → Answer Whole LineKind
line_answer goal text = answer (line_texts goal) (line_machine goal) tok_of text

line_is : (goal : Goal) (text : List ℕ) → IsAnswer (line_texts goal) text (line_answer goal text)
line_is goal text =
    answer_is (line_texts goal) (line_machine goal) (is_exact goal) (fits goal) tok_of (λ bytes t. signed_is t.sign (slice_range bytes t.at t.end)) text

pub reads : (goal : Goal) (text : List ℕ) (w : Whole) → length text ≤ max_line → line_answer goal text ≡ tree w → IsWhole goal text w
reads goal text w short e =
    record { short = short; written = subst (λ (a : Answer Whole LineKind). IsAnswer (line_texts goal) text a) e (line_is goal text) }

pub refuses : (goal : Goal) (text : List ℕ) (k : LineKind) (at : ℕ) → length text ≤ max_line → line_answer goal text ≡ fault k at
    → RefusesWhole goal text (At k at)
refuses goal text k at short e = inr (short, subst (λ (a : Answer Whole LineKind). IsAnswer (line_texts goal) text a) e (line_is goal text))
