-- The tokens of a line, as the grammar sees them.
--     fits     lines, and patterns alone, are a notation of the machine
use Rattle.std.proofs.Common.{◌≡◌, ℕ, ◌-◌, List, length, drop, take, refl, sym, ap, ◌∙◌}
use Rattle.std.specs.Prelude.{slice_range}
use Rattle.std.proofs.Math.Path.{fun_ext}
use Rattle.tdl_lexer.specs.declared.signs.Sign.{Sign}
use Rattle.tdl_lexer.specs.declared.signs.Sign.TheVariants as sign
use Rattle.tdl_texts.specs.inside.Fits.{Fits}
use Rattle.tdl_mini_tree.specs.declared.leaves.Kind.{Kind}
use Rattle.tdl_mini_grammar.specs.Texts.{number_of}
use Rattle.tdl_mini_grammar.proofs.Readings.{some_reading, one_reading}
use Rattle.tdl_line_machine.specs.declared.goals.Goal.{Goal}
use Rattle.tdl_line_machine.specs.Tokens.{Tok, end, quoted}
use Rattle.tdl_line_machine.specs.Tokens as token
use Rattle.tdl_line_grammar.proofs.FaultPlaces.{fault_within}
use Rattle.tdl_line_grammar.proofs.LineMachine.{line_machine}
use Rattle.tdl_line_texts.specs.Names.{name_of}
use Rattle.tdl_line_texts.specs.Texts.{IsSigned, mark_of, line_texts}

-- ---- there are such
signed_tok : (s : Sign) (bytes : List ℕ) → (t : Tok) × IsSigned s bytes t
signed_tok sign.Number bytes = (token.number (number_of bytes), refl)
signed_tok sign.Word bytes = (token.name (name_of bytes), refl)
signed_tok sign.Quoted bytes =
    let inner = take (length bytes - 2) (drop 1 bytes) in
    let readings = λ (kind : Kind). (some_reading kind inner).0 in
    (quoted readings, (readings, refl, λ kind. (some_reading kind inner).1))
signed_tok sign.Mark bytes = (token.mark (mark_of bytes), refl)
signed_tok sign.End bytes = (end, refl)

-- ---- and no others
one_tok : (s : Sign) (bytes : List ℕ) (t u : Tok) → IsSigned s bytes t → IsSigned s bytes u → t ≡ u
one_tok sign.Number bytes t u h k = h ∙ sym k
one_tok sign.Word bytes t u h k = h ∙ sym k
one_tok sign.Quoted bytes t u h k =
    h.1 ∙ ap quoted (fun_ext (λ kind. one_reading kind (take (length bytes - 2) (drop 1 bytes)) (h.0 kind) (k.0 kind) (h.2 kind) (k.2 kind))) ∙ sym k.1
one_tok sign.Mark bytes t u h k = h ∙ sym k
one_tok sign.End bytes t u h k = h ∙ sym k

pub fits : (goal : Goal) → Fits (line_texts goal) (line_machine goal)
fits goal = record {
  some = λ text t. signed_tok t.sign (slice_range text t.at t.end);
  one = λ text t x y h k. one_tok t.sign (slice_range text t.at t.end) x y h k;
  ends = λ text at x h. h;
  within = fault_within goal;
}
