-- One token is counted.
--     read_stays       a token is not counted before it is taken
--     counted_state    the state once it is
use Rattle.std.proofs.Common.{◌≡◌, ℕ, suc, ◌+◌, true, Some, Ok, ap, ◌∙◌, arith}
use Rattle.tdl_mini_tree.specs.declared.leaves.Kind.{Kind}
use Rattle.tdl_mini_tree.specs.Reading.{Reading}
use Rattle.tdl_line_machine.specs.Tokens.{Tok}
use Rattle.tdl_line_machine.specs.Machine as machine
use Rattle.tdl_line_machine.specs.Machine.{taken, taken_at}
use Rattle.tdl_line_machine.specs.Machine.States.{State}
use Rattle.tdl_line_machine.proofs.Counting.{untested, is_counted}
use Rattle.tdl_line_reader.specs.declared.reader.LineTokenReader.{LineTokenReader}
use Rattle.tdl_line_reader.specs.declared.stages.Stage.{Stage}
use Rattle.tdl_line_reader.specs.declared.tokens.Tok.{Tok as TokValue}
use Rattle.tdl_line_reader.specs.ReaderView.{AreReadings, AgreesAt, Reads, core_of, stage_of, state_of, tok_value}
use Rattle.tdl_line_reader.proofs.TextsKept.{EachIsRead, some_readings}

abbrev pub with_read : machine.Core → ℕ → machine.Stage → State
with_read c n p = record { core = record { frames = c.frames; level = c.level; depth = c.depth; front = c.front; read = n }; stage = p }

tested_counts : (s f : State) (t : Tok) → taken true s t ≡ Ok f → f.core.read ≡ suc s.core.read
tested_counts s f t e = is_counted s f t (untested s f t e)

pub read_stays : {Q : Type 0} (reads : Reads Q) → EachIsRead reads → (old new : LineTokenReader) (p next : Stage) (t : TokValue Q)
    → AgreesAt reads (λ c u. taken_at true c u (stage_of p)) old t new (Ok (Some next)) → new.read ≡ old.read
read_stays reads each old new p next t h =
    let some = some_readings reads each t in
    let counted = tested_counts (state_of old p) _ (tok_value some.0 t) (h some.0 some.1).ok in
    omega (arith, counted)

-- the state once the token is counted
pub counted_state : {Q : Type 0} (reads : Reads Q) (old new : LineTokenReader) (p next : Stage) (t : TokValue Q) (n : ℕ) → n ≡ new.read + 1
    → AgreesAt reads (λ c u. taken_at true c u (stage_of p)) old t new (Ok (Some next))
    → (readings : Kind → Reading) → AreReadings reads readings t
    → taken true (state_of old p) (tok_value readings t) ≡ Ok (with_read (core_of new) n (stage_of next))
counted_state reads old new p next t n e h readings are =
    let same : suc new.read ≡ n = omega arith in
    (h readings are).ok ∙ ap (λ (k : ℕ). Ok (with_read (core_of new) k (stage_of next))) same
