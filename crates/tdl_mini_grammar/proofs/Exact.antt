-- The machine reads exactly what the grammar spells, test by test.
use Rattle.std.proofs.Common.{◌≡◌, ℕ, suc, ◌+◌, Bool, Ok, List, [], ◌∷◌, length, refl, ap, ◌∙◌, arith, length-append}
use Rattle.std.proofs.lemmas.Slice.Zip.{AllZip-long}
use Rattle.tdl_mini_tree.specs.declared.leaves.Kind.{Kind}
use Rattle.tdl_mini_tree.specs.declared.leaves.Kind.TheVariants.{Count}
use Rattle.tdl_mini_tree.specs.declared.leaves.Bracket.TheVariants.{Brace}
use Rattle.tdl_mini_machine.specs.declared.marks.Mark.TheVariants as mark
use Rattle.tdl_mini_machine.specs.Tokens.{Tok}
use Rattle.tdl_mini_grammar.specs.Spelling.{IsTokenOf, Pieces, nothing, spells, ◌▸◌, ◌obeying◌, terminals, layers_pieces, spell}
use Rattle.tdl_mini_tree.specs.Tree.{kind_after, Layers, no_layer, layer, Sequence, no_group, group, Group, no_element, element, played, range, hold}
use Rattle.tdl_mini_tree.specs.Tree.{repeat, MiniStep, begins, fast, slow, euclid, euclid_from, value, rest, bracketed, Operand, scaled, nested, Braces}
use Rattle.tdl_mini_tree.specs.Tree.{no_brace, brace}
use Rattle.tdl_mini_grammar.specs.Spelling as spelling
use Rattle.tdl_mini_grammar.specs.Grammar.{Formed, FormedSequence, FormedGroup, FormedStep, FormedOperand, FormedBraces, Reads, IsFilled}
use Rattle.tdl_mini_grammar.specs.Tests.{after, tests}
use Rattle.tdl_mini_machine.specs.Machine.States.{Level, Frame, Role, Hole, hits, steps, ready, term, faster, slower, begun_at, closed_layers, first_state}
use Rattle.tdl_mini_machine.specs.Machine.States.{final_state, all_checked}
use Rattle.tdl_mini_machine.specs.Machine.Running.{run, taken}
use Rattle.tdl_mini_grammar.proofs.Running.{state, Runs, runs_mark, runs_one}
use Rattle.tdl_mini_grammar.proofs.Settling.{pends_runs}
use Rattle.tdl_mini_grammar.proofs.Pieces.{grouped, value_runs}
use Rattle.tdl_mini_grammar.proofs.Delimiters.{layers_level, closed_level, role_kind, frame}
use Rattle.tdl_mini_grammar.proofs.Operands.{LayersRead, BracesRead, OperandRead, StepRead, Fits, after_braces, after_step, argument, first_at, second_at}
use Rattle.tdl_mini_grammar.proofs.Operands.{third_at, no_brace_read, brace_read, nested_read, scaled_read, fast_read, slow_read, euclid_read}
use Rattle.tdl_mini_grammar.proofs.Operands.{euclid_from_read}
use Rattle.tdl_mini_grammar.proofs.Groups.{GroupRead, SequenceRead, after_group, group_at, sequence_at, Commas, commas_before, commas_single, commas_parts}
use Rattle.tdl_mini_grammar.proofs.Groups.{filled_single, played_read, range_read, hold_read, repeat_read, empty_read, sequence_read, no_group_read}
use Rattle.tdl_mini_grammar.proofs.Groups.{layers_read, no_layer_read}

mutual
  pub read_layers :
      (ls : Layers) (tested : Bool) (frames : List Frame) (kind : Kind) → Formed kind (length frames) ls → Commas frames ls → (from : ℕ) →
      LayersRead tested frames kind ls from
  read_layers no_layer tested frames kind formed commas from = no_layer_read tested frames kind from
  read_layers (layer ls s) tested frames kind formed commas from =
      layers_read tested frames kind ls s from formed.0 commas
      (read_layers ls tested frames kind formed.0 (commas_before frames ls s commas) from)
      (read_sequence s tested frames kind ls formed.2 (sequence_at kind ls from))

  read_sequence :
      (s : Sequence) (tested : Bool) (frames : List Frame) (kind : Kind) (ls : Layers) → FormedSequence kind (length frames) s → (from : ℕ) →
      SequenceRead tested frames kind ls s from
  read_sequence no_group tested frames kind ls formed from = no_group_read tested frames kind ls from
  read_sequence (group s g) tested frames kind ls formed from =
      sequence_read tested frames kind ls s g from
      (read_sequence s tested frames kind ls formed.0 from)
      (read_group g tested frames kind ls s formed.1 (group_at kind s from))

  read_group :
      (g : Group) (tested : Bool) (frames : List Frame) (kind : Kind) (ls : Layers) (seq : Sequence) → FormedGroup kind (length frames) g → (from : ℕ) →
      GroupRead tested frames kind ls seq g from
  read_group no_element tested frames kind ls seq formed from = empty_read tested frames kind ls seq from
  read_group (element g (played step weight times)) tested frames kind ls seq formed from =
      played_read tested frames kind ls seq g from step weight times formed.2
      (read_group g tested frames kind ls seq formed.0 from)
      (λ start. read_step step tested frames (grouped kind ls seq g start) formed.2 (after_group kind seq g from))
  read_group (element g (range a b)) tested frames kind ls seq formed from =
      range_read tested frames kind ls seq g from a b formed.2 (read_group g tested frames kind ls seq formed.0 from)
  read_group (element g hold) tested frames kind ls seq formed from =
      hold_read tested frames kind ls seq g from formed.1 (read_group g tested frames kind ls seq formed.0 from)
  read_group (element g repeat) tested frames kind ls seq formed from =
      repeat_read tested frames kind ls seq g from formed.1 (read_group g tested frames kind ls seq formed.0 from)

  read_step :
      (step : MiniStep) (tested : Bool) (frames : List Frame) (l : Level) → FormedStep l.kind (length frames) step → (from : ℕ) →
      StepRead tested step frames l from
  read_step (begins (value v)) tested frames l formed from = value_runs tested frames l from v formed
  read_step (begins rest) tested frames l formed from = runs_mark mark.Rest refl
  read_step (begins (bracketed o)) tested frames l formed from = read_operand o tested term frames l formed.1 formed.0 from
  read_step (fast s o) tested frames l formed from =
      fast_read tested s o frames l from
      (read_step s tested frames l formed.0 from)
      (read_operand o tested (faster s) frames (begun_at l from) formed.1 tt (suc (after_step s l from)))
  read_step (slow s o) tested frames l formed from =
      slow_read tested s o frames l from
      (read_step s tested frames l formed.0 from)
      (read_operand o tested (slower s) frames (begun_at l from) formed.1 tt (suc (after_step s l from)))
  read_step (euclid s k n) tested frames l formed from =
      euclid_read tested s k n frames l from formed.1 (filled_single k formed.2) formed.3 (filled_single n formed.4) formed.5
      (read_step s tested frames l formed.0 from)
      (read_layers k tested (argument (hits s) l from ∷ frames) Count formed.3 (commas_single (argument (hits s) l from ∷ frames) k formed.2)
      (first_at s l from))
      (read_layers n tested (argument (steps s k) l from ∷ frames) Count formed.5 (commas_single (argument (steps s k) l from ∷ frames) n formed.4)
      (second_at s k l from))
  read_step (euclid_from s k n r) tested frames l formed from =
      euclid_from_read tested s k n r frames l from formed.1 (filled_single k formed.2) formed.3 (filled_single n formed.4) formed.5
      (filled_single r formed.6) formed.7
      (read_step s tested frames l formed.0 from)
      (read_layers k tested (argument (hits s) l from ∷ frames) Count formed.3 (commas_single (argument (hits s) l from ∷ frames) k formed.2)
      (first_at s l from))
      (read_layers n tested (argument (steps s k) l from ∷ frames) Count formed.5 (commas_single (argument (steps s k) l from ∷ frames) n formed.4)
      (second_at s k l from))
      (read_layers r tested (argument (Hole.from s k n) l from ∷ frames) Count formed.7
      (commas_single (argument (Hole.from s k n) l from ∷ frames) r formed.6) (third_at s k n l from))

  read_operand :
      (o : Operand) (tested : Bool) (role : Role) (frames : List Frame) (l : Level) →
      FormedOperand (role_kind role l.kind) (length frames) o → Fits role o → (from : ℕ) → OperandRead tested role o frames l from
  read_operand (scaled bs n) tested role frames l formed fits from =
      scaled_read tested role bs n frames l from fits (read_braces bs tested role frames l formed from)
  read_operand (nested bs b ls) tested role frames l formed fits from =
      nested_read tested role bs b ls frames l from formed.1 formed.2 formed.3
      (read_braces bs tested role frames l formed.0 from)
      (read_layers ls tested (frame role bs b l from ∷ frames) (kind_after (role_kind role l.kind) bs) formed.3
      (commas_parts (frame role bs b l from ∷ frames) ls tt) (suc (after_braces role bs l from)))

  read_braces :
      (bs : Braces) (tested : Bool) (role : Role) (frames : List Frame) (l : Level) → FormedBraces (role_kind role l.kind) (length frames) bs →
      (from : ℕ) → BracesRead tested role bs frames l from
  read_braces no_brace tested role frames l formed from = no_brace_read tested role frames l from
  read_braces (brace bs ls) tested role frames l formed from =
      brace_read tested role bs ls frames l from formed.1 formed.2 formed.3
      (read_braces bs tested role frames l formed.0 from)
      (read_layers ls tested (frame role bs Brace l from ∷ frames) (kind_after (role_kind role l.kind) bs) formed.3
      (commas_parts (frame role bs Brace l from ∷ frames) ls tt) (suc (after_braces role bs l from)))

-- ---- the whole text
level_kind : (kind : Kind) (ls : Layers) (start : ℕ) → (layers_level kind ls start).kind ≡ kind
level_kind kind no_layer start = refl
level_kind kind (layer ls no_group) start = refl
level_kind kind (layer ls (group s g)) start = refl

end_runs :
    (tested : Bool) (l : Level) (at : ℕ) (kind : Kind) (ls : Layers) → l.kind ≡ kind → closed_layers l ≡ ls →
    Runs tested (state [] l ready at) (spelling.end ∷ []) [] (final_state kind ls (suc at))
end_runs tested l at kind ls same closed =
    runs_one (λ t stands. ap (taken tested (state [] l ready at)) stands ∙ ap (λ k. Ok (final_state k (closed_layers l) (suc at))) same
    ∙ ap (λ x. Ok (final_state kind x (suc at))) closed)

text_runs :
    (tested : Bool) (kind : Kind) (ls : Layers) → IsFilled ls → Formed kind 0 ls →
    Runs tested (first_state kind) (terminals (spell kind ls)) (tests kind ls) (final_state kind ls (after 0 (spell kind ls)))
text_runs tested kind ls filled formed =
    pends_runs (read_layers ls tested [] kind formed (commas_parts [] ls tt) 0) (spelling.end ∷ []) tt [] (final_state kind ls (after 0 (spell kind ls)))
    (λ start. end_runs tested (layers_level kind ls start) (after 0 (layers_pieces kind ls)) kind ls (level_kind kind ls start)
    (closed_level kind 0 ls filled formed start))

after-count : (from : ℕ) (a : Pieces) → after from a ≡ from + length (terminals a)
after-count from nothing = omega arith
after-count from (spells x) = omega arith
after-count from (a ▸ b) = omega (arith, after-count from a, after-count (after from a) b, length-append (terminals a) (terminals b))
after-count from (a obeying rules) = after-count from a

-- Where tokens are spelled by a tree, the machine goes to the end, up to the first test that does not hold.
pub exact :
    (kind : Kind) (tokens : List Tok) (ls : Layers) (tested : Bool) → Reads kind tokens ls →
    run tested (first_state kind) tokens ≡ all_checked tested (tests kind ls) (Ok (final_state kind ls (length tokens)))
exact kind tokens ls tested reads =
    let runs = text_runs tested kind ls reads.filled reads.formed in
    let long : after 0 (spell kind ls) ≡ length tokens =
    omega (arith, AllZip-long IsTokenOf (terminals (spell kind ls)) tokens reads.spelled, after-count 0 (spell kind ls)) in
    runs.all tokens reads.spelled ∙ ap (λ (n : ℕ). all_checked tested (tests kind ls) (Ok (final_state kind ls n))) long
