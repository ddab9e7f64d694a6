-- What the machine reads of ratios and counts that are arguments.
use Rattle.std.proofs.Common.{◌≡◌, ℕ, suc, Bool, true, false, Ok, [], ◌∷◌, refl, ap, sym, ◌∙◌}
use Rattle.tdl_grammar.specs.Machine.{all_checked}
use Rattle.tdl_mini_tree.specs.declared.faults.MiniKind.TheVariants.{BadEuclid}
use Rattle.tdl_mini_tree.specs.declared.leaves.Kind.TheVariants.{Count as Counts, Ratio as Ratios}
use Rattle.tdl_line_machine.specs.declared.faults.LineKind.{LineKind}
use Rattle.tdl_line_machine.specs.declared.faults.LineKind.TheVariants.{Mini}
use Rattle.tdl_line_machine.specs.declared.marks.Mark.TheVariants as mark
use Rattle.tdl_command.specs.declared.tree.Plain.{Plain}
use Rattle.tdl_command.specs.declared.tree.Plain.TheVariants.{Bare, Signed, Quotient}
use Rattle.tdl_line_machine.specs.Tokens.{number}
use Rattle.tdl_command.specs.Rules.{whole_number}
use Rattle.tdl_command.specs.Tree as tree
use Rattle.tdl_command.specs.Tree.{Ratio, Count}
use Rattle.tdl_line_machine.specs.Pieces.{reading_rules}
use Rattle.tdl_line_grammar.specs.Spelling.{sign, ratio_pieces, count_pieces, last_count}
use Rattle.tdl_line_machine.specs.Pieces.{tests_from}
use Rattle.tdl_line_machine.specs.Machine.States.{Core, State, Step, Spot, CountCall, Called, wants_count, wants_fun, made_of, measure, fraction}
use Rattle.tdl_line_machine.specs.Machine.Calls.{with_ratio, with_count, has_rhythms_with, called}
use Rattle.tdl_line_machine.specs.Machine.States.{asking_ratio, asking_count, asking_fun, obeying, fitting}
use Rattle.tdl_line_machine.specs.Machine.Arguments.{counted}
use Rattle.tdl_line_machine.specs.Machine.States.{reading}
use Rattle.tdl_line_grammar.proofs.Running.{steps, Runs, runs_token, runs_then, runs_to, after}
use Rattle.tdl_line_grammar.proofs.Kept.{Kept, core, at, within, after_made, made_is}
use Rattle.tdl_line_grammar.proofs.Leaves.{text_after, text_runs, ruled_after, ruled_runs, sign_runs, number_runs, HasBrackets, in_brackets, brackets_run}
use Rattle.tdl_line_grammar.proofs.Leaves.{fraction_digits}
use Rattle.tdl_line_machine.specs.declared.calls.RatioCall.{RatioCall}

abbrev pub after_called : Kept → Spot → Called → ℕ → State
after_called k spot (wants_count call) = at k (asking_count spot call)
after_called k spot (wants_fun call) = at k (asking_fun spot call)
after_called k spot (made_of f) = after_made k spot f

pub called_is : (k : Kept) (n : ℕ) (spot : Spot) (c : Called) → called (core k n) spot c ≡ Ok (after_called k spot c (suc n))
called_is k n spot (wants_count call) = refl
called_is k n spot (wants_fun call) = refl
called_is k n spot (made_of f) = made_is k n spot f

-- ---- ratios
measured_runs :
    (tested : Bool) (k : Kept) (spot : Spot) (call : RatioCall) (from : ℕ) (p : Plain) → HasBrackets p →
    Runs tested from k.depth (at k (asking_ratio spot call) from) (sign mark.OpenRound ∷ in_brackets p)
    (after_called k spot (with_ratio call (tree.plain p)) (after (suc from) (in_brackets p)))
measured_runs tested k spot call from p h =
    runs_then (sign mark.OpenRound ∷ []) (in_brackets p) refl
    (sign_runs mark.OpenRound (steps _ _ _ refl))
    (brackets_run tested (within k (measure spot call)) fraction (fraction_digits tested (within k (measure spot call))) (λ m. steps _ _ _ refl)
    (λ q. after_called k spot (with_ratio call (tree.plain q))) (λ q j. called_is k j spot (with_ratio call (tree.plain q))) (suc from) p h)

pub ratio_runs :
    (tested : Bool) (k : Kept) (spot : Spot) (call : RatioCall) (from : ℕ) (r : Ratio) →
    Runs tested from k.depth (at k (asking_ratio spot call) from) (ratio_pieces r) (after_called k spot (with_ratio call r) (after from (ratio_pieces r)))
ratio_runs tested k spot call from (tree.plain (Bare n)) =
    number_runs n (steps _ _ _ (ap (fitting tested (core k from) n) (called_is k from spot (with_ratio call (tree.plain (Bare n))))))
ratio_runs tested k spot call from (tree.plain (Signed negative n)) = measured_runs tested k spot call from (Signed negative n) tt
ratio_runs tested k spot call from (tree.plain (Quotient negative a b)) = measured_runs tested k spot call from (Quotient negative a b) tt
ratio_runs tested k spot call from (tree.measured r) =
    runs_to (after_called k spot (with_ratio call (tree.measured r))) (sym (text_after Ratios r from))
    (text_runs Ratios r (λ readings e. steps _ _ _ (ap (λ x. reading tested (core k from) x (called (core k from) spot (with_ratio call (tree.measured x)))) e
    ∙ ap (all_checked tested (tests_from from (reading_rules r))) (called_is k from spot (with_ratio call (tree.measured r))))))

-- ---- counts
-- a rule that holds
obeyed : (tested : Bool) (c : Core) (kind : LineKind) (holds : Bool) (next : Step) → holds ≡ true → obeying tested c kind holds next ≡ next
obeyed true c kind true next e = refl
obeyed false c kind true next e = refl
obeyed tested c kind false next e = cc

counted_is :
    (tested : Bool) (k : Kept) (n : ℕ) (spot : Spot) (call : CountCall) (c : Count) → has_rhythms_with call c ≡ true →
    counted tested (core k n) spot call c ≡ Ok (after_called k spot (with_count call c) (suc n))
counted_is tested k n spot call c e =
    obeyed tested (core k n) (Mini BadEuclid) (has_rhythms_with call c) (called (core k n) spot (with_count call c)) e
    ∙ called_is k n spot (with_count call c)

pub count_runs :
    (tested : Bool) (k : Kept) (spot : Spot) (call : CountCall) (from : ℕ) (c : Count) → has_rhythms_with call c ≡ true →
    Runs tested from k.depth (at k (asking_count spot call) from) (count_pieces c) (after_called k spot (with_count call c) (after from (count_pieces c)))
count_runs tested k spot call from (tree.whole n) e =
    runs_token (count_pieces (tree.whole n)) (number (whole_number n)) refl
    (steps _ _ _ (ap (fitting tested (core k from) (whole_number n)) (counted_is tested k from spot call (tree.whole n) e)))
count_runs tested k spot call from (tree.counted r) e =
    runs_to (after_called k spot (with_count call (tree.counted r))) (sym (text_after Counts r from))
    (text_runs Counts r (λ readings same. steps _ _ _ (ap (λ x. reading tested (core k from) x (counted tested (core k from) spot call (tree.counted x))) same
    ∙ ap (all_checked tested (tests_from from (reading_rules r))) (counted_is tested k from spot call (tree.counted r) e))))

-- the last count of a Euclid
pub last_runs :
    (tested : Bool) (k : Kept) (spot : Spot) (call : CountCall) (from : ℕ) (c : Count) →
    Runs tested from k.depth (at k (asking_count spot call) from) (last_count (has_rhythms_with call c) c)
    (after_called k spot (with_count call c) (after from (last_count (has_rhythms_with call c) c)))
last_runs tested k spot call from (tree.whole n) =
    runs_token (last_count (has_rhythms_with call (tree.whole n)) (tree.whole n)) (number (whole_number n)) refl
    (steps _ _ _ (ap (λ x. fitting tested (core k from) (whole_number n)
    (obeying tested (core k from) (Mini BadEuclid) (has_rhythms_with call (tree.whole n)) x))
    (called_is k from spot (with_count call (tree.whole n)))))
last_runs tested k spot call from (tree.counted r) =
    runs_to (after_called k spot (with_count call (tree.counted r))) (sym (ruled_after Counts r _ from))
    (ruled_runs Counts r _ (λ readings same. steps _ _ _
    (ap (λ x. reading tested (core k from) x (counted tested (core k from) spot call (tree.counted x))) same
    ∙ ap (λ x. all_checked tested (tests_from from (reading_rules r))
    (obeying tested (core k from) (Mini BadEuclid) (has_rhythms_with call (tree.counted r)) x))
    (called_is k from spot (with_count call (tree.counted r))))))
