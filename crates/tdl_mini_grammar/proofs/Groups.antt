-- What the machine reads of elements, groups, sequences and layers, from what it reads of their parts.
use Rattle.std.proofs.Common.{ℕ, Bool, Option, Some, None, List, [], ◌∷◌, ◌++◌, length, sym, ◌∙◌, append_assoc, append-nil}
use Rattle.tdl_mini_tree.specs.declared.leaves.Kind.{Kind}
use Rattle.tdl_mini_tree.specs.declared.leaves.Number.{Number}
use Rattle.tdl_mini_machine.specs.declared.marks.Mark.TheVariants as mark
use Rattle.tdl_mini_grammar.specs.Spelling.{sign, weight_pieces, count_pieces, layers_pieces, sequence_pieces, group_pieces, element_pieces, step_pieces}
use Rattle.tdl_mini_grammar.specs.Spelling.{comma_after, dot_after}
use Rattle.tdl_mini_grammar.specs.Grammar.{IsFilled, IsSingle, HasElement, Formed, FormedStep, FormedElement}
use Rattle.tdl_mini_grammar.specs.Tests.{after, tests_from}
use Rattle.tdl_mini_machine.specs.Machine.States.{Frame, ready}
use Rattle.tdl_mini_tree.specs.Tree.{Layers, no_layer, layer, Sequence, no_group, group, Group, no_element, element, Element, MiniStep, played, range, hold}
use Rattle.tdl_mini_tree.specs.Tree.{repeat}
use Rattle.tdl_mini_grammar.proofs.Terminals.{spell_sequence, spell_group, spell_element, spell_step, spell_weight}
use Rattle.tdl_mini_grammar.proofs.Running.{state}
use Rattle.tdl_mini_grammar.proofs.Settling.{Pends, fresh-append, pends_none, pends_pends, runs_pends, pends_as}
use Rattle.tdl_mini_grammar.proofs.Pieces.{grouped, played_pends, counted_pends, range_pends}
use Rattle.tdl_mini_grammar.proofs.Delimiters.{Parts, layers_level, sequence_level, hold_pends, repeat_pends, dot_runs, comma_runs}
use Rattle.tdl_mini_grammar.proofs.Operands.{step_stage, pending_step, fresh_step, StepRead, LayersRead}

-- ---- what is claimed of groups and sequences
abbrev pub GroupRead : Bool → List Frame → Kind → Layers → Sequence → Group → ℕ → Type 0
GroupRead tested frames kind ls seq g from = Pends tested (state frames (grouped kind ls seq no_element 0) ready from) (spell_group kind seq g)
    (tests_from from (group_pieces kind seq g)) frames (grouped kind ls seq g) (after from (group_pieces kind seq g))

abbrev pub SequenceRead : Bool → List Frame → Kind → Layers → Sequence → ℕ → Type 0
SequenceRead tested frames kind ls s from = Pends tested (state frames (grouped kind ls no_group no_element 0) ready from) (spell_sequence kind s)
    (tests_from from (sequence_pieces kind s)) frames (sequence_level kind ls s) (after from (sequence_pieces kind s))

abbrev pub after_group : Kind → Sequence → Group → ℕ → ℕ
after_group kind seq g from = after from (group_pieces kind seq g)

-- ---- elements
played_more :
    (tested : Bool) (frames : List Frame) (kind : Kind) (ls : Layers) (seq : Sequence) (g : Group) (start from : ℕ) (step : MiniStep)
    (weight times : Option Number) → StepRead tested step frames (grouped kind ls seq g start) from →
    Pends tested (state frames (grouped kind ls seq g start) ready from) (spell_element kind seq g (played step weight times))
    (tests_from from (element_pieces kind seq g (played step weight times))) frames (grouped kind ls seq (element g (played step weight times)))
    (after from (element_pieces kind seq g (played step weight times)))
played_more tested frames kind ls seq g start from step weight None read =
    let mid = after from (step_pieces kind step) in
    let a = tests_from from (step_pieces kind step) in
    let b = tests_from mid (weight_pieces weight) in
    pends_as
    (runs_pends read (played_pends tested frames kind ls seq g from (step_stage kind step) mid step (pending_step kind step) weight))
    (sym (append-nil (spell_step kind step ++ spell_weight weight)))
    (sym (append_assoc a b _) ∙ sym (append-nil _))
played_more tested frames kind ls seq g start from step weight (Some n) read =
    let mid = after from (step_pieces kind step) in
    let a = tests_from from (step_pieces kind step) in
    let b = tests_from mid (weight_pieces weight) in
    let c = tests_from (after mid (weight_pieces weight)) (count_pieces seq (element g (played step weight (Some n))) (Some n)) in
    pends_as
    (runs_pends read (counted_pends tested frames kind ls seq g from (step_stage kind step) mid step (pending_step kind step) weight n))
    (sym (append_assoc (spell_step kind step) (spell_weight weight) _))
    (sym (append_assoc a b _) ∙ sym (append_assoc (a ++ b) (_ ∷ []) c))

-- what is claimed of an element after a group
abbrev pub ElementRead : Bool → List Frame → Kind → Layers → Sequence → Group → Element → ℕ → Type 0
ElementRead tested frames kind ls seq g e from = GroupRead tested frames kind ls seq (element g e) from

pub played_read :
    (tested : Bool) (frames : List Frame) (kind : Kind) (ls : Layers) (seq : Sequence) (g : Group) (from : ℕ) (step : MiniStep)
    (weight times : Option Number) → FormedStep kind (length frames) step → GroupRead tested frames kind ls seq g from →
    ((start : ℕ) → StepRead tested step frames (grouped kind ls seq g start) (after_group kind seq g from)) →
    ElementRead tested frames kind ls seq g (played step weight times) from
played_read tested frames kind ls seq g from step weight times formed before read =
    pends_pends before (spell_element kind seq g (played step weight times))
    (fresh-append (spell_step kind step ++ spell_weight weight) _ (fresh-append (spell_step kind step) _ (fresh_step kind (length frames) step formed)))
    _ frames (grouped kind ls seq (element g (played step weight times))) _
    (λ start. played_more tested frames kind ls seq g start (after_group kind seq g from) step weight times (read start))

pub range_read :
    (tested : Bool) (frames : List Frame) (kind : Kind) (ls : Layers) (seq : Sequence) (g : Group) (from : ℕ) (a b : Number) →
    FormedElement kind (length frames) (range a b) → GroupRead tested frames kind ls seq g from →
    ElementRead tested frames kind ls seq g (range a b) from
range_read tested frames kind ls seq g from a b formed before =
    pends_pends before (spell_element kind seq g (range a b)) tt _ frames (grouped kind ls seq (element g (range a b))) _
    (λ start. range_pends tested frames kind ls seq g start (after_group kind seq g from) a b formed.0 formed.1)

pub hold_read :
    (tested : Bool) (frames : List Frame) (kind : Kind) (ls : Layers) (seq : Sequence) (g : Group) (from : ℕ) → HasElement g →
    GroupRead tested frames kind ls seq g from → ElementRead tested frames kind ls seq g hold from
hold_read tested frames kind ls seq g from some before =
    pends_pends before (spell_element kind seq g hold) tt _ frames (grouped kind ls seq (element g hold)) _
    (λ start. hold_pends tested frames kind ls seq g start (after_group kind seq g from) some)

pub repeat_read :
    (tested : Bool) (frames : List Frame) (kind : Kind) (ls : Layers) (seq : Sequence) (g : Group) (from : ℕ) → HasElement g →
    GroupRead tested frames kind ls seq g from → ElementRead tested frames kind ls seq g repeat from
repeat_read tested frames kind ls seq g from some before = repeat_pends before some

pub empty_read :
    (tested : Bool) (frames : List Frame) (kind : Kind) (ls : Layers) (seq : Sequence) (from : ℕ) → GroupRead tested frames kind ls seq no_element from
empty_read tested frames kind ls seq from = pends_none tested frames (grouped kind ls seq no_element) 0 from

-- ---- sequences
-- where a further group begins
abbrev pub group_at : Kind → Sequence → ℕ → ℕ
group_at kind s from = after (after from (sequence_pieces kind s)) (dot_after s)

pub sequence_read :
    (tested : Bool) (frames : List Frame) (kind : Kind) (ls : Layers) (s : Sequence) (g : Group) (from : ℕ) →
    SequenceRead tested frames kind ls s from → GroupRead tested frames kind ls s g (group_at kind s from) →
    SequenceRead tested frames kind ls (group s g) from
sequence_read tested frames kind ls no_group g from before more = more
sequence_read tested frames kind ls (group s h) g from before more =
    pends_pends before (sign mark.Dot ∷ spell_group kind (group s h) g) tt _ frames (grouped kind ls (group s h) g) _
    (λ start. runs_pends (dot_runs tested frames kind ls s h start (after from (sequence_pieces kind (group s h)))) more)

pub no_group_read : (tested : Bool) (frames : List Frame) (kind : Kind) (ls : Layers) (from : ℕ) → SequenceRead tested frames kind ls no_group from
no_group_read tested frames kind ls from = pends_none tested frames (sequence_level kind ls no_group) 0 from

-- ---- layers
-- where a further layer begins
abbrev pub sequence_at : Kind → Layers → ℕ → ℕ
sequence_at kind ls from = after (after from (layers_pieces kind ls)) (comma_after ls)

-- the layers have no comma, or commas part layers here
abbrev pub Commas : List Frame → Layers → Type 0
Commas frames no_layer = Unit {0}
Commas frames (layer no_layer s) = Unit {0}
Commas frames (layer (layer ls t) s) = Parts frames

pub commas_before : (frames : List Frame) (ls : Layers) (s : Sequence) → Commas frames (layer ls s) → Commas frames ls
commas_before frames no_layer s h = tt
commas_before frames (layer no_layer t) s h = tt
commas_before frames (layer (layer ls u) t) s h = h

pub commas_single : (frames : List Frame) (ls : Layers) → IsSingle ls → Commas frames ls
commas_single frames no_layer h = tt
commas_single frames (layer no_layer s) h = tt
commas_single frames (layer (layer ls t) s) h = absurd h

pub commas_parts : (frames : List Frame) (ls : Layers) → Parts frames → Commas frames ls
commas_parts frames no_layer h = tt
commas_parts frames (layer no_layer s) h = tt
commas_parts frames (layer (layer ls t) s) h = h

pub filled_single : (ls : Layers) → IsSingle ls → IsFilled ls
filled_single no_layer h = absurd h
filled_single (layer ls s) h = tt

pub layers_read :
    (tested : Bool) (frames : List Frame) (kind : Kind) (ls : Layers) (s : Sequence) (from : ℕ) → Formed kind (length frames) ls →
    Commas frames (layer ls s) → LayersRead tested frames kind ls from → SequenceRead tested frames kind ls s (sequence_at kind ls from) →
    LayersRead tested frames kind (layer ls s) from
layers_read tested frames kind no_layer s from formed commas before more = more
layers_read tested frames kind (layer ls no_group) s from formed commas before more = absurd formed.1
layers_read tested frames kind (layer ls (group t g)) s from formed commas before more =
    pends_pends before (sign mark.Comma ∷ spell_sequence kind s) tt _ frames (sequence_level kind (layer ls (group t g)) s) _
    (λ start. runs_pends (comma_runs tested frames commas kind ls t g start (after from (layers_pieces kind (layer ls (group t g))))) more)

pub no_layer_read : (tested : Bool) (frames : List Frame) (kind : Kind) (from : ℕ) → LayersRead tested frames kind no_layer from
no_layer_read tested frames kind from = pends_none tested frames (layers_level kind no_layer) 0 from
