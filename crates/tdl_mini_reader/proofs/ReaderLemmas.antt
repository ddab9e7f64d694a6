-- What the reader's steps say of the machine's.
use Rattle.std.proofs.Common.{◌≡◌, ℕ, Bool, true, false, Option, Some, None, Result, Ok, Err, List, refl, ap, ap₂, sym, ◌∙◌, subst, arith, [], ◌∷◌, ◌++◌}
use Rattle.std.proofs.Common.{length, ◌+◌, suc, nat_le, nat_lt, IfErr, OnOk}
use Rattle.std.proofs.lemmas.Bool.{false≢true}
use Rattle.tdl_control.specs.declared.faults.Faulted.{Faulted}
use Rattle.tdl_control.specs.declared.faults.Faulted.TheVariants.{NoMemory, At}
use Rattle.tdl_mini_tree.specs.declared.faults.MiniKind.{MiniKind}
use Rattle.tdl_mini_tree.specs.declared.faults.MiniKind.TheVariants.{BadFactor, TooManySteps}
use Rattle.tdl_mini_tree.specs.Tree as tree
use Rattle.tdl_mini_tree.specs.Tree.{Element, element, played, MiniStep, is_empty_group}
use Rattle.tdl_mini_tree.specs.Sizes.{Size, size_of, size_with, steps_of, groups_of, is_within}
use Rattle.tdl_mini_machine.specs.Tokens.{Tok}
use Rattle.tdl_mini_machine.specs.Rules.{Test, number_tests, token_tests}
use Rattle.tdl_mini_machine.specs.Machine.States as machine
use Rattle.tdl_mini_machine.specs.Machine.Marks.{level_after_dot, continued, with_colon, with_range, with_percent, with_hold, with_repeat, with_dot}
use Rattle.tdl_mini_machine.specs.Machine.States.{State, Stage, Taken, and_then, pending, refused, all_checked, begun, first_level, begun_at, checked}
use Rattle.tdl_mini_machine.specs.Machine.States.{with_group}
use Rattle.tdl_mini_machine.specs.Machine.Settling.{added, grown, settled_at, settled, unfit, growth_test}
use Rattle.tdl_mini_machine.specs.Machine.Values.{valued, value_stage, uncounted, with_number, with_value, with_counting, counted_group, with_count}
use Rattle.tdl_mini_machine.specs.Machine.Brackets.{opened_at, with_arguments, with_open}
use Rattle.tdl_mini_machine.specs.Machine.Running.{at_end}
use Rattle.tdl_mini_reader.specs.inside.Calls.{fault_in, FailsAt, step_added, IsAdded, IsNotAdded}
use Rattle.tdl_mini_reader.specs.ReaderView.{Refusal, level_of, hole_of, state_of, frames_of, frame_of, stage_of, role_of}
use Rattle.tdl_mini_reader.specs.inside.PartView.{ends_step}
use Rattle.tdl_mini_tree.specs.View.{step_of, term_of, changed, element_of, group_of, sequence_of, braces_of}
use Rattle.tdl_mini_tree.specs.declared.leaves.Value.TheVariants as value
use Rattle.tdl_mini_tree.specs.declared.tree.Term.TheVariants as term
use Rattle.tdl_mini_machine.specs.WrongTokens.{wrong_token}
use Rattle.tdl_mini_tree.specs.declared.leaves.Number.{Number}
use Rattle.tdl_mini_tree.specs.declared.tree.MiniStep.{MiniStep as StepValue}
use Rattle.tdl_mini_reader.specs.declared.stages.Stage.{Stage as StageValue}
use Rattle.tdl_mini_reader.specs.declared.stages.Stage.TheVariants as stage
use Rattle.tdl_mini_reader.specs.declared.levels.Frame.{Frame}
use Rattle.tdl_mini_reader.specs.declared.reader.MiniTokenReader.{MiniTokenReader}
use Rattle.std.specs.List.{fold}
use Rattle.std.proofs.lemmas.List.Sums.{fold_push}
use Rattle.std.proofs.lemmas.Bool.Decides.{nat_tests}
use Rattle.std.specs.declared.vec.Vec.{Vec}
use Rattle.std.specs.declared.alloc.Global.{Global}
use Rattle.tdl_control.specs.declared.words.Word.{Word}
use Rattle.tdl_mini_tree.specs.declared.leaves.Kind.{Kind}
use Rattle.tdl_mini_tree.specs.declared.leaves.Kind.TheVariants.{Count, Ratio}
use Rattle.tdl_mini_tree.specs.declared.leaves.Bracket.{Bracket}
use Rattle.tdl_mini_tree.specs.declared.tree.Group.{Group as GroupValue}
use Rattle.tdl_mini_machine.specs.NumberForms.{is_sample, is_end}
use Rattle.tdl_mini_tree.specs.Numbers.{is_count}
use Rattle.tdl_mini_tree.specs.declared.tree.NestId.{NestId}
use Rattle.tdl_mini_reader.specs.declared.stages.Role.{Role as RoleValue}
use Rattle.tdl_mini_reader.specs.declared.levels.Level.{Level as LevelValue}
use Rattle.tdl_mini_tree.specs.declared.tree.Element.{Element as ElementValue}

pub on_ok : {A E : Type 0} {P Q : Type 0} (r : Result A E) → (P → Q) → OnOk r P → OnOk r Q
on_ok (Ok x) f h = f h
on_ok (Err e) f h = h

pub if_err : {A E : Type 0} {P Q : E → Type 0} (r : Result A E) → ((e : E) → P e → Q e) → IfErr r P → IfErr r Q
if_err (Ok x) f h = h
if_err (Err e) f h = f e h

-- ---- elements
pub added_ok : (s : State) (e : Element) (before : ℕ) (size : Size) → before ≡ steps_of s.level.groups → size ≡ size_of (element s.level.group e)
    → is_within before size ≡ true → added true s e ≡ Ok (grown s e)
added_ok s e before size b z h =
    let k : is_within (steps_of s.level.groups) (size_of (element s.level.group e)) ≡ true = ap₂ is_within (sym b) (sym z) ∙ h in
    rw k refl

some_same : {A : Type 0} (x y : A) → Some x ≡ Some y → x ≡ y
some_same {A = A} x y e = ap (λ o. here o) e
  where
    here : Option A → A
    here (Some z) = z
    here None = x

none_some : {A : Type 0} (x : A) {B : Type 0} → None ≡ Some x → B
none_some {A = A} x e = absurd (false≢true (ap here e))
  where
    here : Option A → Bool
    here (Some z) = true
    here None = false

pub settled_pending : (s : State) (t : Tok) (p : Stage) (step : MiniStep) → pending p ≡ Some step → settled_at true s t p ≡ added true s (played step None None)
settled_pending s t machine.ready step e = none_some step e
settled_pending s t (machine.voiced text) step e = ap (λ x. added true s (played x None None)) (some_same _ _ e)
settled_pending s t (machine.sampling text) step e = none_some step e
settled_pending s t (machine.numbered n) step e = ap (λ x. added true s (played x None None)) (some_same _ _ e)
settled_pending s t (machine.ranging a) step e = none_some step e
settled_pending s t (machine.braced role bs ls) step e = ap (λ x. added true s (played x None None)) (some_same _ _ e)
settled_pending s t (machine.wanting role bs) step e = none_some step e
settled_pending s t (machine.stepping x) step e = ap (λ x. added true s (played x None None)) (some_same _ _ e)
settled_pending s t (machine.weighing x) step e = none_some step e
settled_pending s t (machine.weighted x n) step e = none_some step e
settled_pending s t (machine.repeating b) step e = none_some step e
settled_pending s t machine.ended step e = none_some step e

-- ---- refusals
length_frames : (trees : List tree.Layers) (frames : List Frame) (inner : List machine.Frame)
    → length (fold (λ fs f. frame_of trees f ∷ fs) inner frames) ≡ length frames + length inner
length_frames trees [] inner = omega arith
length_frames trees (f ∷ frames) inner = let h = length_frames trees frames (frame_of trees f ∷ inner) in omega (arith, h)

pub length_of_frames : (trees : List tree.Layers) (frames : List Frame) → length (frames_of trees frames) ≡ length frames
length_of_frames trees frames = let h = length_frames trees frames [] in omega (arith, h)

pub refused_is : (trees : List tree.Layers) (r : MiniTokenReader) (p : StageValue) (t : Tok) (fault : Faulted MiniKind)
    → fault ≡ At (wrong_token (length r.frames.items) t) r.read → Refusal (refused (state_of trees r p) t) fault
refused_is trees r p t fault e = rw e (ap (λ n. Some (At (wrong_token n t) r.read)) (length_of_frames trees r.frames.items))

pub refusal_by : (a b : Taken) (fault : Faulted MiniKind) → a ≡ b → Refusal b fault → Refusal a fault
refusal_by a b fault e h = rw e h

pub refusal_then : (a : Taken) (next : State → Taken) (fault : Faulted MiniKind) → Refusal a fault → Refusal (and_then a next) fault
refusal_then a next NoMemory h = tt
refusal_then (Ok s) next (At kind at) h = none_some _ h
refusal_then (Err f) next (At kind at) h = h

pub then_refusal : (a : Taken) (s : State) (next : State → Taken) (fault : Faulted MiniKind) → a ≡ Ok s → Refusal (next s) fault
    → Refusal (and_then a next) fault
then_refusal a s next fault e h = rw e h

-- ---- settling
pub settled_weighted : (trees : List tree.Layers) (r : MiniTokenReader) (p : StageValue) (t : Tok) (step : StepValue) (n : Number) → p ≡ stage.Weighted step n
    → settled true (state_of trees r p) t ≡ added true (state_of trees r p) (played (step_of trees step) (Some n) None)
settled_weighted trees r p t step n e = rw e refl

pub settled_repeating : (trees : List tree.Layers) (r : MiniTokenReader) (p : StageValue) (t : Tok) (b : Bool) → p ≡ stage.Repeating b
    → settled true (state_of trees r p) t ≡ added true (state_of trees r p) tree.repeat
settled_repeating trees r p t b e = rw e refl

pub settled_step : (trees : List tree.Layers) (r : MiniTokenReader) (p : StageValue) (t : Tok) (step : StepValue)
    → pending (stage_of trees p) ≡ Some (step_of trees step) → settled true (state_of trees r p) t ≡ added true (state_of trees r p)
    (played (step_of trees step) None None)
settled_step trees r p t step e = settled_pending (state_of trees r p) t (stage_of trees p) (step_of trees step) e

-- the step that begins with a word, or with a number
pub begun_voiced : (p : StageValue) (word : Word) (step : StepValue) → p ≡ stage.Voiced word → step.term ≡ term.Value (value.Sound word None)
    → step.changes.items ≡ [] → (trees : List tree.Layers) → pending (stage_of trees p) ≡ Some (step_of trees step)
begun_voiced p word step e first none trees =
    rw e (ap₂ (λ x changes. Some (fold (changed trees) (tree.begins (term_of trees x)) changes)) (sym first) (sym none))

pub begun_numbered : (p : StageValue) (n : Number) (step : StepValue) → p ≡ stage.Numbered n → step.term ≡ term.Value (value.Number n)
    → step.changes.items ≡ [] → (trees : List tree.Layers) → pending (stage_of trees p) ≡ Some (step_of trees step)
begun_numbered p n step e first none trees =
    rw e (ap₂ (λ x changes. Some (fold (changed trees) (tree.begins (term_of trees x)) changes)) (sym first) (sym none))

pub step_ends : (r new : MiniTokenReader) (p : StageValue) (t : Tok) (step : StepValue) (result : Result (Unit {0}) (Faulted MiniKind))
    → ((trees : List tree.Layers) → pending (stage_of trees p) ≡ Some (step_of trees step))
    → OnOk result (IsAdded (step_added r step None) new)
    → OnOk result ((trees : List tree.Layers) → settled true (state_of trees r p) t ≡ Ok (state_of trees new stage.Ready))
step_ends r new p t step result is h = on_ok result (λ added trees. settled_step trees r p t step (is trees) ∙ added trees p) h

pub step_fails : (r : MiniTokenReader) (p : StageValue) (t : Tok) (step : StepValue) (result : Result (Unit {0}) (Faulted MiniKind))
    → ((trees : List tree.Layers) → pending (stage_of trees p) ≡ Some (step_of trees step))
    → IfErr result (IsNotAdded (step_added r step None))
    → IfErr result (λ fault. (trees : List tree.Layers) → Refusal (settled true (state_of trees r p) t) fault)
step_fails r p t step result is h = if_err result (λ fault no trees. refusal_by _ _ fault (settled_step trees r p t step (is trees)) (no trees p)) h

pub settled_other : (trees : List tree.Layers) (r : MiniTokenReader) (p : StageValue) (t : Tok) → (p ≡ stage.Ready → ⊥)
    → ((x : StepValue) (n : Number) → p ≡ stage.Weighted x n → ⊥) → ((b : Bool) → p ≡ stage.Repeating b → ⊥) → ((word : Word) → p ≡ stage.Voiced word → ⊥)
    → ((n : Number) → p ≡ stage.Numbered n → ⊥) → ((x : StepValue) → p ≡ stage.Stepping x → ⊥)
    → ((role : RoleValue) (braces : Vec NestId Global) (last : NestId) → p ≡ stage.Braced role braces last → ⊥)
    → settled true (state_of trees r p) t ≡ refused (state_of trees r p) t
settled_other trees r stage.Ready t a b c d e f g = absurd (a refl)
settled_other trees r (stage.Voiced word) t a b c d e f g = absurd (d word refl)
settled_other trees r (stage.Sampling word) t a b c d e f g = refl
settled_other trees r (stage.Numbered n) t a b c d e f g = absurd (e n refl)
settled_other trees r (stage.Ranging n) t a b c d e f g = refl
settled_other trees r (stage.Braced role braces last) t a b c d e f g = absurd (g role braces last refl)
settled_other trees r (stage.Wanting role braces) t a b c d e f g = refl
settled_other trees r (stage.Stepping step) t a b c d e f g = absurd (f step refl)
settled_other trees r (stage.Weighing step) t a b c d e f g = refl
settled_other trees r (stage.Weighted step n) t a b c d e f g = absurd (b step n refl)
settled_other trees r (stage.Repeating x) t a b c d e f g = absurd (c x refl)
settled_other trees r stage.Ended t a b c d e f g = refl

-- ---- values
pub valued_none : (s : State) (t : Tok) (o : Option tree.Value) (fault : Faulted MiniKind) → None ≡ o → Refusal (refused s t) fault
    → Refusal (valued true s t o) fault
valued_none s t o fault e h = subst (λ v. Refusal (valued true s t v) fault) e h

checked_one : (test : Test) (tests : List Test) (next : Taken) → ((fault_in tests ≡ None) → all_checked true tests next ≡ next)
    → fault_in (test ∷ tests) ≡ None → all_checked true (test ∷ tests) next ≡ next
checked_one test tests next more h = here test.holds refl
  where
    here : (b : Bool) → test.holds ≡ b → all_checked true (test ∷ tests) next ≡ next
    here true e = rw e (more (rw e at h))
    here false e = none_some test.kind (sym (rw e at h))

pub checked_all : (tests : List Test) (next : Taken) → fault_in tests ≡ None → all_checked true tests next ≡ next
checked_all [] next h = refl
checked_all (test ∷ tests) next h = checked_one test tests next (checked_all tests next) h

pub valued_ok : (s : State) (t : Tok) (o : Option tree.Value) (v : tree.Value) (p : Stage) → Some v ≡ o
    → fault_in (token_tests s.level.kind s.read v) ≡ None → p ≡ value_stage s.level.kind v → valued true s t o ≡ Ok (begun s p)
valued_ok s t o v p e h k = subst (λ w. valued true s t w ≡ Ok (begun s p)) e
    (checked_all (token_tests s.level.kind s.read v) _ h ∙ ap (λ q. Ok (begun s q)) (sym k))

-- ---- brackets
below_of : (n : ℕ) → nat_le 16 n ≡ false → nat_lt n 16 ≡ true
below_of n h = grind (arith, nat_tests)

full_of : (n : ℕ) → nat_le 16 n ≡ true → nat_lt n 16 ≡ false
full_of n h = grind (arith, nat_tests)

pub opened_full : (s : State) (t : Tok) (l : machine.Level) (h : machine.Hole) (k : Kind) (n : ℕ) → length s.frames ≡ n → true ≡ nat_le 16 n
    → opened_at s t l h k ≡ refused s t
opened_full s t l h k n e full = rw (ap (λ m. nat_lt m 16) e ∙ full_of n (sym full)) refl

pub opened_ok : (s : State) (t : Tok) (l : machine.Level) (h : machine.Hole) (k : Kind) (n : ℕ) → length s.frames ≡ n → false ≡ nat_le 16 n
    → opened_at s t l h k ≡ Ok
    (record { frames = record { level = l; hole = h } ∷ s.frames; level = first_level k; stage = machine.ready; read = suc s.read })
opened_ok s t l h k n e free = rw (ap (λ m. nat_lt m 16) e ∙ below_of n (sym free)) refl

pub frames_more : (trees : List tree.Layers) (frames : List Frame) (f : Frame) → frames_of trees (frames ++ f ∷ []) ≡ frame_of trees f ∷ frames_of trees frames
frames_more trees frames f = fold_push (λ fs x. frame_of trees x ∷ fs) [] frames f

abbrev pub opened_after : List machine.Frame → machine.Level → ℕ → State
opened_after frames level at = record { frames = frames; level = level; stage = machine.ready; read = suc at }

abbrev pub frame : machine.Level → machine.Hole → machine.Frame
frame l h = record { level = l; hole = h }

pub opened_state : (trees : List tree.Layers) (r : MiniTokenReader) (f : Frame) (frames : List Frame) (level : LevelValue) (k : Kind)
    → frames ≡ r.frames.items ++ f ∷ [] → level_of trees f.level ≡ level_of trees r.level → level_of trees level ≡ first_level k
    → ◌≡◌ {A = Taken} (Ok (opened_after (frame (level_of trees r.level) (hole_of trees f.hole) ∷ frames_of trees r.frames.items) (first_level k) r.read))
    (Ok (opened_after (frames_of trees frames) (level_of trees level) r.read))
opened_state trees r f frames level k e same new =
    let more : frames_of trees frames ≡ frame (level_of trees r.level) (hole_of trees f.hole) ∷ frames_of trees r.frames.items =
    ap (frames_of trees) e ∙ frames_more trees r.frames.items f ∙ ap (λ l. frame l (hole_of trees f.hole) ∷ frames_of trees r.frames.items) same in
    ap₂ (λ fs l. Ok (opened_after fs l r.read)) (sym more) (sym new)

-- ---- marks after a step
pub continued_none : (s : State) (t : Tok) (o : Option MiniStep) (next : MiniStep → Taken) (fault : Faulted MiniKind) → o ≡ None
    → Refusal (unfit true s t) fault
    → Refusal (continued true s t o next) fault
continued_none s t o next fault e h = rw e h

pub arguments_full : (s : State) (t : Tok) (o : Option MiniStep) (n : ℕ) → length s.frames ≡ n → true ≡ nat_le 16 n
    → continued true s t o (with_arguments true s t) ≡ unfit true s t
arguments_full s t None n e full = refl
arguments_full s t (Some step) n e full = rw (ap (λ m. nat_lt m 16) e ∙ full_of n (sym full)) refl

pub arguments_ok : (s : State) (t : Tok) (o : Option MiniStep) (step : MiniStep) (n : ℕ) → o ≡ Some step → length s.frames ≡ n → false ≡ nat_le 16 n
    → continued true s t o (with_arguments true s t) ≡ opened_at s t s.level (machine.hits step) Count
arguments_ok s t o step n some e free = rw some (rw (ap (λ m. nat_lt m 16) e ∙ below_of n (sym free)) refl)

pub colon_other : (trees : List tree.Layers) (s : State) (t : Tok) (p : StageValue) → ((word : Word) → p ≡ stage.Voiced word → ⊥)
    → with_colon true s t (stage_of trees p) ≡ unfit true s t
colon_other trees s t stage.Ready never = refl
colon_other trees s t (stage.Voiced word) never = absurd (never word refl)
colon_other trees s t (stage.Sampling word) never = refl
colon_other trees s t (stage.Numbered n) never = refl
colon_other trees s t (stage.Ranging n) never = refl
colon_other trees s t (stage.Braced role braces last) never = refl
colon_other trees s t (stage.Wanting role braces) never = refl
colon_other trees s t (stage.Stepping step) never = refl
colon_other trees s t (stage.Weighing step) never = refl
colon_other trees s t (stage.Weighted step n) never = refl
colon_other trees s t (stage.Repeating b) never = refl
colon_other trees s t stage.Ended never = refl

pub range_other : (trees : List tree.Layers) (s : State) (t : Tok) (p : StageValue) → ((n : Number) → p ≡ stage.Numbered n → ⊥)
    → with_range true s t (stage_of trees p) ≡ unfit true s t
range_other trees s t stage.Ready never = refl
range_other trees s t (stage.Voiced word) never = refl
range_other trees s t (stage.Sampling word) never = refl
range_other trees s t (stage.Numbered n) never = absurd (never n refl)
range_other trees s t (stage.Ranging n) never = refl
range_other trees s t (stage.Braced role braces last) never = refl
range_other trees s t (stage.Wanting role braces) never = refl
range_other trees s t (stage.Stepping step) never = refl
range_other trees s t (stage.Weighing step) never = refl
range_other trees s t (stage.Weighted step n) never = refl
range_other trees s t (stage.Repeating b) never = refl
range_other trees s t stage.Ended never = refl

pub percent_other : (trees : List tree.Layers) (s : State) (t : Tok) (p : StageValue)
    → ((role : RoleValue) (braces : Vec NestId Global) (last : NestId) → p ≡ stage.Braced role braces last → ⊥)
    → with_percent true s t (stage_of trees p) ≡ unfit true s t
percent_other trees s t stage.Ready never = refl
percent_other trees s t (stage.Voiced word) never = refl
percent_other trees s t (stage.Sampling word) never = refl
percent_other trees s t (stage.Numbered n) never = refl
percent_other trees s t (stage.Ranging n) never = refl
percent_other trees s t (stage.Braced role braces last) never = absurd (never role braces last refl)
percent_other trees s t (stage.Wanting role braces) never = refl
percent_other trees s t (stage.Stepping step) never = refl
percent_other trees s t (stage.Weighing step) never = refl
percent_other trees s t (stage.Weighted step n) never = refl
percent_other trees s t (stage.Repeating b) never = refl
percent_other trees s t stage.Ended never = refl

-- ---- elements that are one token
filled_group : (trees : List tree.Layers) (es : List ElementValue) (g : tree.Group) (e : Element)
    → is_empty_group (fold (λ h x. element h (element_of trees x)) (element g e) es) ≡ false
filled_group trees [] g e = refl
filled_group trees (x ∷ es) g e = filled_group trees es (element g e) (element_of trees x)

pub group_none : (trees : List tree.Layers) (es : List ElementValue) → false ≡ nat_lt 0 (length es) → is_empty_group (group_of trees es) ≡ true
group_none trees [] h = refl
group_none trees (e ∷ es) h = absurd (false≢true (h ∙ first_below (length es)))
  where
    first_below : (n : ℕ) → nat_lt 0 (suc n) ≡ true
    first_below n = grind (arith, nat_tests)

pub group_some : (trees : List tree.Layers) (es : List ElementValue) → true ≡ nat_lt 0 (length es) → is_empty_group (group_of trees es) ≡ false
group_some trees [] h = absurd (false≢true (sym h))
group_some trees (e ∷ es) h = filled_group trees es tree.no_element (element_of trees e)

pub hold_none : (s : State) (t : Tok) → is_empty_group s.level.group ≡ true → with_hold true s t ≡ refused s t
hold_none s t h = rw h refl

abbrev pub next_state : State → State
next_state s = record { frames = s.frames; level = s.level; stage = s.stage; read = suc s.read }

pub hold_ok : (s : State) (t : Tok) (before : ℕ) (size : Size) → is_empty_group s.level.group ≡ false → before ≡ steps_of s.level.groups
    → size ≡ size_of (element s.level.group tree.hold) → is_within before size ≡ true → with_hold true s t ≡ Ok (next_state (grown s tree.hold))
hold_ok s t before size some b z h =
    let k : is_within (steps_of s.level.groups) (size_of (element s.level.group tree.hold)) ≡ true = ap₂ is_within (sym b) (sym z) ∙ h in
    rw some (rw k refl)

pub hold_fails : (s : State) (t : Tok) (before : ℕ) (size : Size) (fault : Faulted MiniKind) → is_empty_group s.level.group ≡ false
    → before ≡ steps_of s.level.groups → size ≡ size_of (element s.level.group tree.hold) → FailsAt TooManySteps s.read (is_within before size) fault
    → Refusal (with_hold true s t) fault
hold_fails s t before size NoMemory some b z h = tt
hold_fails s t before size (At kind at) some b z h =
    let k : is_within (steps_of s.level.groups) (size_of (element s.level.group tree.hold)) ≡ false = ap₂ is_within (sym b) (sym z) ∙ h.2 in
    rw some (rw k (ap₂ (λ x y. Some (At x y)) (sym h.0) (sym h.1)))

-- ---- the end
pub end_open : (s : State) (t : Tok) (frames : List machine.Frame) (n : ℕ) → length frames ≡ n → true ≡ nat_lt 0 n → at_end s t frames ≡ refused s t
end_open s t [] n e h = absurd (false≢true (sym (h ∙ ap (λ m. nat_lt 0 m) (sym e))))
end_open s t (f ∷ frames) n e h = refl

-- ---- `!`
pub ends_same : (trees : List tree.Layers) (p : StageValue) → machine.ends_step (stage_of trees p) ≡ ends_step p
ends_same trees stage.Ready = refl
ends_same trees (stage.Voiced word) = refl
ends_same trees (stage.Sampling word) = refl
ends_same trees (stage.Numbered n) = refl
ends_same trees (stage.Ranging n) = refl
ends_same trees (stage.Braced role braces last) = refl
ends_same trees (stage.Wanting role braces) = refl
ends_same trees (stage.Stepping step) = refl
ends_same trees (stage.Weighing step) = refl
ends_same trees (stage.Weighted step n) = refl
ends_same trees (stage.Repeating b) = refl
ends_same trees stage.Ended = refl

pub repeat_none : (s : State) (t : Tok) (b : Bool) → is_empty_group s.level.group ≡ true → with_repeat s t b ≡ refused s t
repeat_none s t b h = rw h refl

-- between elements, after some
pub repeat_some : (s : State) (t : Tok) (a b : Bool) → is_empty_group s.level.group ≡ false → a ≡ b → with_repeat s t a ≡ Ok (begun s (machine.repeating b))
repeat_some s t a b h e = rw (h, e) refl

-- ---- dots
groups_from : (trees : List tree.Layers) (gs : List GroupValue) (q : tree.Sequence)
    → groups_of (fold (λ x g. tree.group x (group_of trees g.elements.items)) q gs) ≡ length gs + groups_of q
groups_from trees [] q = omega arith
groups_from trees (g ∷ gs) q = let h = groups_from trees gs (tree.group q (group_of trees g.elements.items)) in omega (arith, h)

dot_test : (trees : List tree.Layers) (gs : List GroupValue) → nat_le (suc (suc (groups_of (sequence_of trees gs)))) 1024 ≡ nat_le (length gs + 2) 1024
dot_test trees gs = let h = groups_from trees gs tree.no_group in let e : suc (suc (groups_of (sequence_of trees gs))) ≡ length gs + 2 =
    omega (arith, h) in ap (λ n. nat_le n 1024) e

pub dot_ok : (trees : List tree.Layers) (r : MiniTokenReader) (level : LevelValue) → nat_le (length r.level.groups.items + 2) 1024 ≡ true
    → level_of trees level ≡ level_after_dot (level_of trees r.level)
    → with_dot true (state_of trees r stage.Ready) ≡ Ok (opened_after (frames_of trees r.frames.items) (level_of trees level) r.read)
dot_ok trees r level h e = rw (dot_test trees r.level.groups.items ∙ h) (ap (λ l. Ok (opened_after (frames_of trees r.frames.items) l r.read)) (sym e))

pub dot_fails : (trees : List tree.Layers) (r : MiniTokenReader) (fault : Faulted MiniKind) → nat_le (length r.level.groups.items + 2) 1024 ≡ false
    → fault ≡ At TooManySteps r.read → Refusal (with_dot true (state_of trees r stage.Ready)) fault
dot_fails trees r fault h e = rw e (rw (dot_test trees r.level.groups.items ∙ h) refl)

-- ---- brackets
pub open_wanting : (trees : List tree.Layers) (s : State) (t : Tok) (b : Bracket) (p : StageValue) (role : RoleValue) (braces : Vec NestId Global)
    → p ≡ stage.Wanting role braces → with_open true s t b (stage_of trees p) ≡ opened_at s t s.level
    (machine.operand (role_of trees role) (braces_of trees braces.items) b) Ratio
open_wanting trees s t b p role braces e = rw e refl

pub open_other : (trees : List tree.Layers) (s : State) (t : Tok) (b : Bracket) (p : StageValue)
    → ((role : RoleValue) (braces : Vec NestId Global) → p ≡ stage.Wanting role braces → ⊥)
    → with_open true s t b (stage_of trees p) ≡ and_then (settled true s t)
    (λ f. opened_at f t (begun_at f.level f.read) (machine.operand machine.term tree.no_brace b) f.level.kind)
open_other trees s t b stage.Ready never = refl
open_other trees s t b (stage.Voiced word) never = refl
open_other trees s t b (stage.Sampling word) never = refl
open_other trees s t b (stage.Numbered n) never = refl
open_other trees s t b (stage.Ranging n) never = refl
open_other trees s t b (stage.Braced role braces last) never = refl
open_other trees s t b (stage.Wanting role braces) never = absurd (never role braces refl)
open_other trees s t b (stage.Stepping step) never = refl
open_other trees s t b (stage.Weighing step) never = refl
open_other trees s t b (stage.Weighted step n) never = refl
open_other trees s t b (stage.Repeating x) never = refl
open_other trees s t b stage.Ended never = refl

-- ---- numbers
pub number_other : (trees : List tree.Layers) (s : State) (t : Tok) (n : Number) (p : StageValue) → ((word : Word) → p ≡ stage.Sampling word → ⊥)
    → ((a : Number) → p ≡ stage.Ranging a → ⊥) → ((role : RoleValue) (braces : Vec NestId Global) → p ≡ stage.Wanting role braces → ⊥)
    → ((step : StepValue) → p ≡ stage.Weighing step → ⊥) → with_number true s t n (stage_of trees p) ≡ with_value true s t
number_other trees s t n stage.Ready a b c d = refl
number_other trees s t n (stage.Voiced word) a b c d = refl
number_other trees s t n (stage.Sampling word) a b c d = absurd (a word refl)
number_other trees s t n (stage.Numbered m) a b c d = refl
number_other trees s t n (stage.Ranging m) a b c d = absurd (b m refl)
number_other trees s t n (stage.Braced role braces last) a b c d = refl
number_other trees s t n (stage.Wanting role braces) a b c d = absurd (c role braces refl)
number_other trees s t n (stage.Stepping step) a b c d = refl
number_other trees s t n (stage.Weighing step) a b c d = absurd (d step refl)
number_other trees s t n (stage.Weighted step m) a b c d = refl
number_other trees s t n (stage.Repeating x) a b c d = refl
number_other trees s t n stage.Ended a b c d = refl

pub sample_refused : (trees : List tree.Layers) (s : State) (t : Tok) (n : Number) (p : StageValue) (word : Word) → p ≡ stage.Sampling word
    → false ≡ is_sample n → with_number true s t n (stage_of trees p) ≡ refused s t
sample_refused trees s t n p word e h = rw e (rw (sym h) refl)

pub range_refused : (trees : List tree.Layers) (s : State) (t : Tok) (n : Number) (p : StageValue) (a : Number) → p ≡ stage.Ranging a
    → false ≡ is_end s.level.kind n → with_number true s t n (stage_of trees p) ≡ refused s t
range_refused trees s t n p a e h = rw e (rw (sym h) refl)

-- ---- ranges
pub within_any : (l : LevelValue) (trees : List tree.Layers) (e : Element)
    → is_within l.before (size_of (element (group_of [] l.elements.items) e)) ≡ is_within (steps_of (sequence_of trees l.groups.items))
    (size_of (element (group_of trees l.elements.items) e))
within_any l trees e = ap₂ is_within (l.steps trees) (ap (λ z. size_with z e) (sym (l.sizes []) ∙ l.sizes trees))

pub range_ok : (trees : List tree.Layers) (s : State) (t : Tok) (n : Number) (p : StageValue) (a : Number) → p ≡ stage.Ranging a
    → true ≡ is_end s.level.kind n → fault_in (number_tests s.level.kind s.read n) ≡ None
    → is_within (steps_of s.level.groups) (size_of (element s.level.group (tree.range a n))) ≡ true
    → with_number true s t n (stage_of trees p) ≡ Ok (next_state (grown s (tree.range a n)))
range_ok trees s t n p a e h none within = rw e (rw (sym h) (checked_all (number_tests s.level.kind s.read n) _ none ∙ rw within refl))

range_test : (s : State) (e : Element) (next : Taken) (fault : Faulted MiniKind) (ends : ℕ)
    → FailsAt TooManySteps s.level.start (is_within (steps_of s.level.groups) (size_of (element s.level.group e))) fault
    → Refusal (checked true (growth_test s e ends) next) fault
range_test s e next NoMemory ends h = tt
range_test s e next (At kind at) ends h = rw h.2 (ap₂ (λ x y. Some (At x y)) (sym h.0) (sym h.1))

pub range_fails : (trees : List tree.Layers) (s : State) (t : Tok) (n : Number) (p : StageValue) (a : Number) (fault : Faulted MiniKind)
    → p ≡ stage.Ranging a → true ≡ is_end s.level.kind n → fault_in (number_tests s.level.kind s.read n) ≡ None
    → FailsAt TooManySteps s.level.start (is_within (steps_of s.level.groups) (size_of (element s.level.group (tree.range a n)))) fault
    → Refusal (with_number true s t n (stage_of trees p)) fault
range_fails trees s t n p a fault e h none fails =
    rw e (rw (sym h) (refusal_by _ _ fault (checked_all (number_tests s.level.kind s.read n) _ none) (range_test s (tree.range a n) _ fault _ fails)))

-- ---- counts
pub uncounted_repeating : (trees : List tree.Layers) (s : State) (t : Tok) (p : StageValue) (b : Bool) → p ≡ stage.Repeating b
    → uncounted true s t (stage_of trees p) ≡ refused s t
uncounted_repeating trees s t p b e = rw e refl

pub uncounted_other : (trees : List tree.Layers) (s : State) (t : Tok) (p : StageValue) → ((b : Bool) → p ≡ stage.Repeating b → ⊥)
    → uncounted true s t (stage_of trees p) ≡ unfit true s t
uncounted_other trees s t stage.Ready never = refl
uncounted_other trees s t (stage.Voiced word) never = refl
uncounted_other trees s t (stage.Sampling word) never = refl
uncounted_other trees s t (stage.Numbered m) never = refl
uncounted_other trees s t (stage.Ranging m) never = refl
uncounted_other trees s t (stage.Braced role braces last) never = refl
uncounted_other trees s t (stage.Wanting role braces) never = refl
uncounted_other trees s t (stage.Stepping step) never = refl
uncounted_other trees s t (stage.Weighing step) never = refl
uncounted_other trees s t (stage.Weighted step m) never = refl
uncounted_other trees s t (stage.Repeating b) never = absurd (never b refl)
uncounted_other trees s t stage.Ended never = refl

pub counting_other : (trees : List tree.Layers) (s : State) (t : Tok) (n : Number) (p : StageValue) → ((b : Bool) → p ≡ stage.Repeating b → ⊥)
    → with_counting true s t n (stage_of trees p) ≡ unfit true s t
counting_other trees s t n stage.Ready never = refl
counting_other trees s t n (stage.Voiced word) never = refl
counting_other trees s t n (stage.Sampling word) never = refl
counting_other trees s t n (stage.Numbered m) never = refl
counting_other trees s t n (stage.Ranging m) never = refl
counting_other trees s t n (stage.Braced role braces last) never = refl
counting_other trees s t n (stage.Wanting role braces) never = refl
counting_other trees s t n (stage.Stepping step) never = refl
counting_other trees s t n (stage.Weighing step) never = refl
counting_other trees s t n (stage.Weighted step m) never = refl
counting_other trees s t n (stage.Repeating b) never = absurd (never b refl)
counting_other trees s t n stage.Ended never = refl

pub counting_none : (trees : List tree.Layers) (s : State) (t : Tok) (n : Number) (p : StageValue) (b : Bool) → p ≡ stage.Repeating b → b ≡ false
    → with_counting true s t n (stage_of trees p) ≡ refused s t
counting_none trees s t n p b e none = rw (e, none) refl

pub counted_fails : (s : State) (g : tree.Group) (before : ℕ) (size : Size) (fault : Faulted MiniKind) → before ≡ steps_of s.level.groups → size ≡ size_of g
    → is_within before size ≡ false → fault ≡ At TooManySteps s.level.start → Refusal (counted_group true s g) fault
counted_fails s g before size fault b z h e =
    let k : is_within (steps_of s.level.groups) (size_of g) ≡ false = ap₂ is_within (sym b) (sym z) ∙ h in
    rw e (rw k refl)

pub counted_ok : (s : State) (g : tree.Group) (before : ℕ) (size : Size) → before ≡ steps_of s.level.groups → size ≡ size_of g
    → is_within before size ≡ true → counted_group true s g ≡ Ok (opened_after s.frames (with_group s.level g) s.read)
counted_ok s g before size b z h =
    let k : is_within (steps_of s.level.groups) (size_of g) ≡ true = ap₂ is_within (sym b) (sym z) ∙ h in
    rw k refl

pub counting_is : (trees : List tree.Layers) (r : MiniTokenReader) (t : Tok) (n : Number) (p : StageValue) (b : Bool) → p ≡ stage.Repeating b → b ≡ true
    → is_count n ≡ true → with_counting true (state_of trees r p) t n (stage_of trees p) ≡ counted_group true (state_of trees r (stage.Repeating true))
    (with_count (group_of trees r.level.elements.items) n)
counting_is trees r t n p b e takes h = rw (e, takes) (rw h refl)

pub counting_fails : (trees : List tree.Layers) (r : MiniTokenReader) (t : Tok) (n : Number) (p : StageValue) (b : Bool) (fault : Faulted MiniKind)
    → p ≡ stage.Repeating b → b ≡ true → is_count n ≡ false → fault ≡ At BadFactor r.read
    → Refusal (with_counting true (state_of trees r p) t n (stage_of trees p)) fault
counting_fails trees r t n p b fault e takes h is = rw (e, takes) (rw (h, is) refl)
