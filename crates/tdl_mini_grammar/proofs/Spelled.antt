-- What a state of the machine has read.
--     spelled          the terminals of a state: of the open brackets, outermost first, of the innermost
--                      bracket's level, and of the stage in a step
--     Fit              what is finished in a state is formed as the grammar wants it
use Rattle.std.proofs.Common.{◌≡◌, ℕ, suc, ◌<◌, true, false, Some, None, List, [], ◌∷◌, ◌++◌, length, IsTrue}
use Rattle.tdl_mini_tree.specs.declared.leaves.Bracket.TheVariants.{Brace}
use Rattle.tdl_mini_tree.specs.declared.leaves.Kind.{Kind}
use Rattle.tdl_mini_tree.specs.declared.leaves.Kind.TheVariants.{Count, Ratio}
use Rattle.tdl_mini_machine.specs.declared.marks.Mark.TheVariants as mark
use Rattle.tdl_mini_grammar.specs.Spelling.{Terminal, sign, value, numeral, end}
use Rattle.tdl_mini_grammar.proofs.Terminals.{spell_comma, spell_dot, spell_layers, spell_sequence, spell_group, spell_step, spell_braces}
use Rattle.tdl_mini_tree.specs.Tree.{kind_after}
use Rattle.tdl_mini_machine.specs.NumberForms.{is_end}
use Rattle.tdl_mini_grammar.specs.Grammar.{IsFilled, IsSingle, HasElement, HasBrace, Formed, FormedSequence, FormedGroup, FormedStep, FormedBraces}
use Rattle.tdl_mini_tree.specs.Tree as tree
use Rattle.tdl_mini_machine.specs.Machine.States.{Role, term, faster, slower, Stage, ready, voiced, sampling, numbered, ranging, braced, wanting, stepping}
use Rattle.tdl_mini_machine.specs.Machine.States.{weighing, weighted, repeating, ended, Level, Hole, operand, hits, steps, from, Frame, State}

-- ---- terminals
abbrev pub spell_role : Kind → Role → List Terminal
spell_role kind term = []
spell_role kind (faster s) = spell_step kind s ++ sign mark.Star ∷ []
spell_role kind (slower s) = spell_step kind s ++ sign mark.Slash ∷ []

-- the kind that an operand is read in
abbrev pub role_kind : Kind → Role → Kind
role_kind kind term = kind
role_kind kind (faster s) = Ratio
role_kind kind (slower s) = Ratio

abbrev pub spell_level : Level → List Terminal
spell_level l =
    spell_layers l.kind l.layers ++ (spell_comma l.layers ++ (spell_sequence l.kind l.groups ++ (spell_dot l.groups ++ spell_group l.kind l.groups l.group)))

abbrev pub spell_at : Level → Stage → List Terminal
spell_at l ready = spell_level l
spell_at l (voiced text) = spell_level l ++ value l.kind (tree.sound text None) ∷ []
spell_at l (sampling text) = spell_level l ++ value l.kind (tree.sound text None) ∷ sign mark.Colon ∷ []
spell_at l (numbered n) = spell_level l ++ value l.kind (tree.number n) ∷ []
spell_at l (ranging n) = spell_level l ++ value l.kind (tree.number n) ∷ sign mark.Range ∷ []
spell_at l (braced role bs ls) =
    spell_level l ++ (spell_role l.kind role ++
    (spell_braces (role_kind l.kind role) bs ++ sign (mark.Open Brace) ∷
    (spell_layers (kind_after (role_kind l.kind role) bs) ls ++ sign (mark.Close Brace) ∷ [])))
spell_at l (wanting role bs) = spell_level l ++ (spell_role l.kind role ++ spell_braces (role_kind l.kind role) bs)
spell_at l (stepping s) = spell_level l ++ spell_step l.kind s
spell_at l (weighing s) = spell_level l ++ (spell_step l.kind s ++ sign mark.At ∷ [])
spell_at l (weighted s n) = spell_level l ++ (spell_step l.kind s ++ sign mark.At ∷ numeral n ∷ [])
spell_at l (repeating b) = spell_level l ++ sign mark.Repeat ∷ []
spell_at l ended = spell_layers l.kind l.layers ++ end ∷ []

abbrev pub spell_hole : Kind → Hole → List Terminal
spell_hole kind (operand role bs b) = spell_role kind role ++ (spell_braces (role_kind kind role) bs ++ sign (mark.Open b) ∷ [])
spell_hole kind (hits s) = spell_step kind s ++ sign mark.OpenRound ∷ []
spell_hole kind (steps s k) = spell_step kind s ++ sign mark.OpenRound ∷ (spell_layers Count k ++ sign mark.Comma ∷ [])
spell_hole kind (from s k n) = spell_step kind s ++ sign mark.OpenRound ∷
    (spell_layers Count k ++ sign mark.Comma ∷ (spell_layers Count n ++ sign mark.Comma ∷ []))

abbrev pub spell_frames : List Frame → List Terminal
spell_frames [] = []
spell_frames (f ∷ frames) = spell_frames frames ++ (spell_level f.level ++ spell_hole f.level.kind f.hole)

abbrev pub spelled : State → List Terminal
spelled s = spell_frames s.frames ++ spell_at s.level s.stage

-- ---- forms
abbrev pub FitRole : Kind → ℕ → Role → Type 0
FitRole kind depth term = Unit {0}
FitRole kind depth (faster s) = FormedStep kind depth s
FitRole kind depth (slower s) = FormedStep kind depth s

-- braces alone are no term
abbrev pub IsWanted : Role → tree.Braces → Type 0
IsWanted term bs = HasBrace bs
IsWanted (faster s) bs = Unit {0}
IsWanted (slower s) bs = Unit {0}

-- the last element is a step without a count
abbrev pub IsUncounted : tree.Group → Type 0
IsUncounted tree.no_element = ⊥
IsUncounted (tree.element g (tree.played s weight None)) = Unit {0}
IsUncounted (tree.element g (tree.played s weight (Some n))) = ⊥
IsUncounted (tree.element g (tree.range a b)) = ⊥
IsUncounted (tree.element g tree.hold) = ⊥
IsUncounted (tree.element g tree.repeat) = ⊥

abbrev pub IsOutermost : List Frame → Type 0
IsOutermost [] = Unit {0}
IsOutermost (f ∷ frames) = ⊥

abbrev pub FitLevel : ℕ → Level → Type 0
FitLevel depth l = Formed l.kind depth l.layers × FormedSequence l.kind depth l.groups × FormedGroup l.kind depth l.group

abbrev pub FitStage : List Frame → Level → Stage → Type 0
FitStage frames l ready = Unit {0}
FitStage frames l (voiced text) = Unit {0}
FitStage frames l (sampling text) = Unit {0}
FitStage frames l (numbered n) = IsTrue (is_end l.kind n)
FitStage frames l (ranging n) = IsTrue (is_end l.kind n)
FitStage frames l (braced role bs ls) = FitRole l.kind (length frames) role × FormedBraces (role_kind l.kind role) (length frames) bs × (length frames < 16)
    × IsFilled ls × Formed (kind_after (role_kind l.kind role) bs) (suc (length frames)) ls
FitStage frames l (wanting role bs) = FitRole l.kind (length frames) role × FormedBraces (role_kind l.kind role) (length frames) bs × IsWanted role bs
FitStage frames l (stepping s) = FormedStep l.kind (length frames) s
FitStage frames l (weighing s) = FormedStep l.kind (length frames) s
FitStage frames l (weighted s n) = FormedStep l.kind (length frames) s
FitStage frames l (repeating true) = IsUncounted l.group
FitStage frames l (repeating false) = HasElement l.group
FitStage frames l ended = IsOutermost frames × IsFilled l.layers

abbrev pub FitHole : Kind → ℕ → Hole → Type 0
FitHole kind depth (operand role bs b) = FitRole kind depth role × FormedBraces (role_kind kind role) depth bs × (depth < 16)
FitHole kind depth (hits s) = FormedStep kind depth s × (depth < 16)
FitHole kind depth (steps s k) = FormedStep kind depth s × (depth < 16) × IsSingle k × Formed Count (suc depth) k
FitHole kind depth (from s k n) = FormedStep kind depth s × (depth < 16) × IsSingle k × Formed Count (suc depth) k × IsSingle n × Formed Count (suc depth) n

-- the kind of the text in a bracket
abbrev pub hole_kind : Kind → Hole → Kind
hole_kind kind (operand role bs b) = kind_after (role_kind kind role) bs
hole_kind kind (hits s) = Count
hole_kind kind (steps s k) = Count
hole_kind kind (from s k n) = Count

abbrev pub HasNoLayer : tree.Layers → Type 0
HasNoLayer tree.no_layer = Unit {0}
HasNoLayer (tree.layer ls s) = ⊥

-- an argument has one layer
abbrev pub FitLayers : Hole → tree.Layers → Type 0
FitLayers (operand role bs b) ls = Unit {0}
FitLayers (hits s) ls = HasNoLayer ls
FitLayers (steps s k) ls = HasNoLayer ls
FitLayers (from s k n) ls = HasNoLayer ls

-- the frames round layers of a kind, in a text of another
abbrev pub FitFrames : Kind → List Frame → Kind → tree.Layers → Type 0
FitFrames outer [] kind ls = kind ≡ outer
FitFrames outer (f ∷ frames) kind ls = (kind ≡ hole_kind f.level.kind f.hole) × FitLayers f.hole ls × FitHole f.level.kind (length frames) f.hole
    × FitLevel (length frames) f.level × FitFrames outer frames f.level.kind f.level.layers

pub record Fit (outer : Kind) (s : State) : Type 0 where
  pub frames : FitFrames outer s.frames s.level.kind s.level.layers
  pub level : FitLevel (length s.frames) s.level
  pub stage : FitStage s.frames s.level s.stage
