-- The changes that a history makes, each with its boundary.
--     MakesChange    a swap makes this change: one that its text reads as, from its boundary on
--     HasChanges     a history makes these changes, in order
--     ArePlayable    the patterns of changes can be played
use Rattle.std.specs.Prelude.{◌≡◌, ℕ, List, [], ◌∷◌, ◌++◌, IfSome}
use Rattle.std.specs.List.{AllByRecursion}
use Rattle.tdl_desk.specs.declared.changes.Dated.{Dated}
use Rattle.tdl_desk.specs.Changes.{pattern_in}
use Rattle.tdl_expr.specs.Tree.{Tree}
use Rattle.tdl_score.specs.declared.histories.Entry.{Entry}
use Rattle.tdl_score.specs.declared.histories.Deed.{Deed}
use Rattle.tdl_score.specs.declared.histories.Deed.TheVariants.{Swap, Look, Tick, Finish}
use Rattle.tdl_score.specs.Readings.{Reading, IsPlayable}

pub record MakesChange (Reads : Reading) (boundary : ℕ) (text : List ℕ) (dated : Dated Tree) : Type 0 where
  pub from_boundary : dated.boundary ≡ boundary
  pub every : ℕ
  pub reads : Reads text every dated.change

-- a swap makes one change, and nothing else does
abbrev pub DeedMakes : Reading → Deed → List (Dated Tree) → Type 0
DeedMakes Reads (Swap boundary text) changes = (dated : Dated Tree) × MakesChange Reads boundary text dated × (changes ≡ dated ∷ [])
DeedMakes Reads Look changes = changes ≡ []
DeedMakes Reads (Tick to) changes = changes ≡ []
DeedMakes Reads Finish changes = changes ≡ []

abbrev pub HasChanges : Reading → List Entry → List (Dated Tree) → Type 0
HasChanges Reads [] changes = changes ≡ []
HasChanges Reads (e ∷ entries) changes =
    (first : List (Dated Tree)) × (rest : List (Dated Tree)) × DeedMakes Reads e.deed first × HasChanges Reads entries rest × (changes ≡ first ++ rest)

abbrev pub ArePlayable : List (Dated Tree) → Type 0
ArePlayable changes = AllByRecursion (λ dated. IfSome (pattern_in dated.change) IsPlayable) changes
