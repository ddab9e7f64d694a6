-- What a desk in use keeps, and the changes that it stands for.
--     Kept         of each orbit its pattern, its mark of mute and its mark of solo; up to which cycle it is settled; and for how many
--                  changes more there is room
--     IsKept       there is room for them in each list
--     kept_desk    its desk at a cycle
--     StandsFor    from the settled cycle on, its desk is that of these changes
use Rattle.std.specs.Prelude.{◌≤◌, ℕ, is_some, List}
use Rattle.tdl_desk.specs.declared.changes.Dated.{Dated}
use Rattle.tdl_desk.specs.declared.fields.Mark.{Mark}
use Rattle.tdl_desk.specs.Desk.{Desk, AreSame, desk}
use Rattle.tdl_desk.specs.Fields.{HasRoom, Held, held_at}

pub record Kept (P : Type 0) : Type 0 where
  pub patterns : List (Held P)
  pub muted : List (Held Mark)
  pub soloed : List (Held Mark)
  pub settled : ℕ
  pub spare : ℕ

pub record IsKept {P : Type 0} (patterns : List (Held P)) (muted soloed : List (Held Mark)) (spare : ℕ) : Type 0 where
  pub sets : HasRoom patterns spare
  pub mutes : HasRoom muted spare
  pub solos : HasRoom soloed spare

abbrev pub desk_of : {P : Type 0} → List (Held P) → List (Held Mark) → List (Held Mark) → ℕ → Desk P
desk_of patterns muted soloed cycle = record {
  pattern = λ orbit. held_at patterns orbit cycle;
  muted = λ orbit. is_some (held_at muted orbit cycle);
  soloed = λ orbit. is_some (held_at soloed orbit cycle);
}

abbrev pub kept_desk : {P : Type 0} → Kept P → ℕ → Desk P
kept_desk kept cycle = desk_of kept.patterns kept.muted kept.soloed cycle

abbrev pub StandsFor : {P : Type 0} → Kept P → List (Dated P) → Type 0
StandsFor kept changes = (cycle : ℕ) → kept.settled ≤ cycle → AreSame (desk changes cycle) (kept_desk kept cycle)
