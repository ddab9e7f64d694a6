-- What plays, and what is muted and soloed, by orbit.
--     Desk, empty_desk      a desk; that of a beginning: nothing is set, muted or soloed
--     with_change           the desk after a change
--     desk                  the desk of a cycle: the changes whose boundary is at most the cycle, in the order in which they were made
--     orbits, IsOrbit       orbits are 1 to 16
--     HasOrbit              a change is of one of them, or of all
--     is_audible            an orbit is heard: it is soloed, or none is and it is not muted
--     AreSame               two desks have the same at each orbit
use Rattle.std.specs.Prelude.{◌≡◌, ◌≤◌, ◌==◌, ℕ, Bool, true, false, not, nat_le, if◌then◌else◌, Option, Some, None, List, [], ◌∷◌}
use Rattle.std.specs.List.{list_any, range_with_len}
use Rattle.tdl_control.specs.Limits.{max_orbit}
use Rattle.tdl_desk.specs.declared.changes.Change.{Change}
use Rattle.tdl_desk.specs.declared.changes.Change.TheVariants.{Set, Hush, Mute, Unmute, Solo, Unsolo, UnmuteAll, UnsoloAll}
use Rattle.tdl_desk.specs.declared.changes.Dated.{Dated}

pub record Desk (P : Type 0) : Type 0 where
  pub pattern : ℕ → Option P
  pub muted : ℕ → Bool
  pub soloed : ℕ → Bool

abbrev pub empty_desk : {P : Type 0} → Desk P
empty_desk = record { pattern = λ orbit. None; muted = λ orbit. false; soloed = λ orbit. false }

abbrev pub at_orbit : {A : Type 0} → ℕ → A → (ℕ → A) → ℕ → A
at_orbit orbit value others o = if orbit == o then value else others o

abbrev pub with_change : {P : Type 0} → Change P → Desk P → Desk P
with_change (Set orbit pattern) desk = record { pattern = at_orbit orbit (Some pattern) desk.pattern; muted = desk.muted; soloed = desk.soloed }
with_change Hush desk = record { pattern = λ orbit. None; muted = desk.muted; soloed = desk.soloed }
with_change (Mute orbit) desk = record { pattern = desk.pattern; muted = at_orbit orbit true desk.muted; soloed = desk.soloed }
with_change (Unmute orbit) desk = record { pattern = desk.pattern; muted = at_orbit orbit false desk.muted; soloed = desk.soloed }
with_change (Solo orbit) desk = record { pattern = desk.pattern; muted = desk.muted; soloed = at_orbit orbit true desk.soloed }
with_change (Unsolo orbit) desk = record { pattern = desk.pattern; muted = desk.muted; soloed = at_orbit orbit false desk.soloed }
with_change UnmuteAll desk = record { pattern = desk.pattern; muted = λ orbit. false; soloed = desk.soloed }
with_change UnsoloAll desk = record { pattern = desk.pattern; muted = desk.muted; soloed = λ orbit. false }

abbrev pub desk_after : {P : Type 0} → Desk P → List (Dated P) → ℕ → Desk P
desk_after before [] cycle = before
desk_after before (dated ∷ changes) cycle =
    desk_after (if nat_le dated.boundary cycle then with_change dated.change before else before) changes cycle

abbrev pub desk : {P : Type 0} → List (Dated P) → ℕ → Desk P
desk changes cycle = desk_after empty_desk changes cycle

-- ---- orbits
abbrev pub orbits : List ℕ
orbits = range_with_len 1 max_orbit

abbrev pub IsOrbit : ℕ → Type 0
IsOrbit orbit = (1 ≤ orbit) × (orbit ≤ max_orbit)

abbrev pub HasOrbit : {P : Type 0} → Change P → Type 0
HasOrbit (Set orbit pattern) = IsOrbit orbit
HasOrbit (Mute orbit) = IsOrbit orbit
HasOrbit (Unmute orbit) = IsOrbit orbit
HasOrbit (Solo orbit) = IsOrbit orbit
HasOrbit (Unsolo orbit) = IsOrbit orbit
HasOrbit _ = Unit {0}

abbrev pub is_audible : {P : Type 0} → Desk P → ℕ → Bool
is_audible desk orbit = if list_any desk.soloed orbits then desk.soloed orbit else not (desk.muted orbit)

pub record AreSame {P : Type 0} (one other : Desk P) : Type 0 where
  pub pattern : (orbit : ℕ) → IsOrbit orbit → one.pattern orbit ≡ other.pattern orbit
  pub muted : (orbit : ℕ) → IsOrbit orbit → one.muted orbit ≡ other.muted orbit
  pub soloed : (orbit : ℕ) → IsOrbit orbit → one.soloed orbit ≡ other.soloed orbit
