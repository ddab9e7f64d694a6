-- What a device of a run told, and its count of faults, before the run and after it.
--     Account          of one device
--     WireAccounts     of the two wires
--     KeepsWires       their counts did not fall
use Rattle.std.specs.Prelude.{ℕ, ◌≤◌, List, Option}

pub record Account (A : Type 0) : Type 0 where
  pub told_before : Option (List A)
  pub told_after : Option (List A)
  pub faults_before : ℕ
  pub faults_after : ℕ

-- of a device from before to after, by what such a device tells and by its count
abbrev pub account : {D A : Type 0} → (D → Option (List A)) → (D → ℕ) → D → D → Account A
account told faults before after = record {
  told_before = told before;
  told_after = told after;
  faults_before = faults before;
  faults_after = faults after;
}

pub record WireAccounts : Type 0 where
  pub osc : Account (List ℕ)
  pub midi : Account (List ℕ)

-- of two wires from before to after
abbrev pub wires : {D : Type 0} → (D → Option (List (List ℕ))) → (D → ℕ) → D → D → D → D → WireAccounts
wires told faults osc osc' midi midi' = record { osc = account told faults osc osc'; midi = account told faults midi midi' }

-- no count of faults fell
pub record KeepsWires (wires : WireAccounts) : Type 0 where
  pub osc_count : wires.osc.faults_before ≤ wires.osc.faults_after
  pub midi_count : wires.midi.faults_before ≤ wires.midi.faults_after
