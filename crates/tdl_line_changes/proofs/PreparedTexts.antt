-- What is prepared of a line is what its text reads as.
--     prepared_swap     a change
--     prepared_look     a look
use Rattle.std.specs.Prelude.{IfSome, Result}
use Rattle.std.proofs.Common.{◌≡◌, ℕ, ◌⊎◌, ⊎_elim, Option, Some, None, Ok, Err, List, refl, sym, ap₂, ◌∙◌, subst}
use Rattle.tdl_expr.specs.Tree.{Tree}
use Rattle.tdl_compile.specs.Compiled.{Compiled}
use Rattle.tdl_rows.specs.Built.{Built}
use Rattle.tdl_desk.specs.declared.changes.Change.{Change}
use Rattle.tdl_desk.specs.declared.changes.Change.TheVariants as change
use Rattle.tdl_desk.specs.Changes.{map_change}
use Rattle.tdl_command.specs.Tree.{Line}
use Rattle.tdl_line_texts.specs.Texts.{IsLine}
use Rattle.tdl_prepare.specs.declared.prepared.Prepared.{Prepared}
use Rattle.tdl_prepare.specs.declared.prepared.Prepared.TheVariants as prepared
use Rattle.tdl_prepare.specs.declared.faults.PrepareFault.{PrepareFault}
use Rattle.tdl_prepare.specs.declared.faults.PrepareFault.TheVariants as prepared_fault
use Rattle.tdl_prepare.specs.Asked.{Asked, nothing, look, swap, asked}
use Rattle.tdl_prepare.specs.Prepared.{IsChangeOf, PreparesLine, line_fault}
use Rattle.tdl_line_changes.specs.Readings.{ReadsSwap, ReadsLook, program_tree}

-- a change says the same of its patterns and of their programs
abbrev Same : Change (Built Tree) → Change Compiled → Type 0
Same made d = map_change (λ (b : Built Tree). b.value) made ≡ map_change program_tree d

bare : (made : Change (Built Tree)) (c d : Change Compiled) → d ≡ c → Same made c → Same made d
bare made c d e h = subst (Same made) (sym e) h

same_change : (made : Change (Built Tree)) (d : Change Compiled) → IsChangeOf made d → Same made d
same_change (change.Set orbit pattern) (change.Set o program) h = ap₂ change.Set (sym h.0) (sym h.1.tree)
same_change (change.Set orbit pattern) change.Hush h = absurd h
same_change (change.Set orbit pattern) (change.Mute o) h = absurd h
same_change (change.Set orbit pattern) (change.Unmute o) h = absurd h
same_change (change.Set orbit pattern) (change.Solo o) h = absurd h
same_change (change.Set orbit pattern) (change.Unsolo o) h = absurd h
same_change (change.Set orbit pattern) change.UnmuteAll h = absurd h
same_change (change.Set orbit pattern) change.UnsoloAll h = absurd h
same_change change.Hush d h = bare change.Hush change.Hush d h refl
same_change (change.Mute orbit) d h = bare (change.Mute orbit) (change.Mute orbit) d h refl
same_change (change.Unmute orbit) d h = bare (change.Unmute orbit) (change.Unmute orbit) d h refl
same_change (change.Solo orbit) d h = bare (change.Solo orbit) (change.Solo orbit) d h refl
same_change (change.Unsolo orbit) d h = bare (change.Unsolo orbit) (change.Unsolo orbit) d h refl
same_change change.UnmuteAll d h = bare change.UnmuteAll change.UnmuteAll d h refl
same_change change.UnsoloAll d h = bare change.UnsoloAll change.UnsoloAll d h refl

-- what is not refused has no fault
ok_is_err : (p : Prepared) (fault : PrepareFault) → Ok p ≡ Err fault → ⊥
ok_is_err p fault e = cc

not_refused : (fault : Option PrepareFault) (result : Result Prepared PrepareFault) (p : Prepared) → result ≡ Ok p
    → IfSome fault (λ f. (result ≡ Err f) ⊎ (result ≡ Err prepared_fault.NoMemory)) → fault ≡ None
not_refused None result p e h = refl
not_refused (Some fault) result p e h = absurd (⊎_elim (λ x. ok_is_err p _ (sym e ∙ x)) (λ x. ok_is_err p _ (sym e ∙ x)) h)

prepared_as : (kept : List ℕ) (l : Line) → IsLine kept l → (a : Asked (Built Tree)) → asked l ≡ a → (t : List ℕ) (every : ℕ) (d : Change Compiled)
    → PreparesLine a kept (Ok (prepared.Swap t every d)) → (t ≡ kept) × ReadsSwap kept every (map_change program_tree d)
prepared_as kept l read nothing asks t every d h = let no = h.ok in cc
prepared_as kept l read look asks t every d h = let no = h.ok in cc
prepared_as kept l read (swap n made) asks t every d h =
    let changed = same_change made d h.ok.2 in (
      h.ok.0,
      record {
        line = l;
        read = read;
        made = made;
        asks = subst (λ (k : ℕ). asked l ≡ swap k made) (sym h.ok.1) asks;
        within = not_refused (line_fault (swap n made)) (Ok (prepared.Swap t every d)) (prepared.Swap t every d) refl h.refused;
        same = changed;
      },
    )

pub prepared_swap : (kept : List ℕ) (l : Line) → IsLine kept l → (t : List ℕ) (every : ℕ) (d : Change Compiled)
    → PreparesLine (asked l) kept (Ok (prepared.Swap t every d)) → (t ≡ kept) × ReadsSwap kept every (map_change program_tree d)
prepared_swap kept l read t every d h = prepared_as kept l read (asked l) refl t every d h

look_as : (kept : List ℕ) (l : Line) → IsLine kept l → (a : Asked (Built Tree)) → asked l ≡ a → PreparesLine a kept (Ok prepared.Look) → ReadsLook kept
look_as kept l read nothing asks h = let no = h.ok in cc
look_as kept l read look asks h = record { line = l; read = read; asks = asks }
look_as kept l read (swap n made) asks h = absurd h.ok

pub prepared_look : (kept : List ℕ) (l : Line) → IsLine kept l → PreparesLine (asked l) kept (Ok prepared.Look) → ReadsLook kept
prepared_look kept l read h = look_as kept l read (asked l) refl h
