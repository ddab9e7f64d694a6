-- What is known of a change that the text of a line reads as.
--     swap_orbit      its orbit is one
--     swap_limits     its pattern is within the limits
use Rattle.std.specs.Prelude.{IsTrue, IfSome, nat_lt, if◌then◌else◌}
use Rattle.std.specs.Option.{option_and_then}
use Rattle.std.proofs.Common.{◌≡◌, ℕ, ◌≤◌, Bool, true, false, nat_le, Option, Some, None, List, refl, subst, arith, ltb-false}
use Rattle.std.proofs.lemmas.Bool.{and_parts}
use Rattle.std.proofs.lemmas.Bool.Decides.{nat_tests}
use Rattle.tdl_fraction.specs.Units.{tick_units, last_cycle}
use Rattle.tdl_expr.specs.Tree.{Tree}
use Rattle.tdl_expr.specs.Bounds.{bounds, fine, reach}
use Rattle.tdl_expr.specs.Valid.{IsWithinLimits, max_load, max_fine, max_reach}
use Rattle.tdl_compile.specs.declared.faults.CompileFault.{CompileFault}
use Rattle.tdl_compile.specs.Compiled as compiling
use Rattle.tdl_compile.specs.Compiled.{bounds_fault}
use Rattle.tdl_rows.specs.Built.{Built}
use Rattle.tdl_rows.specs.Lowers.{first_overflow}
use Rattle.tdl_desk.specs.declared.changes.Change.{Change}
use Rattle.tdl_desk.specs.declared.changes.Change.TheVariants as change
use Rattle.tdl_desk.specs.Changes.{map_change, pattern_in}
use Rattle.tdl_desk.specs.Desk.{IsOrbit, HasOrbit}
use Rattle.tdl_expr.specs.declared.tables.PushFault.{PushFault}
use Rattle.tdl_command.specs.declared.names.Order.TheVariants as order
use Rattle.tdl_command.specs.declared.names.Flag.TheVariants as flag
use Rattle.tdl_command.specs.Tree as line
use Rattle.tdl_command.specs.Tree.{Line}
use Rattle.tdl_command.specs.Rules.{is_orbit}
use Rattle.tdl_line_machine.specs.declared.goals.Goal.TheVariants.{Line as a_line}
use Rattle.tdl_line_grammar.specs.Spelling.{spell}
use Rattle.tdl_line_grammar.specs.inside.Kept.{AllKept}
use Rattle.tdl_line_texts.proofs.KeptTexts.{kept_whole}
use Rattle.tdl_prepare.specs.Asked.{asked, swap}
use Rattle.tdl_prepare.specs.Prepared.{prepare_fault, fault_of}
use Rattle.tdl_line_changes.specs.Readings.{ReadsSwap}

-- ---- orbits
is_one : (n : ℕ) → IsTrue (is_orbit n) → IsOrbit n
is_one n h =
    let parts = and_parts (nat_lt 0 n) (nat_le n 16) h in
    let above : nat_lt 0 n ≡ true = parts.0 in
    let below : nat_le n 16 ≡ true = parts.1 in
    (grind (arith, nat_tests), grind (arith, nat_tests))

same_swap : (n m : ℕ) (c d : Change (Built Tree)) → swap n c ≡ swap m d → c ≡ d
same_swap n m c d e = cc

asked_orbit : (l : Line) (n : ℕ) (c : Change (Built Tree)) → AllKept (spell (line.line l)) → asked l ≡ swap n c → HasOrbit c
asked_orbit line.nothing n c kept e = cc
asked_orbit (line.order order.Look) n c kept e = cc
asked_orbit (line.order order.Hush) n c kept e = subst HasOrbit (same_swap 1 n change.Hush c e) tt
asked_orbit (line.order order.UnmuteAll) n c kept e = subst HasOrbit (same_swap 1 n change.UnmuteAll c e) tt
asked_orbit (line.order order.UnsoloAll) n c kept e = subst HasOrbit (same_swap 1 n change.UnsoloAll c e) tt
asked_orbit (line.flag flag.Mute orbit) n c kept e = subst HasOrbit (same_swap 1 n (change.Mute orbit) c e) (is_one orbit kept.1.0)
asked_orbit (line.flag flag.Unmute orbit) n c kept e = subst HasOrbit (same_swap 1 n (change.Unmute orbit) c e) (is_one orbit kept.1.0)
asked_orbit (line.flag flag.Solo orbit) n c kept e = subst HasOrbit (same_swap 1 n (change.Solo orbit) c e) (is_one orbit kept.1.0)
asked_orbit (line.flag flag.Unsolo orbit) n c kept e = subst HasOrbit (same_swap 1 n (change.Unsolo orbit) c e) (is_one orbit kept.1.0)
asked_orbit (line.play None e) n c kept h = cc
asked_orbit (line.play (Some orbit) e) n c kept h = subst HasOrbit (same_swap 1 n _ c h) (is_one orbit kept.1.0)
asked_orbit (line.still None) n c kept h = cc
asked_orbit (line.still (Some orbit)) n c kept h = subst HasOrbit (same_swap 1 n _ c h) (is_one orbit kept.1.0)
asked_orbit (line.jump orbit every e) n c kept h = subst HasOrbit (same_swap every n _ c h) (is_one orbit kept.1.0)

mapped_orbit : (c : Change (Built Tree)) → HasOrbit c → HasOrbit (map_change (λ (b : Built Tree). b.value) c)
mapped_orbit (change.Set orbit pattern) h = h
mapped_orbit change.Hush h = h
mapped_orbit (change.Mute orbit) h = h
mapped_orbit (change.Unmute orbit) h = h
mapped_orbit (change.Solo orbit) h = h
mapped_orbit (change.Unsolo orbit) h = h
mapped_orbit change.UnmuteAll h = h
mapped_orbit change.UnsoloAll h = h

pub swap_orbit : (text : List ℕ) (n : ℕ) (c : Change Tree) → ReadsSwap text n c → HasOrbit c
swap_orbit text n c h =
    subst HasOrbit h.same (mapped_orbit h.made (asked_orbit h.line n h.made (kept_whole a_line text (line.line h.line) h.read) h.asks))

-- ---- limits
abbrev AreWithin : ℕ → ℕ → ℕ → Type 0
AreWithin load finest furthest = (load ≤ max_load) × (finest ≤ max_fine) × (furthest ≤ max_reach)

no_fault : (load finest furthest : ℕ) → compiling.fault_of load finest furthest ≡ None → AreWithin load finest furthest
no_fault load finest furthest e =
    here (nat_lt max_load load) (nat_lt max_fine finest) (nat_lt max_reach furthest) _ _ _ refl refl refl e
  where
    here : (a b c : Bool) (f g h : CompileFault) → nat_lt max_load load ≡ a → nat_lt max_fine finest ≡ b → nat_lt max_reach furthest ≡ c
        → (if a then Some f else (if b then Some g else (if c then Some h else None))) ≡ None → AreWithin load finest furthest
    here true b c f g h x y z k = cc
    here false true c f g h x y z k = cc
    here false false true f g h x y z k = cc
    here false false false f g h x y z k = (ltb-false max_load load x, ltb-false max_fine finest y, ltb-false max_reach furthest z)

no_later_fault : (large : Option PushFault) (later : Option CompileFault) → fault_of large later ≡ None → later ≡ None
no_later_fault (Some fault) later e = cc
no_later_fault None (Some fault) e = cc
no_later_fault None None e = refl

within_limits : (b : Built Tree) → prepare_fault b ≡ None → IsWithinLimits b.value
within_limits b e =
    let h = no_fault (bounds b.value).load (fine b.value tick_units) (reach b.value last_cycle)
    (no_later_fault (first_overflow 0 0 b.rows) (bounds_fault b.value) e) in
    record { not_too_dense = h.0; not_too_fine = h.1; not_too_far = h.2 }

made_limits : (c : Change (Built Tree)) → option_and_then prepare_fault (pattern_in c) ≡ None
    → IfSome (pattern_in (map_change (λ (b : Built Tree). b.value) c)) IsWithinLimits
made_limits (change.Set orbit pattern) e = within_limits pattern e
made_limits change.Hush e = tt
made_limits (change.Mute orbit) e = tt
made_limits (change.Unmute orbit) e = tt
made_limits (change.Solo orbit) e = tt
made_limits (change.Unsolo orbit) e = tt
made_limits change.UnmuteAll e = tt
made_limits change.UnsoloAll e = tt

pub swap_limits : (text : List ℕ) (n : ℕ) (c : Change Tree) → ReadsSwap text n c → IfSome (pattern_in c) IsWithinLimits
swap_limits text n c h = subst (λ (d : Change Tree). IfSome (pattern_in d) IsWithinLimits) h.same (made_limits h.made h.within)
