-- What the texts of lines read as.
--     one_swap       a text reads as one change at most
--     swap_range     from the next multiple of 1 to 4,096 cycles on
use Rattle.std.specs.Prelude.{IsTrue}
use Rattle.std.proofs.Common.{◌≡◌, ℕ, ◌≤◌, true, nat_le, nat_lt, Option, Some, None, List, sym, ap, ◌∙◌, subst, arith}
use Rattle.std.proofs.lemmas.Bool.{and_parts}
use Rattle.std.proofs.lemmas.Bool.Decides.{nat_tests}
use Rattle.tdl_desk.specs.declared.changes.Change.{Change}
use Rattle.tdl_desk.specs.Changes.{map_change}
use Rattle.tdl_expr.specs.Tree.{Tree}
use Rattle.tdl_rows.specs.Built.{Built}
use Rattle.tdl_command.specs.declared.names.Order.TheVariants as order
use Rattle.tdl_command.specs.Tree as line
use Rattle.tdl_command.specs.Tree.{Line, Whole, Expr}
use Rattle.tdl_command.specs.Rules.{is_orbit, is_every}
use Rattle.tdl_line_machine.specs.declared.goals.Goal.{Goal}
use Rattle.tdl_line_machine.specs.declared.goals.Goal.TheVariants.{Line as a_line}
use Rattle.tdl_line_texts.specs.Texts.{IsWhole, IsLine}
use Rattle.tdl_prepare.specs.Asked.{asked, swap}
use Rattle.tdl_line_changes.specs.Readings.{ReadsSwap}

abbrev line_in : Whole → Line
line_in (line.line l) = l
line_in (line.pattern e) = line.nothing

pub one_swap : ((goal : Goal) (text : List ℕ) (a b : Whole) → IsWhole goal text a → IsWhole goal text b → a ≡ b)
    → (text : List ℕ) (n m : ℕ) (c d : Change Tree) → ReadsSwap text n c → ReadsSwap text m d → (n ≡ m) × (c ≡ d)
one_swap once text n m c d a b =
    let lines : a.line ≡ b.line = ap line_in (once a_line text (line.line a.line) (line.line b.line) a.read b.read) in
    let swaps : swap n a.made ≡ swap m b.made = sym a.asks ∙ ap asked lines ∙ b.asks in
    let every : n ≡ m = (cc) in
    let made : a.made ≡ b.made = (cc) in
    (every, sym a.same ∙ ap (map_change (λ (t : Built Tree). t.value)) made ∙ b.same)

next_cycle : (n : ℕ) → 1 ≡ n → (1 ≤ n) × (n ≤ 4096)
next_cycle n e = (omega (arith, e), omega (arith, e))

placed_range : (o : Option ℕ) (e : Expr) (n : ℕ) (c : Change (Built Tree)) → asked (line.play o e) ≡ swap n c → (1 ≤ n) × (n ≤ 4096)
placed_range None e n c h = (cc)
placed_range (Some orbit) e n c h = next_cycle n (cc)

every_range : (n : ℕ) → IsTrue (is_every n) → (1 ≤ n) × (n ≤ 4096)
every_range n h =
    let parts = and_parts (nat_lt 0 n) (nat_le n 4096) h in
    let above : nat_lt 0 n ≡ true = parts.0 in
    let below : nat_le n 4096 ≡ true = parts.1 in
    (grind (arith, nat_tests), grind (arith, nat_tests))

pub swap_range : ((text : List ℕ) (orbit every : ℕ) (e : Expr) → IsLine text (line.jump orbit every e) → IsTrue (is_orbit orbit) × IsTrue (is_every every))
    → (text : List ℕ) (n : ℕ) (l : Line) (c : Change (Built Tree)) → IsLine text l → asked l ≡ swap n c → (1 ≤ n) × (n ≤ 4096)
swap_range jumps text n line.nothing c read h = (cc)
swap_range jumps text n (line.order order.Look) c read h = (cc)
swap_range jumps text n (line.order order.Hush) c read h = next_cycle n (cc)
swap_range jumps text n (line.order order.UnmuteAll) c read h = next_cycle n (cc)
swap_range jumps text n (line.order order.UnsoloAll) c read h = next_cycle n (cc)
swap_range jumps text n (line.flag f orbit) c read h = next_cycle n (cc)
swap_range jumps text n (line.play o e) c read h = placed_range o e n c h
swap_range jumps text n (line.still o) c read h = placed_range o line.silence n c h
swap_range jumps text n (line.jump orbit every e) c read h =
    let same : every ≡ n = (cc) in subst (λ k. (1 ≤ k) × (k ≤ 4096)) same (every_range every (jumps text orbit every e read).1)
