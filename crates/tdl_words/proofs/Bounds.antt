-- How much words ask for.
use Rattle.std.proofs.Common.{◌≤◌, ℕ, List, [], ◌∷◌}
use Rattle.tdl_tempo.specs.Tempo.{Pace}
use Rattle.tdl_words.specs.Modes.{AskDrill, AskServe, Asks, max_cycles, max_lines, max_performers, max_start}

pub serve_in_bounds : (words : List (List ℕ)) (pace : Pace) (performers cycles : ℕ) → Asks words (AskServe pace performers cycles)
    → (1 ≤ performers) × (performers ≤ max_performers) × (1 ≤ cycles) × (cycles ≤ max_cycles)
serve_in_bounds [] pace performers cycles asks = absurd asks
serve_in_bounds (mode ∷ rest) pace performers cycles asks =
    let say = asks.1.say in
    (say.performers_are.says.from, say.performers_are.says.to, say.cycles_are.says.from, say.cycles_are.says.to)

pub drill_in_bounds : (words : List (List ℕ)) (start lines : ℕ) → Asks words (AskDrill start lines) → (start ≤ max_start) × (1 ≤ lines) × (lines ≤ max_lines)
drill_in_bounds [] start lines asks = absurd asks
drill_in_bounds (mode ∷ rest) start lines asks = (asks.1.start_is.to, asks.1.lines_are.from, asks.1.lines_are.to)
