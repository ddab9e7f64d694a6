-- Sums of shares, and counts as weights, with one count more.
use Rattle.std.proofs.Common.{ℕ, ◌^◌, ◌<◌, ◌≤◌, List, [], ◌∷◌, length, sum, arith}
use Rattle.std.specs.List.{All}
use Rattle.std.proofs.lemmas.List.Sums.{sum_by-cons}
use Rattle.std.proofs.lemmas.List.Elements.{All-map, All-head, All-tail}
use Rattle.tdl_mini_rows.specs.declared.joins.WeightedRow.{WeightedRow}
use Rattle.tdl_mini_rows.specs.inside.Bounds.{AreShares}
use Rattle.tdl_mini_rows.specs.inside.Views.{counts_of}

-- the counts of shares are above 0
pub counts_positive : (steps : List WeightedRow) → AreShares steps → All (λ n. 0 < n) (counts_of steps)
counts_positive steps h = All-map (λ n. 0 < n) (λ (s : WeightedRow). s.parts) steps h.positive

-- there are no more steps than their weights sum to
length-shares : (steps : List WeightedRow) → All (λ s. 0 < s.parts) steps → length steps ≤ sum (counts_of steps)
length-shares [] all = omega arith
length-shares (s ∷ steps) all =
    let first = All-head (λ (s : WeightedRow). 0 < s.parts) s steps all in
    let rest = length-shares steps (All-tail (λ (s : WeightedRow). 0 < s.parts) s steps all) in
    omega (arith, first, rest, sum_by-cons (λ (n : ℕ). n) s.parts (counts_of steps))

pub shares-few : (steps : List WeightedRow) → AreShares steps → length steps ≤ 2 ^ 31
shares-few steps h = omega (arith, length-shares steps h.positive, h.sum)
