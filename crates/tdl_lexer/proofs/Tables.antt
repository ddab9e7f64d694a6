-- Tables of bytes.
use Rattle.std.proofs.Common.{◌≡◌, ℕ, ◌<◌, Bool, false, map, get_or, sym, ap, ◌∙◌, arith}
use Rattle.std.specs.List.{range_with_len}
use Rattle.std.proofs.lemmas.List.FromFn.{get_or-map-range_with_len}

-- two tests that answer all numbers below one alike, which is found by computing, answer each alike
pub alike_at : (f g : ℕ → Bool) (n : ℕ) → map f (range_with_len 0 n) ≡ map g (range_with_len 0 n) → (k : ℕ) → k < n → f k ≡ g k
alike_at f g n same k below =
    sym (get_or-map-range_with_len f 0 n k k false below (omega arith))
    ∙ ap (λ answers. get_or answers k false) same ∙ get_or-map-range_with_len g 0 n k k false below (omega arith)
