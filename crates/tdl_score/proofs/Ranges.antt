-- Numbers in a row.
--     range-append         some numbers, and then those that follow
--     flat_map_one_more    lists that are joined over them, and one number more
use Rattle.std.proofs.Common.{◌≡◌, ℕ, zero, suc, ◌+◌, List, ◌∷◌, ◌++◌, ap, ◌∙◌, arith, append-nil}
use Rattle.std.specs.List.{flat_map, range_with_len}
use Rattle.std.proofs.lemmas.Grind.{flat_map-append}

pub range-append : (a m n : ℕ) → range_with_len a (m + n) ≡ range_with_len a m ++ range_with_len (a + m) n
range-append a zero n = ranges_same a (a + 0) (0 + n) n (omega arith) (omega arith)
  where
    ranges_same : (a b m n : ℕ) → a ≡ b → m ≡ n → range_with_len a m ≡ range_with_len b n
    ranges_same a b m n e f = ap (λ x. range_with_len x m) e ∙ ap (range_with_len b) f
range-append a (suc m) n =
    let count : suc m + n ≡ suc (m + n) = omega arith in
    let start : (a + 1) + m ≡ a + suc m = omega arith in
    ap (range_with_len a) count ∙ ap (λ rest. a ∷ rest) (range-append (a + 1) m n ∙ ap (λ b. range_with_len (a + 1) m ++ range_with_len b n) start)

pub flat_map_one_more : {Y : Type 0} (f : ℕ → List Y) (a n : ℕ) → flat_map f (range_with_len a (n + 1)) ≡ flat_map f (range_with_len a n) ++ f (a + n)
flat_map_one_more f a n =
    ap (flat_map f) (range-append a n 1) ∙ flat_map-append f (range_with_len a n) (range_with_len (a + n) 1)
    ∙ ap (λ rest. flat_map f (range_with_len a n) ++ rest) (append-nil (f (a + n)))
