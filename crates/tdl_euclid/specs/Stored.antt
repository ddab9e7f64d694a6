-- A word is the only one of its bits.
use Rattle.std.specs.Prelude.{◌≡◌, ℕ, ◌+◌, ◌*◌, ◌/◌, ◌%◌, ◌^◌, ◌<◌, Bool, List, [], ◌∷◌, length, if◌then◌else◌, refl}
use Rattle.std.proofs.Common.{zero, suc, ap, arith, pow-suc}
use Rattle.std.proofs.lemmas.Grind.{common_steps}
use Rattle.tdl_euclid.specs.Bits.{bits, is_odd}

unfoldable pub word_of : List Bool → ℕ
word_of [] = 0
word_of (x ∷ xs) = (if x then 1 else 0) + 2 * word_of xs

pub length-bits : (len word : ℕ) → length (bits len word) ≡ len
unfolding bits
length-bits zero word = refl
length-bits (suc len) word = ap (λ n. suc n) (length-bits len (word / 2))

lowest : (word : ℕ) → (if is_odd word then 1 else 0) ≡ word % 2
lowest word = grind (arith, common_steps)

pub half_below : (len word : ℕ) → word < 2 ^ suc len → word / 2 < 2 ^ len
half_below len word h = omega (arith, pow-suc 2 len)

pub word_of-bits : (len word : ℕ) → word < 2 ^ len → word_of (bits len word) ≡ word
unfolding bits word_of
word_of-bits zero word h = omega arith
word_of-bits (suc len) word h = rw (lowest word, word_of-bits len (word / 2) (half_below len word h)) (omega arith)

-- what is made of the word and the count of its bits alone
pub stored : {X : Type 0} (f : ℕ → ℕ → X) (word len : ℕ) → word < 2 ^ len → f (word_of (bits len word)) (length (bits len word)) ≡ f word len
stored f word len h = rw (word_of-bits len word h, length-bits len word) refl
