-- The longest front of bytes that pass a test, and what follows it.
use Rattle.std.proofs.Common.{◌≡◌, ℕ, ◌+◌, ◌<◌, suc, Bool, true, false, cond, ◌&&◌, List, [], ◌∷◌, ◌++◌, length, take, drop, refl, ap, ◌∙◌, arith}
use Rattle.std.specs.List.{list_all, prefix_len, take_while}
use Rattle.std.proofs.lemmas.List.{length-take-le}
use Rattle.std.proofs.lemmas.List.Sums.{prefix_len-le-length}
use Rattle.std.proofs.Math.Seq.{take-append_seam, drop-append_seam}
use Rattle.tdl_lexer.specs.Bytes.{begins}

-- a text cut after the longest front whose bytes pass
pub record Cut (p : ℕ → Bool) (text front rest : List ℕ) : Type 0 where
  pub passes : list_all p front ≡ true
  pub stops : begins p rest ≡ false
  pub joined : text ≡ front ++ rest

abbrev CutsAfter : (ℕ → Bool) → List ℕ → ℕ → Type 0
CutsAfter p text n = Cut p text (take n text) (drop n text)

cut_more : (p : ℕ → Bool) (x : ℕ) (xs : List ℕ) (n : ℕ) (b : Bool) → p x ≡ b → CutsAfter p xs n → CutsAfter p (x ∷ xs) (cond b (1 + n) 0)
cut_more p x xs n true e h =
    let more : 1 + n ≡ suc n = omega arith in
    rw more (record { passes = rw e h.passes; stops = h.stops; joined = ap (λ ys. x ∷ ys) h.joined })
cut_more p x xs n false e h = record { passes = refl; stops = e; joined = refl }

pub cut_at_prefix : (p : ℕ → Bool) (text : List ℕ) → CutsAfter p text (prefix_len p text)
cut_at_prefix p [] = record { passes = refl; stops = refl; joined = refl }
cut_at_prefix p (x ∷ xs) = cut_more p x xs (prefix_len p xs) (p x) refl (cut_at_prefix p xs)

pub length-take_while : (p : ℕ → Bool) (text : List ℕ) → length (take_while p text) ≡ prefix_len p text
length-take_while p text = length-take-le (prefix_len p text) text (prefix_len-le-length p text)

-- the front, and what is left after as many bytes
pub cut_of : (p : ℕ → Bool) (text : List ℕ) → Cut p text (take_while p text) (drop (length (take_while p text)) text)
cut_of p text = rw length-take_while (cut_at_prefix p text)

pub front_passes : (p : ℕ → Bool) (x : ℕ) (front : List ℕ) → (p x && list_all p front) ≡ true → (p x ≡ true) × (list_all p front ≡ true)
front_passes p x front h = both (p x) (list_all p front) h
  where
    both : (a b : Bool) → (a && b) ≡ true → (a ≡ true) × (b ≡ true)
    both true b e = (refl, e)
    both false b e = cc

prefix_of_rest : (p : ℕ → Bool) (rest : List ℕ) → begins p rest ≡ false → prefix_len p rest ≡ 0
prefix_of_rest p [] h = refl
prefix_of_rest p (x ∷ rest) h = rw h refl

pub prefix_of_front : (p : ℕ → Bool) (front rest : List ℕ) → list_all p front ≡ true → begins p rest ≡ false → prefix_len p (front ++ rest) ≡ length front
prefix_of_front p [] rest h s = prefix_of_rest p rest s
prefix_of_front p (x ∷ front) rest h s =
    let parts = front_passes p x front h in
    let more = prefix_of_front p front rest parts.1 s in
    rw (parts.0, more) (omega arith)

-- the longest front is where the bytes pass up to one that does not
pub take_while-front : (p : ℕ → Bool) (front rest : List ℕ) → list_all p front ≡ true → begins p rest ≡ false → take_while p (front ++ rest) ≡ front
take_while-front p front rest h s =
    ap (λ n. take n (front ++ rest)) (prefix_of_front p front rest h s) ∙ take-append_seam front rest

pub length-front : (p : ℕ → Bool) (front rest : List ℕ) → list_all p front ≡ true → begins p rest ≡ false → length (take_while p (front ++ rest)) ≡ length front
length-front p front rest h s = ap length (take_while-front p front rest h s)

pub drop-front : (p : ℕ → Bool) (front rest : List ℕ) → list_all p front ≡ true → begins p rest ≡ false
    → drop (length (take_while p (front ++ rest))) (front ++ rest) ≡ rest
drop-front p front rest h s =
    ap (λ n. drop n (front ++ rest)) (length-front p front rest h s) ∙ drop-append_seam front rest

-- where the bytes pass, the byte in front passes
pub begins-front : (p : ℕ → Bool) (front rest : List ℕ) → 0 < length front → list_all p front ≡ true → begins p (front ++ rest) ≡ true
begins-front p [] rest filled h = absurd (omega arith)
begins-front p (x ∷ front) rest filled h = (front_passes p x front h).0

-- a longest front has a byte where the first passes
pub filled_front : (p : ℕ → Bool) (text : List ℕ) → begins p text ≡ true → 0 < length (take_while p text)
filled_front p [] h = cc
filled_front p (x ∷ rest) h = rw (length-take_while p (x ∷ rest)) (rw h (omega arith))

-- as many bytes as the longest front has are that front
pub take-length_front : (p : ℕ → Bool) (text : List ℕ) → take (length (take_while p text)) text ≡ take_while p text
take-length_front p text = ap (λ n. take n text) (length-take_while p text)
