-- Texts that are cut at a byte.
--     cut_once        a text is cut in one way at the first byte of a kind
--     fronts_differ   texts that begin with other bytes are not the same
--     lines_once      lines that are put with line feeds are told by the text
use Rattle.std.proofs.Common.{◌≡◌, ℕ, Bool, true, false, not, ◌==◌, List, [], ◌∷◌, ◌++◌, get_or, refl, sym, ap, ◌∙◌, append_assoc, arith}
use Rattle.std.proofs.lemmas.Bool.{eq-eqb, true≢false}
use Rattle.std.proofs.lemmas.Bool.Decides.{nat_tests}
use Rattle.std.proofs.lemmas.List.Folds.{list_all-append}
use Rattle.std.specs.Prelude.{codes}
use Rattle.std.specs.List.{AllByRecursion, flat_map, list_all}
use Rattle.tdl_log.specs.LogText.{with_feed}

-- no such byte stands in the text
abbrev pub lacks : ℕ → List ℕ → Bool
lacks byte text = list_all (λ b. not (b == byte)) text

lacks_none : (byte x : ℕ) (xs : List ℕ) → lacks byte (x ∷ xs) ≡ true → x ≡ byte → ⊥
lacks_none byte x xs without same = let found = eq-eqb x byte same in cc

lacks_tail : (byte x : ℕ) (xs : List ℕ) → lacks byte (x ∷ xs) ≡ true → lacks byte xs ≡ true
lacks_tail byte x xs without = grind (arith, nat_tests)

pub lacks_both : (byte : ℕ) (xs ys : List ℕ) → lacks byte xs ≡ true → lacks byte ys ≡ true → lacks byte (xs ++ ys) ≡ true
lacks_both byte xs ys p q = let parts = list_all-append (λ b. not (b == byte)) xs ys in cc

pub cut_once : (byte : ℕ) (xs ys r s : List ℕ) → lacks byte xs ≡ true → lacks byte ys ≡ true → xs ++ byte ∷ r ≡ ys ++ byte ∷ s → (xs ≡ ys) × (r ≡ s)
cut_once byte [] [] r s p q e = (refl, cc)
cut_once byte [] (y ∷ ys) r s p q e = absurd (lacks_none byte y ys q (cc))
cut_once byte (x ∷ xs) [] r s p q e = absurd (lacks_none byte x xs p (cc))
cut_once byte (x ∷ xs) (y ∷ ys) r s p q e =
    let rest = cut_once byte xs ys r s (lacks_tail byte x xs p) (lacks_tail byte y ys q) (cc) in
    let head : x ≡ y = cc in
    (ap (λ z. z ∷ xs) head ∙ ap (λ zs. y ∷ zs) rest.0, rest.1)

pub fronts_differ : (xs ys : List ℕ) → xs ≡ ys → (get_or xs 0 0 == get_or ys 0 0) ≡ false → ⊥
fronts_differ xs ys same apart = true≢false (sym (eq-eqb (get_or xs 0 0) (get_or ys 0 0) (ap (λ zs. get_or zs 0 0) same)) ∙ apart)

-- lines without a line feed
abbrev pub AreLines : List (List ℕ) → Type 0
AreLines lines = AllByRecursion (λ line. lacks 10 line ≡ true) lines

pub lines_both : (xs ys : List (List ℕ)) → AreLines xs → AreLines ys → AreLines (xs ++ ys)
lines_both [] ys p q = q
lines_both (x ∷ xs) ys p q = (p.0, lines_both xs ys p.1 q)

none_some : (y rest : List ℕ) → [] ≡ with_feed y ++ rest → ⊥
none_some [] rest e = cc
none_some (b ∷ y) rest e = cc

pub lines_once : (xs ys : List (List ℕ)) → AreLines xs → AreLines ys → flat_map with_feed xs ≡ flat_map with_feed ys → xs ≡ ys
lines_once [] [] p q e = refl
lines_once [] (y ∷ ys) p q e = absurd (none_some y (flat_map with_feed ys) e)
lines_once (x ∷ xs) [] p q e = absurd (none_some x (flat_map with_feed xs) (sym e))
lines_once (x ∷ xs) (y ∷ ys) p q e =
    let cut = cut_once 10 x y (flat_map with_feed xs) (flat_map with_feed ys) p.0 q.0
    (sym (append_assoc x (codes "\n") (flat_map with_feed xs)) ∙ e ∙ append_assoc y (codes "\n") (flat_map with_feed ys)) in
    ap (λ z. z ∷ xs) cut.0 ∙ ap (λ zs. y ∷ zs) (lines_once xs ys p.1 q.1 cut.1)
