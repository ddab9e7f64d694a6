-- What the bytes of forms pass.
--     passes_too       each byte that passes one test passes another
--     passes-append    what the bytes of two texts pass, those of both together pass
--     number_passes    what `-`, the bytes of runs and the marks of tails pass, the bytes of a number pass
use Rattle.std.specs.List.{list_all}
use Rattle.std.specs.Char.{is_ascii_digit}
use Rattle.std.proofs.Common.{◌≡◌, ℕ, Bool, true, false, List, [], ◌∷◌, ◌++◌, get_or, refl, ◌∙◌}
use Rattle.std.proofs.lemmas.Bool.{and_from}
use Rattle.std.proofs.lemmas.List.Folds.{list_all-append}
use Rattle.std.proofs.lemmas.List.Sums.{AllPass-from_list_all, list_all-from_AllPass}
use Rattle.tdl_lexer.specs.Bytes.{is_run_byte}
use Rattle.tdl_lexer.specs.Numbers.{Number, number_text, minus_text, is_tail_mark, IsTail, IsNumber}
use Rattle.tdl_lexer.proofs.NumberLemmas.{digit_is_run_byte}

pub passes_too : {A : Type 0} (p q : A → Bool) → ((x : A) → p x ≡ true → q x ≡ true) → (xs : List A) → list_all p xs ≡ true → list_all q xs ≡ true
passes_too p q more xs h = list_all-from_AllPass q xs (λ k d inside. more (get_or xs k d) (AllPass-from_list_all p xs h k d inside))

pub passes-append : {A : Type 0} (p : A → Bool) (a b : List A) → list_all p a ≡ true → list_all p b ≡ true → list_all p (a ++ b) ≡ true
passes-append p a b h k = list_all-append p a b ∙ and_from (list_all p a) (list_all p b) h k

module _ (p : ℕ → Bool) (minus : p 45 ≡ true) (runs : (byte : ℕ) → is_run_byte byte ≡ true → p byte ≡ true)
    (marks : (byte : ℕ) → is_tail_mark byte ≡ true → p byte ≡ true) where
  minus_passes : (b : Bool) → list_all p (minus_text b) ≡ true
  minus_passes true = and_from (p 45) true minus refl
  minus_passes false = refl

  tail_passes : (tail after : List ℕ) → IsTail tail after → list_all p tail ≡ true
  tail_passes [] after h = refl
  tail_passes (mark ∷ digits) after h =
      and_from (p mark) (list_all p digits) (marks mark h.0) (passes_too is_ascii_digit p (λ byte d. runs byte (digit_is_run_byte byte d)) digits h.2)

  pub number_passes : (n : Number) (last : ℕ) (after : List ℕ) → IsNumber n last after → list_all p (number_text n) ≡ true
  number_passes n last after h =
      passes-append p (minus_text n.negative) (n.whole ++ n.tail) (minus_passes n.negative)
      (passes-append p n.whole n.tail (passes_too is_run_byte p runs n.whole h.run.bytes) (tail_passes n.tail after h.tail))
