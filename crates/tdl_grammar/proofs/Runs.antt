-- A machine over several tokens.
--     goes_on, stops_at    its first step
--     run-append           tokens in two parts
--     Split, split         the first part ends well, or its stop is the whole's
--     run-read             how many tokens are read
--     run-untested         what is read with tests is read without them
use Rattle.std.proofs.Common.{◌≡◌, ℕ, suc, ◌+◌, Ok, Err, List, [], ◌∷◌, ◌++◌, length, refl, ap, ◌∙◌, arith}
use Rattle.tdl_grammar.specs.Machine.{Stop, Taken, and_then, run}
use Rattle.tdl_grammar.proofs.Tests.{ok_is, ok_fails}

module _ {State Token Kind Place : Type 0} (take : State → Token → Taken State Kind Place) where
  -- a run that ends well begins with a step that does
  pub record Begins (s : State) (t : Token) (others : List Token) (f : State) : Type 0 where
    pub next : State
    pub taken : take s t ≡ Ok next
    pub more : run take next others ≡ Ok f

  begins_in : (s : State) (t : Token) (others : List Token) (f : State) (r : Taken State Kind Place) → take s t ≡ r
      → and_then r (λ next. run take next others) ≡ Ok f → Begins s t others f
  begins_in s t others f (Ok next) is e = record { next = next; taken = is; more = e }
  begins_in s t others f (Err fault) is e = absurd (ok_fails (Err fault) f fault e refl)

  pub begins : (s : State) (t : Token) (others : List Token) (f : State) → run take s (t ∷ others) ≡ Ok f → Begins s t others f
  begins s t others f e = begins_in s t others f (take s t) refl e

  pub goes_on : (s : State) (t : Token) (others : List Token) (next : State) (r : Taken State Kind Place) → take s t ≡ Ok next
      → run take next others ≡ r → run take s (t ∷ others) ≡ r
  goes_on s t others next r e k = ap (λ (x : Taken State Kind Place). and_then x (λ f. run take f others)) e ∙ k

  pub stops_at : (s : State) (t : Token) (others : List Token) (fault : Stop Kind Place) → take s t ≡ Err fault → run take s (t ∷ others) ≡ Err fault
  stops_at s t others fault e = ap (λ (x : Taken State Kind Place). and_then x (λ f. run take f others)) e

  pub run-append : (front more : List Token) (s f : State) → run take s front ≡ Ok f → run take s (front ++ more) ≡ run take f more
  run-append [] more s f e = ap (λ (x : State). run take x more) (ok_is (Ok s) s f refl e)
  run-append (t ∷ front) more s f e =
      let b = begins s t front f e in
      goes_on s t (front ++ more) b.next (run take f more) b.taken (run-append front more b.next f b.more)

  pub data Split (s : State) (front more : List Token) : Type 0 where
    goes : (f : State) → run take s front ≡ Ok f → run take s (front ++ more) ≡ run take f more → Split s front more
    stops : (fault : Stop Kind Place) → run take s front ≡ Err fault → run take s (front ++ more) ≡ Err fault → Split s front more

  fault_after : (s : State) (t : Token) (front more : List Token) (fault : Stop Kind Place) (r : Taken State Kind Place) → take s t ≡ r
      → and_then r (λ next. run take next front) ≡ Err fault →
      ((next : State) → run take next front ≡ Err fault → run take next (front ++ more) ≡ Err fault) → run take s (t ∷ front ++ more) ≡ Err fault
  fault_after s t front more fault (Ok next) is e each = goes_on s t (front ++ more) next (Err fault) is (each next e)
  fault_after s t front more fault (Err x) is e each = stops_at s t (front ++ more) x is ∙ e

  pub fault_before : (front more : List Token) (s : State) (fault : Stop Kind Place) → run take s front ≡ Err fault → run take s (front ++ more) ≡ Err fault
  fault_before [] more s fault e = absurd (ok_fails (Ok s) s fault refl e)
  fault_before (t ∷ front) more s fault e = fault_after s t front more fault (take s t) refl e (λ next. fault_before front more next fault)

  split_by : (s : State) (front more : List Token) (r : Taken State Kind Place) → run take s front ≡ r → Split s front more
  split_by s front more (Ok f) e = goes f e (run-append front more s f e)
  split_by s front more (Err fault) e = stops fault e (fault_before front more s fault e)

  pub split : (s : State) (front more : List Token) → Split s front more
  split s front more = split_by s front more (run take s front) refl

  pub run-read : (read : State → ℕ) → ((s f : State) (t : Token) → take s t ≡ Ok f → read f ≡ suc (read s)) → (tokens : List Token) (s f : State)
      → run take s tokens ≡ Ok f → read f ≡ read s + length tokens
  run-read read counts [] s f e = let same = ok_is (Ok s) s f refl e in omega (arith, ap read same)
  run-read read counts (t ∷ others) s f e =
      let b = begins s t others f e in
      let first : read b.next ≡ suc (read s) = counts s b.next t b.taken in
      let more : read f ≡ read b.next + length others = run-read read counts others b.next f b.more in
      omega arith

-- what one machine takes another takes too
pub run-untested : {State Token Kind Place : Type 0} (take other : State → Token → Taken State Kind Place)
    → ((s f : State) (t : Token) → take s t ≡ Ok f → other s t ≡ Ok f) → (tokens : List Token) (s f : State) → run take s tokens ≡ Ok f
    → run other s tokens ≡ Ok f
run-untested take other same [] s f e = e
run-untested take other same (t ∷ others) s f e =
    let b = begins take s t others f e in
    goes_on other s t others b.next (Ok f) (same s b.next t b.taken) (run-untested take other same others b.next f b.more)
