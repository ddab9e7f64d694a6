-- Steps of the grouping: on equal lists, and on the counts of lists and of values.
use Rattle.std.proofs.Common.{◌≡◌, ℕ, zero, suc, ◌+◌, ◌-◌, ◌*◌, ◌<◌, ◌≤◌, min, Bool, true, false, List, [], ◌∷◌, ◌++◌, length, drop, replicate, refl, sym}
use Rattle.std.proofs.Common.{ap, ◌∙◌, inl, inr, arith, length-append}
use Rattle.std.specs.Prelude.{IsTrue, if◌then◌else◌}
use Rattle.std.proofs.Math.Nat.{suc-mul}
use Rattle.std.proofs.lemmas.Bool.{cases_lt, lt-ltb, le-ltb, ltb-true}
use Rattle.std.proofs.lemmas.List.{length-replicate, drop-replicate, length-drop}
use Rattle.std.proofs.Math.ListN.{drop_of_length-le}
use Rattle.tdl_euclid.specs.Euclid.{Lists, first_lists, pairs, regrouped, can_regroup, grouped, flat, laid_out}

abbrev sides : List (List Bool) → List (List Bool) → Lists
sides left right = record { left = left; right = right }

-- so many equal lists on the left, and on the right
abbrev pub equals : ℕ → List Bool → ℕ → List Bool → Lists
equals i a j b = record { left = replicate i a; right = replicate j b }

pub pairs-replicate : (i j : ℕ) (a b : List Bool) → pairs (replicate i a) (replicate j b) ≡ replicate (min i j) (a ++ b)
unfolding pairs
pairs-replicate zero zero a b = refl
pairs-replicate zero (suc j) a b = let none : 0 ≡ min 0 (suc j) = omega arith in ap (λ k. replicate k (a ++ b)) none
pairs-replicate (suc i) zero a b = let none : 0 ≡ min (suc i) 0 = omega arith in ap (λ k. replicate k (a ++ b)) none
pairs-replicate (suc i) (suc j) a b =
    let less : suc (min i j) ≡ min (suc i) (suc j) = omega arith in
    ap (λ xs. (a ++ b) ∷ xs) (pairs-replicate i j a b) ∙ ap (λ k. replicate k (a ++ b)) less

pub length-pairs : (xs ys : List (List Bool)) → length (pairs xs ys) ≡ min (length xs) (length ys)
unfolding pairs
length-pairs [] ys = omega arith
length-pairs (x ∷ xs) [] = omega arith
length-pairs (x ∷ xs) (y ∷ ys) = omega (arith, length-pairs xs ys)

-- no value is lost or won
length-flat-pairs : (xs ys : List (List Bool)) →
    length (flat (pairs xs ys)) + length (flat (drop (length ys) xs)) + length (flat (drop (length xs) ys))
    ≡ length (flat xs) + length (flat ys)
unfolding pairs
length-flat-pairs [] [] = refl
length-flat-pairs [] (y ∷ ys) = omega arith
length-flat-pairs (x ∷ xs) [] = omega arith
length-flat-pairs (x ∷ xs) (y ∷ ys) =
    omega (arith, length-flat-pairs xs ys, length-append x y, length-append (x ++ y) (flat (pairs xs ys)), length-append x (flat xs), length-append y (flat ys))

-- the longer side is the left one, or the right one
regrouped_left : (lists : Lists) → length lists.right < length lists.left →
    regrouped lists ≡ sides (pairs lists.left lists.right) (drop (length lists.right) lists.left)
regrouped_left lists h =
    ap
    (λ more. sides (pairs lists.left lists.right) (if more then drop (length lists.right) lists.left else drop (length lists.left) lists.right))
    (lt-ltb (length lists.right) (length lists.left) h)

regrouped_right : (lists : Lists) → length lists.left ≤ length lists.right →
    regrouped lists ≡ sides (pairs lists.left lists.right) (drop (length lists.left) lists.right)
regrouped_right lists h =
    ap
    (λ more. sides (pairs lists.left lists.right) (if more then drop (length lists.right) lists.left else drop (length lists.left) lists.right))
    (le-ltb (length lists.right) (length lists.left) h)

same_sides : {xs xs' ys ys' : List (List Bool)} → xs ≡ xs' → ys ≡ ys' → sides xs ys ≡ sides xs' ys'
same_sides p q = cc

pub regrouped-more_left : (i j : ℕ) (a b : List Bool) → j < i → regrouped (equals i a j b) ≡ equals j (a ++ b) (i - j) a
regrouped-more_left i j a b h =
    let less : length (replicate j b) < length (replicate i a) = omega (arith, length-replicate i a, length-replicate j b) in
    let fewer : min i j ≡ j = omega arith in
    let lefts : pairs (replicate i a) (replicate j b) ≡ replicate j (a ++ b) =
    pairs-replicate i j a b ∙ ap (λ k. replicate k (a ++ b)) fewer in
    let rights : drop (length (replicate j b)) (replicate i a) ≡ replicate (i - j) a =
    ap (λ k. drop k (replicate i a)) (length-replicate j b) ∙ drop-replicate j i a in
    regrouped_left (equals i a j b) less
    ∙ same_sides lefts rights

pub regrouped-more_right : (i j : ℕ) (a b : List Bool) → i ≤ j → regrouped (equals i a j b) ≡ equals i (a ++ b) (j - i) b
regrouped-more_right i j a b h =
    let less : length (replicate i a) ≤ length (replicate j b) = omega (arith, length-replicate i a, length-replicate j b) in
    let fewer : min i j ≡ i = omega arith in
    let lefts : pairs (replicate i a) (replicate j b) ≡ replicate i (a ++ b) =
    pairs-replicate i j a b ∙ ap (λ k. replicate k (a ++ b)) fewer in
    let rights : drop (length (replicate i a)) (replicate j b) ≡ replicate (j - i) b =
    ap (λ k. drop k (replicate j b)) (length-replicate i a) ∙ drop-replicate i j b in
    regrouped_right (equals i a j b) less
    ∙ same_sides lefts rights

pub more_lists : (lists : Lists) → IsTrue (can_regroup lists) → (1 < length lists.left) × (1 < length lists.right)
more_lists lists h =
    let more : 1 < min (length lists.left) (length lists.right) = ltb-true _ _ h in
    (omega arith, omega arith)

-- the lists of both sides
abbrev pub list_count : Lists → ℕ
list_count lists = length lists.left + length lists.right

-- as many lists are left as the longer side had
pub list_count-regrouped : (lists : Lists) → list_count (regrouped lists) + min (length lists.left) (length lists.right) ≡ list_count lists
list_count-regrouped lists = elim (cases_lt (length lists.right) (length lists.left)) [
  | inl less ↦ omega (arith, ap list_count (regrouped_left lists less), length-pairs lists.left lists.right, length-drop (length lists.right) lists.left)
  | inr less ↦ omega (arith, ap list_count (regrouped_right lists less), length-pairs lists.left lists.right, length-drop (length lists.left) lists.right)
]

pub length-laid_out-regrouped : (lists : Lists) → length (laid_out (regrouped lists)) ≡ length (laid_out lists)
length-laid_out-regrouped lists = elim (cases_lt (length lists.right) (length lists.left)) [
  | inl less ↦
      let none : drop (length lists.left) lists.right ≡ [] = drop_of_length-le lists.right (omega arith) in
      omega (
        arith,
        ap (λ l. length (laid_out l)) (regrouped_left lists less),
        length-flat-pairs lists.left lists.right,
        ap (λ xs. length (flat xs)) none,
        length-append (flat lists.left) (flat lists.right),
        length-append (flat (pairs lists.left lists.right)) (flat (drop (length lists.right) lists.left)),
      )
  | inr less ↦
      let none : drop (length lists.right) lists.left ≡ [] = drop_of_length-le lists.left less in
      omega (
        arith,
        ap (λ l. length (laid_out l)) (regrouped_right lists less),
        length-flat-pairs lists.left lists.right,
        ap (λ xs. length (flat xs)) none,
        length-append (flat lists.left) (flat lists.right),
        length-append (flat (pairs lists.left lists.right)) (flat (drop (length lists.left) lists.right)),
      )
]

pub fewer_lists : (lists : Lists) → IsTrue (can_regroup lists) → list_count (regrouped lists) < list_count lists
fewer_lists lists h = let more : (1 < length lists.left) × (1 < length lists.right) = more_lists lists h in omega (arith, list_count-regrouped lists)

-- the grouping of these lists ends in those
pub record EndsIn (last lists : Lists) : Type 0 where
  pub fuel : ℕ
  pub enough : list_count lists ≤ fuel
  pub same : grouped fuel lists ≡ last

step_ends : (fuel : ℕ) (last lists : Lists) → IsTrue (can_regroup lists) → list_count lists ≤ fuel → grouped fuel lists ≡ last →
    EndsIn last (regrouped lists)
unfolding grouped
step_ends zero last lists h enough same = absurd (omega (arith, fewer_lists lists h))
step_ends (suc fuel) last lists h enough same =
    record {
      fuel = fuel;
      enough = omega (arith, fewer_lists lists h);
      same = sym (ap (λ b. if b then grouped fuel (regrouped lists) else lists) h) ∙ same;
    }

pub EndsIn-regrouped : (last lists : Lists) → IsTrue (can_regroup lists) → EndsIn last lists → EndsIn last (regrouped lists)
EndsIn-regrouped last lists h e = step_ends e.fuel last lists h e.enough e.same

grouped_end : (fuel : ℕ) (lists : Lists) → can_regroup lists ≡ false → grouped fuel lists ≡ lists
unfolding grouped
grouped_end zero lists h = refl
grouped_end (suc fuel) lists h = ap (λ b. if b then grouped fuel (regrouped lists) else lists) h

pub EndsIn-last : (last lists : Lists) → can_regroup lists ≡ false → EndsIn last lists → lists ≡ last
EndsIn-last last lists h e = sym (grouped_end e.fuel lists h) ∙ e.same

grouped-zero : (lists : Lists) → grouped zero lists ≡ lists
unfolding grouped
grouped-zero lists = refl

end_known : (fuel : ℕ) (lists : Lists) (more : Bool) → can_regroup lists ≡ more →
    (IsTrue (can_regroup lists) → can_regroup (grouped fuel (regrouped lists)) ≡ false) →
    can_regroup (grouped (suc fuel) lists) ≡ false
unfolding grouped
end_known fuel lists true known later = ap (λ b. can_regroup (if b then grouped fuel (regrouped lists) else lists)) known ∙ later known
end_known fuel lists false known later = ap (λ b. can_regroup (if b then grouped fuel (regrouped lists) else lists)) known ∙ known

-- after as many steps as there are lists
pub can_regroup-grouped : (fuel : ℕ) (lists : Lists) → list_count lists ≤ fuel → can_regroup (grouped fuel lists) ≡ false
can_regroup-grouped zero lists h =
    ap can_regroup (grouped-zero lists) ∙ le-ltb 1 (min (length lists.left) (length lists.right)) (omega arith)
can_regroup-grouped (suc fuel) lists h =
    let later : IsTrue (can_regroup lists) → can_regroup (grouped fuel (regrouped lists)) ≡ false =
    λ more. let fewer : list_count (regrouped lists) < list_count lists = fewer_lists lists more in can_regroup-grouped fuel (regrouped lists) (omega arith) in
    end_known fuel lists (can_regroup lists) refl later

pub length-flat-replicate : (n : ℕ) (a : List Bool) → length (flat (replicate n a)) ≡ n * length a
length-flat-replicate zero a = omega arith
length-flat-replicate (suc n) a =
    omega (arith, length-flat-replicate n a, length-append a (flat (replicate n a)), suc-mul n (length a))

-- how many lists there are, where they are known
pub more_counts : (i j : ℕ) (a b : List Bool) (lists : Lists) → equals i a j b ≡ lists → IsTrue (can_regroup lists) → (1 < i) × (1 < j)
more_counts i j a b lists same h =
    let more : (1 < length (replicate i a)) × (1 < length (replicate j b)) = more_lists (equals i a j b) (ap can_regroup same ∙ h) in
    (omega (arith, length-replicate i a), omega (arith, length-replicate j b))

-- a step keeps the count of values
pub regrouped_values : (more fewer p q : ℕ) → fewer ≤ more → fewer * (p + q) + (more - fewer) * p ≡ more * p + fewer * q
regrouped_values more fewer p q h =
    let all : more ≡ fewer + (more - fewer) = omega arith in
    omega (arith, ap (λ k. k * p) all)

-- lists on the way from the first ones to the last
pub record IsOnWay (hits steps : ℕ) (lists : Lists) : Type 0 where
  pub values : length (laid_out lists) ≡ steps
  pub some : 0 < list_count lists
  pub ends : EndsIn (grouped steps (first_lists hits steps)) lists

pub IsOnWay-first : (hits steps : ℕ) → hits ≤ steps → 0 < steps → IsOnWay hits steps (first_lists hits steps)
IsOnWay-first hits steps h some =
    let lefts : length (replicate hits (true ∷ [])) ≡ hits = length-replicate hits (true ∷ []) in
    let rights : length (replicate (steps - hits) (false ∷ [])) ≡ steps - hits = length-replicate (steps - hits) (false ∷ []) in
    record {
      values = omega (
        arith,
        length-append (flat (replicate hits (true ∷ []))) (flat (replicate (steps - hits) (false ∷ []))),
        length-flat-replicate hits (true ∷ []),
        length-flat-replicate (steps - hits) (false ∷ []),
      );
      some = omega arith;
      ends = record { fuel = steps; enough = omega arith; same = refl };
    }

pub IsOnWay-regrouped : (hits steps : ℕ) (lists : Lists) → IsTrue (can_regroup lists) → IsOnWay hits steps lists → IsOnWay hits steps (regrouped lists)
IsOnWay-regrouped hits steps lists h way =
    let more : (1 < length lists.left) × (1 < length lists.right) = more_lists lists h in
    record {
      values = length-laid_out-regrouped lists ∙ way.values;
      some = omega (arith, list_count-regrouped lists);
      ends = EndsIn-regrouped _ lists h way.ends;
    }

pub list_count-first : (hits steps : ℕ) → hits ≤ steps → list_count (first_lists hits steps) ≡ steps
list_count-first hits steps h = omega (arith, length-replicate hits (true ∷ []), length-replicate (steps - hits) (false ∷ []))
