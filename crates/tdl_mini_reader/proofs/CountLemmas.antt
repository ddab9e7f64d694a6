-- The last element of a group, and how often it is played.
use Rattle.std.proofs.Common.{◌≡◌, ℕ, ◌+◌, ◌*◌, ◌-◌, ◌<◌, ◌≤◌, Option, List, [], ◌∷◌, ◌++◌, length, take, get_or, ap, sym, ◌∙◌, arith}
use Rattle.std.proofs.lemmas.List.{take_more}
use Rattle.std.proofs.lemmas.List.Sums.{fold_push}
use Rattle.std.proofs.Math.Seq.{take-length}
use Rattle.tdl_mini_tree.specs.declared.leaves.Number.{Number}
use Rattle.tdl_mini_tree.specs.declared.tree.Element.{Element}
use Rattle.tdl_mini_tree.specs.declared.tree.Element.TheVariants.{Played}
use Rattle.tdl_mini_tree.specs.declared.tree.MiniStep.{MiniStep}
use Rattle.tdl_mini_reader.specs.declared.levels.Level.{Level}
use Rattle.tdl_mini_tree.specs.Tree as tree
use Rattle.tdl_mini_tree.specs.Sizes.{size_of, and_steps, times_of, weight_of}
use Rattle.tdl_mini_tree.specs.SizeView.{size_value}
use Rattle.tdl_mini_tree.specs.View.{group_of, element_of}

pub last_split : (xs : List Element) (x : Element) → 0 < length xs → x ≡ get_or xs (length xs - 1) x → xs ≡ take (length xs - 1) xs ++ x ∷ []
last_split xs x filled at =
    let more = take_more xs (length xs - 1) x (omega arith) in
    let e : length xs - 1 + 1 ≡ length xs = omega arith in
    sym (take-length xs) ∙ ap (λ n. take n xs) (sym e) ∙ more ∙ ap (λ y. take (length xs - 1) xs ++ y ∷ []) (sym at)

played_size : (l : Level) (front : List Element) (step : MiniStep) (weight count : Option Number) → l.elements.items ≡ front ++ Played step weight count ∷ []
    → size_value l.size ≡ and_steps (size_of (group_of [] front)) (times_of count) (weight_of weight)
played_size l front step weight count e = l.sizes [] ∙ ap (λ es. size_of (group_of [] es)) e
    ∙ ap size_of (fold_push (λ g x. tree.element g (element_of [] x)) tree.no_element front (Played step weight count))

pub played_steps : (l : Level) (xs : List Element) (x : Element) (step : MiniStep) (weight count : Option Number) (times : ℕ) → xs ≡ l.elements.items
    → 0 < length xs → x ≡ get_or xs (length xs - 1) x → x ≡ Played step weight count → times ≡ times_of count → times ≤ l.size.steps
played_steps l xs x step weight count times e filled at is h =
    let size = played_size l (take (length xs - 1) xs) step weight count (sym e ∙ last_split xs x filled at ∙ ap (λ y. take (length xs - 1) xs ++ y ∷ []) is) in
    let steps = ap (λ z. z.steps) size in
    omega (arith, steps, h)

pub played_sum : (l : Level) (xs : List Element) (x : Element) (step : MiniStep) (weight count : Option Number) (times : ℕ) → xs ≡ l.elements.items
    → 0 < length xs → x ≡ get_or xs (length xs - 1) x → x ≡ Played step weight count → times ≡ times_of count → times * l.size.last ≤ l.size.sum
played_sum l xs x step weight count times e filled at is h =
    let size = played_size l (take (length xs - 1) xs) step weight count (sym e ∙ last_split xs x filled at ∙ ap (λ y. take (length xs - 1) xs ++ y ∷ []) is) in
    let last : l.size.last ≡ weight_of weight = ap (λ z. z.last) size in
    let sum = ap (λ z. z.sum) size in
    rw (h, last) (omega (arith, sum))
