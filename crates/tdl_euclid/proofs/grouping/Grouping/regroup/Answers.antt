use Rattle.std.proofs.Common.{◌≡◌, ◌<◌, ◌≤◌, ◌+◌, ◌-◌, ◌*◌, length, ap, sym, ◌∙◌, length-append, arith}
use Rattle.std.proofs.Math.Nat.{le-mul_of_pos_right}
use Rattle.tdl_euclid.specs.Euclid.{regrouped}
use Rattle.tdl_euclid.proofs.ListLemmas.{equals, more_counts, regrouped_values, regrouped-more_left, regrouped-more_right}
use Rattle.tdl_euclid.proofs.grouping.Grouping.regroup.Goals as goal

pub append-left-requires : goal.append-left-requires
append-left-requires c =
    let more : (1 < c.self.inside.left_count) × (1 < c.self.inside.right_count) = more_counts _ _ _ _ _ c.self.view_is c.requires in
    let lefts : length c.self.inside.left ≤ length c.self.inside.left * c.self.inside.left_count = le-mul_of_pos_right _ (omega arith) in
    let rights : length c.self.inside.right ≤ length c.self.inside.right * c.self.inside.right_count = le-mul_of_pos_right _ (omega arith) in
    omega (arith, c.self.invariant)

pub invariant_of-result : goal.invariant_of-result
invariant_of-result c =
    let size : length c.append-left.result ≡ length c.self.inside.left + length c.self.inside.right = ap (λ xs. length xs) c.append-left.ensures
    ∙ length-append c.self.inside.left c.self.inside.right in
    omega (
      arith,
      c.self.invariant,
      ap (λ n. c.self.inside.right_count * n) size,
      regrouped_values c.self.inside.left_count c.self.inside.right_count (length c.self.inside.left) (length c.self.inside.right) (omega arith),
    )

pub invariant_of-result-2 : goal.invariant_of-result-2
invariant_of-result-2 c =
    let size : length c.append-left.result ≡ length c.self.inside.right + length c.self.inside.left = ap (λ xs. length xs) c.append-left.ensures
    ∙ omega (arith, length-append c.self.inside.left c.self.inside.right) in
    omega (
      arith,
      c.self.invariant,
      ap (λ n. c.self.inside.left_count * n) size,
      regrouped_values c.self.inside.right_count c.self.inside.left_count (length c.self.inside.right) (length c.self.inside.left) c.if-self.false,
    )

pub returns-then-self : goal.returns-then-self
returns-then-self c =
    ap (λ x. equals c.self.inside.right_count x (c.self.inside.left_count - c.self.inside.right_count) c.self.inside.left) c.append-left.ensures
    ∙ (sym (regrouped-more_left c.self.inside.left_count c.self.inside.right_count c.self.inside.left c.self.inside.right c.if-self.true)
    ∙ ap regrouped c.self.view_is)

pub returns : goal.returns
returns c =
    ap (λ x. equals c.self.inside.left_count x (c.self.inside.right_count - c.self.inside.left_count) c.self.inside.right) c.append-left.ensures
    ∙ (sym (regrouped-more_right c.self.inside.left_count c.self.inside.right_count c.self.inside.left c.self.inside.right c.if-self.false)
    ∙ ap regrouped c.self.view_is)
