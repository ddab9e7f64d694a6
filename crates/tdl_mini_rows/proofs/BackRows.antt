-- Choices for braces whose factors come after them, from the last to the first.
use Rattle.std.proofs.Common.{length, ◌≤◌, ◌≡◌, ℕ, List, [], ◌∷◌, ◌++◌, sym, ap, ◌∙◌, subst, arith, append_assoc, append-nil}
use Rattle.std.specs.List.{All}
use Rattle.std.proofs.lemmas.List.{map-append}
use Rattle.std.proofs.lemmas.List.Elements.{All-cons, All-head, All-tail}
use Rattle.tdl_expr.specs.declared.args.Arg.{Arg}
use Rattle.tdl_expr.specs.declared.args.Arg.TheVariants.{Chosen}
use Rattle.tdl_expr.specs.declared.ids.NodeId.{NodeId}
use Rattle.tdl_expr.specs.declared.nodes.Node.{Node}
use Rattle.tdl_expr.specs.declared.tables.PushFault.{PushFault}
use Rattle.tdl_expr.specs.Tree.{Tree}
use Rattle.tdl_mini_rows.specs.declared.brackets.Waiting.{Waiting}
use Rattle.tdl_mini_rows.specs.inside.Bounds.{IsBounded, AreBounded}
use Rattle.tdl_rows.specs.Built.{Built}
use Rattle.tdl_rows.specs.Joined.{Weighted, Argument, picked, choose}
use Rattle.tdl_mini_rows.specs.Lowered.{paced_stack}
use Rattle.tdl_rows.specs.Lowers.{Gains, Refused, Lowers}
use Rattle.tdl_rows.specs.Arguments.{argument_at, LowersArg}
use Rattle.tdl_mini_rows.specs.inside.Views.{steps_at, AreRows}
use Rattle.tdl_mini_rows.specs.inside.Waits.{Wait, wait_at, waits_at, AreWaiting, back}
use Rattle.tdl_rows.proofs.Gained.{Gains-append, Refused-append, Refused-first}
use Rattle.tdl_mini_rows.specs.inside.Stays.{steps_after, steps_at-after}
use Rattle.tdl_rows.proofs.Loops.{refused_along}

-- some of the last are done, and the others are left
pub record IsBack (old new : List Node) (all left : List Waiting) (factor argument : Arg) : Type 0 where
  pub done : List Waiting
  pub whole : all ≡ left ++ done
  pub lowers : LowersArg old new (back (waits_at old done) (argument_at old factor)) argument

middle : (P : Waiting → Type 0) (front : List Waiting) (w : Waiting) (rest : List Waiting) → All P (front ++ w ∷ rest) → P w
middle P [] w rest all = All-head P w rest all
middle P (v ∷ front) w rest all = middle P front w rest (All-tail P v (front ++ w ∷ rest) all)

-- what bounds those that wait bounds the last of them, and the others
pub bounded_last : (front : List Waiting) (w : Waiting) → AreBounded (front ++ w ∷ []) → IsBounded w
bounded_last front w all = middle IsBounded front w [] all

pub bounded_front : (front : List Waiting) (w : Waiting) → AreBounded (front ++ w ∷ []) → AreBounded front
bounded_front [] w all = λ k d h. absurd (omega arith)
bounded_front (v ∷ front) w all =
    All-cons IsBounded v front (All-head IsBounded v (front ++ w ∷ []) all) (bounded_front front w (All-tail IsBounded v (front ++ w ∷ []) all))

back_rows : (front rest : List Wait) (a : Argument) → (more : List ℕ) × ((back (front ++ rest) a).rows ≡ (back rest a).rows ++ more)
back_rows [] rest a = ([], sym (append-nil (back rest a).rows))
back_rows (w ∷ front) rest a =
    let before = back_rows front rest a in
    let last = ((choose (back (front ++ rest) a).value (paced_stack w.sequences)).rows ++ []) in
    (before.0 ++ last, ap (λ (ns : List ℕ). ns ++ last) before.1 ∙ append_assoc (back rest a).rows before.0 last)

module _ (old mid : List Node) (all left rest : List Waiting) (w : Waiting) (factor argument : Arg) (are : AreWaiting old all)
    (before : IsBack old mid all left factor argument) (last : left ≡ rest ++ w ∷ []) where
  split : all ≡ rest ++ w ∷ before.done
  split = before.whole ∙ (ap (λ (ws : List Waiting). ws ++ before.done) last ∙ append_assoc rest (w ∷ []) before.done)

  rows_before : AreRows old w.sequences.items
  rows_before = middle (λ v. AreRows old v.sequences.items) rest w before.done (subst (AreWaiting old) split are)

  pub rows_here : AreRows mid w.sequences.items
  rows_here = steps_after before.lowers.gains w.sequences.items rows_before

  same : choose (argument_at mid argument) (paced_stack (steps_at mid w.sequences.items)) ≡ choose
      (back (waits_at old before.done) (argument_at old factor)).value (paced_stack (steps_at old w.sequences.items))
  same =
      ap (λ (a : Argument). choose a (paced_stack (steps_at mid w.sequences.items))) before.lowers.is
      ∙ ap (λ (ss : List Weighted). choose (back (waits_at old before.done) (argument_at old factor)).value (paced_stack ss))
      (steps_at-after before.lowers.gains w.sequences.items rows_before)

  pub back_more : length w.values ≤ 2048 → (new : List Node) (id : NodeId)
      → Lowers mid new (choose (argument_at mid argument) (paced_stack (steps_at mid w.sequences.items))) id
      → IsBack old new all rest factor (Chosen id w.values)
  back_more few new id made =
      let P : Built Tree → Type 0 = λ b. Lowers mid new b id in
      let here = subst P same made in
      record {
        done = w ∷ before.done;
        whole = split;
        lowers = record {
          row = (here.row, omega (arith, few));
          few = few;
          is = ap (λ (t : Tree). picked t w.values) here.is;
          gains = Gains-append before.lowers.gains (subst (Gains mid new) (sym (append-nil _)) here.gains);
        };
      }

  pub back_refused : (new : List Node) (fault : PushFault) → Refused mid new
      (choose (argument_at mid argument) (paced_stack (steps_at mid w.sequences.items))).rows fault
      → Refused old new (back (waits_at old all) (argument_at old factor)).rows fault
  back_refused new fault refused =
      let P : Built Tree → Type 0 = λ b. Refused mid new b.rows fault in
      let here = Refused-append before.lowers.gains (Refused-first [] (subst P same refused)) in
      let front = back_rows (waits_at old rest) (waits_at old (w ∷ before.done)) (argument_at old factor) in
      let whole : waits_at old all ≡ waits_at old rest ++ waits_at old (w ∷ before.done) = ap (waits_at old) split
      ∙ map-append (wait_at old) rest (w ∷ before.done) in
      refused_along old new _ _ fault (sym (ap (λ (ws : List Wait). (back ws (argument_at old factor)).rows) whole ∙ front.1)) (Refused-first front.0 here)
