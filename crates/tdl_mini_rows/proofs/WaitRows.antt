-- Braces that are pushed and wait, and the factor that comes after them.
use Rattle.std.proofs.Common.{◌≡◌, ℕ, ◌+◌, ◌<◌, List, [], ◌∷◌, ◌++◌, map, length, take, get_or, Result, refl, sym, ap, ◌∙◌, subst, append-nil}
use Rattle.std.proofs.lemmas.List.{map-append}
use Rattle.std.proofs.lemmas.List.Elements.{All-head, All-tail}
use Rattle.std.proofs.lemmas.List.Folds.{fold-map}
use Rattle.tdl_fraction.specs.Rational.{Rational}
use Rattle.tdl_expr.specs.declared.args.Arg.{Arg}
use Rattle.tdl_expr.specs.declared.nodes.Node.{Node}
use Rattle.tdl_expr.specs.declared.tables.PushFault.{PushFault}
use Rattle.tdl_mini_tree.specs.declared.tree.NestId.{NestId}
use Rattle.tdl_mini_tree.specs.Tree.{Layers}
use Rattle.tdl_mini_tree.specs.Values.{values_of}
use Rattle.tdl_mini_tree.specs.View.{named}
use Rattle.tdl_mini_rows.specs.declared.brackets.Waiting.{Waiting}
use Rattle.tdl_mini_rows.specs.declared.joins.WeightedRow.{WeightedRow}
use Rattle.tdl_rows.specs.Built.{Built, kept, ◌▸◌}
use Rattle.tdl_rows.specs.Joined.{Weighted, Argument}
use Rattle.tdl_mini_rows.specs.Leaves.{distinct, index_leaf}
use Rattle.tdl_mini_rows.specs.Lowered.{in_turn, indices_of, layers_built}
use Rattle.tdl_rows.specs.Lowers.{Gains, Refused}
use Rattle.tdl_rows.specs.Arguments.{argument_at, LowersArg, LowersToArg}
use Rattle.tdl_mini_rows.specs.inside.Views.{steps_at, AreRows, LowersSteps}
use Rattle.tdl_mini_rows.specs.inside.Waits.{Wait, wait_at, waits_at, AreWaiting, and_wait, waits_built, back, LowersWaits}
use Rattle.tdl_rows.proofs.Gained.{Gains-append, Refused-append, Refused-first, result_then}
use Rattle.tdl_rows.proofs.Loops.{after, run, run_more, run_refused, All-one_more}
use Rattle.tdl_mini_rows.specs.inside.Stays.{steps_after, steps_at-after}
use Rattle.tdl_mini_rows.proofs.OperandRows.{all_back}

module _ {old mid : List Node} {links : List ℕ} (gains : Gains old mid links) where
  waiting_after : (ws : List Waiting) → AreWaiting old ws → AreWaiting mid ws
  waiting_after ws all = λ k d h. steps_after gains (get_or ws k d).sequences.items (all k d h)

  waits_at-after : (ws : List Waiting) → AreWaiting old ws → waits_at mid ws ≡ waits_at old ws
  waits_at-after [] all = refl
  waits_at-after (w ∷ ws) all =
      let first : steps_at mid w.sequences.items ≡ steps_at old w.sequences.items =
      steps_at-after gains w.sequences.items (All-head (λ v. AreRows old v.sequences.items) w ws all) in
      let rest : waits_at mid ws ≡ waits_at old ws = waits_at-after ws (All-tail (λ v. AreRows old v.sequences.items) w ws all) in
      ap (λ (ss : List Weighted). (let v : Wait = record { sequences = ss; values = w.values } in v) ∷ waits_at mid ws) first
      ∙ ap (λ (vs : List Wait). wait_at old w ∷ vs) rest

module _ (trees : List Layers) where
  abbrev wait_step : List Wait → NestId → Built (List Wait)
  wait_step ws id = layers_built (indices_of (named trees id)) in_turn (named trees id) ▸ λ ss. kept
      (ws ++ record { sequences = ss; values = distinct (values_of (named trees id)) } ∷ [])

  waits_run : (ids : List NestId) → waits_built (map (named trees) ids) ≡ run wait_step (kept []) ids
  waits_run ids = fold-map and_wait (named trees) (kept []) ids

  module _ {old mid : List Node} {ws : List Waiting} (ids : List NestId) (i : ℕ) (id : NestId) (h : i < length ids) (is : get_or ids i id ≡ id)
      (before : LowersWaits old mid (waits_built (map (named trees) (take i ids))) ws) (numbers : List Rational)
      (same : numbers ≡ distinct (values_of (named trees id))) where
    at_run : LowersWaits old mid (run wait_step (kept []) (take i ids)) ws
    at_run = let P : Built (List Wait) → Type 0 = λ b. LowersWaits old mid b ws in subst P (waits_run (take i ids)) before

    sequences_are : layers_built (index_leaf numbers) in_turn (named trees id) ≡ layers_built (indices_of (named trees id)) in_turn (named trees id)
    sequences_are = ap (λ (ns : List Rational). layers_built (index_leaf ns) in_turn (named trees id)) same

    pub waits_refused : (new : List Node) (fault : PushFault) → Refused mid new (layers_built (index_leaf numbers) in_turn (named trees id)).rows fault
        → Refused old new (waits_built (map (named trees) ids)).rows fault
    waits_refused new fault refused =
        let P : Built (List Weighted) → Type 0 = λ b. Refused mid new b.rows fault in
        let R : NestId → Type 0 = λ x. Refused mid new (wait_step (run wait_step (kept []) (take i ids)).value x).rows fault in
        let Q : Built (List Wait) → Type 0 = λ b. Refused old new b.rows fault in
        subst Q (sym (waits_run ids))
        (run_refused wait_step (kept []) ids i id h old new fault
        (Refused-append at_run.gains (subst R (sym is) (Refused-first [] (subst P sequences_are refused)))))

    pub waits_more : (new : List Node) (items : List WeightedRow) (w : Waiting) (more : List Waiting)
        → LowersSteps mid new (layers_built (index_leaf numbers) in_turn (named trees id)) items → w.sequences.items ≡ items → w.values ≡ numbers
        → more ≡ ws ++ w ∷ [] → LowersWaits old new (waits_built (map (named trees) (take (i + 1) ids))) more
    waits_more new items w more made s v e =
        let P : Built (List Weighted) → Type 0 = λ b. LowersSteps mid new b items in
        let here = subst P sequences_are made in
        let Q : Built (List Wait) → Type 0 = λ b. LowersWaits old new b more in
        let R : NestId → Type 0 = λ x. LowersWaits old new (after wait_step (run wait_step (kept []) (take i ids)) x) more in
        let one : wait_at new w
        ≡ record {
          sequences = (layers_built (indices_of (named trees id)) in_turn (named trees id)).value;
          values = distinct
              (values_of (named trees id));
        } =
        ap (λ (ss : List Weighted). let x : Wait = record { sequences = ss; values = w.values } in x) (ap (steps_at new) s ∙ here.are)
        ∙ ap (λ (vs : List Rational). let x : Wait = record
        { sequences = (layers_built (indices_of (named trees id)) in_turn (named trees id)).value; values = vs } in x) (v ∙ same) in
        subst Q (sym (waits_run (take (i + 1) ids))) (subst Q (sym (run_more wait_step (kept []) ids i id h)) (subst R (sym is) (record {
          rows = subst (AreWaiting new) (sym e)
              (All-one_more (λ u. AreRows new u.sequences.items) ws w (waiting_after here.gains ws at_run.rows) (subst (AreRows new) (sym s) here.rows));
          are = ap (waits_at new) e
              ∙ (map-append (wait_at new) ws (w ∷ [])
              ∙ (ap (λ (us : List Wait). us ++ wait_at new w ∷ []) (waits_at-after here.gains ws at_run.rows ∙ at_run.are)
              ∙ ap (λ (u : Wait). (run wait_step (kept []) (take i ids)).value ++ u ∷ []) one));
          gains = Gains-append at_run.gains (subst (Gains mid new) (sym (append-nil _)) here.gains);
        })))

-- the choices come after the factor
module _ {old one : List Node} {ws : List Waiting} (waits : Built (List Wait)) (factor : Built Argument) (first : LowersWaits old one waits ws) where
  pub factor_refused : (two : List Node) (fault : PushFault) → Refused one two factor.rows fault → Refused old two (all_back waits factor).rows fault
  factor_refused two fault h = Refused-append first.gains (Refused-first _ h)

  module _ {two : List Node} {argument : Arg} (second : LowersArg one two factor argument) where
    pub waiting_row : AreWaiting two ws
    waiting_row = waiting_after second.gains ws first.rows

    same_back : back (waits_at two ws) (argument_at two argument) ≡ back waits.value factor.value
    same_back = ap (λ (us : List Wait). back us (argument_at two argument)) (waits_at-after second.gains ws first.rows ∙ first.are)
        ∙ ap (back waits.value) second.is

    pub back_row : (new : List Node) (result : Result Arg PushFault) → LowersToArg two new (back (waits_at two ws) (argument_at two argument)) result
        → LowersToArg old new (all_back waits factor) result
    back_row new result h =
        let P : Built Argument → Type 0 = λ b. LowersToArg two new b result in
        let last = back waits.value factor.value in
        result_then new (factor.rows ++ last.rows) (LowersArg one new (factor ▸ λ a. back waits.value a))
        (LowersArg old new (all_back waits factor)) first.gains
        (λ arg made. record { row = made.row; few = made.few; is = made.is; gains = Gains-append first.gains made.gains }) result
        (result_then new last.rows (LowersArg two new last) (LowersArg one new (factor ▸ λ a. back waits.value a)) second.gains
        (λ arg made. record { row = made.row; few = made.few; is = made.is; gains = Gains-append second.gains made.gains }) result (subst P same_back h))
