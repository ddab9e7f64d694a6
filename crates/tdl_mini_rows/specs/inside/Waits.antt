-- Braces that wait for their factor.
--     Wait, waits_at       the sequences of such a brace, and its values
--     waits_built          braces one after another, each as a selector
--     back                 the argument that the first are, where what follows the last is this factor
use Rattle.std.specs.Prelude.{◌≡◌, List, [], ◌∷◌, ◌++◌, map, All, Result, MatchResult}
use Rattle.tdl_fraction.specs.Rational.{Rational}
use Rattle.tdl_expr.specs.declared.nodes.Node.{Node}
use Rattle.tdl_expr.specs.declared.tables.PushFault.{PushFault}
use Rattle.tdl_mini_tree.specs.Tree.{Layers}
use Rattle.tdl_mini_tree.specs.Values.{values_of}
use Rattle.tdl_mini_rows.specs.declared.brackets.Waiting.{Waiting}
use Rattle.tdl_rows.specs.Built.{Built, kept, ◌▸◌}
use Rattle.tdl_rows.specs.Joined.{Weighted, Argument, picked, choose}
use Rattle.tdl_mini_rows.specs.Leaves.{distinct}
use Rattle.tdl_mini_rows.specs.Lowered.{layers_built, in_turn, indices_of, paced_stack}
use Rattle.tdl_rows.specs.Lowers.{Gains, Refused}
use Rattle.tdl_mini_rows.specs.inside.Views.{steps_at, AreRows}
use Rattle.std.specs.List.{fold}

pub record Wait : Type 0 where
  pub sequences : List Weighted
  pub values : List Rational

abbrev pub wait_at : List Node → Waiting → Wait
wait_at nodes w = record { sequences = steps_at nodes w.sequences.items; values = w.values }

abbrev pub waits_at : List Node → List Waiting → List Wait
waits_at nodes ws = map (wait_at nodes) ws

abbrev pub AreWaiting : List Node → List Waiting → Type 0
AreWaiting nodes ws = All (λ w. AreRows nodes w.sequences.items) ws

abbrev pub and_wait : Built (List Wait) → Layers → Built (List Wait)
and_wait built ls =
    built ▸ λ ws.
    layers_built (indices_of ls) in_turn ls ▸ λ ss.
    kept (ws ++ record { sequences = ss; values = distinct (values_of ls) } ∷ [])

abbrev pub waits_built : List Layers → Built (List Wait)
waits_built layers = fold and_wait (kept []) layers

abbrev pub back : List Wait → Argument → Built Argument
back [] factor = kept factor
back (w ∷ ws) factor = back ws factor ▸ λ argument. choose argument (paced_stack w.sequences) ▸ λ t. kept (picked t w.values)

pub record LowersWaits (old new : List Node) (built : Built (List Wait)) (ws : List Waiting) : Type 0 where
  pub rows : AreWaiting new ws
  pub are : waits_at new ws ≡ built.value
  pub gains : Gains old new built.rows

-- what a call that answers such braces put into the table
abbrev pub LowersToWaits : {A : Type 0} → (A → List Waiting) → List Node → List Node → Built (List Wait) → Result A PushFault → Type 0
LowersToWaits waiting old new built result = MatchResult result (λ a. LowersWaits old new built (waiting a)) (Refused old new built.rows)
