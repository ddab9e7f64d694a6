-- A machine of a grammar, which takes token by token, with tests or without them.
--     TokenMachine     its states
--     Late             a test of the token itself fails
--     IsExact          what it reads is what the grammar has, test by test
use Rattle.std.specs.Prelude.{◌≡◌, ℕ, suc, Bool, true, false, not, Ok, Err, List, ◌++◌, length, IsTrue, ◌⊎◌}
use Rattle.tdl_grammar.specs.Grammar.{Grammar}
use Rattle.tdl_grammar.specs.Faults.{TestOf, GoesOn, is_put_off}
use Rattle.tdl_grammar.specs.Machine.{failed, wrong, Taken, all_checked, run}

pub record TokenMachine (g : Grammar) : Type 1 where
  pub State : Type 0
  pub first : State
  pub take : (tested : Bool) → State → g.Token → Taken State g.Kind g.Place
  -- how many tokens are read
  pub read : State → ℕ
  -- a test of the step before is owed, which fails
  pub Owes : State → TestOf g → Type 0
  -- a token that ends a text; the text is read to its end; its tree
  pub IsEnd : g.Token → Type 0
  pub IsEnded : State → Type 0
  pub tree : State → g.Tree
  -- the state after a whole text of so many tokens
  pub final : g.Tree → ℕ → State

abbrev pub runs : {g : Grammar} → (m : TokenMachine g) → Bool → List g.Token → Taken m.State g.Kind g.Place
runs m tested tokens = run (m.take tested) m.first tokens

pub record Late {g : Grammar} (m : TokenMachine g) (s : m.State) (t : g.Token) (test : TestOf g) : Type 0 where
  pub ends : test.ends ≡ suc (m.read s)
  pub made : test.waits ≡ false
  pub after : m.State
  pub goes : m.take false s t ≡ Ok after

-- an owed test is made before this token
pub record Early {g : Grammar} (m : TokenMachine g) (s : m.State) (t : g.Token) (test : TestOf g) : Type 0 where
  pub owed : m.Owes s test
  pub made : IsTrue (not (is_put_off g test t))

-- a text that begins with these tokens, and stops where the test is made
pub record Closes {g : Grammar} (m : TokenMachine g) (front : List g.Token) (s : m.State) (test : TestOf g) : Type 0 where
  pub more : List g.Token
  pub text : g.Tree
  pub reads : g.Reads (front ++ more) text
  pub fails : run (m.take true) s more ≡ Err (failed test)

pub record IsExact {g : Grammar} (m : TokenMachine g) : Type 0 where
  pub starts : m.read m.first ≡ 0
  -- one token
  pub counts : (s f : m.State) (t : g.Token) → m.take false s t ≡ Ok f → m.read f ≡ suc (m.read s)
  pub goes : (s f : m.State) (t : g.Token) → m.take true s t ≡ Ok f → m.take false s t ≡ Ok f
  pub refuses : (s : m.State) (t : g.Token) (kind : g.Kind) (at : g.Place) → m.take true s t ≡ Err (wrong kind at) → m.take false s t ≡ Err (wrong kind at)
  pub fails : (s : m.State) (t : g.Token) (test : TestOf g) → m.take true s t ≡ Err (failed test) → Early m s t test ⊎ Late m s t test
  pub answers : (front : List g.Token) (s : m.State) (t : g.Token) (kind : g.Kind) (at : g.Place) → runs m true front ≡ Ok s
      → m.take true s t ≡ Err (wrong kind at) → (kind ≡ g.wrong_kind front t) × (at ≡ g.wrong_at front t)
  -- tests that are owed
  pub owed_ends : (s : m.State) (test : TestOf g) → m.Owes s test → test.ends ≡ m.read s
  pub owed_once : (s : m.State) (a b : TestOf g) → m.Owes s a → m.Owes s b → a ≡ b
  pub owed_first : (s : m.State) (t : g.Token) (test : TestOf g) (kind : g.Kind) (at : g.Place) → m.Owes s test → m.take true s t ≡ Err (wrong kind at)
      → IsTrue (is_put_off g test t)
  pub owed_closes : (front : List g.Token) (s : m.State) (test : TestOf g) → runs m false front ≡ Ok s → m.Owes s test → Closes m front s test
  -- ends of texts
  pub end_fails : (s : m.State) (t : g.Token) (test : TestOf g) → m.IsEnd t → m.take true s t ≡ Err (failed test) → Early m s t test
  pub end_ends : (s f : m.State) (t : g.Token) → m.IsEnd t → m.take true s t ≡ Ok f → m.IsEnded f
  -- whole texts
  pub exact : (tested : Bool) (tokens : List g.Token) (tree : g.Tree) → g.Reads tokens tree
      → runs m tested tokens ≡ all_checked tested (g.tests tree) (Ok (m.final tree (length tokens)))
  pub sound : (tokens : List g.Token) (s : m.State) → runs m false tokens ≡ Ok s → m.IsEnded s → g.Reads tokens (m.tree s)
  pub opens : (front : List g.Token) (s : m.State) → runs m false front ≡ Ok s → (tree : g.Tree) × GoesOn g front tree
  pub final_tree : (tree : g.Tree) (n : ℕ) → m.tree (m.final tree n) ≡ tree
