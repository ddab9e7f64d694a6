-- Texts of a grammar, and the first fault of tokens that are none.
--     IsText           the tokens are a text with this tree: the grammar spells it and each test holds
--     GoesOn           a text of the grammar begins with these tokens
--     IsFault          the first fault of the tokens, and its place
use Rattle.std.specs.Prelude.{◌≡◌, ◌<◌, not, ◌&&◌, Bool, Option, Some, List, [], ◌∷◌, ◌++◌, length, IsTrue, IfSome}
use Rattle.std.specs.List.{list_all, find}
use Rattle.tdl_grammar.specs.Grammar.{Test, Grammar}

abbrev pub TestOf : Grammar → Type 0
TestOf g = Test g.Kind g.Place

pub record IsText (g : Grammar) (tokens : List g.Token) (tree : g.Tree) : Type 0 where
  pub reads : g.Reads tokens tree
  pub held : IsTrue (list_all (λ t. t.holds) (g.tests tree))

-- the grammar has a text of this tree that begins with these tokens
abbrev pub GoesOn : (g : Grammar) → List g.Token → g.Tree → Type 0
GoesOn g front tree = (more : List g.Token) × g.Reads (front ++ more) tree

abbrev pub first_failing : (g : Grammar) → g.Tree → Option (TestOf g)
first_failing g tree = find (λ t. not t.holds) (g.tests tree)

-- a test of what ends before this token is not made there
abbrev pub is_put_off : (g : Grammar) → TestOf g → g.Token → Bool
is_put_off g test next = test.waits && g.is_joined next

-- a test of what ends with the front is made before the next token and fails before any other, whatever text
-- goes on with both, if one does
pub record Fails (g : Grammar) (front : List g.Token) (next : g.Token) (test : TestOf g) : Type 0 where
  pub ends : test.ends ≡ length front
  pub made : IsTrue (not (is_put_off g test next))
  pub text : g.Tree
  pub shown : GoesOn g front text
  pub failing : first_failing g text ≡ Some test
  pub each : (tree : g.Tree) → GoesOn g (front ++ next ∷ []) tree → first_failing g tree ≡ Some test

-- a test that is not made before this token: it is of what ends later, or put off
pub data IsAhead (g : Grammar) (front : List g.Token) (next : g.Token) (test : TestOf g) : Type 0 where
  later : length front < test.ends → IsAhead g front next test
  put_off : test.ends ≡ length front → IsTrue (is_put_off g test next) → IsAhead g front next test

-- a text goes on with the front, in no such text a test that is made before the next token is the first to
-- fail, and no text goes on with the front and the next token
pub record IsWrong (g : Grammar) (front : List g.Token) (next : g.Token) : Type 0 where
  pub text : g.Tree
  pub shown : GoesOn g front text
  pub held : (tree : g.Tree) → GoesOn g front tree → IfSome (first_failing g tree) (IsAhead g front next)
  pub none : (tree : g.Tree) → GoesOn g (front ++ next ∷ []) tree → ⊥

pub data Reason (g : Grammar) (front : List g.Token) (next : g.Token) : g.Kind → g.Place → Type 0 where
  fails : (test : TestOf g) → Fails g front next test → Reason g front next test.kind test.at
  wrong : IsWrong g front next → Reason g front next (g.wrong_kind front next) (g.wrong_at front next)

pub record IsFault (g : Grammar) (tokens : List g.Token) (kind : g.Kind) (at : g.Place) : Type 0 where
  pub front : List g.Token
  pub next : g.Token
  pub others : List g.Token
  pub joined : tokens ≡ front ++ next ∷ others
  pub reason : Reason g front next kind at
