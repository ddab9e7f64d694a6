-- A grammar: which trees spell which tokens, and the rules that a tree has to meet besides.
--     Test             a rule on a tree, made once so many tokens are read: the fault and its place, if the
--                      rule does not hold
--     Grammar          the whole, with what is answered for a token with which no text goes on
use Rattle.std.specs.Prelude.{ℕ, Bool, List}

pub record Test (Kind Place : Type 0) : Type 0 where
  pub kind : Kind
  pub at : Place
  -- how many tokens there are up to the end of what the rule speaks of
  pub ends : ℕ
  -- the rule is not made before a token that is joined to the last of these
  pub waits : Bool
  pub holds : Bool

pub record Grammar : Type 1 where
  pub Token : Type 0
  pub Tree : Type 0
  -- what is told of a fault, and where it stands: at a token, or at an offset in one
  pub Kind : Type 0
  pub Place : Type 0
  -- the tokens of a whole text, and its tree
  pub Reads : List Token → Tree → Type 0
  -- the rules on a tree, in the order in which its text is read
  pub tests : Tree → List (Test Kind Place)
  -- the token stands directly after the one before it, and might go on with it
  pub is_joined : Token → Bool
  -- the fault of a token after others
  pub wrong_kind : List Token → Token → Kind
  pub wrong_at : List Token → Token → Place
