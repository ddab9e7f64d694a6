-- What performers' lines say as the texts of histories.
--     says_reading     they have one reading at most, of a pattern that can be played
use Rattle.std.proofs.Common.{◌≡◌, ◌≤◌, ◌==◌, not, true, ℕ, Option, None, Some, IfSome, List}
use Rattle.std.specs.List.{list_all}
use Rattle.tdl_desk.specs.declared.changes.Change.{Change}
use Rattle.tdl_desk.specs.Changes.{pattern_in}
use Rattle.tdl_desk.specs.Desk.{HasOrbit}
use Rattle.tdl_expr.specs.Tree.{Tree}
use Rattle.tdl_expr.specs.Valid.{IsValid, IsWithinLimits}
use Rattle.tdl_line_changes.specs.Readings.{ReadsSwap}
use Rattle.tdl_score.specs.Readings.{IsPlayable, IsReading}
use Rattle.tdl_core.specs.Said.{Says}

both : (pattern : Option Tree) → IfSome pattern IsValid → IfSome pattern IsWithinLimits → IfSome pattern IsPlayable
both None valid limits = tt
both (Some tree) valid limits = record { valid = valid; limits = limits }

pub says_reading : ((text : List ℕ) (n m : ℕ) (c d : Change Tree) → ReadsSwap text n c → ReadsSwap text m d → (n ≡ m) × (c ≡ d))
    → ((text : List ℕ) (n : ℕ) (c : Change Tree) → ReadsSwap text n c → (1 ≤ n) × (n ≤ 4096))
    → ((text : List ℕ) (n : ℕ) (c : Change Tree) → ReadsSwap text n c → HasOrbit c)
    → ((text : List ℕ) (n : ℕ) (c : Change Tree) → ReadsSwap text n c → IfSome (pattern_in c) IsWithinLimits)
    → ((text : List ℕ) (n : ℕ) (c : Change Tree) → ReadsSwap text n c → IfSome (pattern_in c) IsValid)
    → ((text : List ℕ) (n : ℕ) (c : Change Tree) → ReadsSwap text n c → list_all (λ byte. not (byte == 10)) text ≡ true)
    → IsReading Says
says_reading one every orbit limits valid no_feed = record {
  one_every = λ text m n c d r s. (one text m n c d r.swap s.swap).0;
  one_change = λ text m n c d r s. (one text m n c d r.swap s.swap).1;
  good = λ text n c r. record {
    from_one = (every text n c r.swap).0;
    to_most = (every text n c r.swap).1;
    orbit = orbit text n c r.swap;
    playable = both (pattern_in c) (valid text n c r.swap) (limits text n c r.swap);
    one_line = no_feed text n c r.swap;
  };
}
