-- What a tape takes, what it answers, and what it refuses.
use Rattle.std.specs.Prelude.{◌≡◌, ℕ, ◌<◌, ◌≤◌, ◌⊎◌, List, length, All}
use Rattle.tdl_tape.specs.declared.tape.Entry.{Entry}
use Rattle.tdl_tape.specs.declared.tape.Refusal.{Refusal}
use Rattle.tdl_tape.specs.declared.tape.Refusal.TheVariants.{TooLarge, NoMemory}

abbrev pub greatest : ℕ
greatest = 99

abbrev pub IsLegal : List Entry → Type 0
IsLegal entries = All (λ (e : Entry). e.number ≤ greatest) entries

-- a number up to 99 is put at the end, and the reply is how many entries were before
abbrev pub Adds : List Entry → ℕ → ℕ → Entry → ℕ → Type 0
Adds entries who number e reply = (e ≡ record { who = who; number = number }) × (number ≤ greatest) × (reply ≡ length entries)

-- a greater one is too large, and any other is refused only where memory runs out
abbrev pub Refuses : List Entry → ℕ → Refusal → Type 0
Refuses entries number refusal = ((greatest < number) × (refusal ≡ TooLarge (length entries))) ⊎ ((number ≤ greatest) × (refusal ≡ NoMemory))
