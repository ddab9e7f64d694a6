-- The lines of ports, by their parts.
--     port_parts    a port's line is its number and its word
--     other_port    a number above 255 is that of no port
use Rattle.std.proofs.Common.{◌≡◌, ℕ, ◌^◌, ◌<◌, List, ◌∷◌, ◌++◌, sym, ◌∙◌, arith}
use Rattle.std.specs.Prelude.{codes}
use Rattle.std.specs.Fmt.{decimal}
use Rattle.std.proofs.lemmas.Fmt.{decimal_injective}
use Rattle.tdl_log.specs.declared.ends.Ending.{Ending}
use Rattle.tdl_log.specs.LogText.{end_word, port_line}
use Rattle.tdl_log.specs.inside.Fronts.{IsCutAt}
use Rattle.tdl_log.proofs.CutLines.{cut_once}
use Rattle.tdl_log.proofs.PlainBytes.{decimal_lacks}
use Rattle.tdl_log.proofs.ReadFronts.{behind_front, cut_lacks}

pub port_parts : (line left number word : List ℕ) → line ≡ codes "port " ++ left → IsCutAt 32 left number word
    → (ending : Ending) → ending.port < 256 → line ≡ port_line ending → (number ≡ decimal ending.port) × (word ≡ end_word ending.end)
port_parts line left number word begins cut ending small e =
    let behind = behind_front (codes "port ") line left (decimal ending.port ++ 32 ∷ end_word ending.end) begins e in
    cut_once 32 number (decimal ending.port) word (end_word ending.end) (cut_lacks 32 number cut.first)
    (decimal_lacks 32 ending.port (omega arith) (omega arith)) (sym cut.joined ∙ behind)

pub other_port : (number : List ℕ) (m n : ℕ) → m < 2 ^ 32 → n < 256 → 255 < m → number ≡ decimal m → number ≡ decimal n → ⊥
other_port number m n few small above e f = let same = decimal_injective m n (omega arith) (omega arith) (sym e ∙ f) in omega (arith, same)
