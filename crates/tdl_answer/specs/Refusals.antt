-- The lines that refuse a pattern.
use Rattle.std.specs.Prelude.{ℕ, List, ◌++◌, codes}
use Rattle.std.specs.Fmt.{decimal}
use Rattle.tdl_line_machine.specs.declared.faults.LineKind.{LineKind}
use Rattle.tdl_line_machine.specs.KindNames.{line_kind_name}
use Rattle.tdl_answer.specs.declared.refusals.Refusal.{Refusal}
use Rattle.tdl_answer.specs.declared.refusals.Refusal.TheVariants.{Unread, TooLarge, TooDense, TooFine, TooFar}

abbrev pub unread_words : LineKind → ℕ → List ℕ
unread_words kind at = line_kind_name kind ++ codes " " ++ decimal at

abbrev pub large_words : ℕ → ℕ → List ℕ
large_words rows links = codes "TooLarge " ++ decimal rows ++ codes " " ++ decimal links

abbrev pub words_of : Refusal → List ℕ
words_of (Unread kind at) = unread_words kind at
words_of (TooLarge rows links) = large_words rows links
words_of (TooDense load) = codes "TooDense " ++ decimal load
words_of (TooFine grid) = codes "TooFine " ++ decimal grid
words_of (TooFar reach) = codes "TooFar " ++ decimal reach

abbrev pub refusal_line : Refusal → List ℕ
refusal_line refusal = codes "refused " ++ words_of refusal ++ codes "\n"
