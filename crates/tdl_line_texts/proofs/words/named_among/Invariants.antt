use Rattle.std.proofs.Common.{◌≡◌, map, drop}
use Rattle.tdl_line_texts.specs.Names.{named_among}
use Rattle.tdl_line_texts.specs.inside.NamesView.{meaning_of}
use Rattle.tdl_line_texts.proofs.words.named_among.Given as goal

abbrev pub invariant-loop-text : goal.invariant-loop-text
invariant-loop-text l = named_among (map meaning_of l.meanings) l.bytes ≡ named_among (map meaning_of (drop l.text-index l.meanings)) l.bytes
