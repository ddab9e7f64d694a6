-- The lines that refuse a query.
use Rattle.std.specs.Prelude.{ℕ, List, ◌++◌, codes}
use Rattle.tdl_answer.specs.Refusals.{refusal_line}
use Rattle.tdl_app.specs.declared.arcs.ArcFault.{ArcFault}
use Rattle.tdl_app.specs.declared.arcs.ArcFault.TheVariants.{From, To, Order, Last, TickGrid}
use Rattle.tdl_app.specs.declared.query_faults.QueryRefusal.{QueryRefusal}
use Rattle.tdl_app.specs.declared.query_faults.QueryRefusal.TheVariants.{Pattern, Arc}

abbrev pub arc_words : ArcFault → List ℕ
arc_words From = codes "Fraction from"
arc_words To = codes "Fraction to"
arc_words Order = codes "Order"
arc_words Last = codes "Last"
arc_words TickGrid = codes "TickGrid"

abbrev pub arc_line : ArcFault → List ℕ
arc_line fault = codes "refused " ++ arc_words fault ++ codes "\n"

abbrev pub query_refusal_line : QueryRefusal → List ℕ
query_refusal_line (Pattern why) = refusal_line why
query_refusal_line (Arc fault) = arc_line fault
