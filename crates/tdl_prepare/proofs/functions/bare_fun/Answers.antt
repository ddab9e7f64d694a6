use Rattle.std.proofs.Common.{sym, ap}
use Rattle.tdl_prepare.specs.Built.{bare_fun}
use Rattle.tdl_prepare.proofs.functions.bare_fun.Goals as goal

pub returns-in-Same : goal.returns-in-Same
returns-in-Same c = λ nodes. record { of_rows = tt; is = ap bare_fun (sym c.in-Same.is) }

pub returns-in-Rev : goal.returns-in-Rev
returns-in-Rev c = λ nodes. record { of_rows = tt; is = ap bare_fun (sym c.in-Rev.is) }

pub returns-in-Palindrome : goal.returns-in-Palindrome
returns-in-Palindrome c = λ nodes. record { of_rows = tt; is = ap bare_fun (sym c.in-Palindrome.is) }

pub returns-in-Brak : goal.returns-in-Brak
returns-in-Brak c = λ nodes. record { of_rows = tt; is = ap bare_fun (sym c.in-Brak.is) }
