use Rattle.tdl_mini.proofs.DigitLemmas.{product_fits, few_value}
use Rattle.tdl_mini.proofs.tokens.ten_thousandths.Goals as goal

pub digits_value-requires-clause-fits : goal.digits_value-requires-clause-fits
digits_value-requires-clause-fits c = few_value c.args.digits.now c.requires.plain c.requires.short

pub overflow_mul-result : goal.overflow_mul-result
overflow_mul-result c = product_fits c.args.digits.now _ _ c.requires.plain c.requires.short c.digits_value.ensures c.pow.ensures
