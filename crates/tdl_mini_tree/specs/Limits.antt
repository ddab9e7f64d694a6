-- The limits of the notation, beside those of words and of the texts of numbers (`Limits` of `tdl_control`).
--     max_depth          brackets that are open round a token
--     max_steps          steps of a sequence, in all its groups together
--     max_groups         groups of a sequence
--     max_weights        the sum of the weights of a group
--     max_count          a count after `!`
--     max_weight         what a weight after `@` is before its `.`
--     max_ratio          what a factor, or a value of an argument, is before its `.` or `%`
--     unit               one, in ten-thousandths
use Rattle.std.specs.Prelude.{ℕ}

abbrev pub max_depth : ℕ
max_depth = 16

abbrev pub max_steps : ℕ
max_steps = 1024

abbrev pub max_groups : ℕ
max_groups = 1024

abbrev pub max_weights : ℕ
max_weights = 16384

abbrev pub max_count : ℕ
max_count = 1024

abbrev pub max_weight : ℕ
max_weight = 16383

abbrev pub max_ratio : ℕ
max_ratio = 65535

abbrev pub unit : ℕ
unit = 10000
