use Rattle.dict_index.proofs.line.interval_of.Goals as goal

pub returns-in_default-clause-spelled : goal.returns-in_default-clause-spelled
returns-in_default-clause-spelled c m n h k = let e = c.in_default.ensures.only m h in cc

pub returns-in_default-read_number-clause-spelled : goal.returns-in_default-read_number-clause-spelled
returns-in_default-read_number-clause-spelled c m n h k = let e = c.in_default-read_number.ensures.only n k in cc
