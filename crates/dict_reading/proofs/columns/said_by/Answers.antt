use Rattle.dict_reading.proofs.columns.said_by.Goals as goal

pub returns-in_default-clause-headword : goal.returns-in_default-clause-headword
returns-in_default-clause-headword c m n h k = let e = c.in_default.ensures.only m h in cc

pub returns-in_default-read_number-clause-headword : goal.returns-in_default-read_number-clause-headword
returns-in_default-read_number-clause-headword c m n h k = let e = c.in_default-read_number.ensures.only n k in cc
