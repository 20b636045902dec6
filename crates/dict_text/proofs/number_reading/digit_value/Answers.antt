use Rattle.std.proofs.Common.{arith}
use Rattle.dict_text.proofs.DigitLemmas.{upper_digit, lower_digit, number_digit, byte_of_digit}
use Rattle.dict_text.proofs.number_reading.digit_value.Goals as goal

pub returns-in-48-to-57 : goal.returns-in-48-to-57
returns-in-48-to-57 c = number_digit c.args.byte (omega arith) (omega arith)

pub returns-in-65-to-90 : goal.returns-in-65-to-90
returns-in-65-to-90 c = upper_digit c.args.byte (omega arith) (omega arith)

pub returns-in-97-to-122 : goal.returns-in-97-to-122
returns-in-97-to-122 c = lower_digit c.args.byte (omega arith) (omega arith)

pub returns-in_default : goal.returns-in_default
returns-in_default c d = byte_of_digit c.args.byte d (λ h. omega arith) (λ h. omega arith) (λ h. omega arith) (λ h. omega arith) (λ h. omega arith)

pub returns-in_default-2 : goal.returns-in_default-2
returns-in_default-2 c d = byte_of_digit c.args.byte d (λ h. omega arith) (λ h. omega arith) (λ h. omega arith) (λ h. omega arith) (λ h. omega arith)

pub returns-in_default-3 : goal.returns-in_default-3
returns-in_default-3 c d = byte_of_digit c.args.byte d (λ h. omega arith) (λ h. omega arith) (λ h. omega arith) (λ h. omega arith) (λ h. omega arith)

pub returns-in_default-4 : goal.returns-in_default-4
returns-in_default-4 c d = byte_of_digit c.args.byte d (λ h. omega arith) (λ h. omega arith) (λ h. omega arith) (λ h. omega arith) (λ h. omega arith)
