use Rattle.dict_index.proofs.PassLemmas.{passes_all, gather_fault, line_fault, on_ok_map, if_err_map}
use Rattle.dict_index.proofs.reading.read_and_add.Goals as goal

pub returns-in-Ok-clause-passes : goal.returns-in-Ok-clause-passes
returns-in-Ok-clause-passes c = on_ok_map c.add.result (λ h lines g.
    let both = h c.args.text.now lines c.args.line.now c.in-Ok.ensures.said g in
    passes_all c.args.text.now lines c.args.line.now (c.in-Ok.ensures.passes lines) both.0 both.1) c.add.ensures.passes

pub returns-in-Ok-clause-refused : goal.returns-in-Ok-clause-refused
returns-in-Ok-clause-refused c = if_err_map c.add.result (λ fault h lines g.
    gather_fault fault c.args.text.now lines c.args.line.now (c.in-Ok.ensures.passes lines) (h c.args.text.now lines c.args.line.now c.in-Ok.ensures.said g)) c.add.ensures.refused

pub returns-in-Err-clause-refused : goal.returns-in-Err-clause-refused
returns-in-Err-clause-refused c lines g = line_fault c.in-Err.fault c.args.text.now lines c.args.line.now c.in-Err.ensures.refused
