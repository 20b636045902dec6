use Rattle.store_desk.proofs.reopening.adopt_files.Goals as goal

pub returns-in-Err-clause-rejected : goal.returns-in-Err-clause-rejected
returns-in-Err-clause-rejected g c = record {
  adopted = c.in-Err.ensures.rejected;
  failed = c.in-Err.ensures.failed;
  autocommit = c.in-Err.ensures.handed;
  not_left = c.in-Err.ensures.not_left;
}
