use Rattle.store_commands.proofs.draft.Draft.begin.Goals as goal

pub returns : goal.returns
returns c = record { name_is = c.in_ok-files.ensures.files.name_is; index_is = c.in_ok-files.ensures.files.index_is; text_is = c.in_ok-files.ensures.files.text_is }
