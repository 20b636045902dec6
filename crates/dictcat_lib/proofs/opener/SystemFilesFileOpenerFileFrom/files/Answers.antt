use Rattle.sqlite.specs.WalFiles.{image_at}
use Rattle.store_desk.proofs.FreshLemmas.{seen_is, left_is, honest_is, octets_by}
use Rattle.dictcat_lib.proofs.opener.SystemFilesFileOpenerFileFrom.files.Goals as goal

pub returns-in-Ok-clause-octets : goal.returns-in-Ok-clause-octets
returns-in-Ok-clause-octets g c =
    let start = g.S.Start in
    let log = c.in-Ok.ensures.fresh.0 in
    let db = c.in-Ok.ensures.fresh.1 in
    octets_by c.in-Ok.files (image_at start) (seen_is start.log start.db _ _ _ _ log.0 log.1) (seen_is start.log start.db _ _ _ _ db.0 db.1)
    (left_is start.log start.db _ _ _ _ log.0 log.1 _) (left_is start.log start.db _ _ _ _ db.0 db.1 _)
    (honest_is start.log start.db _ _ _ _ log.0 log.1) (honest_is start.log start.db _ _ _ _ db.0 db.1)
