use Rattle.app_words.proofs.fault.ProgramFault.put_line.Goals as goal

pub returns-in-Store : goal.returns-in-Store
returns-in-Store g c = rw (c.in-Store.is, ← c.line.ensures, ← c.as_bytes.ensures.value) c.put_all.ensures

pub returns-in-CannotRead : goal.returns-in-CannotRead
returns-in-CannotRead g c = rw (c.in-CannotRead.is, ← c.as_bytes-in-CannotRead.ensures.value) c.put_all-in-CannotRead.ensures

pub returns-in-SessionEnded : goal.returns-in-SessionEnded
returns-in-SessionEnded g c = rw c.in-SessionEnded.is c.put.ensures.put

pub returns-in-Memory : goal.returns-in-Memory
returns-in-Memory g c = rw c.in-Memory.is c.put-in-Memory.ensures.put

pub returns-in-CannotBind : goal.returns-in-CannotBind
returns-in-CannotBind g c = rw (c.in-CannotBind.is, ← c.as_bytes-in-CannotBind.ensures.value) c.put_all-in-CannotBind.ensures
