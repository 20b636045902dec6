use Rattle.dict_proto.proofs.PutLemmas.{puts_after}
use Rattle.app_words.proofs.listing.put_kind.Goals as goal

pub returns-in_ok-put_virtual-in-Virtual : goal.returns-in_ok-put_virtual-in-Virtual
returns-in_ok-put_virtual-in-Virtual g c = rw (c.in-Virtual.is, ← c.as_str-in-Virtual.ensures.value, ← c.as_slice.ensures.value) (puts_after _ _ _ _ _ _ c.in_ok-put_virtual-in-Virtual.ensures c.put_members.ensures)
