use Rattle.std.proofs.Common.{◌≡◌, ◌++◌, ◌/◌, ◌%◌, inr, List, Err, drop, take, refl, ap, ◌∙◌}
use Rattle.std.specs.Prelude.{ℕ}
use Rattle.dict_desk.specs.declared.fault.Fault.TheVariants.{Memory}
use Rattle.store_holdings.proofs.AskLemmas.{keeps_kept, keeps_left, reads_none, reads_then}
use Rattle.store_holdings.proofs.CutLemmas.{put_ends, put_is, put_more, put_most}
use Rattle.store_holdings.proofs.parts.put_part.Goals as goal

-- ---- the part wasn't given

pub returns-in-Err-clause-reads : goal.returns-in-Err-clause-reads
returns-in-Err-clause-reads g c =
    let took = c.in-Err.ensures.reads in
    record { same = λ clean. tt; failed = λ clean. inr (took.failed clean); kinds = took.kinds; mode = took.mode; survives = took.survives }

pub returns-in-Err-clause-keeps : goal.returns-in-Err-clause-keeps
returns-in-Err-clause-keeps g c = keeps_left (c.args.place / 16384) c.take_part.ensures.left

-- ---- no memory was

pub returns-in_default-clause-reads : goal.returns-in_default-clause-reads
returns-in_default-clause-reads g c = reads_then c.args.number c.in-Ok.ensures.reads (reads_none c.args.number c.take_part.new.conn (Err Memory) refl)

pub returns-in_default-clause-keeps : goal.returns-in_default-clause-keeps
returns-in_default-clause-keeps g c = keeps_left (c.args.place / 16384) c.take_part.ensures.left

-- ---- it was put

pub returns-in-Ok-put_front-clause-keeps : goal.returns-in-Ok-put_front-clause-keeps
returns-in-Ok-put_front-clause-keeps g c =
    let part : ℕ = c.args.place / 16384 in
    keeps_kept c.args.installs c.args.number part c.args.conn.now c.take_part.new.conn c.args.texts.now c.take_part.new.texts c.keep.new.texts c.in-Ok.octets.items
    (keeps_left part c.take_part.ensures.left) c.keep.ensures (λ clean text has. c.in-Ok.ensures.value clean text has)

pub returns-in-Ok-put_front-clause-put : goal.returns-in-Ok-put_front-clause-put
returns-in-Ok-put_front-clause-put g c clean text has =
    let octets = c.in-Ok.octets.items in
    let old = c.args.to.now.items in
    let put : c.put_front.new.to.items ≡ old ++ take c.args.most (drop (c.args.place % 16384) octets) =
    c.in-Ok-put_front.ensures.put ∙ ap (λ (o : List ℕ). old ++ take c.args.most (drop (c.args.place % 16384) o)) c.as_slice.ensures.value in
    put_is text octets old c.put_front.new.to.items c.args.place c.args.most (c.in-Ok.ensures.value clean text has) put

pub returns-in-Ok-put_front-clause-ended : goal.returns-in-Ok-put_front-clause-ended
returns-in-Ok-put_front-clause-ended g c clean text has some =
    let octets = c.in-Ok.octets.items in
    let old = c.args.to.now.items in
    let put : c.put_front.new.to.items ≡ old ++ take c.args.most (drop (c.args.place % 16384) octets) =
    c.in-Ok-put_front.ensures.put ∙ ap (λ (o : List ℕ). old ++ take c.args.most (drop (c.args.place % 16384) o)) c.as_slice.ensures.value in
    λ none. put_ends text octets old c.put_front.new.to.items c.args.place c.args.most (c.in-Ok.ensures.value clean text has) put some none

pub returns-in-Ok-put_front-clause-more : goal.returns-in-Ok-put_front-clause-more
returns-in-Ok-put_front-clause-more g c = put_more c.as_slice.result.now c.args.to.now.items c.put_front.new.to.items (c.args.place % 16384) c.args.most c.in-Ok-put_front.ensures.put

pub returns-in-Ok-put_front-clause-most : goal.returns-in-Ok-put_front-clause-most
returns-in-Ok-put_front-clause-most g c = put_most c.as_slice.result.now c.args.to.now.items c.put_front.new.to.items (c.args.place % 16384) c.args.most c.in-Ok-put_front.ensures.put
