use Rattle.std.proofs.Common.{sym, subst, ◌∙◌}
use Rattle.std.proofs.lemmas.Result.{on_ok_weaker}
use Rattle.dict_catalogue.specs.Items.{edition_numbers}
use Rattle.sqlite.specs.Held.{state}
use Rattle.store_rows.specs.Taken.{items_in}
use Rattle.store_scans.proofs.ScanLemmas.{rows_damaged}
use Rattle.store_scans.proofs.TakerLemmas.{if_err_then, on_damage}
use Rattle.store_opening.proofs.WrongLemmas.{can_read}
use Rattle.store_opening.specs.Opens.{HasReadEditions}
use Rattle.store_opening.proofs.records.read_named.Goals as goal

pub returns-clause-named : goal.returns-clause-named
returns-clause-named g c clean =
    let are = c.deref.ensures.value ∙ c.in-Ok.ensures.numbers in
    on_ok_weaker c.read_numbered_editions.result
    (λ read front h b. let got = read front (rw are (can_read c.args.version _ c.args.reader.now.reader front h b)) in
    (got.0, got.1, subst (λ ns. HasReadEditions c.args.version (state g.S.Store c.args.conn.now).now ns front got.0) are got.2))
    (c.read_numbered_editions.ensures.whole clean)

pub returns-clause-indexed : goal.returns-clause-indexed
returns-clause-indexed g c clean =
    on_ok_weaker c.read_numbered_editions.result (λ read. read (edition_numbers (items_in c.args.reader.now.reader)) (c.deref.ensures.value ∙ c.in-Ok.ensures.numbers)) (c.read_numbered_editions.ensures.indexed clean)

pub returns-clause-damaged : goal.returns-clause-damaged
returns-clause-damaged g c clean =
    let are = c.deref.ensures.value ∙ c.in-Ok.ensures.numbers in
    if_err_then _ _ c.read_numbered_editions.result (λ fault wrong is front h b. b.none (wrong is front (rw are (can_read c.args.version _ c.args.reader.now.reader front h b)))) (c.read_numbered_editions.ensures.damaged clean)

pub returns-in-Err-clause-damaged : goal.returns-in-Err-clause-damaged
returns-in-Err-clause-damaged g c clean is front h b M holds =
    on_damage c.in-Err.fault _ c.in-Err.ensures.damaged (rows_damaged c.in-Err.fault (sym c.fault_of_rows.ensures ∙ is)) c.args.version front h
