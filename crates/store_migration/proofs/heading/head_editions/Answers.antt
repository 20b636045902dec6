use Rattle.std.proofs.Common.{inl, inr, refl}
use Rattle.store_migration.proofs.KitLemmas.{header, header_defined, state, own_has, one_own, passed_on, was_clean}
use Rattle.store_migration.proofs.FailLemmas.{fails_here, fails_later, making_editions}
use Rattle.store_migration.proofs.heading.head_editions.Goals as goal

pub create_header_table-requires : goal.create_header_table-requires
create_header_table-requires g c clean open' = let may = c.requires clean open' in record { unused = may.room.unused; counted = may.counted }

pub put_headers-requires : goal.put_headers-requires
put_headers-requires g c clean open' =
    let made = c.in_ok-create_header_table.ensures.made clean in
    let may = c.requires (was_clean c.create_header_table.ensures.survives clean) made.1.was_open in
    let s1 = state g.S.Store (g.T.OpenTransaction.held c.create_header_table.new.tx) in
    own_has header s1.now (one_own header header_defined _ s1.now made.0 may.sound may.room.unused may.room.unreferred)

pub returns-clause-headed : goal.returns-clause-headed
returns-clause-headed g c clean =
    let made = c.in_ok-create_header_table.ensures.made (was_clean c.put_headers.ensures.survives clean) in
    record { with_table = _; made = made.0; added = c.in_ok-put_headers.ensures.added clean }

pub returns-clause-inside : goal.returns-clause-inside
returns-clause-inside g c clean =
    c.in_ok-put_headers.ensures.inside clean (c.in_ok-create_header_table.ensures.made (was_clean c.put_headers.ensures.survives clean)).1.mode

pub returns-in_err-create_header_table-clause-failed : goal.returns-in_err-create_header_table-clause-failed
returns-in_err-create_header_table-clause-failed g c clean =
    passed_on _ _ _ c.from_residual.ensures.1 (fails_here making_editions (inl (refl, refl)) (c.in_err-create_header_table.ensures.failed clean))

pub returns-in_err-put_headers-clause-failed : goal.returns-in_err-put_headers-clause-failed
returns-in_err-put_headers-clause-failed g c clean =
    let made = c.in_ok-create_header_table.ensures.made (was_clean c.put_headers.ensures.survives clean) in
    passed_on _ _ _ c.from_residual-in_err-put_headers.ensures.1
    (fails_later c.create_header_table.ensures.survives (λ begun. made.1.mode) (λ part at it. inr (_, made.0, it)) (c.in_err-put_headers.ensures.failed clean))
