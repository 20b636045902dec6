use Rattle.std.proofs.Common.{inl, refl}
use Rattle.sqlite.specs.Held.{state}
use Rattle.dict_catalogue.specs.Views.{summary_shown}
use Rattle.store_desk.specs.Left.{coming_left, reading_left}
use Rattle.store_desk.proofs.CopyLemmas.{CommitsSame, remains_itself}
use Rattle.store_desk.proofs.DeskLemmas.{survives_itself}
use Rattle.store_desk.proofs.LeftLemmas.{less_behind}
use Rattle.store_desk.proofs.PreparingLemmas.{memory_kind, no_disk, read_filed}
use Rattle.store_desk.proofs.StandingLemmas.{on_err_with}
use Rattle.store_desk.proofs.preparing.prepare_next.Goals as goal

pub returns-then-is_some-clause-filed : goal.returns-then-is_some-clause-filed
returns-then-is_some-clause-filed g c = read_filed c.args.filing.now c.read_next.new.filing (state g.S.Store c.args.conn.now) c.read_next.ensures.filed c.requires.filed

pub returns-then-is_some-clause-made : goal.returns-then-is_some-clause-made
returns-then-is_some-clause-made g c = λ clean is. inl refl

pub returns-then-is_some-clause-remains : goal.returns-then-is_some-clause-remains
returns-then-is_some-clause-remains g c = λ clean live. remains_itself (summary_shown c.args.summary.now) (state g.S.Store c.args.conn.now).committed

pub returns-then-is_some-clause-settled : goal.returns-then-is_some-clause-settled
returns-then-is_some-clause-settled g c = λ clean live. (c.requires.holds clean live).1.settled

pub returns-then-is_some-clause-keeps : goal.returns-then-is_some-clause-keeps
returns-then-is_some-clause-keeps g c = λ clean. on_err_with c.read_next.result (record { was_open = λ live. live; committed = λ live. refl })

pub returns-then-is_some-clause-faulted : goal.returns-then-is_some-clause-faulted
returns-then-is_some-clause-faulted g c = λ clean. no_disk _ c.read_next.result c.read_next.ensures.kinds

pub returns-then-is_some-clause-kinds : goal.returns-then-is_some-clause-kinds
returns-then-is_some-clause-kinds g c = memory_kind c.read_next.result c.read_next.ensures.kinds

pub returns-then-is_some-clause-crash : goal.returns-then-is_some-clause-crash
returns-then-is_some-clause-crash g c = survives_itself (state g.S.Store c.args.conn.now) (CommitsSame g.S.Store (summary_shown c.args.summary.now) c.args.conn.now)

pub returns-clause-fewer : goal.returns-clause-fewer
returns-clause-fewer g c = λ is. less_behind (reading_left c.args.draft.now) (coming_left c.file_next.new.filing) (coming_left c.args.filing.now) (c.file_next.ensures.fewer is)
