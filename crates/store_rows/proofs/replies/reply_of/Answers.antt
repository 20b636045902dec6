use Rattle.std.proofs.Common.{rules, ◌≡◌, true}
use Rattle.std.specs.Prelude.{is_some}
use Rattle.dict_text.specs.Names.{is_name, is_request_id}
use Rattle.dict_catalogue.specs.WellFormed.{tells_edition}
use Rattle.store_tables.specs.Typed.{owned_kept}
use Rattle.store_rows.specs.Written.{verb_name}
use Rattle.store_rows.proofs.RecordLemmas.{reply_told}
use Rattle.store_rows.proofs.replies.reply_of.Goals as goal

pub returns-clause-told : goal.returns-clause-told
returns-clause-told c =
    let row = owned_kept c.args.row.now in
    let word : row.verb ≡ verb_name c.in_ok-verb.verb = search rules in
    let id : is_request_id row.id ≡ true = search rules in
    let name : is_name row.name ≡ true = search rules in
    let tells : is_some c.in_ok-edition.edition ≡ tells_edition c.in_ok-verb.verb = search rules in
    reply_told c.args.number c.in_ok-verb.verb c.in_ok-edition.edition row word (c.is_number.ensures.same.0 c.if-not-is_number.false) id name c.in_ok-edition.ensures.number tells
