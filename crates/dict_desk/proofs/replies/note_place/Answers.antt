use Rattle.std.proofs.Common.{ℕ, List, ap, ◌∙◌, cond, bytes_eq}
use Rattle.std.specs.Prelude.{Some, string_bytes}
use Rattle.std.specs.BTreeMap.{get_by_text}
use Rattle.std.proofs.lemmas.Map.Text.{btree_map_updates_text}
use Rattle.dict_desk.proofs.replies.note_place.Goals as goal

pub returns-clause-noted : goal.returns-clause-noted
returns-clause-noted c = λ text.
    btree_map_updates_text (string_bytes c.in_ok-key.key) c.args.places.now c.insert.new.self (Some c.args.place) c.in_ok-insert.ensures.updates text
    ∙ ap (λ (id : List ℕ). cond (bytes_eq id text) (Some c.args.place) (get_by_text c.args.places.now text)) c.in_ok-key.ensures.ok
