use Rattle.std.proofs.Common.{◌++◌, ◌∷◌, string_bytes, ap, ◌∙◌}
use Rattle.dict_catalogue.specs.Views.{item_shown}
use Rattle.store_rows.specs.Titles.{item_titled}
use Rattle.store_rows.proofs.ListLemmas.{map_written}
use Rattle.store_rows.proofs.titles.title_at.Goals as goal

pub returns : goal.returns
returns c = λ front item behind whole many.
    let told = map_written item_shown c.args.items.now.items c.args.place c.index_mut.result.now c.give_title.new.item front behind item c.requires c.index_mut.ensures.value whole many in
    told.0 ∙ ap (λ one. front ++ one ∷ behind) (c.give_title.ensures ∙ ap (item_titled c.args.number (string_bytes c.args.title)) told.1)
