use Rattle.std.proofs.Common.{ℕ, List, ◌+◌, ◌++◌, map, drop, subst, arith}
use Rattle.std.specs.List.{flat_map}
use Rattle.std.specs.Prelude.{string_bytes}
use Rattle.dict_catalogue.specs.Views.{item_shown, texts_shown}
use Rattle.dict_session.specs.Places.{places_named, HoldsPlaces}
use Rattle.dict_session.proofs.PlaceLemmas.{places_in, read_at}
use Rattle.dict_session.proofs.asked.member_places.Goals as goal

pub loop-member-preserved : goal.loop-member-preserved
loop-member-preserved c =
    let i = c.loop-member.member-index in
    let f = places_named (map item_shown c.args.items.now) in
    let texts = texts_shown c.args.members.now in
    let member = c.member-item.result in
    places_in f (flat_map f texts) c.loop-member.places.items c.add_named.new.places.items (drop i texts) (string_bytes member) (drop (i + 1) texts)
    (read_at string_bytes c.args.members.now i member (omega arith) c.member-item.is)
    (subst (λ (name : List ℕ). HoldsPlaces c.add_named.new.places.items (c.loop-member.places.items ++ f name)) c.as_str.ensures.value c.add_named.ensures) c.loop-member.invariant
