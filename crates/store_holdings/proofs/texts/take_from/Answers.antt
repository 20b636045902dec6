use Rattle.std.proofs.Common.{ℕ, Vec, Global, ap, ◌∙◌, arith}
use Rattle.std.specs.Prelude.{option_map}
use Rattle.lru.specs.LruCache.{LruCache}
use Rattle.store_holdings.specs.KeptTexts.{PartNumbers, octets_of_texts, texts_of}
use Rattle.store_holdings.proofs.ViewLemmas.{texts_looked, texts_without, size_taken, size_left}
use Rattle.store_holdings.proofs.texts.take_from.Goals as goal

pub overflow_sub-octets : goal.overflow_sub-octets
overflow_sub-octets c =
    let size = size_taken c.args.key c.args.kept.now.entries c.in-Some.taken c.in-Some.ensures.value in
    omega (arith, size, c.requires, c.len.ensures)

pub returns-in-Some-clause-text : goal.returns-in-Some-clause-text
returns-in-Some-clause-text c = ap (option_map (λ (t : Vec ℕ Global). t.items)) c.in-Some.ensures.value ∙ texts_looked c.args.key c.args.kept.now.entries

pub returns-in-Some-clause-rest : goal.returns-in-Some-clause-rest
returns-in-Some-clause-rest c = ap (λ (k : LruCache PartNumbers (Vec ℕ Global)). texts_of k.entries) c.pop.ensures.entries ∙ texts_without c.args.key c.args.kept.now.entries

pub returns-in-Some-clause-counted : goal.returns-in-Some-clause-counted
returns-in-Some-clause-counted c =
    let size = size_taken c.args.key c.args.kept.now.entries c.in-Some.taken c.in-Some.ensures.value in
    let rest = ap octets_of_texts (returns-in-Some-clause-rest c) in
    omega (arith, size, rest, c.requires, c.len.ensures)

pub returns-in-None-clause-text : goal.returns-in-None-clause-text
returns-in-None-clause-text c = ap (option_map (λ (t : Vec ℕ Global). t.items)) c.in-None.ensures.value ∙ texts_looked c.args.key c.args.kept.now.entries

pub returns-in-None-clause-rest : goal.returns-in-None-clause-rest
returns-in-None-clause-rest c = ap (λ (k : LruCache PartNumbers (Vec ℕ Global)). texts_of k.entries) c.pop.ensures.entries ∙ texts_without c.args.key c.args.kept.now.entries

pub returns-in-None-clause-counted : goal.returns-in-None-clause-counted
returns-in-None-clause-counted c =
    let same = size_left c.args.key c.args.kept.now.entries c.in-None.ensures.value in
    let rest = ap octets_of_texts (returns-in-None-clause-rest c) in
    omega (arith, same, rest, c.requires)
