use Rattle.std.proofs.Common.{ℕ, Vec, Global, sym, ap, ◌∙◌, arith}
use Rattle.lru.specs.LruCache.{LruCache}
use Rattle.store_holdings.specs.KeptTexts.{PartNumbers, octets_of_texts, texts_of}
use Rattle.store_holdings.proofs.ViewLemmas.{size_put, texts_put}
use Rattle.store_holdings.proofs.texts.put_new.Goals as goal

pub overflow_sub-octets : goal.overflow_sub-octets
overflow_sub-octets c =
    let out = sym c.in-Ok-Some.field-0-is ∙ c.in-Ok-Some.ensures.old in
    let size = size_put c.args.kept.now c.args.key c.args.text c.requires.cap c.len-count.ensures.valid.1 _ out in
    omega (arith, size, c.requires.counted, c.len.ensures, c.len-size.ensures)

pub returns-in-Ok-Some-clause-put : goal.returns-in-Ok-Some-clause-put
returns-in-Ok-Some-clause-put c =
    ap (λ (k : LruCache PartNumbers (Vec ℕ Global)). texts_of k.entries) c.in-Ok-Some.ensures.entries ∙ texts_put c.args.kept.now c.args.key c.args.text c.requires.cap c.len-count.ensures.valid.1

pub returns-in-Ok-Some-clause-counted : goal.returns-in-Ok-Some-clause-counted
returns-in-Ok-Some-clause-counted c =
    let out = sym c.in-Ok-Some.field-0-is ∙ c.in-Ok-Some.ensures.old in
    let size = size_put c.args.kept.now c.args.key c.args.text c.requires.cap c.len-count.ensures.valid.1 _ out in
    let put = ap octets_of_texts (returns-in-Ok-Some-clause-put c) in
    omega (arith, size, put, c.requires.counted, c.len.ensures, c.len-size.ensures)

pub returns-in-Ok-None-clause-put : goal.returns-in-Ok-None-clause-put
returns-in-Ok-None-clause-put c =
    ap (λ (k : LruCache PartNumbers (Vec ℕ Global)). texts_of k.entries) c.in-Ok-None.ensures.entries ∙ texts_put c.args.kept.now c.args.key c.args.text c.requires.cap c.len-count.ensures.valid.1

pub returns-in-Ok-None-clause-counted : goal.returns-in-Ok-None-clause-counted
returns-in-Ok-None-clause-counted c =
    let out = sym c.in-Ok-None.field-0-is ∙ c.in-Ok-None.ensures.old in
    let size = size_put c.args.kept.now c.args.key c.args.text c.requires.cap c.len-count.ensures.valid.1 _ out in
    let put = ap octets_of_texts (returns-in-Ok-None-clause-put c) in
    omega (arith, size, put, c.requires.counted, c.len-size.ensures)
