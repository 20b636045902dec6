-- the copies so far
use Rattle.std.proofs.Common.{◌≡◌, take}
use Rattle.dict_catalogue.specs.Views.{texts_shown}
use Rattle.dict_catalogue.proofs.copies.copied_texts.Given as goal

abbrev pub invariant-loop-text : goal.invariant-loop-text
invariant-loop-text l = texts_shown l.copies.items ≡ texts_shown (take l.text-index l.texts)
