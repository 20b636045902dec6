use Rattle.std.proofs.Common.{sym, ◌∙◌, subst}
use Rattle.std.specs.Str.{IsUtf8}
use Rattle.store_search.proofs.builder.IndexBuilder.push.Goals as goal

pub push-requires : goal.push-requires
push-requires c = subst IsUtf8 (sym (c.as_bytes.ensures ∙ c.in_ok-key.ensures)) (c.key_laws.ensures.utf8 c.args.headword.now c.utf8.headword)
