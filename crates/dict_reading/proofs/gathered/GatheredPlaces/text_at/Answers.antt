use Rattle.std.proofs.Common.{subst, sym, arith}
use Rattle.std.specs.Prelude.{IfSome}
use Rattle.std.specs.Str.{IsUtf8}
use Rattle.dict_reading.specs.Gathered.{HasTextIn}
use Rattle.dict_reading.proofs.gathered.GatheredPlaces.text_at.Goals as goal

pub unreachable-requires : goal.unreachable-requires
unreachable-requires c =
    let here = subst (λ o. IfSome o (HasTextIn c.args.text.now)) (sym c.in-Some.ensures.value) (c.requires c.args.key.now) in
    let within = here.within in
    let beyond = c.in_default-cut_out.ensures in
    omega (arith, within, beyond)

pub as_text-requires : goal.as_text-requires
as_text-requires c =
    let here = subst (λ o. IfSome o (HasTextIn c.args.text.now)) (sym c.in-Some.ensures.value) (c.requires c.args.key.now) in
    subst IsUtf8 (sym c.in-Some-cut_out.ensures.1) here.utf8
