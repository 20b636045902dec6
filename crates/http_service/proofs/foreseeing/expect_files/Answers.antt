use Rattle.std.proofs.Common.{refl}
use Rattle.dict_desk.specs.Expected.{of_files}
use Rattle.http_service.proofs.foreseeing.expect_files.Goals as goal

pub returns-in-Some-clause-foreseen : goal.returns-in-Some-clause-foreseen
returns-in-Some-clause-foreseen g c = λ taken. record {
  asked = of_files c.args.name.now c.in-Some.index.now c.in-Some.text.now;
  asks = (c.in-Some.index.now, c.in-Some.text.now, c.in-Some.ensures, refl);
  told = c.expect_install.ensures.told;
}
