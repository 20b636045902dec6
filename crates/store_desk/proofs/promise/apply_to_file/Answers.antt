use Rattle.std.proofs.Common.{refl}
use Rattle.std.specs.Prelude.{vec_len}
use Rattle.std.proofs.lemmas.List.{length-map}
use Rattle.dict_desk.specs.Requests.{request_meant, requests_meant}
use Rattle.store_desk.proofs.PromiseLemmas.{call_halts, call_stands, call_keeps, call_tells, call_goes_on, counted_meant}
use Rattle.store_desk.proofs.promise.apply_to_file.Goals as goal

pub returns-clause-answered : goal.returns-clause-answered
returns-clause-answered g c = call_keeps g.S.Store c.args.desk.now c.apply_all.new.desk (requests_meant c.args.requests.now) (λ v. v.items) vec_len c.apply_all.result
    (counted_meant g.S.Store c.args.desk.now c.apply_all.new.desk (requests_meant c.args.requests.now) (λ v. v.items) vec_len c.args.requests.now request_meant c.apply_all.result refl
    (length-map c.args.requests.now request_meant) c.apply_all.ensures.counted)
    c.apply_all.ensures.value

pub returns-clause-halted : goal.returns-clause-halted
returns-clause-halted g c = call_halts g.S.Store c.args.desk.now c.apply_all.new.desk (requests_meant c.args.requests.now) (λ v. v.items) vec_len c.apply_all.result c.apply_all.ensures.halted

pub returns-clause-told : goal.returns-clause-told
returns-clause-told g c = call_tells g.S.Store c.args.desk.now c.apply_all.new.desk (requests_meant c.args.requests.now) (λ v. v.items) vec_len c.apply_all.result c.apply_all.ensures.value

pub returns-clause-goes_on : goal.returns-clause-goes_on
returns-clause-goes_on g c = call_goes_on g.S.Store c.args.desk.now c.apply_all.new.desk (requests_meant c.args.requests.now) (λ v. v.items) vec_len c.apply_all.result c.apply_all.ensures.value

pub returns-clause-stands : goal.returns-clause-stands
returns-clause-stands g c = call_stands g.S.Store c.args.desk.now c.apply_all.new.desk (requests_meant c.args.requests.now) (λ v. v.items) vec_len c.apply_all.result c.apply_all.ensures.halted
