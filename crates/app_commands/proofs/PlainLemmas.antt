-- What the one install of a session over files is answered.
use Rattle.std.proofs.Common.{◌≡◌, ℕ, List, Bool, true, false, refl, codes}
use Rattle.std.specs.Prelude.{if◌then◌else◌, None, Some}
use Rattle.dict_text.specs.Names.{is_name, is_request_id}
use Rattle.dict_index.specs.Edition.{Edition}
use Rattle.dict_catalogue.specs.Commands.{install}
use Rattle.dict_catalogue.specs.Effects.{KeptReply}
use Rattle.dict_catalogue.specs.Steps.{accepted, refused, empty_catalogue, step, decided}
use Rattle.dict_catalogue.specs.declared.fault.CommandRefusal.{CommandRefusal}
use Rattle.dict_catalogue.specs.declared.fault.CommandRefusal.TheVariants.{BadName}

refused_by : (name : List ℕ) (edition : Edition) (b : Bool) (refusal : CommandRefusal) → (decided empty_catalogue (codes "plain") (install name edition) (if b then None else Some BadName)).reply ≡ refused refusal
    → (refusal ≡ BadName) × (b ≡ false)
refused_by name edition true refusal e = cc
refused_by name edition false refusal e = (cc, refl)

accepted_by : (name : List ℕ) (edition : Edition) (b : Bool) (kept : KeptReply) → (decided empty_catalogue (codes "plain") (install name edition) (if b then None else Some BadName)).reply ≡ accepted kept → b ≡ true
accepted_by name edition true kept e = refl
accepted_by name edition false kept e = cc

pub install_refused : (name : List ℕ) (edition : Edition) (refusal : CommandRefusal) → (step empty_catalogue (codes "plain") (install name edition)).reply ≡ refused refusal → (refusal ≡ BadName) × (is_name name ≡ false)
unfolding is_request_id
install_refused name edition refusal e = refused_by name edition (is_name name) refusal e

pub install_accepted : (name : List ℕ) (edition : Edition) (kept : KeptReply) → (step empty_catalogue (codes "plain") (install name edition)).reply ≡ accepted kept → is_name name ≡ true
unfolding is_request_id
install_accepted name edition kept e = accepted_by name edition (is_name name) kept e
