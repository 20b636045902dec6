-- One more edition that is read, and one more command that is accepted.
use Rattle.std.proofs.Common.{◌≡◌, ℕ, ◌+◌, ◌<◌, List, [], ◌∷◌, ◌++◌, map, length, take, drop, get_or, sym, ap, ◌∙◌, subst}
use Rattle.std.specs.Prelude.{Result, Ok, Err}
use Rattle.std.specs.Borrow.{Bor}
use Rattle.std.specs.List.{AllZip}
use Rattle.std.proofs.lemmas.List.{drop_more, map-append, map_more, take-append-drop}
use Rattle.std.proofs.lemmas.Slice.Zip.{all_zipped_more}
use Rattle.dict_index.specs.Edition.{Edition, ReadEdition}
use Rattle.dict_index.specs.Meaning.{IsReadEdition}
use Rattle.dict_catalogue.specs.Commands.{Command}
use Rattle.dict_catalogue.specs.Steps.{Catalogue, CommandRequest, after, step}
use Rattle.dict_catalogue.specs.declared.reply.Kept.{Kept}
use Rattle.dict_catalogue.specs.declared.fault.CommandRefusal.{CommandRefusal}
use Rattle.dict_desk.specs.AllApplied.{AreApplied}
use Rattle.dict_desk.specs.declared.fault.Fault.{Fault}
use Rattle.dict_desk.proofs.AllLemmas.{applied_one_more, after_one_more}
use Rattle.store_fixtures.specs.Asked.{AreAccepted, AreReadOf, FailsBehind, command_asked, request_asked, requests_asked}
use Rattle.store_fixtures.specs.declared.asked.Asked.{Asked}

abbrev Files : Type 0
Files = Bor (List ℕ) × Bor (List ℕ)

abbrev pub octets_of : Files → List ℕ × List ℕ
octets_of files = (files.0.now, files.1.now)

pub read_one_more : (sources : List Files) (i : ℕ) (other : Files) (before behind : List ReadEdition) (edition : ReadEdition) → i < length sources → AreReadOf (map octets_of (take i sources)) before
    → IsReadEdition (get_or sources i other).0.now (get_or sources i other).1.now edition → behind ≡ before ++ edition ∷ [] → AreReadOf (map octets_of (take (i + 1) sources)) behind
read_one_more sources i other before behind edition below front one is = record {
  each =
      let Reads : List ℕ × List ℕ → ReadEdition → Type 0 = λ source reading. IsReadEdition source.0 source.1 reading in
      subst (λ editions. AllZip Reads (map octets_of (take (i + 1) sources)) editions) (sym is) (subst (λ all. AllZip Reads all (before ++ edition ∷ [])) (sym (map_more octets_of sources i other below))
      (all_zipped_more Reads (map octets_of (take i sources)) before (octets_of (get_or sources i other)) edition front.each one));
}

abbrev accepted_as : Kept → Result Kept CommandRefusal
accepted_as kept = Ok kept

module _ (editions : List ReadEdition) (asked : List (Bor (List ℕ) × Asked)) (i : ℕ) (other : Bor (List ℕ) × Asked) (command : Command Edition)
    (below : i < length asked) (meant : command ≡ command_asked editions (get_or asked i other).1) where
  -- it was answered by a reply, behind the others
  pub accepted_one_more : {K : Type 0} (applies : K → CommandRequest → Result Kept Fault → K → Type 0) (old between new : K) (answer : Result Kept Fault) (kept : Kept) → answer ≡ Ok kept
      → AreAccepted applies old (requests_asked editions (take i asked)) between
      → applies between (record { id = (get_or asked i other).0.now; command = command }) answer new
      → AreAccepted applies old (requests_asked editions (take (i + 1) asked)) new
  accepted_one_more applies old between new answer kept is front last =
      let one = request_asked editions (get_or asked i other) in
      let fronts = requests_asked editions (take i asked) in
      let meant_so : applies between one answer new = subst (λ c. applies between (record { id = (get_or asked i other).0.now; command = c }) answer new) meant last in
      let all = applied_one_more applies old between new fronts (map accepted_as front.0) one (Ok kept) front.1 (subst (λ r. applies between one r new) is meant_so) in (
        front.0 ++ kept ∷ [],
        subst (λ outcomes. AreApplied applies old (requests_asked editions (take (i + 1) asked)) outcomes new) (sym (map-append accepted_as front.0 (kept ∷ [])))
            (subst (λ requests. AreApplied applies old requests (map accepted_as front.0 ++ Ok kept ∷ []) new) (sym (map_more (request_asked editions) asked i other below)) all),
      )

  -- or by a fault
  pub stopped_behind : {K : Type 0} (applies : K → CommandRequest → Result Kept Fault → K → Type 0) (old between new : K) (answer : Result Kept Fault) (fault : Fault) → answer ≡ Err fault
      → AreAccepted applies old (requests_asked editions (take i asked)) between → applies between (record { id = (get_or asked i other).0.now; command = command }) answer new
      → FailsBehind applies old (requests_asked editions asked) fault new
  stopped_behind applies old between new answer fault is front last =
      let one = request_asked editions (get_or asked i other) in
      let parts : asked ≡ take i asked ++ get_or asked i other ∷ drop (i + 1) asked = sym (take-append-drop i asked) ∙ ap (λ back. take i asked ++ back) (drop_more asked i other below) in
      let meant_so : applies between one answer new = subst (λ c. applies between (record { id = (get_or asked i other).0.now; command = c }) answer new) meant last in
      record {
        front = requests_asked editions (take i asked);
        request = one;
        rest = requests_asked editions (drop (i + 1) asked);
        split = ap (requests_asked editions) parts ∙ map-append (request_asked editions) (take i asked) (get_or asked i other ∷ drop (i + 1) asked);
        between = between;
        accepted = front;
        failed = subst (λ r. applies between one r new) is meant_so;
      }

  -- and the catalogue after it is shown
  pub shown_one_more : (Shows : Catalogue → Type 0) (M : Catalogue) → Shows (step (after M (requests_asked editions (take i asked))) (get_or asked i other).0.now command).catalogue
      → Shows (after M (requests_asked editions (take (i + 1) asked)))
  shown_one_more Shows M shown =
      let front = requests_asked editions (take i asked) in
      subst Shows (sym (ap (after M) (map_more (request_asked editions) asked i other below) ∙ after_one_more M front (request_asked editions (get_or asked i other))))
      (subst (λ c. Shows (step (after M front) (get_or asked i other).0.now c).catalogue) meant shown)
