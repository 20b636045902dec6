-- What contracts see of the values of this crate.
use Rattle.std.specs.Prelude.{◌≡◌, ◌≢◌, ℕ, List, map, None, Some, option_map, String, string_bytes, Result, MatchResult}
use Rattle.std.specs.Borrow.{Bor}
use Rattle.dict_index.specs.Edition.{Edition, edition_of}
use Rattle.dict_catalogue.specs.Items.{Stored, Item as AnItem, regular, virtual}
use Rattle.dict_catalogue.specs.Commands.{Command as ACommand, install, rollback, retire, put_virtual, place, command_as}
use Rattle.dict_catalogue.specs.Tests.{Holdings, refusal_of}
use Rattle.dict_catalogue.specs.Effects.{KeptReply, effect, reply_to, editions_gone}
use Rattle.dict_catalogue.specs.Steps.{Catalogue, Outcome, accepted, refused, summary_of}
use Rattle.dict_catalogue.specs.declared.summary.StoredTitle.{StoredTitle}
use Rattle.dict_catalogue.specs.declared.summary.Item.{Item}
use Rattle.dict_catalogue.specs.declared.summary.Item.TheVariants.{Regular, Virtual}
use Rattle.dict_catalogue.specs.declared.summary.Summary.{Summary}
use Rattle.dict_catalogue.specs.declared.commands.Command.{Command}
use Rattle.dict_catalogue.specs.declared.commands.Command.TheVariants.{Install, Rollback, Retire, PutVirtual, Place}
use Rattle.dict_catalogue.specs.declared.reply.Kept.{Kept}
use Rattle.dict_catalogue.specs.declared.planning.PlannedChange.{PlannedChange}
use Rattle.dict_catalogue.specs.declared.fault.CommandRefusal.{CommandRefusal}
use Rattle.dict_catalogue.specs.declared.fault.PlanFault.{PlanFault}
use Rattle.dict_catalogue.specs.declared.fault.PlanFault.TheVariants.{Refused, Memory}

-- an edition by its number and title
abbrev pub stored_shown : StoredTitle → Stored (List ℕ)
stored_shown stored = record { number = stored.number; content = string_bytes stored.title }

-- texts by their octets
abbrev pub texts_shown : {A : Type 0} → List (String A) → List (List ℕ)
texts_shown texts = map string_bytes texts

abbrev pub names_shown : List (Bor (List ℕ)) → List (List ℕ)
names_shown names = map (λ name. name.now) names

abbrev pub item_shown : Item → AnItem (List ℕ)
item_shown (Regular name current former) = regular (string_bytes name) (stored_shown current) (option_map stored_shown former)
item_shown (Virtual name title members) = virtual (string_bytes name) (string_bytes title) (texts_shown members.items)

abbrev pub summary_shown : Summary → Holdings (List ℕ)
summary_shown summary = record { items = map item_shown summary.items.items; installs = summary.installs; accepted = summary.accepted }

-- an item's title: of a database, its current edition's
abbrev pub title_of : AnItem (List ℕ) → List ℕ
title_of (regular name current former) = current.content
title_of (virtual name title members) = title

-- the command with its whole edition
abbrev pub command_meant : Command → ACommand Edition
command_meant (Install name edition) = install name.now (edition_of edition.now)
command_meant (Rollback name) = rollback name.now
command_meant (Retire name) = retire name.now
command_meant (PutVirtual name title members) = put_virtual name.now title.now (names_shown members.now)
command_meant (Place name at) = place name.now at

-- the command with its edition's title
abbrev pub command_shown : Command → ACommand (List ℕ)
command_shown command = command_as (λ edition. edition.title) (command_meant command)

abbrev pub kept_shown : Kept → KeptReply
kept_shown kept = record { number = kept.number; verb = kept.verb; name = string_bytes kept.name; edition = kept.edition }

-- the change is what the command does to a summary: the summary after it is that of its effect, the editions that
-- go are those that were there before and are not after, and the reply is the one to be kept
pub record IsEffect (before : Holdings (List ℕ)) (command : ACommand (List ℕ)) (change : PlannedChange) : Type 0 where
  pub after : summary_shown change.summary ≡ effect command before
  pub gone : change.gone.items ≡ editions_gone before.items (effect command before).items
  pub kept : kept_shown change.kept ≡ reply_to command (effect command before)

-- and none of the command's tests fails
abbrev pub IsChange : Holdings (List ℕ) → ACommand (List ℕ) → PlannedChange → Type 0
IsChange before command change = (refusal_of before command ≡ None) × IsEffect before command change

-- the refusal is that of the first test that fails; memory is wanted only where none of them fails
abbrev pub IsFaultOf : Holdings (List ℕ) → ACommand (List ℕ) → PlanFault → Type 0
IsFaultOf before command (Refused refusal) = refusal_of before command ≡ Some refusal
IsFaultOf before command Memory = refusal_of before command ≡ None

-- the change is what the command did to a catalogue, of which this is the outcome: the same reply, the summary of the
-- catalogue after, and the editions that stood before and don't stand after
pub record IsChangeOf (before : Catalogue) (outcome : Outcome) (change : PlannedChange) : Type 0 where
  pub reply : outcome.reply ≡ accepted (kept_shown change.kept)
  pub summary : summary_shown change.summary ≡ summary_of outcome.catalogue
  pub gone : change.gone.items ≡ editions_gone before.items outcome.catalogue.items

-- the refusal is the outcome's, and the catalogue is the one before; where memory is wanted the outcome is no refusal
abbrev pub IsFaultFor : Catalogue → Outcome → PlanFault → Type 0
IsFaultFor before outcome (Refused refusal) = outcome ≡ record { reply = refused refusal; catalogue = before }
IsFaultFor before outcome Memory = (refusal : CommandRefusal) → outcome.reply ≢ refused refusal

abbrev pub IsPlanOf : Catalogue → Outcome → Result PlannedChange PlanFault → Type 0
IsPlanOf before outcome result = MatchResult result (IsChangeOf before outcome) (IsFaultFor before outcome)
