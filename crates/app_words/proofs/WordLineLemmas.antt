-- What building a command line adds to what is read by it.
use Rattle.std.proofs.Common.{◌≡◌, ◌⊎◌, ◌∙◌, ◌||◌, ◌+◌, ◌<◌, ℕ, length, map, take, get_or, ap, ap₂, sym, subst, refl, true, false, List, [], ◌∷◌, Option, inl, inr}
use Rattle.std.proofs.lemmas.List.{map_more, map-append}
use Rattle.clap.specs.Simple.{App, is_simple, new_shape, subcommand_of, with_rule, with_subcommand}
use Rattle.clap.specs.Faults.{fault_of, is_simple_and_free}
use Rattle.clap.specs.Kinds.{IsAmong}
use Rattle.clap.specs.Walk.{Rule, Row, Text, rule_of}
use Rattle.clap.specs.declared.error.kind.ErrorKind.{ErrorKind}
use Rattle.clap.specs.declared.error.kind.ErrorKind.TheVariants.{OutOfMemory}
use Rattle.clap.proofs.OnLiterals.{clap_on_literals}
use Rattle.clap.specs.Built.{AddsArg, AddsSubcommand}
use Rattle.clap.specs.declared.builder.arg.Arg.{Arg}
use Rattle.clap.specs.declared.builder.command.Command.{Command}
use Rattle.app_words.specs.Line.{command_line, alone, leaf, word_rule, Reads}
use Rattle.app_words.specs.Asked.{mistakes_in, Fails}

-- an argument more
pub adds_arg : (app : App) (rule : Rule) (old new : Command) (a : Arg) → Reads app old → rule_of a ≡ rule → a.global ≡ false
    → AddsArg old a new → Reads (with_rule app rule) new
adds_arg app rule old new a reads is local adds =
    (adds.shape local ∙ ap₂ with_rule reads.0 is, adds.globals ∙ ap₂ (λ p q. p || q) reads.1 local)

-- a subcommand more
pub adds_subcommand : (app sub : App) (old new added : Command) → Reads app old → Reads sub added → AddsSubcommand old added new
    → Reads (with_subcommand app sub.top) new
adds_subcommand app sub old new added reads reads_sub adds =
    (adds.shape reads_sub.1 ∙ ap₂ with_subcommand reads.0 (ap (λ (a : App). a.top) reads_sub.0), adds.globals ∙ ap₂ (λ p q. p || q) reads.1 reads_sub.1)

-- the words of a subcommand up to one, and that one
pub leaf_more : {X : Type 0} (f : X → Text) (name : Text) (xs : List X) (i : ℕ) (d : X) → i < length xs
    → with_rule (alone (leaf name (map f (take i xs)))) (word_rule (f (get_or xs i d))) ≡ alone (leaf name (map f (take (i + 1) xs)))
leaf_more f name xs i d lt =
    ap (λ (rules : List Rule). alone (record (new_shape name) { rules = rules }))
    (sym (map-append word_rule (map f (take i xs)) (f (get_or xs i d) ∷ [])) ∙ ap (map word_rule) (sym (map_more f xs i d lt)))

-- clap's contracts tell what it finds by this command line
simple : is_simple command_line ≡ true
unfolding command_line clap_on_literals
simple = refl

free : is_simple_and_free command_line ≡ true
unfolding command_line clap_on_literals
free = refl

-- an error tells why
pub fails_by : (app : App) (words : List Text) (kind : ErrorKind) → app ≡ command_line
    → (is_simple_and_free app ≡ true → (kind ≡ OutOfMemory) ⊎ IsAmong kind (fault_of app words)) → Fails words kind
fails_by app words kind is = subst (λ (a : App). (is_simple_and_free a ≡ true → (kind ≡ OutOfMemory) ⊎ IsAmong kind (fault_of a words)) → Fails words kind)
    (sym is) (λ fails. elim (fails free) [ inl memory ↦ inl memory | inr among ↦ inr (inl among) ])

-- what was found is what the words use, and they have no mistake
pub found_by : (A : Type 0) (app : App) (words : List Text) (found : Option (Text × List Row)) → app ≡ command_line
    → (is_simple_and_free app ≡ true → fault_of app words ≡ []) → (is_simple app ≡ true → A × (found ≡ subcommand_of app words))
    → (mistakes_in words ≡ []) × (found ≡ subcommand_of command_line words)
found_by A app words found is = subst (λ (a : App). (is_simple_and_free a ≡ true → fault_of a words ≡ [])
    → (is_simple a ≡ true → A × (found ≡ subcommand_of a words)) → (mistakes_in words ≡ []) × (found ≡ subcommand_of command_line words))
    (sym is) (λ none finds. (none free, (finds simple).1))
