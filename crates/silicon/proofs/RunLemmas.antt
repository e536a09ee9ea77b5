-- A run, from what its command did.
use Rattle.std.proofs.Common.{◌≡◌, ℕ, List, [], refl, sym, subst, inr, Option, Some, None}
use Rattle.outside.specs.Outside.{Files, WhereTold, Gains}
use Rattle.outside.proofs.Told.{told_map, keeps_same, gains_nothing}
use Rattle.command_line.specs.Command.{Command}
use Rattle.outcome.specs.World.{World, HasCauses, Leaves, IsSaid, whole, cut}
use Rattle.outcome.specs.declared.status.Status.{Status}
use Rattle.outcome.specs.declared.status.Status.TheVariants.{Usage, NoMemory}
use Rattle.board.specs.Face.{Face}
use Rattle.board_command.specs.Parts.{Lent}
use Rattle.silicon.specs.Run.{IsForWords, Did, TellsUsage, usage_line}

-- what was said of faulty words
abbrev pub GainsSome : Option (List ℕ) → Option (List ℕ) → Type 0
GainsSome before after = (printed : List ℕ) × WhereTold (Gains printed) before after

gains_some : (status result : Status) (text : List ℕ) (x y : Option (List ℕ)) (s s' : ℕ)
    → IsSaid status text x y s s' result → GainsSome x y
gains_some status result text x y s s' (whole is same said) = (text, said)
gains_some status result text x y s s' (cut is le rose part first said) = (part, said)

module _ (lent : Lent) (left : List Face) where
  pub leaves_command : (command : Option Command) (seen : Command) (result : Status) (before after : World)
      → Some seen ≡ command → Leaves (Did lent left (Some seen) result) before after
      → Leaves (Did lent left command result) before after
  leaves_command command seen result before after is leaves =
      subst (λ o. Leaves (Did lent left o result) before after) is leaves

pub leaves_no_command : (lent : Lent) (left : List Face) (command : Option Command) (result : Status)
    (before after : World) (s s' : ℕ) → None ≡ command
    → IsSaid Usage usage_line before.text after.text s s' result → after.files ≡ before.files
    → Leaves (Did lent left command result) before after
leaves_no_command lent left command result before after s s' none said same =
    let some = gains_some Usage result usage_line before.text after.text s s' said in
    subst (λ o. Leaves (Did lent left o result) before after) none (record {
      printed = some.0;
      gained = some.1;
      told = subst (λ files. WhereTold (λ old new. new ≡ old) before.files files) (sym same) (keeps_same before.files);
    })

-- no fault is told of faulty words without its cause
pub causes_no_command : (stray : Type 0) (result : Status) (before after : World) → after.reads ≡ before.reads
    → after.writes ≡ before.writes
    → IsSaid Usage usage_line before.text after.text before.prints after.prints result
    → HasCauses result stray before after
causes_no_command stray result before after r w (whole is same said) = subst (λ s. HasCauses s stray before after)
    (sym is) (r, w, same)
causes_no_command stray result before after r w (cut is le rose part first said) = subst
    (λ s. HasCauses s stray before after) (sym is) (r, inr (record { later = le; failed = rose; writes = w }))

-- the usage line was told
usage_told : (result : Status) (x y : Option (List ℕ)) (s s' : ℕ) → IsSaid Usage usage_line x y s s' result
    → TellsUsage None result x y
usage_told result x y s s' (whole is same said) = subst (λ r. TellsUsage None r x y) (sym is) said
usage_told result x y s s' (cut is le rose part first said) = subst (λ r. TellsUsage None r x y) (sym is)
    (told_map _ _ x y (λ a b gains. (part, first, gains)) said)

pub tells_usage : (command : Option Command) (result : Status) (x y : Option (List ℕ)) (s s' : ℕ) → None ≡ command
    → IsSaid Usage usage_line x y s s' result → TellsUsage command result x y
tells_usage command result x y s s' none said = subst (λ o. TellsUsage o result x y) none
    (usage_told result x y s s' said)

-- memory was missing before anything was done
unchanged : (lent : Lent) (command : Option Command) (world : World) (files : Option Files)
    → WhereTold (λ old new. Did lent lent.faces command NoMemory world world old new []) files files
unchanged lent command world None = tt
unchanged lent None world (Some files) = refl
unchanged lent (Some command) world (Some files) = ((refl, refl), refl)

pub leaves_nothing : (lent : Lent) (command : Option Command) (world : World)
    → Leaves (Did lent lent.faces command NoMemory) world world
leaves_nothing lent command world = record {
  printed = [];
  gained = gains_nothing world.text;
  told = unchanged lent command world world.files;
}

pub tells_nothing : (command : Option Command) (text : Option (List ℕ)) → TellsUsage command NoMemory text text
tells_nothing None text = keeps_same text
tells_nothing (Some command) text = tt

pub for_words_nothing : (command : Option Command) → IsForWords command NoMemory
for_words_nothing None = tt
for_words_nothing (Some command) = tt
