-- What a run with the program's parts promises, from what a run promises with parts that are lent.
use Rattle.std.proofs.Common.{◌≡◌, ◌∙◌, ℕ, List, [], ◌∷◌, ◌++◌, Option, Some, None, Result, Ok, Err, ap, refl, subst}
use Rattle.std.proofs.Common.{sym}
use Rattle.std.specs.Prelude.{MatchResult}
use Rattle.command_line.specs.Command.{Command, Make}
use Rattle.outside.specs.Outside.{Files, WhereTold, Keeps}
use Rattle.outside.proofs.Told.{gains_nothing}
use Rattle.outcome.specs.World.{World, HasCauses, Leaves, SparesFiles, IsSilent}
use Rattle.outcome.specs.declared.status.Status.{Status}
use Rattle.outcome.specs.declared.status.Status.TheVariants.{NoMemory, WriteFault}
use Rattle.board.specs.Face.{Face}
use Rattle.board_command.specs.Parts.{Lent}
use Rattle.silicon.specs.Complete.{IsRun}
use Rattle.silicon.specs.Faults.{IsStrayFor, target_for}
use Rattle.silicon.specs.Run.{IsForWords, Did, EndsMade, TellsUsage}
use Rattle.system_run.specs.Words.{command_given}
use Rattle.system_run.specs.Parts.{own_parts, counter, shifter, echo, memory, RunsWithParts}

-- four entries that were pushed one after another
pub pushed : {X : Type 0} (none one two three all : List X) (a b c d : X) → all ≡ three ++ d ∷ []
    → three ≡ two ++ c ∷ [] → two ≡ one ++ b ∷ [] → one ≡ none ++ a ∷ [] → none ≡ [] → all ≡ a ∷ b ∷ c ∷ d ∷ []
pushed none one two three all a b c d fourth third second first start =
    let r1 = first ∙ ap (λ l. l ++ a ∷ []) start in
    let r2 = second ∙ ap (λ l. l ++ b ∷ []) r1 in
    let r3 = third ∙ ap (λ l. l ++ c ∷ []) r2 in
    fourth ∙ ap (λ l. l ++ d ∷ []) r3

pub four_parts : (a b c d : Face) (faces : List Face) → faces ≡ a ∷ b ∷ c ∷ d ∷ [] → a ≡ counter → b ≡ shifter
    → c ≡ echo → d ≡ memory → faces ≡ own_parts.faces
four_parts a b c d faces are p q r s = cc

abbrev lent_of : List (List ℕ) → List Face → Lent
lent_of names faces = record { names = names; faces = faces }

pub same_lent : (names others : List (List ℕ)) (faces those : List Face) → names ≡ others → faces ≡ those
    → lent_of names faces ≡ lent_of others those
same_lent names others faces those p q = cc

abbrev pub face_of : List ℕ → (List ℕ → ℕ) → (List ℕ → ℕ → List ℕ) → Face
face_of s d n = record { state = s; drives = d; sees = n }

pub of_lent : (lent : Lent) (left : List Face) (words : Option Command) (status : Status) (before after : World)
    → IsForWords words status → HasCauses status (IsStrayFor lent words after.files) before after
    → Leaves (Did lent left words status) before after → IsSilent status before.text after.text
    → SparesFiles (target_for words) before.files after.files before.writes after.writes
    → TellsUsage words status before.text after.text → EndsMade words status → lent ≡ own_parts
    → RunsWithParts words status before after
of_lent lent left words status before after form causes content silent spares usage made is = record {
  left = left;
  run = subst (λ parts. IsRun parts left words status before after) is
      (record { form = form; causes = causes; content = content });
  silent = silent;
  spares = spares;
  usage = usage;
  made = made;
}

form_of_none : (words : Option Command) → IsForWords words NoMemory
form_of_none None = tt
form_of_none (Some command) = tt

form_of_fault : (words : Option Command) → IsForWords words WriteFault
form_of_fault None = tt
form_of_fault (Some command) = tt

-- what is so of the command of words that are given is so of them
pub for_given : {T E : Type 0} (given : Result T E) (words : T → Option Command) (status : Status)
    → IsForWords (command_given words given) status
    → MatchResult given (λ x. IsForWords (words x) status) (λ e. IsForWords None status)
for_given (Ok x) words status h = h
for_given (Err e) words status h = h

-- a failed output says nothing of words
pub ended_for : {T E : Type 0} (flushed : Result T E) (words : Option Command) (status last : Status)
    → MatchResult flushed (λ x. last ≡ status) (λ e. last ≡ WriteFault) → IsForWords words status
    → IsForWords words last
ended_for (Ok x) words status last is h = subst (IsForWords words) (sym is) h
ended_for (Err e) words status last is h = subst (IsForWords words) (sym is) (form_of_fault words)

made_of_none : (words : Option Command) → EndsMade words NoMemory
made_of_none None = tt
made_of_none (Some (Make number cif)) = (λ e. absurd (cc), λ e. absurd (cc))
made_of_none (Some command) = tt

kept : {X : Type 0} (x : Option X) → Keeps x x
kept None = tt
kept (Some files) = refl

usage_of_none : (words : Option Command) (text : Option (List ℕ)) → TellsUsage words NoMemory text text
usage_of_none None text = kept text
usage_of_none (Some command) text = tt

spared : (target : Option (List ℕ)) (files : Option Files) (faults : ℕ) → SparesFiles target files files faults faults
spared None files faults = (kept files, refl)
spared (Some name) files faults = tt

did_nothing : (words : Option Command) (world : World) (files : Option Files)
    → WhereTold (λ old new. Did own_parts own_parts.faces words NoMemory world world old new []) files files
did_nothing words world None = tt
did_nothing None world (Some files) = refl
did_nothing (Some command) world (Some files) = ((refl, refl), refl)

same_world : (words : Option Command) (world : World) → RunsWithParts words NoMemory world world
same_world words world = record {
  left = own_parts.faces;
  run = record {
    form = form_of_none words;
    causes = (refl, refl, refl);
    content = record {
      printed = [];
      gained = gains_nothing world.text;
      told = did_nothing words world world.files;
    };
  };
  silent = refl;
  spares = spared (target_for words) world.files world.writes;
  usage = usage_of_none words world.text;
  made = made_of_none words;
}

-- memory for the parts was missing
pub nothing_done : (words : Option Command) (before after : World) → after ≡ before
    → RunsWithParts words NoMemory before after
nothing_done words before after same = subst (RunsWithParts words NoMemory before) (sym same) (same_world words before)
