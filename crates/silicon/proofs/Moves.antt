-- How the parts are left by a command, and by what is told of its end.
use Rattle.std.proofs.Common.{◌≡◌, ◌∙◌, ◌⊎◌, ℕ, List, [], refl, sym, subst, inl, inr, Option, Some, None, Result, Ok}
use Rattle.std.proofs.Common.{Err}
use Rattle.outside.specs.Outside.{Files, WhereTold}
use Rattle.mp_base.specs.declared.refusal.Broken.{Broken}
use Rattle.outside.proofs.Told.{told_map}
use Rattle.command_line.specs.Command.{Command, Trace, Compile, Replay, Sim, Net, Stats, Board, Make, Rules}
use Rattle.outcome.specs.Order.{Breaks}
use Rattle.outcome.specs.Line.{line_of}
use Rattle.outcome.specs.Work.{Work, IsPartOf, Stores, StoresPart}
use Rattle.outcome.specs.World.{World, HasCauses, Leaves, DidWork, IsTold, PrintFailed, StoreFailed, whole, cut}
use Rattle.outcome.specs.Halt.{Ends}
use Rattle.outcome.specs.declared.halt.Halt.{Halt}
use Rattle.outcome.specs.declared.halt.Halt.TheVariants as halt
use Rattle.outcome.specs.declared.status.Status.{Status}
use Rattle.outcome.specs.declared.status.Status.TheVariants.{Done, Refused, Usage, ReadFault, WriteFault, NoMemory}
use Rattle.outcome.proofs.ToldEnds.{leaves_told}
use Rattle.board.specs.Face.{Face}
use Rattle.board_command.specs.Parts.{Lent}
use Rattle.board_command.specs.Work.{WhereBegun}
use Rattle.silicon.specs.Faults.{work_of, IsFirstFault}
use Rattle.silicon.specs.Parts.{Moving, Moved, KeepsParts, Rests}
use Rattle.silicon.specs.Run.{Did, Ending}

-- both of what is told
both_told : (P Q : Files → Files → Type 0) (x y : Option Files) → WhereTold P x y → WhereTold Q x y
    → WhereTold (λ old new. P old new × Q old new) x y
both_told P Q x None p q = tt
both_told P Q None (Some b) p q = absurd p
both_told P Q (Some a) (Some b) p q = (p, q)

-- by what failed
begun_or : {P Q : Type 0} (work : Work) (result : Result (Unit {0}) Halt) (before after : World) (old new : Files)
    (printed : List ℕ) → Ends work result before after old new printed → P → Q → WhereBegun result before after P Q
begun_or work (Ok v) before after old new printed ends p q = p
begun_or work (Err (halt.Refused broken)) before after old new printed ends p q = q
begun_or work (Err halt.ReadFault) before after old new printed ends p q = q
begun_or {P} {Q} work (Err halt.WriteFault) before after old new printed ends p q = by ends.part
  where
    by : (StoreFailed before after × (printed ≡ []) × StoresPart work.target ends.chip old new)
        ⊎ (PrintFailed before after × IsPartOf printed ends.text × Stores work.target ends.chip old new)
        → (PrintFailed before after × P) ⊎ (StoreFailed before after × Q)
    by (inl told) = inr (told.0, q)
    by (inr told) = inl (told.0, p)
begun_or work (Err halt.NoMemory) before after old new printed ends p q = q

-- what follows from what was left
pub leaves_map : (P Q : World → World → Files → Files → List ℕ → Type 0) (before after : World)
    → ((old new : Files) (printed : List ℕ) → P before after old new printed → Q before after old new printed)
    → Leaves P before after → Leaves Q before after
leaves_map P Q before after f leaves = record {
  printed = leaves.printed;
  gained = leaves.gained;
  told = told_map (λ old new. P before after old new leaves.printed) (λ old new. Q before after old new leaves.printed)
      before.files after.files (λ a b p. f a b leaves.printed p) leaves.told;
}

-- the command that is seen
pub leaves_seen : (lent : Lent) (left : List Face) (command seen : Command) (result : Result (Unit {0}) Halt)
    (before after : World) → command ≡ seen → Leaves (Ending lent left seen result) before after
    → Leaves (Ending lent left command result) before after
leaves_seen lent left command seen result before after is leaves =
    subst (λ c. Leaves (Ending lent left c result) before after) (sym is) leaves

-- a command that moves no part
pub leaves_still : (lent : Lent) (command seen : Command) (result : Result (Unit {0}) Halt) (before after : World)
    → command ≡ seen → ((old : Files) (printed : List ℕ) → Moving lent lent.faces seen old printed)
    → Leaves (Ends (work_of lent seen) result) before after
    → Leaves (Ending lent lent.faces command result) before after
leaves_still lent command seen result before after is still leaves =
    leaves_seen lent lent.faces command seen result before after is
    (leaves_map (Ends (work_of lent seen) result) (Ending lent lent.faces seen result) before after
    (λ old new printed ends. (
      ends,
      begun_or (work_of lent seen) result before after old new printed ends (still old printed) refl,
    )) leaves)

module _ (lent : Lent) (left : List Face) (command : Command) where
  cut_moved : (before after : World) (old : Files) (printed : List ℕ)
      → WhereBegun {T = Unit {0}} (Err halt.WriteFault) before after (Moving lent left command old printed)
      (left ≡ lent.faces) → Moved lent left command WriteFault before after old printed
  cut_moved before after old printed (inl moved) = inl moved
  cut_moved before after old printed (inr stays) = inr (inl stays)

  -- a command whose write failed
  pub leaves_cut_short : (before after : World)
      → Leaves (Ending {T = Unit {0}} lent left command (Err halt.WriteFault)) before after
      → Leaves (Did lent left (Some command) WriteFault) before after
  leaves_cut_short before after leaves =
      leaves_map (Ending {T = Unit {0}} lent left command (Err halt.WriteFault))
      (Did lent left (Some command) WriteFault) before after
      (λ old new printed p. (inr p.0, cut_moved before after old printed p.1)) leaves

  -- the parts stay where a refusal is told, or could not be told
  moved_none : (before after : World) (broken : Broken) (result : Status) (x y : Option (List ℕ)) (s s' : ℕ)
      (old : Files) (printed : List ℕ) → IsTold (line_of broken) x y s s' result
      → IsFirstFault lent command old (Some (Breaks broken)) → left ≡ lent.faces → Moved lent left command result before after old printed
  moved_none before after broken result x y s s' old printed (inl (whole is same said)) first stay =
      subst (λ r. Moved lent left command r before after old printed) (sym is) stay
  moved_none before after broken result x y s s' old printed (inl (cut is le rose part first_part said)) first stay =
      subst (λ r. Moved lent left command r before after old printed) (sym is) (inr (inr (broken, first, stay)))
  moved_none before after broken result x y s s' old printed (inr none) first stay =
      subst (λ r. Moved lent left command r before after old printed) (sym none.0) stay

  -- a refusal was told
  pub leaves_refused : (broken : Broken) (result : Status) (before mid after : World)
      → HasCauses Refused ⊥ before mid
      → Leaves (Ending {T = Unit {0}} lent left command (Err (halt.Refused broken))) before mid
      → IsTold (line_of broken) mid.text after.text mid.prints after.prints result → after.files ≡ mid.files
      → after.writes ≡ mid.writes → Leaves (Did lent left (Some command) result) before after
  leaves_refused broken result before mid after none leaves is same w =
      let End : World → World → Files → Files → List ℕ → Type 0 =
      Ends {T = Unit {0}} (work_of lent command) (Err (halt.Refused broken)) in
      let Whole : World → World → Files → Files → List ℕ → Type 0 =
      Ending {T = Unit {0}} lent left command (Err (halt.Refused broken)) in
      let first = leaves_told (work_of lent command) broken result before mid after none.2 (w ∙ none.1)
      (leaves_map Whole End before mid (λ old new printed p. p.0) leaves) is same in
      let kept = told_map (λ old new. Whole before mid old new leaves.printed)
      (λ old new. Moved lent left command result before after old first.printed) before.files mid.files
      (λ a b p. moved_none before after broken result mid.text after.text mid.prints after.prints a
      first.printed is (p.0).0 p.1)
      leaves.told in
      record {
        printed = first.printed;
        gained = first.gained;
        told = both_told (λ old new. DidWork (work_of lent command) result before after old new first.printed)
            (λ old new. Moved lent left command result before after old first.printed) before.files after.files
            first.told
            (subst (λ files. WhereTold (λ old new. Moved lent left command result before after old first.printed)
            before.files files) (sym same) kept);
      }

-- ---- whatever the files are

module _ {P : Type 0} (name : P → List ℕ) (w v : World) (before after : List P) where
  pub keeps_all : (words : Option Command) (status : Status) → (status ≡ Done → ⊥) → after ≡ before
      → KeepsParts name words status w v before after
  keeps_all None status other is = is
  keeps_all (Some (Trace source stimulus)) status other is = is
  keeps_all (Some (Compile source cif)) status other is = is
  keeps_all (Some (Replay source stimulus cif)) status other is = is
  keeps_all (Some (Sim cif stimulus)) status other is = is
  keeps_all (Some (Net cif)) status other is = is
  keeps_all (Some (Rules cif)) status other is = is
  keeps_all (Some (Stats source)) status other is = is
  keeps_all (Some (Make number cif)) status other is = is
  keeps_all (Some (Board source cif clocks links)) Done other is = absurd (other refl)
  keeps_all (Some (Board source cif clocks links)) Refused other is = is
  keeps_all (Some (Board source cif clocks links)) Usage other is = is
  keeps_all (Some (Board source cif clocks links)) ReadFault other is = is
  keeps_all (Some (Board source cif clocks links)) WriteFault other is = inl is
  keeps_all (Some (Board source cif clocks links)) NoMemory other is = is

  -- a command that was done, or whose write failed
  pub keeps_given : (command : Command) (u : Unit {0}) → Rests {T = Unit {0}} name command (Ok u) w v before after
      → KeepsParts name (Some command) Done w v before after
  keeps_given (Trace source stimulus) u is = is
  keeps_given (Compile source cif) u is = is
  keeps_given (Replay source stimulus cif) u is = is
  keeps_given (Sim cif stimulus) u is = is
  keeps_given (Net cif) u is = is
  keeps_given (Rules cif) u is = is
  keeps_given (Stats source) u is = is
  keeps_given (Make number cif) u is = is
  keeps_given (Board source cif clocks links) u is = is

  pub keeps_cut : (command : Command) → Rests {T = Unit {0}} name command (Err halt.WriteFault) w v before after
      → KeepsParts name (Some command) WriteFault w v before after
  keeps_cut (Trace source stimulus) is = is
  keeps_cut (Compile source cif) is = is
  keeps_cut (Replay source stimulus cif) is = is
  keeps_cut (Sim cif stimulus) is = is
  keeps_cut (Net cif) is = is
  keeps_cut (Rules cif) is = is
  keeps_cut (Stats source) is = is
  keeps_cut (Make number cif) is = is
  keeps_cut (Board source cif clocks links) (inl taken) = inr taken
  keeps_cut (Board source cif clocks links) (inr stays) = inl stays.1

  -- and any other, in whatever world it ended
  rested : (u : World) (command : Command) (end : Halt) → (end ≡ halt.WriteFault → ⊥)
      → Rests {T = Unit {0}} name command (Err end) w u before after → after ≡ before
  rested u (Trace source stimulus) end other is = is
  rested u (Compile source cif) end other is = is
  rested u (Replay source stimulus cif) end other is = is
  rested u (Sim cif stimulus) end other is = is
  rested u (Net cif) end other is = is
  rested u (Rules cif) end other is = is
  rested u (Stats source) end other is = is
  rested u (Make number cif) end other is = is
  rested u (Board source cif clocks links) (halt.Refused broken) other is = is
  rested u (Board source cif clocks links) halt.ReadFault other is = is
  rested u (Board source cif clocks links) halt.WriteFault other is = absurd (other refl)
  rested u (Board source cif clocks links) halt.NoMemory other is = is

  -- a refusal that is told isn't done
  told_undone : (line : List ℕ) (x y : Option (List ℕ)) (s s' : ℕ) (status : Status) → IsTold line x y s s' status
      → status ≡ Done → ⊥
  told_undone line x y s s' status (inl (whole is same said)) done = refused_done (sym is ∙ done)
    where
      refused_done : Refused ≡ Done → ⊥
      refused_done e = cc
  told_undone line x y s s' status (inl (cut is le rose part first said)) done = cut_done (sym is ∙ done)
    where
      cut_done : WriteFault ≡ Done → ⊥
      cut_done e = cc
  told_undone line x y s s' status (inr none) done = wanting_done (sym none.0 ∙ done)
    where
      wanting_done : NoMemory ≡ Done → ⊥
      wanting_done e = cc

  pub keeps_refused : (u : World) (command : Command) (broken : Broken) (line : List ℕ) (x y : Option (List ℕ))
      (s s' : ℕ) (status : Status) → IsTold line x y s s' status
      → Rests {T = Unit {0}} name command (Err (halt.Refused broken)) w u before after
      → KeepsParts name (Some command) status w v before after
  keeps_refused u command broken line x y s s' status told is =
      keeps_all (Some command) status (told_undone line x y s s' status told)
      (rested u command (halt.Refused broken) (λ e. cc) is)

  pub keeps_unread : (command : Command) → Rests {T = Unit {0}} name command (Err halt.ReadFault) w v before after
      → KeepsParts name (Some command) ReadFault w v before after
  keeps_unread command is =
      keeps_all (Some command) ReadFault (λ e. cc) (rested v command halt.ReadFault (λ e. cc) is)

  pub keeps_wanting : (command : Command) → Rests {T = Unit {0}} name command (Err halt.NoMemory) w v before after
      → KeepsParts name (Some command) NoMemory w v before after
  keeps_wanting command is =
      keeps_all (Some command) NoMemory (λ e. cc) (rested v command halt.NoMemory (λ e. cc) is)

  -- the command that is seen
  pub rests_seen : (command seen : Command) (result : Result (Unit {0}) Halt) → command ≡ seen
      → Rests name seen result w v before after → Rests name command result w v before after
  rests_seen command seen result is rests = subst (λ c. Rests name c result w v before after) (sym is) rests

  -- words that stand for a command, or for none
  pub keeps_words : (words seen : Option Command) (status : Status) → seen ≡ words
      → KeepsParts name seen status w v before after → KeepsParts name words status w v before after
  keeps_words words seen status is keeps = subst (λ o. KeepsParts name o status w v before after) is keeps
