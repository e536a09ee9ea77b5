-- A circuit that runs along a stimulus: how it is refused, and what it shows.
use Rattle.std.proofs.Common.{◌≡◌, ◌≤◌, ◌<◌, ◌^◌, ◌∙◌, ℕ, List, [], refl, sym, ap, subst, arith, Option, Some, None}
use Rattle.std.proofs.Common.{IfSome, Result, Ok, Err, subst₂}
use Rattle.std.specs.Prelude.{IsErrAnd}
use Rattle.mp_base.specs.declared.value.Trit.{Trit}
use Rattle.mp_base.specs.declared.value.Trit.TheVariants.{X}
use Rattle.mp_base.specs.declared.pad.Pads.{Pads}
use Rattle.mp_base.specs.declared.refusal.Refusal.{Refusal}
use Rattle.mp_base.specs.declared.refusal.Refusal.TheVariants as refusals
use Rattle.outside.specs.Outside.{Files, Keeps, Gains, HasCause, bytes_of}
use Rattle.outside.specs.Piece.{TakesAll}
use Rattle.outside.specs.declared.calls.Failed.{Failed}
use Rattle.mp_base.proofs.Decisions.{IsDetermined}
use Rattle.outside.proofs.Told.{told_then, keeps_same}
use Rattle.switch_net.specs.declared.network.Network.{Network}
use Rattle.switch_net.specs.Breaks.{HasPads, IsFirstOfCircuit}
use Rattle.switch_net.specs.Laws.{OneFirstOfCircuit}
use Rattle.stimulus.specs.declared.given.Stimulus.{Stimulus}
use Rattle.stimulus.specs.declared.limits.TheConstants.{CLOCK_LIMIT, PAD_LIMIT}
use Rattle.stimulus.specs.Reading.{IsStimulus}
use Rattle.switch_net.proofs.Circuits.{breaks_nothing}
use Rattle.mask_net.specs.Masks.{IsNetOf}
use Rattle.mask_net.specs.Laws.{OneNetwork}
use Rattle.clock_run.specs.Refused.{IsRefused}
use Rattle.sim_run.specs.Transcript.{IsTranscript}
use Rattle.outcome.specs.Order.{Fault, IsStrayBy, OfRule}
use Rattle.sim_command.specs.Work.{work, SetUpFault}
use Rattle.outcome.specs.Halt.{Ends, EndsBy, IsQuiet, halt_of, status_of}
use Rattle.outcome.specs.World.{World, HasCauses, Leaves}
use Rattle.sim_command.specs.Showing.{IsShown, refused, ran}
use Rattle.sim_command.specs.Simulated.{IsSetUp, OfCircuit}
use Rattle.outcome.specs.declared.halt.Halt.{Halt}
use Rattle.outcome.specs.declared.halt.Halt.TheVariants.{WriteFault}
use Rattle.outcome.proofs.Causes.{print_failed}
use Rattle.outcome.proofs.EndsLemmas.{leaves_halted, leaves_done, leaves_cut}
use Rattle.outcome.proofs.Reasons.{ends_first, ends_second, if_second}
use Rattle.outcome.proofs.Silence.{quiet_same, quiet_cut}
use Rattle.stages.proofs.Ending.{causes_halted}

-- a stimulus of a text has the same pads everywhere
abbrev pub SamePads : Type 0
SamePads = (text : List ℕ) (s t : Stimulus) → IsStimulus text None s → IsStimulus text None t → s.pads ≡ t.pads

module _ (network : OneNetwork) (same : SamePads) (first : OneFirstOfCircuit) (masks text : List ℕ) where
  -- what holds of a circuit holds of the same circuit, found again
  again : (P : Network → Pads → Type 0) (n m : Network) (s t : Stimulus) → IsSetUp masks text n s
      → IsSetUp masks text m t → P n s.pads → P m t.pads
  again P n m s t x y p = subst (λ pads. P m pads) (same text s t x.spelled y.spelled)
      (subst (λ net. P net s.pads) (network masks n m x.drawn y.drawn) p)

  pub one_of_circuit : IsDetermined (OfCircuit masks text)
  one_of_circuit None None x y = refl
  one_of_circuit None (Some b) (n, s, x, fits) (
    m,
    t,
    y,
    broken,
  ) = absurd (breaks_nothing m t.pads b (again HasPads n m s t x y fits) broken)
  one_of_circuit (Some a) None (n, s, x, broken) (
    m,
    t,
    y,
    fits,
  ) = absurd (breaks_nothing n s.pads a (again HasPads m n t s y x fits) broken)
  one_of_circuit (Some a) (Some b) (n, s, x, broken) (m, t, y, other) =
      ap Some (first m t.pads a b (again (λ net pads. IsFirstOfCircuit net pads a) n m s t x y broken) other)

-- the files were refused
pub ends_set_up : (cif stimulus : List ℕ) (held : Option Files) (r m : ℕ) (halt : Halt)
    → EndsBy (SetUpFault cif stimulus) held r m halt → EndsBy (work cif stimulus).First held r m halt
ends_set_up cif stimulus held r m halt e = ends_first (SetUpFault cif stimulus)
    (λ files. OfRule (OfCircuit (bytes_of files cif) (bytes_of files stimulus))) held r m halt e

module _ (cif stimulus : List ℕ) (net : Network) (given : Stimulus) (held : Option Files) (r m : ℕ)
    (set_up : IfSome held (λ files. IsSetUp (bytes_of files cif) (bytes_of files stimulus) net given))
    (fits : (m ≡ r) × IfSome held (λ files. SetUpFault cif stimulus files None)) where
  abbrev Rest : Files → Option Fault → Type 0
  Rest files = OfRule (OfCircuit (bytes_of files cif) (bytes_of files stimulus))

  refused_end : (held : Option Files)
      → IfSome held (λ files. IsSetUp (bytes_of files cif) (bytes_of files stimulus) net given) → (e : Refusal)
      → IsRefused net given.pads e → EndsBy Rest held m m (halt_of e)
  refused_end held is refusals.NoMemory h = refl
  refused_end None is (refusals.Broken b) h = (refl, tt)
  refused_end (Some files) is (refusals.Broken b) h = (refl, (net, given, is, h))

  -- the circuit was refused
  pub ends_refused : (e : Refusal) → IsRefused net given.pads e
      → EndsBy (work cif stimulus).First held r m (halt_of e)
  ends_refused e h = ends_second (SetUpFault cif stimulus) Rest held r m m (halt_of e) fits.0 fits.1
      (refused_end held set_up e h)

  rest_fits : (held : Option Files)
      → IfSome held (λ files. IsSetUp (bytes_of files cif) (bytes_of files stimulus) net given) → HasPads net given.pads
      → IfSome held (λ files. Rest files None)
  rest_fits None is h = tt
  rest_fits (Some files) is h = (net, given, is, h)

  -- no rule is broken
  pub no_fault : HasPads net given.pads → IfSome held (λ files. (work cif stimulus).First files None)
  no_fault h = if_second (SetUpFault cif stimulus) Rest held None fits.1 (rest_fits held set_up h)

-- a stimulus of a file fits a simulation
pub few_inputs : (n : ℕ) → n ≤ PAD_LIMIT → n < 2 ^ 32
few_inputs n few = omega arith

pub few_clocks : (n : ℕ) → n ≤ CLOCK_LIMIT → n < 2 ^ 32
few_clocks n few = omega arith

pub keeps_twice : {X : Type 0} (x y z : Option X) → Keeps x y → Keeps y z → Keeps x z
keeps_twice x y z kept still = told_then _ _ _ x y z (λ a b c e f. f ∙ e) kept still

-- what was read of the files
pub is_set_up : (cif stimulus : List ℕ) (net : Network) (given : Stimulus) (held : Option Files)
    → IfSome held (λ files. IsNetOf (bytes_of files cif) net)
    → IfSome held (λ files. IsStimulus (bytes_of files stimulus) None given)
    → IfSome held (λ files. IsSetUp (bytes_of files cif) (bytes_of files stimulus) net given)
is_set_up cif stimulus net given None drawn spelled = tt
is_set_up cif stimulus net given (Some files) drawn spelled = record { drawn = drawn; spelled = spelled }

pub shows_simulation : (cif stimulus text : List ℕ) (net : Network) (given : Stimulus) (after : ℕ
    → Trit) (held : Option Files)
    → IfSome held (λ files. IsSetUp (bytes_of files cif) (bytes_of files stimulus) net given)
    → IsTranscript net given (λ node. X) after text
    → IfSome held (λ files. (work cif stimulus).Shows files [] text)
shows_simulation cif stimulus text net given after None is transcript = tt
shows_simulation cif stimulus text net given after (Some files) is transcript = (
  refl,
  record { network = net; given = given; set_up = is; after = after; transcript = transcript },
)

-- a whole or a part of a text was taken, whatever the fault is
retaken : {E : Type 0} (e : E) (before after : Option (List ℕ)) (text : List ℕ) (result : Result (Unit {0}) Halt)
    → IsErrAnd result (λ halt. halt ≡ WriteFault) → TakesAll {T = Unit {0}} Gains before after text (Err e)
    → TakesAll Gains before after text result
retaken e before after text (Ok v) is t = absurd is
retaken e before after text (Err halt) is t = record {
  count = t.count;
  within = t.within;
  all = tt;
  cut = t.cut;
  taken = t.taken;
}

-- the circuit ran, and a write failed
pub cut_shown : (net : Network) (given : Stimulus) (before after : Option (List ℕ)) (faults now : ℕ)
    (result : Result (Unit {0}) Halt) (e : Failed) (end : ℕ → Trit) (text : List ℕ) → HasPads net given.pads
    → IsErrAnd result (λ halt. halt ≡ WriteFault) → IsTranscript net given (λ node. X) end text
    → TakesAll {T = Unit {0}} Gains before after text (Err e) → HasCause {T = Unit {0}} faults now (Err e)
    → IsShown net given before after faults now result
cut_shown net given before after faults now (Ok v) e end text pads is transcript taken cause = absurd is
cut_shown net given before after faults now (Err halt) e end text pads is transcript taken cause =
    ran end text pads transcript (retaken e before after text (Err halt) is taken)
    record { later = cause.later; ok = tt; failed = cause.failed } is

-- the circuit ran, and all was printed
pub whole_shown : (net : Network) (given : Stimulus) (before after : Option (List ℕ)) (faults now : ℕ) (v w : Unit {0})
    (end : ℕ → Trit) (text : List ℕ) → HasPads net given.pads → IsTranscript net given (λ node. X) end text
    → TakesAll {E = Failed} Gains before after text (Ok v) → HasCause {E = Failed} faults now (Ok v)
    → IsShown net given before after faults now (Ok w)
whole_shown net given before after faults now v w end text pads transcript taken cause =
    ran end text pads transcript
    record { count = taken.count; within = taken.within; all = taken.all; cut = tt; taken = taken.taken }
    record { later = cause.later; ok = cause.ok; failed = tt } tt

-- what is shown of a simulation is shown of the network and the stimulus that it was opened with
pub opened_shown : (net found : Network) (given told : Stimulus) (before after : Option (List ℕ)) (faults now : ℕ)
    (result : Result (Unit {0}) Halt) → found ≡ net → told ≡ given
    → IsShown found told before after faults now result → IsShown net given before after faults now result
opened_shown net found given told before after faults now result e f =
    subst₂ (λ n s. IsShown n s before after faults now result) e f

-- work that was refused has printed nothing
pub shown_quiet : (net : Network) (given : Stimulus) (before after : Option (List ℕ)) (faults now : ℕ)
    (result : Result (Unit {0}) Halt) → IsShown net given before after faults now result
    → IsQuiet result before after
shown_quiet net given before after faults now result (refused why broken is text prints) =
    subst (IsQuiet result before) (sym text) (quiet_same result before)
shown_quiet net given before after faults now (Ok v) (ran end text pads transcript taken cause cut) = tt
shown_quiet net given before after faults now (Err halt) (ran end text pads transcript taken cause cut) =
    quiet_cut {T = Unit {0}} (Err halt) before after cut

-- the circuit was refused, or it ran: what the command did by that
module _ (cif stimulus : List ℕ) (net : Network) (given : Stimulus) (before after : World)
    (set_up : IfSome after.files (λ files. IsSetUp (bytes_of files cif) (bytes_of files stimulus) net given))
    (fits : (after.reads ≡ before.reads) × IfSome after.files (λ files. SetUpFault cif stimulus files None)) where
  abbrev Shown : Result (Unit {0}) Halt → Type 0
  Shown = IsShown net given before.text after.text before.prints after.prints

  why_ends : (why : Refusal) → IsRefused net given.pads why
      → EndsBy (work cif stimulus).First after.files before.reads after.reads (halt_of why)
  why_ends = ends_refused cif stimulus net given after.files before.reads after.reads set_up fits

  finds : (end : ℕ → Trit) (text : List ℕ) → HasPads net given.pads → IsTranscript net given (λ node. X) end text
      → IfSome after.files (λ files. (work cif stimulus).First files None)
      × IfSome after.files (λ files. (work cif stimulus).Shows files [] text)
  finds end text pads transcript = (
    no_fault cif stimulus net given after.files before.reads after.reads set_up fits pads,
    shows_simulation cif stimulus text net given end after.files set_up transcript,
  )

  pub shown_leaves : (result : Result (Unit {0}) Halt) → Keeps before.files after.files → after.writes ≡ before.writes
      → Shown result → Leaves (Ends (work cif stimulus) result) before after
  shown_leaves result kept writes (refused why broken is text prints) =
      leaves_halted (work cif stimulus) (halt_of why) result before after before.reads after.reads is kept text
      (why_ends why broken)
  shown_leaves (Ok v) kept writes (ran end text pads transcript taken cause cut) =
      leaves_done (work cif stimulus) [] text v v before after after.files kept (finds end text pads transcript)
      (keeps_same after.files) taken
  shown_leaves (Err halt) kept writes (ran end text pads transcript taken cause cut) =
      leaves_cut (work cif stimulus) [] text halt (Err halt) before after after.files cut
      (record { later = cause.later; failed = cause.failed; writes = writes }) kept
      (finds end text pads transcript) (keeps_same after.files) taken

  pub shown_causes : (result : Result (Unit {0}) Halt) → after.writes ≡ before.writes → Shown result
      → HasCauses (status_of result) (IsStrayBy (work cif stimulus).First after.files) before after
  shown_causes result writes (refused why broken is text prints) =
      causes_halted (work cif stimulus).First after.files (halt_of why) result before after is (why_ends why broken)
      writes prints
  shown_causes (Ok v) writes (ran end text pads transcript taken cause cut) = (fits.0, writes, cause.ok)
  shown_causes (Err halt) writes (ran end text pads transcript taken cause cut) =
      print_failed (Err halt) (IsStrayBy (work cif stimulus).First after.files) before after cut fits.0 writes
      cause.later cause.failed
