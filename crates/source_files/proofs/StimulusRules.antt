-- A stimulus breaks at most one rule first.
use Rattle.std.proofs.Common.{◌≡◌, ◌≤◌, ℕ, List, length, map, refl, sym, ap, subst, ◌∙◌, Option, Some, None, Result, Ok}
use Rattle.std.proofs.Common.{Err, IfOk, IfSome, arith}
use Rattle.std.proofs.Props.{props}
use Rattle.mp_base.specs.declared.refusal.Place.{Place}
use Rattle.mp_base.specs.declared.refusal.Broken.{Broken}
use Rattle.mp_base.specs.declared.refusal.Family.{Family}
use Rattle.mp_base.specs.declared.refusal.Spot.{Spot}
use Rattle.mp_base.specs.declared.refusal.Spot.TheVariants.{At, Offset, Named, Nowhere}
use Rattle.mp_base.specs.declared.refusal.Refusal.{Refusal}
use Rattle.mp_base.specs.declared.pad.Pad.{Pad}
use Rattle.mp_base.specs.declared.pad.Pads.{Pads}
use Rattle.mp_base.specs.Refuses.{SpotIs}
use Rattle.mp_program.specs.declared.program.Program.{Program}
use Rattle.mp_program.specs.Pads.{ArePadsOf, face}
use Rattle.stimulus.specs.declared.given.Stimulus.{Stimulus}
use Rattle.stimulus.specs.Reading.{IsStimulus, IsFirst, OfPads}
use Rattle.mp_source.specs.Source.{IsSource}
use Rattle.source_files.specs.Stimulus.{OfStimulus}
use Rattle.outcome.specs.Order.{Fault}
use Rattle.source_files.specs.Faults.{PadsFault, StimulusFault}
use Rattle.outside.specs.Outside.{Files, bytes_of}
use Rattle.mp_checker.specs.Checking.{CheckedProgram}
use Rattle.std.specs.FinMap.{get}
use Rattle.mp_base.proofs.Decisions.{IsDetermined}
use Rattle.mp_program.proofs.Faces.{same_list}
use Rattle.mp_base.proofs.SamePads.{same_pads}
use Rattle.source_files.specs.declared.limits.TheConstants.{TEXT_LIMIT}
use Rattle.outcome.proofs.Reasons.{file_map}
use Rattle.source_files.proofs.Clocks.{few_clocks}

one_narrow : (w : ℕ) → IsProp (w ≤ 64)
one_narrow w = hlevel props

-- a program has the same pads everywhere
pub one_pads : (program : Program) (p q : Pads) → ArePadsOf program p → ArePadsOf program q → p ≡ q
one_pads program p q a b = same_pads p q (same_list p.inputs q.inputs (a.inputs ∙ sym b.inputs))
    (same_list p.outputs q.outputs (a.outputs ∙ sym b.outputs))

-- the laws of stimulus files
abbrev pub OneFirst : Type 0
OneFirst = (text : List ℕ) (known : Option Pads) (j k : ℕ) (a b : Place) → IsFirst text known j a
    → IsFirst text known k b → (j ≡ k) × (a ≡ b)

abbrev pub ReadBreaksNothing : Type 0
ReadBreaksNothing = (text : List ℕ) (known : Option Pads) (s : Stimulus) (k : ℕ) (at : Place) → IsStimulus text known s
    → IsFirst text known k at → ⊥

at_spot : (s : Spot) (P : Place → Type 0) → SpotIs s P → (at : Place) × (s ≡ At at) × P at
at_spot (At at) P h = (at, refl, h)
at_spot (Offset o) P h = absurd h
at_spot (Named n) P h = absurd h
at_spot Nowhere P h = absurd h

abbrev make_broken : Family → ℕ → Spot → Broken
make_broken family number spot = record { rule = record { family = family; number = number }; spot = spot }

same_broken : (a b : Broken) → a.rule.family ≡ b.rule.family → a.rule.number ≡ b.rule.number → a.spot ≡ b.spot → a ≡ b
same_broken a b e f g =
    ap (λ x. make_broken x a.rule.number a.spot) e ∙ ap (λ x. make_broken b.rule.family x a.spot) f
    ∙ ap (make_broken b.rule.family b.rule.number) g

pub one_of_pads : OneFirst → ReadBreaksNothing → (known : Option Pads) (text : List ℕ)
    → IsDetermined (OfPads known text)
one_of_pads one clean known text None None x y = refl
one_of_pads one clean known text None (Some b) x y =
    let q = at_spot b.spot (IsFirst text known b.rule.number) y.1 in
    absurd (clean text known x.0 b.rule.number q.0 x.1 q.2)
one_of_pads one clean known text (Some a) None x y =
    let p = at_spot a.spot (IsFirst text known a.rule.number) x.1 in
    absurd (clean text known y.0 a.rule.number p.0 y.1 p.2)
one_of_pads one clean known text (Some a) (Some b) x y =
    let p = at_spot a.spot (IsFirst text known a.rule.number) x.1 in
    let q = at_spot b.spot (IsFirst text known b.rule.number) y.1 in
    let same = one text known a.rule.number b.rule.number p.0 q.0 p.2 q.2 in
    ap Some (same_broken a b (x.0 ∙ sym y.0) same.0 (p.1 ∙ ap At same.1 ∙ sym q.1))

pub one_of_stimulus : OneFirst → ReadBreaksNothing
    → ((text : List ℕ) (p q : Program) → IsSource text p → IsSource text q → p ≡ q)
    → (source text : List ℕ) → IsDetermined (OfStimulus source text)
one_of_stimulus one clean same source text a b x y =
    let program : y.program ≡ x.program = same source y.program x.program y.is_source x.is_source in
    let padded : ArePadsOf x.program y.pads = subst (λ p. ArePadsOf p y.pads) program y.padded in
    one_of_pads one clean (Some x.pads) text a b x.rules
    (subst (λ pads. OfPads (Some pads) text b) (one_pads x.program y.pads x.pads padded x.padded) y.rules)

-- what was read has few clocks
pub read_clocks : (known : Option Pads) (text : List ℕ) (result : Result Stimulus Refusal)
    → IfOk result (IsStimulus text known) → IfOk result (λ given. length given.clocks ≤ 65536)
read_clocks known text (Ok given) read = few_clocks text known given read
read_clocks known text (Err e) read = tt

-- what was read for few pads has few
pub few_pads : (pads : Pads) (text : List ℕ) (result : Result Stimulus Refusal) → length pads.inputs ≤ 256
    → IfOk result (IsStimulus text (Some pads)) → IfOk result (λ given. length (given.pads).inputs ≤ 256)
few_pads pads text (Ok given) few read = let e = ap (λ (ps : List Pad). length ps) read.inputs in omega (arith, e, few)
few_pads pads text (Err e) few read = tt

-- the pads of what was read
pub read_pads : (program : Program) (pads : Pads) (text : List ℕ) (result : Result Stimulus Refusal)
    → ArePadsOf program pads → IfOk result (IsStimulus text (Some pads))
    → IfOk result (λ given. ArePadsOf program given.pads)
read_pads program pads text (Ok given) a read = record {
  inputs = ap (map face) read.inputs ∙ a.inputs;
  outputs = ap (map face) read.outputs ∙ a.outputs;
}
read_pads program pads text (Err e) a read = tt

-- the faults of a stimulus for the pads of a source are those for the source
pub for_source : (checked : CheckedProgram) (name : List ℕ) (held : Option Files)
    → ArePadsOf checked.program checked.pads → (origin : List ℕ)
    → IfSome held (λ files. IsSource (bytes_of files origin) checked.program)
    → IfSome held (λ files. (fault : Option Fault) → PadsFault (Some checked.pads) name files fault
    → StimulusFault (bytes_of files origin) name files fault)
for_source checked name None a origin is = tt
for_source checked name (Some files) a origin is = file_map TEXT_LIMIT (OfPads (Some checked.pads))
    (OfStimulus (bytes_of files origin)) name (get files name)
    (λ broken rules. record {
      program = checked.program;
      pads = checked.pads;
      is_source = is;
      padded = a;
      rules = rules;
    })

-- the pads of a stimulus are those it was read for
pub pads_for : (checked : CheckedProgram) (text : List ℕ) (given : Stimulus)
    → ArePadsOf checked.program (given.pads) → IsStimulus text (Some checked.pads) given
    → ArePadsOf checked.program checked.pads
pads_for checked text given a s = record {
  inputs = ap (map face) (sym s.inputs) ∙ a.inputs;
  outputs = ap (map face) (sym s.outputs) ∙ a.outputs;
}
