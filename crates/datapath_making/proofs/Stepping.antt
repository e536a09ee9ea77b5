-- Steps, by what they add.
use Rattle.std.proofs.Common.{◌≡◌, ℕ, ◌≤◌, ◌+◌, List, [], ◌++◌, Option, Some, length, map, sym, ap, subst, arith}
use Rattle.std.specs.Prelude.{slice_get}
use Rattle.std.specs.List.{sum_by}
use Rattle.std.proofs.lemmas.List.Elements.{All-nil}
use Rattle.std.proofs.lemmas.List.{append-nil}
use Rattle.nor_net.specs.declared.net.NetId.{NetId}
use Rattle.nor_net.specs.declared.net.Phase.{Phase}
use Rattle.nor_net.specs.declared.net.Part.{Part}
use Rattle.nor_net.specs.declared.net.Part.TheVariants.{Latch}
use Rattle.nor_net.specs.Shape.{gate_inputs}
use Rattle.organelles.specs.declared.slices.Programmed.{Programmed}
use Rattle.organelles.specs.Tables.{net_at}
use Rattle.path_form.specs.declared.path.Lift.{Lift}
use Rattle.path_form.specs.Shape.{AreApart, times}
use Rattle.path_form.specs.Sizes.{active}
use Rattle.datapath_making.specs.declared.making.Making.{Making}
use Rattle.datapath_making.specs.Additions.{Addition, Adds, CastFits, ChainFits, Fits, LiftFits, new_inputs}
use Rattle.datapath_making.specs.Steps.{IsStep}
use Rattle.datapath_making.specs.WellMade.{AreCast, AreEntered, AreNamed, IsLatched, IsWellMade, present}
use Rattle.datapath_making.proofs.Added.{bounded_by, cast_on, grows_by, named_on, spends_by}
use Rattle.datapath_making.proofs.Entering.{entered_on}
use Rattle.datapath_making.proofs.Joints.{joined_on, marks_on}

-- a net is told by its number
pub net_is : (id : NetId) (n : ℕ) → id.0 ≡ n → id ≡ net_at n
net_is id n e = ap net_at e

-- parts alone
abbrev pub parts_only : List Part → Addition
parts_only parts = record { parts = parts; chains = []; programs = []; casts = []; lifts = [] }

pub same_lifts_apart : (m : Making) → AreApart (map (λ (l : Lift). l.control) m.lifts)
    → AreApart (map (λ (l : Lift). l.control) (m.lifts ++ []))
same_lifts_apart m h =
    subst (λ (ls : List Lift). AreApart (map (λ (l : Lift). l.control) ls)) (sym (append-nil m.lifts)) h

-- no latch with its data among these parts
abbrev pub NoneLatched : List Part → Type 0
NoneLatched parts = (i : ℕ) (phase : Phase) (source : NetId) → slice_get parts i ≡ Some (Latch phase (Some source))
    → ⊥

module _ (a : Addition) (fresh : List NetId) (old new : Making) (is : Adds a old new) (fits : Fits a fresh old)
    (well : IsWellMade old) where
  -- where pads were added too
  pub entered_by : ((n : ℕ) → times n (present new.pads) ≡ times n fresh + times n (present old.pads))
      → ((i : ℕ) (phase : Phase) (source : NetId) → slice_get a.parts i ≡ Some (Latch phase (Some source))
      → IsLatched new.slices.net (present new.pads) source)
      → AreEntered (present new.pads) new.slices new.casts
  entered_by pads latched =
      entered_on a old new is (present old.pads) fresh (present new.pads) pads well.entered fits.entered latched

  pub named_by : AreNamed new.slices.net old.cell_words old.words
  named_by = named_on a old new is old.cell_words old.words well.named

  pub well_by : AreEntered (present new.pads) new.slices new.casts
      → AreNamed new.slices.net new.cell_words new.words → AreCast new → IsWellMade new
  well_by entered named cast = record {
    entered = entered;
    joined = joined_on a fresh old new is fits well.marks well.joined;
    named = named;
    cast = cast;
    marks = marks_on a fresh old new is fits well.marks;
  }

  pub step_by : (cost crossed : ℕ) → IsWellMade new → length a.parts ≤ cost → gate_inputs a.parts ≤ cost + cost
      → sum_by active a.parts + (length a.chains + length a.programs) + (length a.casts + length a.lifts) ≤ cost
      → length a.casts + length a.lifts ≤ crossed → IsStep cost crossed old new
  step_by cost crossed made n i c x = record {
    grows = grows_by a old new is fresh fits;
    spends = spends_by (length a.parts) (gate_inputs a.parts)
        (sum_by active a.parts + (length a.chains + length a.programs) + (length a.casts + length a.lifts))
        (length a.casts + length a.lifts) cost crossed old new (bounded_by a old new is) n i c x;
    marks = is.marks;
    made = made;
  }

-- where no pads were added
module _ (a : Addition) (old new : Making) (is : Adds a old new) (fits : Fits a [] old) (well : IsWellMade old)
    (pads : new.pads ≡ old.pads) where
  same_pads : (n : ℕ) → times n (present new.pads) ≡ times n [] + times n (present old.pads)
  same_pads n =
      let e = ap (λ (ps : List (Option NetId)). times n (present ps)) pads in omega (arith, e)

  pub entered_plain : NoneLatched a.parts → AreEntered (present new.pads) new.slices new.casts
  entered_plain none = entered_by a [] old new is fits well same_pads (λ i phase source e. absurd (none i phase source
      e))

  -- with latches that have their data
  pub well_latched : ((i : ℕ) (phase : Phase) (source : NetId) → slice_get a.parts i ≡ Some (Latch phase (Some source))
      → IsLatched new.slices.net (present new.pads) source) → new.guards ≡ old.guards → new.clear ≡ old.clear
      → AreNamed new.slices.net new.cell_words new.words → IsWellMade new
  well_latched latched guards clear named =
      well_by a [] old new is fits well (entered_by a [] old new is fits well same_pads latched) named
      (cast_on a old new is well.cast guards clear)

  -- nor guards nor reset cast
  pub well_plain : NoneLatched a.parts → new.guards ≡ old.guards → new.clear ≡ old.clear
      → AreNamed new.slices.net new.cell_words new.words → IsWellMade new
  well_plain none guards clear named =
      well_by a [] old new is fits well (entered_plain none) named (cast_on a old new is well.cast guards clear)

-- ---- parts alone are added to the net

pub fits_parts : (parts : List Part) (m : Making) → IsWellMade m
    → new_inputs (length m.slices.net) parts ≡ [] → Fits (parts_only parts) [] m
fits_parts parts m well none = record {
  chains = All-nil (ChainFits m (length m.slices.net + length parts));
  programs = All-nil (λ (p : Programmed). length m.slices.net ≤ p.net.0);
  casts = All-nil (CastFits m);
  lifts = All-nil (LiftFits m (length m.slices.net + length parts));
  lifts_apart = same_lifts_apart m well.joined.lifts_apart;
  entered = λ n. ap (times n) (sym none);
}
