-- Steps from the bytes to the network.
use Rattle.std.proofs.Common.{◌≡◌, ℕ, List, inl, inr, sym, subst, Option, Some, Result, Ok, Err}
use Rattle.extractor.specs.Extracted.{OfShapes}
use Rattle.std.proofs.lemmas.List.Elements.{Contains-append_left}
use Rattle.std.specs.Prelude.{flat_map, IsErrAnd}
use Rattle.mp_base.specs.PadNames.{supplies}
use Rattle.mp_base.specs.declared.pad.Pads.{Pads}
use Rattle.mp_base.specs.declared.refusal.Broken.{Broken}
use Rattle.mp_base.specs.declared.refusal.Refusal.{Refusal}
use Rattle.mp_base.specs.Refuses.{IsJudged, IsRefusal}
use Rattle.mp_base.specs.declared.refusal.Refusal.TheVariants as refusals
use Rattle.lam_geom.specs.declared.rect.Rect.{Rect}
use Rattle.lam_geom.specs.declared.label.FlatLabel.{FlatLabel}
use Rattle.lam_geom.specs.Squares.{covered}
use Rattle.cif_form.specs.declared.command.Item.{Item}
use Rattle.cif_form.specs.Laws.{WalkIsExpansion}
use Rattle.cif_reader.specs.Refusing.{OfCif}
use Rattle.cif_flat.specs.Refusing.{OfWalk}
use Rattle.switch_net.specs.declared.network.Network.{Network}
use Rattle.switch_net.specs.Breaks.{IsSoundMask}
use Rattle.switch_net.specs.Pads.{bit_labels}
use Rattle.mask_net.specs.Masks.{IsCif, IsDrawing, IsNetOf, OfDrawing, OfMask}

-- a refusal of the text is one of the drawing
pub of_text : (bytes : List ℕ) (e : Refusal) → IsRefusal (λ b. OfCif bytes (Some b)) e
    → IsRefusal (λ b. OfDrawing bytes (Some b)) e
of_text bytes refusals.NoMemory refuses = tt
of_text bytes (refusals.Broken b) first = inl first

-- what is said of the commands that the bytes read as is said of the bytes
pub of_commands : {T : Type 0} (bytes : List ℕ) (items : List Item) (result : Result T Refusal) → IsCif bytes items
    → WalkIsExpansion → IsJudged (OfWalk items) result → IsJudged (OfDrawing bytes) result
of_commands bytes items (Ok value) cif expands (shapes, labels, walk) =
    (shapes, labels, record { commands = items; cif = cif; drawn = expands items shapes labels walk; drawable = walk })
of_commands bytes items (Err refusals.NoMemory) cif expands judged = tt
of_commands bytes items (Err (refusals.Broken b)) cif expands first = inr (items, cif, first)

-- a refusal of the drawing is one of the mask
pub of_drawing : (bytes : List ℕ) (e : Refusal) → IsRefusal (λ b. OfDrawing bytes (Some b)) e
    → IsRefusal (λ b. OfMask bytes (Some b)) e
of_drawing bytes refusals.NoMemory refuses = tt
of_drawing bytes (refusals.Broken b) (inl text) = inl text
of_drawing bytes (refusals.Broken b) (inr drawing) = inr (inl drawing)

-- a refusal that is handed on is judged as it was
pub handed_on : {T : Type 0} (Rules : Option Broken → Type 0) (e : Refusal) (result : Result T Refusal)
    → IsErrAnd result (λ why. why ≡ e) → IsRefusal (λ b. Rules (Some b)) e → IsJudged Rules result
handed_on Rules e (Ok value) is refuses = absurd is
handed_on Rules e (Err why) is refuses = subst (IsRefusal (λ b. Rules (Some b))) (sym is) refuses

-- what is said of the shapes that the bytes draw is said of the bytes
pub of_shapes : (bytes : List ℕ) (shapes : List Rect) (labels : List FlatLabel) (result : Result Network Refusal)
    → IsDrawing bytes shapes labels → IsJudged (OfShapes shapes labels) result → IsJudged (OfMask bytes) result
of_shapes bytes shapes labels (Ok network) drawing (drawn, mask) =
    (drawn, record { shapes = shapes; labels = labels; drawing = drawing; mask = mask })
of_shapes bytes shapes labels (Err refusals.NoMemory) drawing judged = tt
of_shapes bytes shapes labels (Err (refusals.Broken b)) drawing first = inr (inr (shapes, labels, drawing, first))

-- a label that meets a driver that every chip has meets one of those that a chip with some pads has
pub sound : (bytes : List ℕ) (shapes : List Rect) (labels : List FlatLabel) (net : Network) (pads : Pads)
    → IsDrawing bytes shapes labels → IsSoundMask (covered shapes) labels net pads → IsNetOf bytes net
sound bytes shapes labels net pads drawing mask = record {
  shapes = shapes;
  labels = labels;
  drawing = drawing;
  mask = record {
    network = mask.network;
    labels_fit = mask.labels_fit;
    apart = λ i meets. let twice = meets.1 in mask.has_pads.apart i (
      meets.0,
      record {
        at = twice.at;
        driver = Contains-append_left supplies (flat_map bit_labels pads.inputs) _ twice.driver;
        j = twice.j;
        before = twice.before;
        earlier = twice.earlier;
        there = twice.there;
        another = Contains-append_left supplies (flat_map bit_labels pads.inputs) _ twice.another;
        names = twice.names;
        node = twice.node;
      },
    );
    few = mask.few;
  };
}
