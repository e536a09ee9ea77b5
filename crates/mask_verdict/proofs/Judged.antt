-- A file draws a network, or breaks one rule first.
use Rattle.std.proofs.Common.{◌⊎◌, inl, inr, ℕ, List, Option, Some, None, false, map, refl}
use Rattle.std.specs.Prelude.{All}
use Rattle.mp_base.specs.declared.refusal.Broken.{Broken}
use Rattle.mp_base.specs.declared.refusal.Family.TheVariants.{C, F}
use Rattle.mp_base.specs.declared.refusal.Spot.TheVariants.{Offset}
use Rattle.lam_geom.specs.declared.rect.Rect.{Rect}
use Rattle.lam_geom.specs.declared.label.FlatLabel.{FlatLabel}
use Rattle.lam_geom.specs.Squares.{covered}
use Rattle.cif_form.specs.declared.command.Item.{Item}
use Rattle.cif_form.specs.Fits.{Fits}
use Rattle.cif_form.specs.Text.{Reads}
use Rattle.cif_form.specs.Laws.{WalkIsExpansion}
use Rattle.cif_form.specs.Scans.{TextEnd, FileScans, Nests, text_rule_number}
use Rattle.cif_form.specs.Scans.TextEnd.{Whole as Read, Broken as Unread}
use Rattle.cif_form.specs.Walk.{WalkEnd, FileWalks, draw_rule_number}
use Rattle.cif_form.specs.Walk.WalkEnd.{Whole as Drawn, Broken as Stopped}
use Rattle.switch_net.specs.declared.network.Network.{Network}
use Rattle.switch_net.specs.Breaks.{IsFirstOfMask}
use Rattle.mask_laws.specs.Laws.{BreaksNone, MaskIsJudged}
use Rattle.mask_net.specs.Masks.{IsCif, IsDrawing, OfMask}

-- what is known of each stage
pub record Stages : Type 0 where
  pub text : (bytes : List ℕ) → (items : List Item) × (end : TextEnd) × FileScans bytes items end
  pub fitting : (bytes : List ℕ) (items : List Item) → FileScans bytes items Read
      → All Fits (map (λ (i : Item). i.command) items) × Nests false (map (λ (i : Item). i.command) items)
  pub reading : (bytes : List ℕ) (items : List Item) → FileScans bytes items Read → Reads 0 bytes items
  pub walk : (items : List Item) → Nests false (map (λ (i : Item). i.command) items)
      → (shapes : List Rect) × (labels : List FlatLabel) × (end : WalkEnd) × FileWalks items shapes labels end
  pub expansion : WalkIsExpansion
  pub mask : MaskIsJudged

abbrev Judged : List ℕ → Type 0
Judged bytes = (verdict : Option Broken) × OfMask bytes verdict

of_mask : (bytes : List ℕ) (shapes : List Rect) (labels : List FlatLabel) → IsDrawing bytes shapes labels
    → ((net : Network) × BreaksNone (covered shapes) labels net)
    ⊎ ((b : Broken) × IsFirstOfMask (covered shapes) labels b) → Judged bytes
of_mask bytes shapes labels drawing (inl (net, h)) = (
  None,
  (
    net,
    record {
      shapes = shapes;
      labels = labels;
      drawing = drawing;
      mask = record { network = h.network; labels_fit = h.labels_fit; apart = h.apart; few = h.few };
    },
  ),
)
of_mask bytes shapes labels drawing (inr (b, first)) = (Some b, inr (inr (shapes, labels, drawing, first)))

of_walk : (bytes : List ℕ) (items : List Item) → Stages → IsCif bytes items → (shapes : List Rect)
    (labels : List FlatLabel) (end : WalkEnd) → FileWalks items shapes labels end → Judged bytes
of_walk bytes items stages cif shapes labels Drawn walk = of_mask bytes shapes labels (record {
  commands = items;
  cif = cif;
  drawn = stages.expansion items shapes labels walk;
  drawable = walk;
}) (stages.mask shapes labels)
of_walk bytes items stages cif shapes labels (Stopped rule offset) walk = (
  Some (record { rule = record { family = F; number = draw_rule_number rule }; spot = Offset offset }),
  inr (inl (items, cif, (refl, (rule, shapes, labels, refl, walk)))),
)

of_text : (bytes : List ℕ) → Stages → (items : List Item) (end : TextEnd) → FileScans bytes items end → Judged bytes
of_text bytes stages items Read scan =
    let (shapes, labels, end, walk) = stages.walk items (stages.fitting bytes items scan).1 in
    of_walk bytes items stages (record { read = stages.reading bytes items scan; well_formed = scan }) shapes labels end
    walk
of_text bytes stages items (Unread rule offset) scan = (
  Some (record { rule = record { family = C; number = text_rule_number rule }; spot = Offset offset }),
  inl (rule, offset, refl, refl, (items, scan)),
)

pub file_judged : Stages → (bytes : List ℕ) → (verdict : Option Broken) × OfMask bytes verdict
file_judged stages bytes = let (items, end, scan) = stages.text bytes in of_text bytes stages items end scan
