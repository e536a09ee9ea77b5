-- From the network with labels to the one that is extracted, or the first of N3 and N5.
use Rattle.std.proofs.Common.{◌≡◌, ℕ, ◌+◌, ◌<◌, ◌≤◌, List, length, sym, ap, subst, arith}
use Rattle.std.proofs.lemmas.Slice.Zip.{AllZip-long}
use Rattle.mp_base.specs.PadNames.{supplies}
use Rattle.mp_base.specs.declared.refusal.Spot.TheVariants.{Offset, Nowhere}
use Rattle.lam_geom.specs.declared.label.FlatLabel.{FlatLabel}
use Rattle.lam_geom.specs.declared.rect.Rect.{Rect}
use Rattle.lam_geom.specs.Squares.{covered}
use Rattle.switch_net.specs.declared.network.Network.{Network}
use Rattle.switch_net.specs.Breaks.{AreTooMany, IsFirstOfMask, MeetsDriver, broken}
use Rattle.switch_net.specs.Breaks.IsFirstOfMask.{n3, n5}
use Rattle.switch_net.specs.Drawn.{IsChannelAt}
use Rattle.switch_net.specs.declared.limits.TheConstants.{MOST_NODES_AND_CHANNELS}
use Rattle.switch_net.specs.Laws.{OneNumbering}
use Rattle.extractor.specs.Driving.{IsFirstMeeting}
use Rattle.extractor.specs.Extracted.{IsExtracted, IsLabelled}

module _ (shapes : List Rect) (labels : List FlatLabel) (net : Network) (is : IsLabelled shapes labels net) where
  pub meets_driver : (offset : ℕ) → IsFirstMeeting net.tags offset
      → IsFirstOfMask (covered shapes) labels (broken 3 (Offset offset))
  meets_driver offset h =
      subst (λ o. IsFirstOfMask (covered shapes) labels (broken 3 (Offset o))) (sym h.offset_is)
      (n3 net is.network h.place h.tag h.meets h.none_before)

  as_many_channels : length net.channels ≡ length is.network.regions
  as_many_channels =
      AllZip-long (IsChannelAt (covered shapes) is.network.nodes) is.network.regions net.channels is.network.channels

  module _ (apart : (i : ℕ) → ¬ MeetsDriver supplies net.tags i) where
    pub too_many : MOST_NODES_AND_CHANNELS < net.nodes + length net.channels
        → IsFirstOfMask (covered shapes) labels (broken 5 Nowhere)
    too_many over = n5 net is.network apart (record {
      nodes = is.network.nodes;
      regions = is.network.regions;
      are_nodes = is.network.are_nodes;
      are_regions = is.network.are_regions;
      over = omega (arith, over, as_many_channels, is.network.count);
    })

    few : OneNumbering → net.nodes + length net.channels ≤ MOST_NODES_AND_CHANNELS → ¬ AreTooMany (covered shapes)
    few one l t =
        let w = is.network in
        let n = ap length ((one shapes).0 t.nodes w.nodes t.are_nodes w.are_nodes) in
        let r = ap length ((one shapes).1 t.regions w.regions t.are_regions w.are_regions) in
        absurd (omega (arith, l, t.over, n, r, as_many_channels, w.count))

    pub extracted : OneNumbering → net.nodes + length net.channels ≤ MOST_NODES_AND_CHANNELS
        → IsExtracted shapes labels net
    extracted one l = record { network = is.network; labels_fit = is.labels_fit; apart = apart; few = few one l }
