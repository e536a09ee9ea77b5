use Rattle.std.proofs.Common.{◌≡◌, ◌∙◌, ◌≤◌, ℕ, List, length, map, sym, subst}
use Rattle.std.specs.Prelude.{Option, IfErr, IfSome, Result}
use Rattle.std.proofs.lemmas.Result.{err_from_is_err_and}
use Rattle.mp_base.specs.declared.refusal.Refusal.{Refusal}
use Rattle.lam_geom.specs.declared.label.FlatLabel.{FlatLabel}
use Rattle.lam_geom.specs.declared.place.Point.{Point}
use Rattle.lam_geom.specs.declared.rect.Rect.{Rect}
use Rattle.lam_geom.specs.declared.layer.Layer.TheVariants.{NM, NP, ND}
use Rattle.switch_net.specs.declared.network.Network.{Network}
use Rattle.switch_net.specs.declared.network.Tag.{Tag}
use Rattle.mask_nodes.specs.declared.drawing.Drawing.{Drawing}
use Rattle.mask_nodes.specs.Drawn.{IsDrawn}
use Rattle.extractor.specs.Naming.{AreNamed, point_of}
use Rattle.extractor.specs.Tagging.{AreTagged, RefusesFirst}
use Rattle.extractor.specs.Extracted.{RefusesMask}
use Rattle.extractor.proofs.Overs.{column_long}
use Rattle.extractor.proofs.Extracting.{among, labelled, refuses}
use Rattle.extractor.proofs.extraction.labelled.Goals as goal

-- what is drawn, of the labels' places
drawn_at : (shapes : List Rect) (labels : List FlatLabel) (d : Drawing) {places now : List Point}
    → places ≡ map point_of labels → now ≡ places
    → IsDrawn shapes now d → IsDrawn shapes (map point_of labels) d
drawn_at shapes labels d p n h = subst (λ ps. IsDrawn shapes ps d) (n ∙ p) h

-- the nodes that labels name, of the columns
named_at : (labels : List FlatLabel) (d : Drawing) (named : List (Option ℕ)) {m p e : List (Option ℕ)}
    → m ≡ d.metal → p ≡ d.polysilicon → e ≡ d.diffusion
    → AreNamed labels m p e (length labels) named
    → AreNamed labels d.metal d.polysilicon d.diffusion (length labels) named
named_at labels d named {p = p} {e = e} a b k h =
    subst (λ x. AreNamed labels d.metal d.polysilicon x (length labels) named) k
    (subst (λ x. AreNamed labels d.metal x e (length labels) named) b
    (subst (λ x. AreNamed labels x p e (length labels) named) a h))

-- a column is as long as the labels
long_at : (labels : List FlatLabel) (column : List (Option ℕ)) {now : List (Option ℕ)} → now ≡ column
    → length labels ≤ length column → length labels ≤ length now
long_at labels column is h = subst (λ m. length labels ≤ length m) (sym is) h

pub nodes_named-requires-clause-metal : goal.nodes_named-requires-clause-metal
nodes_named-requires-clause-metal c =
    let labels : List FlatLabel = c.args.labels.now in
    let d : Drawing = c.in_ok-nodes.field-0 in
    let h = drawn_at c.args.shapes.now labels d c.in_ok-places.ensures c.as_slice.ensures c.in_ok-nodes.ensures in
    long_at labels d.metal c.as_slice-2.ensures (column_long c.args.shapes.now h.nodes labels NM d.metal h.on_metal)

pub nodes_named-requires-clause-polysilicon : goal.nodes_named-requires-clause-polysilicon
nodes_named-requires-clause-polysilicon c =
    let labels : List FlatLabel = c.args.labels.now in
    let d : Drawing = c.in_ok-nodes.field-0 in
    let h = drawn_at c.args.shapes.now labels d c.in_ok-places.ensures c.as_slice.ensures c.in_ok-nodes.ensures in
    long_at labels d.polysilicon c.as_slice-3.ensures
    (column_long c.args.shapes.now h.nodes labels NP d.polysilicon h.on_polysilicon)

pub nodes_named-requires-clause-diffusion : goal.nodes_named-requires-clause-diffusion
nodes_named-requires-clause-diffusion c =
    let labels : List FlatLabel = c.args.labels.now in
    let d : Drawing = c.in_ok-nodes.field-0 in
    let h = drawn_at c.args.shapes.now labels d c.in_ok-places.ensures c.as_slice.ensures c.in_ok-nodes.ensures in
    long_at labels d.diffusion c.as_slice-4.ensures
    (column_long c.args.shapes.now h.nodes labels ND d.diffusion h.on_diffusion)

pub returns-in_err-tags-clause-err : goal.returns-in_err-tags-clause-err
returns-in_err-tags-clause-err c =
    let shapes : List Rect = c.args.shapes.now in
    let labels : List FlatLabel = c.args.labels.now in
    let d : Drawing = c.in_ok-nodes.field-0 in
    let named : List (Option ℕ) = c.in_ok-named.named in
    let h = drawn_at shapes labels d c.in_ok-places.ensures c.as_slice.ensures c.in_ok-nodes.ensures in
    let are =
    named_at labels d named c.as_slice-2.ensures c.as_slice-3.ensures c.as_slice-4.ensures c.in_ok-named.ensures in
    let e : Refusal = c.in_err-tags.field-0.0 in
    let first : RefusesFirst labels named e =
    subst (λ ns. RefusesFirst labels ns e) c.as_slice-5.ensures c.in_err-tags.ensures.refused in
    let told : RefusesMask shapes labels e = refuses shapes labels d h named are e first in
    let p = err_from_is_err_and c.from_residual-in_err-tags.result c.from_residual-in_err-tags.ensures.1 in
    let P : Refusal → Type 0 = RefusesMask shapes labels in
    let Q : Result Network Refusal → Type 0 = λ r. IfErr r P in
    subst Q (sym p.1) (subst P (sym p.2) told)

pub unwrap-requires : goal.unwrap-requires
unwrap-requires c =
    let shapes : List Rect = c.args.shapes.now in
    let labels : List FlatLabel = c.args.labels.now in
    let d : Drawing = c.in_ok-nodes.field-0 in
    let named : List (Option ℕ) = c.in_ok-named.named in
    let tags : List Tag = c.in_ok-tags.tags in
    let h = drawn_at shapes labels d c.in_ok-places.ensures c.as_slice.ensures c.in_ok-nodes.ensures in
    let are =
    named_at labels d named c.as_slice-2.ensures c.as_slice-3.ensures c.as_slice-4.ensures c.in_ok-named.ensures in
    let tagged =
    subst (λ ns. AreTagged labels ns (length labels) tags) c.as_slice-5.ensures c.in_ok-tags.ensures.tags in
    c.checked.ensures.among.1 (among shapes labels d h named are tags tagged c.in-Ok.nodes c.in-Ok.ensures.1)

pub returns-clause-ok : goal.returns-clause-ok
returns-clause-ok c =
    let shapes : List Rect = c.args.shapes.now in
    let labels : List FlatLabel = c.args.labels.now in
    let d : Drawing = c.in_ok-nodes.field-0 in
    let named : List (Option ℕ) = c.in_ok-named.named in
    let tags : List Tag = c.in_ok-tags.tags in
    let h = drawn_at shapes labels d c.in_ok-places.ensures c.as_slice.ensures c.in_ok-nodes.ensures in
    let are =
    named_at labels d named c.as_slice-2.ensures c.as_slice-3.ensures c.as_slice-4.ensures c.in_ok-named.ensures in
    let tagged =
    subst (λ ns. AreTagged labels ns (length labels) tags) c.as_slice-5.ensures c.in_ok-tags.ensures.tags in
    let P : Network → Type 0 = λ n. (n.nodes ≡ c.in-Ok.nodes) × (n.channels ≡ d.channels) × (n.tags ≡ tags) in
    let Q : Option Network → Type 0 = λ o. IfSome o P in
    let k : P c.unwrap.result = subst Q c.unwrap.ensures c.checked.ensures.parts in
    labelled shapes labels d h named are tags tagged c.unwrap.result (k.0 ∙ c.in-Ok.ensures.1) k.1 k.2
