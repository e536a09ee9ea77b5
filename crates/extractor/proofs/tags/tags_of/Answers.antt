use Rattle.std.proofs.Common.{◌≡◌, ℕ, ◌+◌, List, length, get_or, refl, sym, subst}
use Rattle.std.specs.Prelude.{Option, Some, None, slice_get, Result, IfErr}
use Rattle.std.proofs.lemmas.Option.{slice_get_read}
use Rattle.std.proofs.lemmas.Result.{err_from_is_err_and}
use Rattle.mp_base.specs.declared.refusal.Refusal.{Refusal}
use Rattle.lam_geom.specs.declared.label.FlatLabel.{FlatLabel}
use Rattle.switch_net.specs.declared.network.Tag.{Tag}
use Rattle.extractor.specs.Tagging.{AreSeen, AreTagged, IsTagged, RefusesFirst}
use Rattle.switch_net.specs.Names.{number_of}
use Rattle.extractor.proofs.Tagging.{refused_at, seen_more, seen_none, tagged_more, tagged_none}
use Rattle.extractor.proofs.tags.tags_of.Goals as goal

pub loop-n-init : goal.loop-n-init
loop-n-init c =
    let P : List Tag → Type 0 = AreTagged c.args.labels.now c.args.nodes.now 0 in
    let Q : List Tag → Type 0 = AreSeen (number_of c.new-seen.result) in (
      subst P (sym c.new-tags.ensures) (tagged_none c.args.labels.now c.args.nodes.now),
      subst Q
          (sym c.new-tags.ensures) (seen_none c.new-seen.result c.new-seen.ensures.empty),
    )

pub loop-n-preserved : goal.loop-n-preserved
loop-n-preserved c =
    let labels : List FlatLabel = c.args.labels.now in
    let nodes : List (Option ℕ) = c.args.nodes.now in
    let i : ℕ = c.loop-n.n in
    let tags : List Tag = c.loop-n.tags in
    let label : FlatLabel = c.index-labels-n.result in
    let tag : Tag = c.in_ok-tag.tag in
    let at : slice_get labels i ≡ Some label =
    slice_get_read labels (length labels) i label refl c.loop-n-test.true c.index-labels-n.is in
    let is : IsTagged (number_of c.loop-n.seen label.name) label (get_or nodes i None) tag = c.in_ok-tag.ensures.tag in
    let find : List ℕ → Option ℕ = number_of c.loop-n.seen in
    let P : List Tag → Type 0 = AreTagged labels nodes (i + 1) in
    let Q : List Tag → Type 0 = AreSeen (number_of c.tag_of.new.seen) in
    let one = c.loop-n.invariant.0 in
    let two = c.loop-n.invariant.1 in (
      subst P (sym c.in_ok-push.ensures.ok) (tagged_more labels nodes i tags find one two label at tag is),
      subst Q (sym c.in_ok-push.ensures.ok)
          (seen_more labels nodes i tags find one two label at tag is (number_of c.tag_of.new.seen)
          (c.in_ok-tag.ensures.seen tag.node is.node_is)),
    )

pub returns-in_err-tag-clause-refused : goal.returns-in_err-tag-clause-refused
returns-in_err-tag-clause-refused c =
    let labels : List FlatLabel = c.args.labels.now in
    let nodes : List (Option ℕ) = c.args.nodes.now in
    let i : ℕ = c.loop-n.n in
    let label : FlatLabel = c.index-labels-n.result in
    let at : slice_get labels i ≡ Some label =
    slice_get_read labels (length labels) i label refl c.loop-n-test.true c.index-labels-n.is in
    let one = c.loop-n.invariant.0 in
    let two = c.loop-n.invariant.1 in
    let e : Refusal = c.in_err-tag.field-0.0 in
    let told : RefusesFirst labels nodes e =
    refused_at labels nodes i c.loop-n.tags (number_of c.loop-n.seen) one two label at e c.in_err-tag.ensures.refused in
    let p = err_from_is_err_and c.from_residual.result c.from_residual.ensures.1 in
    let P : Refusal → Type 0 = RefusesFirst labels nodes in
    let Q : Result (List Tag) Refusal → Type 0 = λ r. IfErr r P in
    subst Q (sym p.1) (subst P (sym p.2) told)
