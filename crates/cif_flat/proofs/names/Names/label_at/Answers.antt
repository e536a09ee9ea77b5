use Rattle.std.proofs.Common.{sym, subst, to_z, of_z, w64}
use Rattle.cif_form.specs.Labels.{IsLabelText}
use Rattle.cif_place.proofs.Numbers.{kept_64}
use Rattle.cif_flat.specs.Labelling.{label_written}
use Rattle.cif_flat.specs.Naming.{naming_bytes}
use Rattle.cif_flat.proofs.Named.{label_named}
use Rattle.cif_flat.proofs.Found.{label_within}
use Rattle.cif_flat.proofs.names.Names.label_at.Goals as goal

pub returns-clause-is : goal.returns-clause-is
returns-clause-is c =
    let text = c.args.text.now in
    let l = c.in-Some.written in
    let name = naming_bytes c.args.items.now c.in_ok-named.named in
    let is = label_named c.args.items.now c.args.at text l c.in_ok-named.named c.requires c.in-Some.ensures
    c.in_ok-named.ensures.same in
    let wrapped = to_z w64 (of_z w64 l.y) in
    let h = label_within (label_written name l) text is in
    subst (λ x. IsLabelText (record { offset = 0; name = name; x = x; y = wrapped; layer = l.layer }) text)
    (sym (kept_64 l.x h.0))
    (subst (λ y. IsLabelText (record { offset = 0; name = name; x = l.x; y = y; layer = l.layer }) text)
    (sym (kept_64 l.y h.1)) is)
