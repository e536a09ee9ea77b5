use Rattle.std.proofs.Common.{◌≡◌, ◌⊎◌, false, ◌∙◌, ◌++◌, ◌∷◌, [], sym, ap, subst, arith, Some, to_z, of_z, w64}
use Rattle.cif_place.specs.Placing.{scale_of}
use Rattle.cif_place.specs.Pointing.{IsCornerAt, IsFarDotAt}
use Rattle.cif_flat.specs.Labelling.{IsRead, label_written}
use Rattle.cif_flat.specs.Meeting.{IsWay, was_met}
use Rattle.cif_flat.specs.Naming.{naming_bytes, way_of}
use Rattle.cif_flat.specs.Walking.{IsFound}
use Rattle.cif_flat.specs.declared.names.Step.{Step}
use Rattle.cif_flat.proofs.Found.{found_nowhere, found_text, found_far, found_met, found_label, label_within}
use Rattle.cif_flat.proofs.Found.{kept_pair, wrapped, corner_kept}
use Rattle.cif_flat.proofs.Ways.{named_read, named_repeated, way_none, noted_met, met_noted}
use Rattle.cif_flat.proofs.walker.Walker.label_at.Goals as goal

pub returns-in_default-clause-found : goal.returns-in_default-clause-found
returns-in_default-clause-found c =
    found_nowhere c.args.items.now c.args.self.now c.args.level c.args.offset c.args.digit c.args.text.now
    (way_none c.args.items.now c.args.self.now.names c.args.self.now.met c.args.self.now.levels.items c.args.level
    c.requires.named c.in_default.is)

pub returns-in_default-2-clause-found : goal.returns-in_default-2-clause-found
returns-in_default-2-clause-found c =
    found_text c.args.items.now c.args.self.now c.args.level c.args.offset c.args.digit c.args.text.now
    (subst (IsRead c.args.items.now c.args.text.now) c.in_default-2.is c.in_ok-written.ensures.is)

pub corner_at-requires-clause-x : goal.corner_at-requires-clause-x
corner_at-requires-clause-x c =
    let items = c.args.items.now in
    let l = c.in-Some-2.written in
    let label = label_written (naming_bytes items l.named) l in
    let is = subst (IsRead items c.args.text.now) c.in-Some-2.is c.in_ok-written.ensures.is in
    wrapped l.x (label_within label c.args.text.now is).0

pub corner_at-requires-clause-y : goal.corner_at-requires-clause-y
corner_at-requires-clause-y c =
    let items = c.args.items.now in
    let l = c.in-Some-2.written in
    let label = label_written (naming_bytes items l.named) l in
    let is = subst (IsRead items c.args.text.now) c.in-Some-2.is c.in_ok-written.ensures.is in
    wrapped l.y (label_within label c.args.text.now is).1

pub returns-in_default-corner_at-clause-found : goal.returns-in_default-corner_at-clause-found
returns-in_default-corner_at-clause-found c =
    let w = c.args.self.now in
    let items = c.args.items.now in
    let around = w.levels.items ++ c.args.level ∷ [] in
    let l = c.in-Some-2.written in
    let label = label_written (naming_bytes items l.named) l in
    let is = subst (IsRead items c.args.text.now) c.in-Some-2.is c.in_ok-written.ensures.is in
    let h = label_within label c.args.text.now is in
    found_far items w c.args.level c.args.offset c.args.digit c.args.text.now label is
    (kept_pair (IsFarDotAt (scale_of c.args.level.ratio) c.args.level.placement) l.x l.y h.0 h.1
    c.in_default-corner_at.ensures.none)

pub returns-in_default-corner_at-clause-named : goal.returns-in_default-corner_at-clause-named
returns-in_default-corner_at-clause-named c =
    let w = c.args.self.now in
    let items = c.args.items.now in
    let around = w.levels.items ++ c.args.level ∷ [] in
    named_read items w.names w.met around c.label.new.self c.in_ok-written.ensures.kept c.in_ok-written.ensures.read
    c.requires.named

pub returns-then-is_repeated-clause-found : goal.returns-then-is_repeated-clause-found
returns-then-is_repeated-clause-found c =
    let w = c.args.self.now in
    let items = c.args.items.now in
    let around = w.levels.items ++ c.args.level ∷ [] in
    let l = c.in-Some-2.written in
    let label = label_written (naming_bytes items l.named) l in
    let is = subst (IsRead items c.args.text.now) c.in-Some-2.is c.in_ok-written.ensures.is in
    let names = c.label.new.self in
    let named = named_read items w.names w.met around names c.in_ok-written.ensures.kept c.in_ok-written.ensures.read
    c.requires.named in
    let step : Step = record { way = c.in-Some.way; naming = l.named } in
    let m = noted_met items names w.met w.levels.items c.args.level named step c.in-Some.is c.if-is_repeated.ensures in
    let n = c.len.ensures in
    found_met items w c.args.level c.args.offset c.args.digit c.args.text.now label is m.0 m.1
    (omega (arith, n, c.if-len-gt0.true)) m.2

pub returns-then-is_repeated-clause-named : goal.returns-then-is_repeated-clause-named
returns-then-is_repeated-clause-named c =
    let w = c.args.self.now in
    let items = c.args.items.now in
    let around = w.levels.items ++ c.args.level ∷ [] in
    named_read items w.names w.met around c.label.new.self c.in_ok-written.ensures.kept c.in_ok-written.ensures.read
    c.requires.named

pub returns-in_default-3-clause-found : goal.returns-in_default-3-clause-found
returns-in_default-3-clause-found c =
    let w = c.args.self.now in
    let items = c.args.items.now in
    let around = w.levels.items ++ c.args.level ∷ [] in
    found_nowhere items w c.args.level c.args.offset c.args.digit c.args.text.now
    (subst (IsWay (way_of items around)) c.in_default-3.is
    (subst (λ ls. IsWay (way_of items (ls ++ c.args.level ∷ [])) c.in_ok-bytes.field-0) c.deref.ensures.value
    c.in_ok-bytes.ensures))

pub returns-in_default-3-clause-named : goal.returns-in_default-3-clause-named
returns-in_default-3-clause-named c =
    let w = c.args.self.now in
    let items = c.args.items.now in
    let around = w.levels.items ++ c.args.level ∷ [] in
    named_read items w.names w.met around c.label.new.self c.in_ok-written.ensures.kept c.in_ok-written.ensures.read
    c.requires.named

pub returns-then-is_repeated-2-clause-found : goal.returns-then-is_repeated-2-clause-found
returns-then-is_repeated-2-clause-found c =
    let w = c.args.self.now in
    let items = c.args.items.now in
    let around = w.levels.items ++ c.args.level ∷ [] in
    let l = c.in-Some-2.written in
    let label = label_written (naming_bytes items l.named) l in
    let is = subst (IsRead items c.args.text.now) c.in-Some-2.is c.in_ok-written.ensures.is in
    let way = (subst (IsWay (way_of items around)) c.in-Some-3.is
    (subst (λ ls. IsWay (way_of items (ls ++ c.args.level ∷ [])) c.in_ok-bytes.field-0) c.deref.ensures.value
    c.in_ok-bytes.ensures)) in
    let r = c.if-is_repeated-2.ensures.yes in
    let name = c.bytes-2.ensures ∙ c.in_ok-name.ensures ∙ ap (λ n. c.in-Some-3.bytes.items ++ n) c.bytes.ensures in
    let met = ap (was_met w.met) (sym name) ∙ r.1 in
    found_met items w c.args.level c.args.offset c.args.digit c.args.text.now label is
    c.in-Some-3.bytes.items way r.0 met

pub returns-then-is_repeated-2-clause-named : goal.returns-then-is_repeated-2-clause-named
returns-then-is_repeated-2-clause-named c =
    let w = c.args.self.now in
    let items = c.args.items.now in
    let around = w.levels.items ++ c.args.level ∷ [] in
    let l = c.in-Some-2.written in
    let way = (subst (IsWay (way_of items around)) c.in-Some-3.is
    (subst (λ ls. IsWay (way_of items (ls ++ c.args.level ∷ [])) c.in_ok-bytes.field-0) c.deref.ensures.value
    c.in_ok-bytes.ensures)) in
    let r = c.if-is_repeated-2.ensures.yes in
    let name = c.bytes-2.ensures ∙ c.in_ok-name.ensures ∙ ap (λ n. c.in-Some-3.bytes.items ++ n) c.bytes.ensures in
    let met = ap (was_met w.met) (sym name) ∙ r.1 in
    let names = c.label.new.self in
    let named = named_read items w.names w.met around names c.in_ok-written.ensures.kept c.in_ok-written.ensures.read
    c.requires.named in
    let step : Step = record { way = c.in-Some.way; naming = l.named } in
    named_repeated items names w.met around c.repeat.new.self c.in_ok-repeat.ensures.kept step
    c.in_ok-repeat.ensures.noted named
    (met_noted items names w.met w.levels.items c.args.level named step c.in-Some.is c.in-Some-3.bytes.items way met)

pub returns-clause-found : goal.returns-clause-found
returns-clause-found c =
    let w = c.args.self.now in
    let items = c.args.items.now in
    let around = w.levels.items ++ c.args.level ∷ [] in
    let l = c.in-Some-2.written in
    let label = label_written (naming_bytes items l.named) l in
    let is = subst (IsRead items c.args.text.now) c.in-Some-2.is c.in_ok-written.ensures.is in
    let way = (subst (IsWay (way_of items around)) c.in-Some-3.is
    (subst (λ ls. IsWay (way_of items (ls ++ c.args.level ∷ [])) c.in_ok-bytes.field-0) c.deref.ensures.value
    c.in_ok-bytes.ensures)) in
    let corner = c.in-Some-corner_at.corner in
    let h = label_within label c.args.text.now is in
    let placed = kept_pair (λ x y. IsCornerAt (scale_of c.args.level.ratio) c.args.level.placement x y corner) l.x l.y
    h.0
    h.1 c.in-Some-corner_at.ensures.some in
    let name = c.in_ok-name.ensures ∙ ap (λ n. c.in-Some-3.bytes.items ++ n) c.bytes.ensures in
    let fresh = subst (λ n. (w.levels.items ≡ []) ⊎ (was_met w.met n ≡ false)) (c.bytes-2.ensures ∙ name)
    c.if-is_repeated-2.ensures.no in
    let nine : c.args.digit ≡ 9 = omega (arith, c.if-digit-ne9.false) in
    let found = found_label items w c.args.level c.args.offset c.args.digit c.args.text.now label is
    c.in-Some-3.bytes.items way nine corner placed fresh in
    let named = subst (λ n. IsFound items w c.args.level c.args.offset c.args.digit c.args.text.now
    (Some (record { offset = c.args.offset; name = n; x = corner.x; y = corner.y; layer = l.layer })))
    (sym name) found in
    let kept = corner_kept (scale_of c.args.level.ratio) c.args.level.placement l.x l.y corner placed in
    let wrapped = to_z w64 (of_z w64 corner.y) in
    subst (λ x. IsFound items w c.args.level c.args.offset c.args.digit c.args.text.now
    (Some (record { offset = c.args.offset; name = c.in_ok-name.name; x = x; y = wrapped; layer = l.layer })))
    (sym kept.0)
    (subst (λ y. IsFound items w c.args.level c.args.offset c.args.digit c.args.text.now
    (Some (record { offset = c.args.offset; name = c.in_ok-name.name; x = corner.x; y = y; layer = l.layer })))
    (sym kept.1) named)

pub returns-clause-named : goal.returns-clause-named
returns-clause-named c =
    let w = c.args.self.now in
    let items = c.args.items.now in
    let around = w.levels.items ++ c.args.level ∷ [] in
    named_read items w.names w.met around c.label.new.self c.in_ok-written.ensures.kept c.in_ok-written.ensures.read
    c.requires.named
