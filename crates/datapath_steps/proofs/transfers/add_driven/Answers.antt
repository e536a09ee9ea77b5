use Rattle.std.proofs.Common.{◌<◌, List, None, ◌∙◌, length, ap, subst, sym, arith}
use Rattle.std.specs.Prelude.{All}
use Rattle.std.proofs.lemmas.Option.{slice_get_within}
use Rattle.std.proofs.lemmas.Slice.Zip.{AllZip-long}
use Rattle.nor_net.specs.declared.net.NetId.{NetId}
use Rattle.rtl_form.specs.declared.rtl.Transfer.{Transfer}
use Rattle.path_values.specs.Allocated.{IsTerm, transfers_to}
use Rattle.datapath_steps.specs.Continuing.{AreTerms, IsGateMade}
use Rattle.datapath_steps.proofs.Continuing.{terms_in}
use Rattle.datapath_steps.proofs.Writing.{driven_made, driven_step}
use Rattle.datapath_steps.proofs.transfers.add_driven.Goals as goal

pub add_gate-requires-clause-inputs_room : goal.add_gate-requires-clause-inputs_room
add_gate-requires-clause-inputs_room c =
    let t : AreTerms (transfers_to c.args.rtl.now c.args.cell) c.args.making.now c.add_terms.new.making
    c.in_ok-terms.terms =
    subst (λ (ts : List Transfer). AreTerms ts c.args.making.now c.add_terms.new.making c.in_ok-terms.terms)
    (c.as_slice.ensures ∙ c.in_ok-transfers.ensures) c.in_ok-terms.ensures in
    let n = AllZip-long (IsTerm c.add_terms.new.making.slices c.add_terms.new.making.casts c.args.making.now.names
    c.args.making.now.words) (transfers_to c.args.rtl.now c.args.cell) c.in_ok-terms.terms.nets t.are_terms in
    let b = t.continues.bounded.inputs in
    let s = ap length c.as_slice-2.ensures in
    let r = c.requires.room.inputs in
    omega (arith, n, b, s, r)

pub add_gate-requires-clause-inputs : goal.add_gate-requires-clause-inputs
add_gate-requires-clause-inputs c =
    subst (λ (ids : List NetId). All (λ (j : NetId). j.0 < length c.add_terms.new.making.slices.net) ids)
    (sym c.as_slice-2.ensures)
    (terms_in c.as_slice.result.now c.args.making.now c.add_terms.new.making c.in_ok-terms.terms c.in_ok-terms.ensures)

pub add_gate-requires-2-clause-inputs_room : goal.add_gate-requires-2-clause-inputs_room
add_gate-requires-2-clause-inputs_room c =
    let t : AreTerms (transfers_to c.args.rtl.now c.args.cell) c.args.making.now c.add_terms.new.making
    c.in_ok-terms.terms =
    subst (λ (ts : List Transfer). AreTerms ts c.args.making.now c.add_terms.new.making c.in_ok-terms.terms)
    (c.as_slice.ensures ∙ c.in_ok-transfers.ensures) c.in_ok-terms.ensures in
    let n = AllZip-long (IsTerm c.add_terms.new.making.slices c.add_terms.new.making.casts c.args.making.now.names
    c.args.making.now.words) (transfers_to c.args.rtl.now c.args.cell) c.in_ok-terms.terms.nets t.are_terms in
    let b = t.continues.bounded.inputs in
    let o = c.in_ok-off.ensures.continues.bounded.inputs in
    let s = ap length c.as_slice-2.ensures in
    let r = c.requires.room.inputs in
    omega (arith, n, b, o, s, r)

pub set-requires : goal.set-requires
set-requires c =
    let l = slice_get_within c.args.making.now.cell_words c.args.cell None c.requires.free in
    let t = c.in_ok-terms.ensures.continues.grows.cell_count in
    let o = c.in_ok-off.ensures.continues.grows.cell_count in
    let w = c.in_ok-word.ensures.continues.grows.cell_count in
    omega (arith, l, t, o, w)

pub returns-clause-step : goal.returns-clause-step
returns-clause-step c =
    driven_step c.args.rtl.now c.args.cell c.args.making.now c.add_terms.new.making c.add_gate.new.making
    c.add_gate-2.new.making c.in_ok-terms.terms c.in_ok-off.off c.in_ok-word.word
    (subst (λ (ts : List Transfer). AreTerms ts c.args.making.now c.add_terms.new.making c.in_ok-terms.terms)
    (c.as_slice.ensures ∙ c.in_ok-transfers.ensures) c.in_ok-terms.ensures)
    (subst (λ (ids : List NetId). IsGateMade ids c.add_terms.new.making c.add_gate.new.making c.in_ok-off.off)
    c.as_slice-2.ensures c.in_ok-off.ensures)
    c.in_ok-word.ensures c.set.new.self c.set.ensures

pub returns-clause-driven : goal.returns-clause-driven
returns-clause-driven c =
    driven_made c.args.rtl.now c.args.cell c.args.making.now c.add_terms.new.making c.add_gate.new.making
    c.add_gate-2.new.making c.in_ok-terms.terms c.in_ok-off.off c.in_ok-word.word
    (subst (λ (ts : List Transfer). AreTerms ts c.args.making.now c.add_terms.new.making c.in_ok-terms.terms)
    (c.as_slice.ensures ∙ c.in_ok-transfers.ensures) c.in_ok-terms.ensures)
    (subst (λ (ids : List NetId). IsGateMade ids c.add_terms.new.making c.add_gate.new.making c.in_ok-off.off)
    c.as_slice-2.ensures c.in_ok-off.ensures)
    c.in_ok-word.ensures c.set.new.self c.set.ensures
