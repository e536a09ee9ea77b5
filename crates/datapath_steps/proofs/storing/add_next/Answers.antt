use Rattle.std.proofs.Common.{◌-◌, ◌<◌, ◌∙◌, List, Option, length, subst, arith}
use Rattle.std.proofs.lemmas.List.Elements.{All-weaker}
use Rattle.std.proofs.lemmas.Slice.Zip.{AllZip-long}
use Rattle.nor_net.specs.declared.net.NetId.{NetId}
use Rattle.rtl_form.specs.declared.rtl.Transfer.{Transfer}
use Rattle.control_nor.specs.Lowering.{Stands}
use Rattle.path_values.specs.Allocated.{IsGuard, IsTerm, transfers_to}
use Rattle.datapath_steps.specs.Continuing.{AreTerms}
use Rattle.datapath_steps.proofs.Continuing.{cast_within, terms_in}
use Rattle.datapath_steps.proofs.StoredWords.{next_made, next_step, slave_is, slave_waits, word_is}
use Rattle.datapath_steps.proofs.storing.add_next.Goals as goal

pub add_source-requires-clause-inputs_room : goal.add_source-requires-clause-inputs_room
add_source-requires-clause-inputs_room c =
    let are : AreTerms (transfers_to c.args.rtl.now c.args.cell) c.args.making.now c.add_terms.new.making
    c.in_ok-terms.terms =
    subst (λ (ts : List Transfer). AreTerms ts c.args.making.now c.add_terms.new.making c.in_ok-terms.terms)
    (c.as_slice.ensures ∙ c.in_ok-transfers.ensures) c.in_ok-terms.ensures in
    let n = AllZip-long (IsTerm c.add_terms.new.making.slices c.add_terms.new.making.casts c.args.making.now.names
    c.args.making.now.words) (transfers_to c.args.rtl.now c.args.cell) c.in_ok-terms.terms.nets are.are_terms in
    let g = AllZip-long (λ (t : Transfer) g. IsGuard c.add_terms.new.making.casts c.args.making.now.names t.guard g)
    (transfers_to c.args.rtl.now c.args.cell) c.in_ok-terms.terms.guards are.are_guards in
    let a = are.continues.bounded.inputs in
    let b = c.in_ok-clear.ensures.continues.bounded.inputs in
    let r = c.requires.room.inputs in
    omega (arith, n, g, a, b, r)

pub add_source-requires-clause-nets : goal.add_source-requires-clause-nets
add_source-requires-clause-nets c =
    All-weaker (λ (id : NetId). id.0 < length c.add_terms.new.making.slices.net)
    (λ (id : NetId). id.0 < length c.add_clear.new.making.slices.net)
    (λ id l. let e = c.in_ok-clear.ensures.continues.grows.longer in omega (arith, l, e)) c.in_ok-terms.terms.nets
    (terms_in c.as_slice.result.now c.args.making.now c.add_terms.new.making c.in_ok-terms.terms c.in_ok-terms.ensures)

pub add_source-requires-clause-clear : goal.add_source-requires-clause-clear
add_source-requires-clause-clear c =
    let f = c.in_ok-clear.ensures in
    cast_within c.add_clear.new.making f.continues.made f.cast f.is_cast c.in_ok-clear.clear f.to

pub add_masters-requires-clause-inputs_room : goal.add_masters-requires-clause-inputs_room
add_masters-requires-clause-inputs_room c =
    let are : AreTerms (transfers_to c.args.rtl.now c.args.cell) c.args.making.now c.add_terms.new.making
    c.in_ok-terms.terms =
    subst (λ (ts : List Transfer). AreTerms ts c.args.making.now c.add_terms.new.making c.in_ok-terms.terms)
    (c.as_slice.ensures ∙ c.in_ok-transfers.ensures) c.in_ok-terms.ensures in
    let n = AllZip-long (IsTerm c.add_terms.new.making.slices c.add_terms.new.making.casts c.args.making.now.names
    c.args.making.now.words) (transfers_to c.args.rtl.now c.args.cell) c.in_ok-terms.terms.nets are.are_terms in
    let g = AllZip-long (λ (t : Transfer) g. IsGuard c.add_terms.new.making.casts c.args.making.now.names t.guard g)
    (transfers_to c.args.rtl.now c.args.cell) c.in_ok-terms.terms.guards are.are_guards in
    let a = are.continues.bounded.inputs in
    let b = c.in_ok-clear.ensures.continues.bounded.inputs in
    let d = c.in_ok-source.ensures.continues.bounded.inputs in
    let r = c.requires.room.inputs in
    omega (arith, n, g, a, b, d, r)

pub add_masters-requires-clause-slave : goal.add_masters-requires-clause-slave
add_masters-requires-clause-slave c =
    let are : AreTerms (transfers_to c.args.rtl.now c.args.cell) c.args.making.now c.add_terms.new.making
    c.in_ok-terms.terms =
    subst (λ (ts : List Transfer). AreTerms ts c.args.making.now c.add_terms.new.making c.in_ok-terms.terms)
    (c.as_slice.ensures ∙ c.in_ok-transfers.ensures) c.in_ok-terms.ensures in
    let w = c.requires.word in
    let same = word_is c.args.making.now c.add_terms.new.making c.add_clear.new.making (transfers_to c.args.rtl.now
    c.args.cell)
    c.in_ok-terms.terms c.in_ok-clear.clear are c.in_ok-clear.ensures c.args.cell c.net_of-word.result w.0
    (subst (λ (cs : List (Option NetId)). Stands cs c.args.cell c.net_of-word.result) c.as_slice-2.ensures
    c.net_of-word.ensures) w.1 in
    slave_waits c.args.making.now c.add_terms.new.making c.add_clear.new.making c.add_source.new.making
    (transfers_to c.args.rtl.now c.args.cell) c.in_ok-terms.terms c.in_ok-clear.clear
    (let s : NetId = record { 0 = c.net_of-word.result.0 - 1 } in s) c.in_ok-source.source are c.in_ok-clear.ensures
    c.in_ok-source.ensures w.0 w.2 (slave_is c.args.making.now.slices.net w.0 c.net_of-word.result w.2 same)

pub returns-clause-step : goal.returns-clause-step
returns-clause-step c =
    let are : AreTerms (transfers_to c.args.rtl.now c.args.cell) c.args.making.now c.add_terms.new.making
    c.in_ok-terms.terms =
    subst (λ (ts : List Transfer). AreTerms ts c.args.making.now c.add_terms.new.making c.in_ok-terms.terms)
    (c.as_slice.ensures ∙ c.in_ok-transfers.ensures) c.in_ok-terms.ensures in
    let w = c.requires.word in
    let same = word_is c.args.making.now c.add_terms.new.making c.add_clear.new.making (transfers_to c.args.rtl.now
    c.args.cell)
    c.in_ok-terms.terms c.in_ok-clear.clear are c.in_ok-clear.ensures c.args.cell c.net_of-word.result w.0
    (subst (λ (cs : List (Option NetId)). Stands cs c.args.cell c.net_of-word.result) c.as_slice-2.ensures
    c.net_of-word.ensures) w.1 in
    next_step c.args.rtl.now c.args.cell c.args.reset c.args.making.now c.add_terms.new.making c.add_clear.new.making
    c.add_source.new.making c.add_masters.new.making c.in_ok-terms.terms c.in_ok-clear.clear w.0 c.in_ok-source.source
    (let s : NetId = record { 0 = c.net_of-word.result.0 - 1 } in s) c.requires.reset.0 are c.in_ok-clear.ensures
    c.in_ok-source.ensures c.in_ok-add_masters.ensures w.2 w.1
    (slave_is c.args.making.now.slices.net w.0 c.net_of-word.result w.2 same)
    c.requires.reset.1 c.requires.reset.2

pub returns-clause-next : goal.returns-clause-next
returns-clause-next c =
    let are : AreTerms (transfers_to c.args.rtl.now c.args.cell) c.args.making.now c.add_terms.new.making
    c.in_ok-terms.terms =
    subst (λ (ts : List Transfer). AreTerms ts c.args.making.now c.add_terms.new.making c.in_ok-terms.terms)
    (c.as_slice.ensures ∙ c.in_ok-transfers.ensures) c.in_ok-terms.ensures in
    let w = c.requires.word in
    let same = word_is c.args.making.now c.add_terms.new.making c.add_clear.new.making (transfers_to c.args.rtl.now
    c.args.cell)
    c.in_ok-terms.terms c.in_ok-clear.clear are c.in_ok-clear.ensures c.args.cell c.net_of-word.result w.0
    (subst (λ (cs : List (Option NetId)). Stands cs c.args.cell c.net_of-word.result) c.as_slice-2.ensures
    c.net_of-word.ensures) w.1 in
    next_made c.args.rtl.now c.args.cell c.args.reset c.args.making.now c.add_terms.new.making c.add_clear.new.making
    c.add_source.new.making c.add_masters.new.making c.in_ok-terms.terms c.in_ok-clear.clear w.0 c.in_ok-source.source
    (let s : NetId = record { 0 = c.net_of-word.result.0 - 1 } in s) c.requires.reset.0 are c.in_ok-clear.ensures
    c.in_ok-source.ensures c.in_ok-add_masters.ensures w.2 w.1
    (slave_is c.args.making.now.slices.net w.0 c.net_of-word.result w.2 same)
    c.requires.reset.1 c.requires.reset.2
