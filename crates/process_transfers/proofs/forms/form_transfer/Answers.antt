use Rattle.std.proofs.lemmas.Result.{IfOk-weaker}
use Rattle.process_transfers.specs.Wants.{IsFound, SetWants, LandWants, FormWants}
use Rattle.process_transfers.proofs.Serving.{set_found, go_found, call_found}
use Rattle.process_transfers.proofs.forms.form_transfer.Goals as goal

pub returns-in-Set : goal.returns-in-Set
returns-in-Set c =
    let p = c.args.program.now in
    let roles = c.args.layout.now.roles in
    let x = c.in-Some.enable in
    IfOk-weaker c.set_transfer.result (IsFound (SetWants p roles c.bytes.result.now c.in-Set.value x.expr))
    (IsFound (FormWants p roles c.args.kind.now c.args.enable))
    (λ o found. set_found p roles c.args.kind.now c.args.enable x c.in-Set.target c.bytes.result.now c.in-Set.at
    c.in-Set.value o c.in-Set.is c.in-Some.is c.bytes.ensures found)
    c.set_transfer.ensures

pub returns-in-Go : goal.returns-in-Go
returns-in-Go c =
    let p = c.args.program.now in
    let roles = c.args.layout.now.roles in
    let x = c.in-Some.enable in
    IfOk-weaker c.land_transfer.result (IsFound (LandWants p roles c.bytes-in-Go.result.now x))
    (IsFound (FormWants p roles c.args.kind.now c.args.enable))
    (λ o found. go_found p roles c.args.kind.now c.args.enable x c.in-Go.label c.bytes-in-Go.result.now o c.in-Go.is
    c.in-Some.is c.bytes-in-Go.ensures found)
    c.land_transfer.ensures

pub returns-in-Call : goal.returns-in-Call
returns-in-Call c =
    let p = c.args.program.now in
    let roles = c.args.layout.now.roles in
    let x = c.in-Some.enable in
    IfOk-weaker c.land_transfer-in-Call.result (IsFound (LandWants p roles c.bytes-in-Call.result.now x))
    (IsFound (FormWants p roles c.args.kind.now c.args.enable))
    (λ o found. call_found p roles c.args.kind.now c.args.enable x c.in-Call.label c.bytes-in-Call.result.now o
    c.in-Call.is c.in-Some.is c.bytes-in-Call.ensures found)
    c.land_transfer-in-Call.ensures
