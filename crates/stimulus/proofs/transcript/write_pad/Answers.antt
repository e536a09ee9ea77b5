use Rattle.std.proofs.Common.{ℕ, List, ◌++◌, Err, codes, subst}
use Rattle.std.proofs.lemmas.Result.{err_from_is_err_and}
use Rattle.outside.specs.Outside.{WhereTold, Gains}
use Rattle.outside.specs.Piece.{TakesAll}
use Rattle.outside.specs.declared.calls.Failed.{Failed}
use Rattle.stimulus.specs.Bits.{pad_trits}
use Rattle.stimulus.specs.Transcript.{bits_text}
use Rattle.outside.proofs.Written.{gained, gained_then, cut_before}
use Rattle.stimulus.proofs.transcript.write_pad.Goals as goal

pub returns-in_err-write_all-2-clause-taken : goal.returns-in_err-write_all-2-clause-taken
returns-in_err-write_all-2-clause-taken g c =
    let p =
    err_from_is_err_and c.from_residual-in_err-write_all-2.result c.from_residual-in_err-write_all-2.ensures.1 in
    let name : List ℕ = c.args.pad.now.name in
    let rest : List ℕ = codes "=" ++ bits_text (pad_trits c.args.pad.now c.args.value) in
    let h0 = g.O.Sink.held c.args.out.now in
    let h1 = g.O.Sink.held c.write_all.new.out in
    let h2 = g.O.Sink.held c.write_all-2.new.out in
    let blank : WhereTold (Gains (codes " ")) h0 h1 =
    gained c.in_ok-write_all.field-0 h0 h1 (codes " ") c.in_ok-write_all.ensures.taken in
    let P : List ℕ → Type 0 =
    λ t. TakesAll {T = Unit {0}} {E = Failed} Gains h1 h2 t (Err c.in_err-write_all-2.field-0.0) in
    let short : P name = subst P c.bytes.ensures c.in_err-write_all-2.ensures.taken in
    rw (p.1) (gained_then h0 h1 h2 (codes " ") (name ++ rest) (Err p.0) blank
    (cut_before c.in_err-write_all-2.field-0.0 p.0 h1 h2 name rest short))

pub returns-in_err-write_all-3-clause-taken : goal.returns-in_err-write_all-3-clause-taken
returns-in_err-write_all-3-clause-taken g c =
    let p =
    err_from_is_err_and c.from_residual-in_err-write_all-3.result c.from_residual-in_err-write_all-3.ensures.1 in
    let name : List ℕ = c.args.pad.now.name in
    let value : List ℕ = bits_text (pad_trits c.args.pad.now c.args.value) in
    let h0 = g.O.Sink.held c.args.out.now in
    let h1 = g.O.Sink.held c.write_all.new.out in
    let h2 = g.O.Sink.held c.write_all-2.new.out in
    let h3 = g.O.Sink.held c.write_all-3.new.out in
    let blank : WhereTold (Gains (codes " ")) h0 h1 =
    gained c.in_ok-write_all.field-0 h0 h1 (codes " ") c.in_ok-write_all.ensures.taken in
    let P : List ℕ → Type 0 = λ t. WhereTold (Gains t) h1 h2 in
    let named : P name =
    subst P c.bytes.ensures
    (gained c.in_ok-write_all-2.field-0 h1 h2 c.bytes.result.now c.in_ok-write_all-2.ensures.taken) in
    rw (p.1) (gained_then h0 h1 h3 (codes " ") (name ++ (codes "=" ++ value)) (Err p.0) blank
    (gained_then h1 h2 h3 name (codes "=" ++ value) (Err p.0) named
    (cut_before c.in_err-write_all-3.field-0.0 p.0 h2 h3 (codes "=") value c.in_err-write_all-3.ensures.taken)))

pub returns-clause-taken : goal.returns-clause-taken
returns-clause-taken g c =
    let name : List ℕ = c.args.pad.now.name in
    let value : List ℕ = bits_text (pad_trits c.args.pad.now c.args.value) in
    let h0 = g.O.Sink.held c.args.out.now in
    let h1 = g.O.Sink.held c.write_all.new.out in
    let h2 = g.O.Sink.held c.write_all-2.new.out in
    let h3 = g.O.Sink.held c.write_all-3.new.out in
    let h4 = g.O.Sink.held c.write_value.new.out in
    let blank : WhereTold (Gains (codes " ")) h0 h1 =
    gained c.in_ok-write_all.field-0 h0 h1 (codes " ") c.in_ok-write_all.ensures.taken in
    let P : List ℕ → Type 0 = λ t. WhereTold (Gains t) h1 h2 in
    let named : P name =
    subst P c.bytes.ensures
    (gained c.in_ok-write_all-2.field-0 h1 h2 c.bytes.result.now c.in_ok-write_all-2.ensures.taken) in
    let sign : WhereTold (Gains (codes "=")) h2 h3 =
    gained c.in_ok-write_all-3.field-0 h2 h3 (codes "=") c.in_ok-write_all-3.ensures.taken in
    gained_then h0 h1 h4 (codes " ") (name ++ (codes "=" ++ value)) c.write_value.result blank
    (gained_then h1 h2 h4 name (codes "=" ++ value) c.write_value.result named
    (gained_then h2 h3 h4 (codes "=") value c.write_value.result sign c.write_value.ensures.taken))
