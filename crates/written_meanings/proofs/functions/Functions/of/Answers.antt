use Rattle.std.proofs.Common.{◌∙◌, ◌++◌, ◌∷◌, [], List, sym, ap, subst, take}
use Rattle.std.specs.List.{filter_map}
use Rattle.std.proofs.lemmas.List.{take_more, take_all}
use Rattle.mp_written.specs.declared.program.Def.{Def}
use Rattle.mp_written.specs.Functions.{function_of}
use Rattle.written_meanings.specs.Functions.{AreFunctions}
use Rattle.written_meanings.proofs.functions.Functions.of.Goals as goal

pub loop-def-preserved : goal.loop-def-preserved
loop-def-preserved c =
    let i = c.loop-def.def-index in
    let ds = c.args.defs.now in
    let d = c.def-item.result in
    subst (λ (l : List Def). AreFunctions (filter_map (λ (y : Def). function_of y y.what) l) c.note.new.self)
    (sym (take_more ds i d c.loop-def-test.true ∙ ap (λ (y : Def). take i ds ++ y ∷ []) (sym c.def-item.is)))
    (c.in_ok-note.ensures (take i ds) c.loop-def.invariant)

pub returns : goal.returns
returns c =
    subst (λ (l : List Def). AreFunctions (filter_map (λ (y : Def). function_of y y.what) l) c.loop-def.functions)
    (take_all c.loop-def.def-index c.args.defs.now c.loop-def-test.false) c.loop-def.invariant
