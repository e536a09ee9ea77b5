use Rattle.std.proofs.Common.{◌∙◌, None, Some, sym, ap, subst, refl}
use Rattle.std.specs.Prelude.{OnOk, Result, Ok, Err}
use Rattle.std.specs.List.{filter_map}
use Rattle.std.proofs.lemmas.List.{append-nil}
use Rattle.mp_written.specs.declared.program.Def.{Def}
use Rattle.mp_written.specs.Functions.{Function, function_of}
use Rattle.written_meanings.specs.Functions.{AreFunctions}
use Rattle.written_meanings.proofs.NotedFunctions.{def_more, no_function}
use Rattle.written_meanings.proofs.functions.Functions.note.Goals as goal

pub returns-in-Function : goal.returns-in-Function
returns-in-Function c = on_ok c.add.result (λ added ds are.
    let d = c.args.def.now in
    let f : Function = record {
      place = d.place;
      name = d.name;
      args = c.in-Function.args;
      body =
          c.in-Function.body;
    } in
    subst (λ fs. AreFunctions fs c.add.new.self)
    (sym (def_more ds d (Some f) (ap (function_of d) c.in-Function.is)))
    (added (filter_map (λ (y : Def). function_of y y.what) ds) f refl refl refl are)) c.add.ensures
  where
    on_ok : {A E P Q : Type 0} (r : Result A E) → (P → Q) → OnOk r P → OnOk r Q
    on_ok (Ok a) f p = f p
    on_ok (Err e) f p = tt

pub returns-in_default : goal.returns-in_default
returns-in_default c ds are =
    let d = c.args.def.now in
    subst (λ fs. AreFunctions fs c.args.self.now)
    (sym (def_more ds d None (no_function d d.what c.in_default.not-Function)
    ∙ append-nil (filter_map (λ (y : Def). function_of y y.what) ds))) are
