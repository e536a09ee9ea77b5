use Rattle.std.proofs.Common.{◌≡◌, ◌∙◌, ◌++◌, ◌∷◌, [], List, sym, ap, subst, length, arith, map}
use Rattle.std.proofs.lemmas.List.{length-map}
use Rattle.mp_written.specs.declared.program.Arg.{Arg}
use Rattle.mp_written.specs.Functions.{Function}
use Rattle.written_meanings.specs.declared.functions.Body.{Body}
use Rattle.written_meanings.specs.Firsts.{AreFirsts}
use Rattle.written_meanings.specs.Meanings.{body_of}
use Rattle.written_meanings.proofs.NotedFunctions.{function_more, names}
use Rattle.written_meanings.proofs.functions.Functions.add.Goals as goal

pub returns : goal.returns
returns c fs f named args body are =
    let t = c.args.self.now in
    let a = c.in_ok-args_by_name.field-0 in
    let number = c.in-Ok.ensures.1 in
    let count = c.in-Ok-try_from.ensures.1 in
    let many = c.len.ensures in
    let wide = c.len-2.ensures in
    let bodies = ap length are.bodies ∙ length-map fs body_of in
    let as_many = length-map fs (λ (g : Function). g.name) in
    let noted = c.in_ok-note.ensures (names fs) (omega (arith, number, many, bodies, as_many)) are.numbers in
    let all = ap (λ (l : List Arg). length l) args in
    let size : c.in-Ok-try_from.count ≡ length f.args = omega (arith, count, wide, all) in
    let b : Body = record { args = c.in-Ok-try_from.count; expr = c.args.expr } in
    let same : b ≡ body_of f = cc (size, body) in
    function_more fs f t (record { numbers = c.note.new.self; bodies = c.push.new.self; args = c.push-2.new.self })
    a are
    (subst (λ x. AreFirsts (names fs ++ x ∷ []) c.note.new.self) (c.bytes.ensures ∙ sym named) noted)
    (c.in_ok-push.ensures.ok ∙ ap (λ x. t.bodies ++ x ∷ []) same) c.in_ok-push-2.ensures.ok
    (subst (λ (l : List Arg). AreFirsts (map (λ (x : Arg). x.name) l) a) (c.as_slice.ensures ∙ sym args)
    c.in_ok-args_by_name.ensures)
