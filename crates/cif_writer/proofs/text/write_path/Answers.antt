use Rattle.std.proofs.Common.{sym, ◌∙◌, ◌+◌, ◌++◌, drop, List, ℕ, append_assoc}
use Rattle.std.specs.Prelude.{pos}
use Rattle.std.proofs.lemmas.Result.{err_from_is_err_and}
use Rattle.lam_geom.specs.declared.place.Point.{Point}
use Rattle.cif_form.specs.Writing.{space, point_text, path_text}
use Rattle.cif_writer.proofs.Wrote.{going_on, going_cut, next_of}
use Rattle.cif_writer.proofs.text.write_path.Goals as goal

pub returns-in_err-write_point-clause-taken : goal.returns-in_err-write_point-clause-taken
returns-in_err-write_point-clause-taken g c =
    let xs : List Point = c.args.points.now in
    let i : ℕ = c.loop-point.point-index in
    let next =
    next_of path_text (λ p. space ++ point_text p) xs i (record { x = pos 0; y = pos 0 })
    (λ p ps. sym (append_assoc space (point_text p) (path_text ps))) c.loop-point-test.true in
    let p = err_from_is_err_and c.from_residual.result c.from_residual.ensures.1 in
    going_cut _ _ _ (path_text xs) (path_text (drop i xs)) _ (path_text (drop (i + 1) xs))
    c.in_err-write_point.field-0.0 p.0 c.from_residual.result next p.1 c.loop-point.invariant.going
    c.in_err-write_point.ensures.taken

pub loop-point-preserved : goal.loop-point-preserved
loop-point-preserved g c =
    let xs : List Point = c.args.points.now in
    let i : ℕ = c.loop-point.point-index in
    let next =
    next_of path_text (λ p. space ++ point_text p) xs i (record { x = pos 0; y = pos 0 })
    (λ p ps. sym (append_assoc space (point_text p) (path_text ps))) c.loop-point-test.true in
    record {
      going = going_on _ _ _ (path_text xs) (path_text (drop i xs)) _
          (path_text (drop (i + 1) xs)) c.in_ok-write_point.field-0 next c.loop-point.invariant.going
          c.in_ok-write_point.ensures.taken;
      quiet = c.in_ok-write_point.ensures.cause.ok ∙ c.loop-point.invariant.quiet;
    }
