use Rattle.std.proofs.Common.{List, drop, sym, subst, arith}
use Rattle.lam_geom.specs.declared.place.Point.{Point}
use Rattle.cif_form.specs.Readers.{path_here}
use Rattle.cif_reader.specs.Capped.{cut_path}
use Rattle.cif_reader.specs.Finding.{IsFound}
use Rattle.cif_reader.proofs.Paths.{PathSoFar, path_begins, path_goes_on, path_ends, path_lacks, path_stops}
use Rattle.cif_reader.proofs.numbers.add_points.Goals as goal

pub points-init : goal.points-init
points-init c = record {
  behind = omega arith;
  within = c.requires.within;
  so_far = path_begins c.args.bytes.now c.args.at c.args.points.now c.requires.empty;
}

pub returns-in_default : goal.returns-in_default
returns-in_default c =
    path_lacks c.args.bytes.now c.args.at c.points.from c.points.points c.points.invariant.so_far
    c.in_default.ensures.answers

pub returns-then-not-number_follows : goal.returns-then-not-number_follows
returns-then-not-number_follows c =
    let bytes = c.args.bytes.now in
    let at = c.args.at in
    let point = c.in-Some.field-0 in
    subst (λ (xs : List Point). IsFound cut_path (path_here (drop at bytes)) bytes at xs point.end)
    (sym c.in_ok-push.ensures.ok)
    (path_ends bytes at c.points.from point.end c.points.points _ c.points.invariant.so_far c.points.invariant.behind
    c.in-Some.ensures.answers c.in-Some.ensures.further (sym c.if-not-number_follows.ensures))

pub returns-in_default-separator : goal.returns-in_default-separator
returns-in_default-separator c =
    path_stops c.args.bytes.now c.args.at c.points.from c.in-Some.field-0.end c.points.points _
    c.points.invariant.so_far c.in-Some.ensures.answers c.in-Some.ensures.further
    (sym c.if-not-number_follows.ensures) c.in_default-separator.ensures

pub points-preserved : goal.points-preserved
points-preserved c =
    let bytes = c.args.bytes.now in
    let at = c.args.at in
    let from = c.points.from in
    let point = c.in-Some.field-0 in
    let next = c.in-Some-separator.next in
    let less = c.in-Some.ensures.further in
    let more = c.in-Some-separator.ensures.1 in
    let behind = c.points.invariant.behind in
    record {
      behind = omega (arith, behind, less, more);
      within = c.in-Some-separator.ensures.2;
      so_far = subst (λ (xs : List Point). PathSoFar bytes at next xs) (sym c.in_ok-push.ensures.ok)
          (path_goes_on bytes at from point.end next c.points.points _ c.points.invariant.so_far
          c.in-Some.ensures.answers less (sym c.if-not-number_follows.ensures) c.in-Some-separator.ensures.0 more);
    }
