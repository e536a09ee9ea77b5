use Rattle.std.proofs.Common.{◌<◌, length, cond, eqb, sym, ◌∙◌, ap, subst}
use Rattle.std.specs.Prelude.{All}
use Rattle.organelles.specs.declared.slices.Programmed.{Programmed}
use Rattle.path_form.specs.declared.path.Cast.{Cast}
use Rattle.path_form.specs.declared.path.Lift.{Lift}
use Rattle.path_form.specs.Shape.{chain_to}
use Rattle.path_sources.specs.declared.sources.Source.{Source}
use Rattle.path_sources.specs.declared.sources.Source.TheVariants.{Pad}
use Rattle.path_sources.specs.Sources.{cast_source, chain_source, control_source, lift_source, or_source, program_source}
use Rattle.path_sources.specs.Sources.{source_at, told}
use Rattle.path_sources.proofs.Ends.{casts_inside, lifts_inside, programs_inside}
use Rattle.path_sources.proofs.Telling.{told_list}
use Rattle.path_sources.proofs.sources.Sources.new.Goals as goal

pub tell_lifts-requires : goal.tell_lifts-requires
tell_lifts-requires c =
    let size = sym (c.in_ok-control.ensures.size ∙ c.len.ensures.len) in
    subst (All (λ (l : Lift). l.control.0 < length c.in_ok-control.control)) (sym c.as_slice.ensures)
    (subst (λ n. All (λ (l : Lift). l.control.0 < n) c.args.path.now.lifts) size (lifts_inside c.args.path.now))

pub tell_programs-requires : goal.tell_programs-requires
tell_programs-requires c =
    let size = sym (c.tell_chains.ensures.size ∙ c.in_ok-slices.ensures.size ∙ c.len-2.ensures.len) in
    subst (All (λ (g : Programmed). g.net.0 < length c.tell_chains.new.sources)) (sym c.as_slice-3.ensures)
    (subst (λ n. All (λ (g : Programmed). g.net.0 < n) c.args.path.now.slices.programs) size
    (programs_inside c.args.path.now))

pub tell_casts-requires : goal.tell_casts-requires
tell_casts-requires c =
    let size = sym (c.tell_programs.ensures.size ∙ c.tell_chains.ensures.size ∙ c.in_ok-slices.ensures.size
    ∙ c.len-2.ensures.len) in
    subst (All (λ (x : Cast). x.slice.0 < length c.tell_programs.new.sources)) (sym c.as_slice-4.ensures)
    (subst (λ n. All (λ (x : Cast). x.slice.0 < n) c.args.path.now.casts) size (casts_inside c.args.path.now))

pub returns : goal.returns
returns c = λ band n.
    let p = c.args.path.now in
    let chains = told chain_to chain_source n p.slices.chains in
    let programs = told (λ (g : Programmed). g.net) program_source n p.slices.programs in
    let control = told_list (λ (l : Lift). l.control) lift_source n c.as_slice.result.now p.lifts
    (source_at c.in_ok-control.control n) (source_at c.tell_lifts.new.sources n) Pad (c.in_ok-control.ensures.pads n)
    (c.tell_lifts.ensures.told n) c.as_slice.ensures in
    let one = told_list chain_to chain_source n c.as_slice-2.result.now p.slices.chains
    (source_at c.in_ok-slices.slices n) (source_at c.tell_chains.new.sources n) Pad (c.in_ok-slices.ensures.pads n)
    (c.tell_chains.ensures.told n) c.as_slice-2.ensures in
    let two = told_list (λ (g : Programmed). g.net) program_source n c.as_slice-3.result.now p.slices.programs
    (source_at c.tell_chains.new.sources n) (source_at c.tell_programs.new.sources n) chains one
    (c.tell_programs.ensures.told n) c.as_slice-3.ensures in
    let slices = told_list (λ (x : Cast). x.slice) cast_source n c.as_slice-4.result.now p.casts
    (source_at c.tell_programs.new.sources n) (source_at c.tell_casts.new.sources n) (or_source chains programs) two
    (c.tell_casts.ensures.told n) c.as_slice-4.ensures in
    ap (λ (s : Source). cond (eqb band 0) s (source_at c.tell_casts.new.sources n)) control
    ∙ ap (λ (s : Source). cond (eqb band 0) (control_source p.lifts n) s) slices
