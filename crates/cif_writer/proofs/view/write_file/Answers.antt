use Rattle.std.proofs.Common.{List, ℕ, ◌≡◌, ◌≤◌, ◌+◌, ◌++◌, ◌∙◌, sym, ap, subst, arith, length, drop}
use Rattle.std.specs.Prelude.{codes}
use Rattle.std.proofs.lemmas.List.{at_drop_all}
use Rattle.std.proofs.lemmas.Result.{err_from_is_err_and}
use Rattle.outside.specs.Outside.{Gains}
use Rattle.outside.specs.Piece.{TakesAll}
use Rattle.cif_form.specs.declared.command.Item.{Item}
use Rattle.cif_list.specs.Showing.{item_shown}
use Rattle.cif_writer.specs.Texts.{file_text, commands_of}
use Rattle.cif_writer.proofs.Wrote.{going_on, going_cut, wrote_then}
use Rattle.cif_writer.proofs.Files.{file_next, fits_at}
use Rattle.cif_writer.proofs.view.write_file.Goals as goal

pub write_view-requires : goal.write_view-requires
write_view-requires g c =
    fits_at c.args.commands.now c.loop-index.index (item_shown c.at.result) c.requires c.at.ensures

pub returns-in_err-write_view-clause-taken : goal.returns-in_err-write_view-clause-taken
returns-in_err-write_view-clause-taken g c =
    let items : List Item = c.args.commands.now in
    let i : ℕ = c.loop-index.index in
    let next = file_next items i (item_shown c.at.result) c.at.ensures in
    let p = err_from_is_err_and c.from_residual.result c.from_residual.ensures.1 in
    going_cut _ _ _ (file_text (commands_of items)) (file_text (commands_of (drop i items))) _
    (file_text (commands_of (drop (i + 1) items))) c.in_err-write_view.field-0.0 p.0 c.from_residual.result next p.1
    c.loop-index.invariant.going c.in_err-write_view.ensures.taken

pub loop-index-preserved : goal.loop-index-preserved
loop-index-preserved g c =
    let items : List Item = c.args.commands.now in
    let i : ℕ = c.loop-index.index in
    let next = file_next items i (item_shown c.at.result) c.at.ensures in
    record {
      going = going_on _ _ _ (file_text (commands_of items)) (file_text (commands_of (drop i items))) _
          (file_text (commands_of (drop (i + 1) items))) c.in_ok-write_view.field-0 next
          c.loop-index.invariant.going c.in_ok-write_view.ensures.taken;
      quiet = c.in_ok-write_view.ensures.cause.ok ∙ c.loop-index.invariant.quiet;
    }

pub returns-clause-taken : goal.returns-clause-taken
returns-clause-taken g c =
    let items : List Item = c.args.commands.now in
    let i : ℕ = c.loop-index.index in
    let going = c.loop-index.invariant.going in
    let past : length items ≤ i = omega (arith, c.len-index-end.ensures, c.loop-index-test.false) in
    let e : file_text (commands_of items) ≡ going.front ++ codes "E\n" =
    going.split ∙ ap (λ t. going.front ++ t)
    (at_drop_all (λ is. file_text (commands_of is)) items i past) in
    let P : List ℕ → Type 0 =
    λ t. TakesAll Gains (g.O.Sink.held c.args.out.now) (g.O.Sink.held c.write_end.new.out) t c.write_end.result in
    subst P (sym e) (wrote_then _ _ _ going.front
    (codes "E\n") c.write_end.result going.wrote c.write_end.ensures.taken)
