-- The expressions of a program and the enables of its forms.
use Rattle.std.proofs.Common.{
  ◌≡◌,
  inl,
  inr,
  ◌∙◌,
  ℕ,
  List,
  [],
  ◌∷◌,
  true,
  false,
  Option,
  refl,
  sym,
  ap,
  subst,
  arith,
  length,
  take,
}
use Rattle.std.specs.List.{sum_by}
use Rattle.mp_base.specs.declared.op.Op.TheVariants.{Not}
use Rattle.mp_base.proofs.Contents.{contains_map}
use Rattle.mp_base.proofs.Lists.{take_whole}
use Rattle.mp_program.specs.declared.program.Branch.{Branch}
use Rattle.mp_program.specs.declared.program.Process.{Process}
use Rattle.mp_program.specs.declared.program.Program.{Program}
use Rattle.mp_rules.specs.Breaking.{IsUnbroken}
use Rattle.mp_base.proofs.Entries.{some_entry, within}
use Rattle.rtl_form.specs.declared.rtl.Cell as cells
use Rattle.rtl_form.specs.declared.rtl.RtlExpr.{RtlExpr}
use Rattle.rtl_form.specs.declared.rtl.RtlExpr.TheVariants.{Truth, Apply}
use Rattle.process_plan.specs.declared.role.Role.{Role}
use Rattle.process_plan.specs.declared.enable.Origin.{Origin}
use Rattle.process_plan.specs.declared.enable.Origin.TheVariants.{Always, At}
use Rattle.process_plan.specs.declared.enable.Enable.{Enable}
use Rattle.process_plan.specs.Lawful.{Known}
use Rattle.process_plan.specs.Roles.{AreCells}
use Rattle.process_plan.specs.Active.{IsRoot}
use Rattle.process_plan.specs.Enables.{HasEnable, AreEnables, IsOriginExpr, copy_of}
use Rattle.process_plan.specs.Bill.{first_bill}
use Rattle.process_plan.specs.Fits.{HasSortIn}
use Rattle.process_plan.proofs.Sorts.{copy_wanted}
use Rattle.process_layout.specs.Counts.{guards_of}
use Rattle.process_layout.specs.Steps.{Keeps, IsEnabling}
use Rattle.process_layout.proofs.Keeping.{keeps_more}
use Rattle.process_enables.specs.Forms.{AreFit, GuardsAreBits, EnablesBelow}
use Rattle.process_enables.specs.Copies.{AreCopiedFrom}
use Rattle.process_enables.specs.Places.{PutsAllPlaces}
use Rattle.process_enables.specs.Roots.{IsRootAt, AreRootsBefore}
use Rattle.process_enables.proofs.Adding.{bit_kept}
use Rattle.process_enables.proofs.Copying.{sorted_of}
use Rattle.process_enables.proofs.Placing.{place_kept}
use Rattle.process_enables.proofs.Forming.{guards_in}
use Rattle.process_enables.proofs.Calling.{calls_within}

module _ (p : Program) (roles : List Role) (xs : List cells.Cell) (are : AreCells p roles xs) (unbroken : IsUnbroken p)
    (known : Known p) (first mid last : List RtlExpr) (places : List (List ℕ)) (old new : List (Option Enable))
    (copied : AreCopiedFrom p roles xs 0 first) (put : PutsAllPlaces p roles xs (length p.processes) first mid places)
    (roots : AreRootsBefore p places (length p.processes) old)
    (below : EnablesBelow p (length p.forms) mid last old new) where
  all_kept : Keeps first last
  all_kept = keeps_more first mid last (put.added).kept below.exprs_kept

  guards_fit : GuardsAreBits p xs mid
  guards_fit f y bs b at is c =
      let sorted = sorted_of p unbroken known.sound in
      let (x, at_x) = some_entry p.exprs b.guard (guards_in p known.sound f y at bs is b c) in
      copy_wanted p roles xs are mid sorted b.guard x false at_x
      (λ z at_z. let (w, at_w, copy) = copied.copies b.guard z (omega arith) at_z in
      (w, (put.added).kept (copy_of p b.guard) w at_w, copy))
      (inr (inl (f, y, bs, at, is, contains_map (λ (t : Branch). t.guard) bs b c, refl)))

  origin_bit : (o : Origin) (f a : ℕ) → IsRootAt p places o f a → HasSortIn xs mid a false
  origin_bit Always f a (c, zero_is) = subst (λ n. HasSortIn xs mid n false) (sym zero_is)
      (Truth true, (put.added).kept 0 (Truth true) (copied.truth).0, refl)
  origin_bit (At k i) f a (q, es, at_q, at_es, at_f, at_a) = (put.places k es at_es i a at_a).1

  roots_fit : AreFit p.width xs mid old
  roots_fit = record {
    exprs_fit = (put.added).fits copied.fits;
    bits = λ f a o has. origin_bit o f a (roots.only o f a has);
  }

  all_fit : AreFit p.width xs last new
  all_fit = below.fits p.width xs guards_fit roots_fit

  origin_expr : (o : Origin) (f a : ℕ) → IsRootAt p places o f a → IsRoot p o f × IsOriginExpr p last roles o a
  origin_expr Always f a (c, zero_is) = (c, zero_is)
  origin_expr (At k i) f a (q, es, at_q, at_es, at_f, at_a) = (
    (q, at_q, at_f),
    place_kept p roles mid last below.exprs_kept k i a (put.places k es at_es i a at_a).0,
  )

  root_at : (o : Origin) (f : ℕ) → IsRoot p o f → (a : ℕ) × IsOriginExpr p last roles o a × HasEnable new f o a
  root_at Always f c = (0, refl, (below.kept).kept f Always 0 (roots.all Always f 0 tt (c, refl)))
  root_at (At k i) f (q, at_q, at_f) =
      let size = put.size in
      let inside = within p.processes k at_q in
      let (es, at_es) = some_entry places k (omega (arith, size, inside)) in
      let sizes = put.sizes k q es at_q at_es in
      let there = within q.forms i at_f in
      let (a, at_a) = some_entry es i (omega (arith, sizes, there)) in (
        a,
        place_kept p roles mid last below.exprs_kept k i a (put.places k es at_es i a at_a).0,
        (below.kept).kept f (At k i) a (roots.all (At k i) f a inside (q, es, at_q, at_es, at_f, at_a)),
      )

  are_enables : AreEnables p last roles new
  are_enables = record {
    size = (below.kept).size ∙ roots.size;
    roots = root_at;
    inner = λ g y o a at has. below.inner g y o a (within p.forms g at) at has;
    reasons = λ f o a has. elim (below.reasons f o a has) [
      | inl before ↦ inl (origin_expr o f a (roots.only o f a before))
      | inr reason ↦ inr reason
    ];
  }

  pub enabling_is : IsEnabling p roles xs (record { exprs = last; enables = new; places = places })
  enabling_is = record {
    truth = (
      all_kept 0 (Truth true) (copied.truth).0,
      all_kept 1 (Apply Not 0 (0 ∷ [])) (copied.truth).1,
    );
    copies = λ n x at. let (y, at_y, copy) = copied.copies n x (omega arith) at in
        (y, all_kept (copy_of p n) y at_y, copy);
    enabled = are_enables;
    processes = put.size;
    sizes = put.sizes;
    places = λ k i a es at_es at_a.
        place_kept p roles mid last below.exprs_kept k i a (put.places k es at_es i a at_a).0;
    fits = all_fit.exprs_fit;
    enable_bits = all_fit.bits;
    place_bits = λ k i a es at_es at_a. bit_kept xs mid last a below.exprs_kept (put.places k es at_es i a at_a).1;
    cost =
        let a = copied.cost in
        let b = (put.added).cost in
        let c = below.cost in
        let d : sum_by (λ (q : Process). first_bill (length q.forms)) (take (length p.processes) p.processes)
        ≡ sum_by (λ (q : Process). first_bill (length q.forms)) p.processes =
        ap (λ qs. sum_by (λ (q : Process). first_bill (length q.forms)) qs) (take_whole p.processes) in
        let e : guards_of (take (length p.forms) p.forms) new ≡ guards_of p.forms new =
        ap (λ ys. guards_of ys new) (take_whole p.forms) in
        omega (arith, a, b, c, d, e);
    called = calls_within p known last roles new are_enables;
  }
