-- What is built of a program is at the cost of its bill.
use Rattle.std.proofs.Common.{
  ◌≡◌,
  ◌⊎◌,
  inl,
  inr,
  ◌∙◌,
  ℕ,
  suc,
  ◌+◌,
  ◌-◌,
  ◌*◌,
  ◌<◌,
  List,
  [],
  ◌∷◌,
  true,
  Option,
  refl,
  sym,
  ap,
  subst,
  arith,
  length,
  map,
}
use Rattle.std.specs.Prelude.{Contains}
use Rattle.std.specs.List.{sum_by}
use Rattle.std.proofs.lemmas.List.Sums.{sum_by-cons}
use Rattle.mp_base.specs.declared.pad.Pads.{Pads}
use Rattle.mp_base.specs.declared.refusal.Place.{Place}
use Rattle.mp_program.specs.declared.program.FormKind.{FormKind}
use Rattle.mp_program.specs.declared.program.FormKind.TheVariants.{Set, Cond, Par, Go, Call, Return}
use Rattle.mp_program.specs.declared.program.Def.{Def}
use Rattle.mp_program.specs.declared.program.Process.{Process}
use Rattle.mp_program.specs.declared.program.Program.{Program}
use Rattle.mp_program.specs.Pads.{ArePadsOf, face}
use Rattle.mp_rules.specs.Breaking.{IsUnbroken}
use Rattle.mp_base.specs.Entries.{IsAt}
use Rattle.mp_rules.specs.Naming.{OwnNames}
use Rattle.rtl_form.specs.declared.rtl.Rtl.{Rtl}
use Rattle.rtl_form.specs.declared.rtl.RtlExpr.{RtlExpr}
use Rattle.rtl_form.specs.declared.rtl.Transfer.{Transfer}
use Rattle.process_plan.specs.declared.enable.Enable.{Enable}
use Rattle.process_plan.specs.Bill.{IsBilled, IsUsed, exprs_bill, first_bill}
use Rattle.process_plan.specs.Built.{IsBuilt, IsIdle, is_set}
use Rattle.process_plan.specs.Plan.{FollowsPlan, FollowsOrder}
use Rattle.process_plan.proofs.Census as census
use Rattle.process_plan.proofs.Census.{cells_counted}
use Rattle.process_layout.specs.declared.enabling.Enabling.{Enabling}
use Rattle.process_layout.specs.declared.layout.Layout.{Layout}
use Rattle.process_layout.specs.Counts.{guards_of, tally_of, tallies_of}
use Rattle.process_layout.specs.Layouts.{IsLayoutOf}
use Rattle.process_layout.specs.Steps.{IsEnabling, IsTransferring, moves_cost}
use Rattle.process_sequencer.specs.Stillness.{IsStill, IsMoving}
use Rattle.process_sequencer.proofs.Growing.{enables_kept}
use Rattle.process_sequencer.proofs.Shares.{moves_paid}
use Rattle.process_sequencer.proofs.Tallies.{all_tallies, cells_billed}
use Rattle.process_sequencer.proofs.Used.{set_used}

-- place 0 of each process, and its moves
exprs_billed : (p : Program) (enables : List (Option Enable)) (at : ℕ) (qs : List Process)
    → sum_by (λ (q : Process). first_bill (length q.forms)) qs + sum_by moves_cost (tallies_of p enables at qs)
    ≡ sum_by exprs_bill (tallies_of p enables at qs)
exprs_billed p enables at [] = refl
exprs_billed p enables at (q ∷ qs) =
    let one = sum_by-cons (λ (x : Process). first_bill (length x.forms)) q qs in
    let two = sum_by-cons moves_cost (tally_of p enables at q) (tallies_of p enables (suc at) qs) in
    let three = sum_by-cons exprs_bill (tally_of p enables at q) (tallies_of p enables (suc at) qs) in
    let rest = exprs_billed p enables (suc at) qs in
    omega (arith, one, two, three, rest)

-- a `setq` sets something
set_is : (k : FormKind) → is_set k ≡ true → (x : List ℕ) × (at : Place) × (value : ℕ) × (k ≡ Set x at value)
set_is (Set x at value) h = (x, at, value, refl)
set_is (Cond bs) h = absurd (cc)
set_is (Par fs) h = absurd (cc)
set_is (Go l) h = absurd (cc)
set_is (Call l) h = absurd (cc)
set_is Return h = absurd (cc)

pub pads_same : (p : Program) (pads copy : Pads) → ArePadsOf p pads
    → (copy.inputs ≡ pads.inputs) × (copy.outputs ≡ pads.outputs) → ArePadsOf p copy
pads_same p pads copy are same = record {
  inputs = ap (map face) same.0 ∙ are.inputs;
  outputs = ap (map face) same.1 ∙ are.outputs;
}

module _ (p : Program) (order : List ℕ) (unbroken : IsUnbroken p) (l : Layout) (laid : IsLayoutOf p order l)
    (pads : Pads) (padded : ArePadsOf p pads) where
  follows_order : (r : Rtl) → r.order ≡ l.order → FollowsOrder r l.roles order
  follows_order r same = record {
    size = ap length same ∙ laid.size;
    each = λ k d at. let (c, at_c, role) = laid.ordered k d at in (c, subst (λ xs. IsAt xs k c) (sym same) at_c, role);
  }

  abbrev pub with_all : List RtlExpr → List Transfer → Rtl
  with_all exprs transfers = record {
    width = p.width;
    pads = pads;
    cells = l.cells;
    exprs = exprs;
    transfers = transfers;
    order = l.order;
    reset = l.reset;
  }

  -- of a program in which nothing is written, its cells alone
  pub is_idle : IsStill p → (exprs : List RtlExpr) (transfers : List Transfer) → exprs ≡ [] → transfers ≡ []
      → IsIdle p order (with_all exprs transfers)
  is_idle still exprs transfers none nothing = record {
    unset = still.unset;
    alone = still.alone;
    roles = l.roles;
    width = refl;
    padded = padded;
    reset = laid.reset;
    cells = laid.cells;
    ordered = follows_order (with_all exprs transfers) refl;
    exprs = none;
    transfers = nothing;
    billed =
        let counted = cells_counted p l.roles l.cells laid.cells in
        let no_process : sum_by (λ (q : Process). 7 * (length q.forms - 1) + 7 * (q.depth * census.returns_to p q))
        p.processes ≡ 0 =
        ap (sum_by (λ (q : Process). 7 * (length q.forms - 1) + 7 * (q.depth * census.returns_to p q))) still.alone in
        omega (arith, counted, no_process);
  }

  module _ (e : Enabling) (enabled : IsEnabling p l.roles l.cells e) (exprs : List RtlExpr) (transfers : List Transfer)
      (transferring : IsTransferring p l.roles l.cells e exprs transfers) where
    follows_plan : FollowsPlan p (with_all exprs transfers) l.roles e.enables
    follows_plan = record {
      width = refl;
      padded = padded;
      reset = laid.reset;
      cells = laid.cells;
      truth = (transferring.kept 0 _ enabled.truth.0, transferring.kept 1 _ enabled.truth.1);
      copies = λ n x at. let (y, at_y, is) = enabled.copies n x at in (y, transferring.kept _ y at_y, is);
      enabled = enables_kept p l.roles e.enables e.exprs exprs transferring.kept enabled.enabled;
      transfers = transferring.all;
    }

    -- what pays for the expression that is always true
    some_pays : OwnNames p → IsMoving p → (0 < length p.processes) ⊎ ((d : Def) × Contains p.defs d × IsUsed p d)
    some_pays own (inl process) = inl process
    some_pays own (inr (f, y, at, set)) =
        let (x, spot, value, is) = set_is y.kind set in
        inr (set_used p unbroken own f y x spot value at is)

    is_billed : OwnNames p → IsMoving p
        → IsBilled p (with_all exprs transfers) (tallies_of p e.enables 0 p.processes) (guards_of p.forms e.enables)
    is_billed own moving = record {
      tallies = all_tallies p unbroken e.exprs l.roles e.enables enabled.enabled enabled.called;
      cells =
          let counted = cells_counted p l.roles l.cells laid.cells in
          let billed = cells_billed p e.enables 0 p.processes in
          omega (arith, counted, billed);
      exprs =
          let first = enabled.cost in
          let more = transferring.cost in
          let billed = exprs_billed p e.enables 0 p.processes in
          omega (arith, first, more, billed);
      transfers = transferring.moved;
      forms = moves_paid p e.enables;
      some = some_pays own moving;
    }

    -- of another, its cells and all its transfers
    pub is_built : OwnNames p → IsMoving p → IsBuilt p order (with_all exprs transfers)
    is_built own moving = record {
      roles = l.roles;
      enables = e.enables;
      tallies = tallies_of p e.enables 0 p.processes;
      guards = guards_of p.forms e.enables;
      plan = follows_plan;
      ordered = follows_order (with_all exprs transfers) refl;
      fits = transferring.fits;
      billed = is_billed own moving;
    }
