-- All transfers of a program, by the steps that add them.
use Rattle.std.proofs.Common.{◌≡◌, inl, inr, ℕ, ◌+◌, ◌≤◌, List, [], refl, ap, arith, length, take, count_by}
use Rattle.std.specs.List.{sum_by}
use Rattle.std.proofs.lemmas.Bool.{cases_lt}
use Rattle.mp_program.specs.declared.program.Process.{Process}
use Rattle.mp_program.specs.declared.program.Program.{Program}
use Rattle.mp_rules.specs.Breaking.{IsUnbroken}
use Rattle.mp_base.specs.Entries.{IsAt}
use Rattle.rtl_form.specs.declared.rtl.Cell as cells
use Rattle.rtl_form.specs.declared.rtl.RtlExpr.{RtlExpr}
use Rattle.rtl_form.specs.declared.rtl.Transfer.{Transfer}
use Rattle.process_plan.specs.declared.role.Role.{Role}
use Rattle.process_plan.specs.Roles.{AreCells}
use Rattle.process_plan.specs.Bill.{forms_bill, transfers_cost}
use Rattle.process_layout.specs.declared.enabling.Enabling.{Enabling}
use Rattle.process_layout.specs.Counts.{tallies_of}
use Rattle.process_layout.specs.Steps.{IsEnabling, IsTransferring, moves_cost}
use Rattle.process_layout.proofs.Keeping.{keeps_same, keeps_more}
use Rattle.process_jumps.specs.declared.jumps.Jumps.{Jumps}
use Rattle.process_transfers.specs.declared.roles.Control.{Control}
use Rattle.process_transfers.specs.declared.roles.Motion.TheVariants.{Fall, Push, Pop, Back}
use Rattle.process_jumps.specs.Jumps.{AreRooted, IsExtended, AreJumpsMade, AllJumpsMade}
use Rattle.process_transfers.specs.Control.{AreReadingsMade, IsControl}
use Rattle.process_transfers.specs.Wants.{Serves, WantsAt, CellWants, is_moved, lands_in}
use Rattle.process_jumps.proofs.Jumping.{jumps_kept, place_kept}
use Rattle.process_transfers.proofs.Planned.{IsMeant, all_transfers}
use Rattle.process_transfers.proofs.Billing.{all_billed, all_tallies}

pub depth_low : (p : Program) → IsUnbroken p → (k : ℕ) (q : Process) → IsAt p.processes k q → q.depth ≤ 8
depth_low p unbroken k q at = elim (cases_lt 8 q.depth) as (λ _. q.depth ≤ 8) [
  | inr le ↦ le
  | inl lt ↦
      absurd (unbroken 43 q.depth_at (inr (inr (inr (inr (inr (inr (inr (inr (inr (inr (inr (inr (inr (inr (inr
      (inr (inr (inr (inr (inr (inl (refl, (k, q, at, lt, refl))))))))))))))))))))))))
]

pub rooted : (p : Program) (roles : List Role) (xs : List cells.Cell) (e : Enabling) → IsEnabling p roles xs e
    → AreRooted p e.enables
rooted p roles xs e enabled k i f root =
    let (a, place, has) = (enabled.enabled).roots _ f root in (a, has)

module _ (p : Program) (roles : List Role) (xs : List cells.Cell) (e : Enabling) (unbroken : IsUnbroken p)
    (are : AreCells p roles xs) (enabled : IsEnabling p roles xs e) (one two : List RtlExpr) (jumps : List Jumps)
    (readings : List ℕ) (jumped : AllJumpsMade p e.enables e.exprs one jumps)
    (read : AreReadingsMade roles (length roles) one two readings) where
  extended : IsExtended p roles xs e.enables e.exprs
  extended = record {
    base = e.exprs;
    kept = keeps_same e.exprs;
    enabled = enabled.enabled;
    bits = enabled.enable_bits;
    fits = enabled.fits;
  }

  made : AreJumpsMade p roles xs e.enables (length p.processes) e.exprs one jumps
  made = jumped roles xs extended

  abbrev parts : Control
  parts = record { jumps = jumps; places = e.places; readings = readings }

  pub control_is : IsControl p roles xs parts
  control_is = record {
    cells = are;
    jumps = made.size;
    falls = λ k q m at_q at_m. (made.each k q m at_q at_m).size;
    places = enabled.processes;
    sizes = enabled.sizes;
    readings = read.size;
    shallow = depth_low p unbroken;
  }

  meant : IsMeant p roles xs e.enables two parts
  meant = record {
    control = control_is;
    jumps = λ k q m at_q at_m.
        jumps_kept p roles e.enables one two (read.grown).kept k q m (made.each k q m at_q at_m);
    reads = λ c n s at_s at_n. read.each c n s at_s at_n;
    places = λ k i a es at_es at_a.
        place_kept p roles e.enables e.exprs two (keeps_more e.exprs one two made.kept (read.grown).kept) k i a
        (enabled.places k i a es at_es at_a);
  }

  pub transferring : (a b c d t : List Transfer)
      → Serves (WantsAt p roles e.enables) (length p.forms) [] a
      → Serves (CellWants p roles parts Fall) (length roles) a b
      → Serves (CellWants p roles parts Push) (length roles) b c
      → Serves (CellWants p roles parts Pop) (length roles) c d
      → Serves (CellWants p roles parts Back) (length roles) d t
      → transfers_cost xs a ≤ transfers_cost xs []
      + (forms_bill p.defs p.forms + lands_in (length p.processes) p.forms e.enables)
      → transfers_cost xs b ≤ transfers_cost xs a + count_by (is_moved Fall) roles
      → transfers_cost xs c ≤ transfers_cost xs b + count_by (is_moved Push) roles
      → transfers_cost xs d ≤ transfers_cost xs c + count_by (is_moved Pop) roles
      → transfers_cost xs t ≤ transfers_cost xs d + count_by (is_moved Back) roles
      → IsTransferring p roles xs e two t
  transferring a b c d t set fall push pop back cost_a cost_b cost_c cost_d cost_t = record {
    kept = keeps_more e.exprs one two made.kept (read.grown).kept;
    all = all_transfers p roles xs e.enables two parts meant a b c d t set fall push pop back;
    fits =
        let size = are.size in
        (read.grown).fits p.width xs (omega (arith, size)) (made.extended).fits;
    cost =
        let first = made.cost in
        let second = (read.grown).cost in
        let ts = tallies_of p e.enables 0 p.processes in
        let all : sum_by moves_cost (take (length p.processes) ts) ≡ sum_by moves_cost ts =
        ap (sum_by moves_cost) (all_tallies p e.enables 0 p.processes) in
        omega (arith, first, second, all);
    moved =
        let billed = all_billed p roles xs e.enables are in
        omega (arith, cost_a, cost_b, cost_c, cost_d, cost_t, billed);
  }
