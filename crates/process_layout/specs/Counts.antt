-- What is counted of the forms that have enables.
use Rattle.std.specs.Prelude.{
  ℕ,
  suc,
  ◌+◌,
  List,
  [],
  ◌∷◌,
  Bool,
  true,
  false,
  ◌&&◌,
  ◌||◌,
  ◌==◌,
  if◌then◌else◌,
  nat_lt,
  Option,
  Some,
  None,
  length,
}
use Prim.Native.Nat.{zero}
use Rattle.std.specs.List.{sum_by}
use Rattle.mp_program.specs.declared.program.FormKind.{FormKind}
use Rattle.mp_program.specs.declared.program.FormKind.TheVariants.{Cond, Go}
use Rattle.mp_program.specs.declared.program.Form.{Form}
use Rattle.mp_program.specs.declared.program.Process.{Process}
use Rattle.mp_program.specs.declared.program.Program.{Program}
use Rattle.mp_program.specs.Weight.{calls_in}
use Rattle.mp_rules.specs.Standing.{is_transfer}
use Rattle.process_plan.specs.declared.enable.Origin.{Origin}
use Rattle.process_plan.specs.declared.enable.Origin.TheVariants.{Always, At}
use Rattle.process_plan.specs.declared.enable.Enable.{Enable}
use Rattle.process_plan.specs.Bill.{Tally, branches_bill}
use Rattle.process_plan.specs.Plan.{is_call, is_return}

abbrev pub is_go : FormKind → Bool
is_go (Go l) = true
is_go _ = false

abbrev pub is_cond : FormKind → Bool
is_cond (Cond bs) = true
is_cond _ = false

-- an enable in process k, and one at place i of it
abbrev pub is_of : ℕ → Origin → Bool
is_of k Always = false
is_of k (At j i) = j == k

abbrev pub is_at : ℕ → ℕ → Origin → Bool
is_at k i Always = false
is_at k i (At j h) = (j == k) && (h == i)

-- how many forms of process k that have enables pass a test
abbrev pub count_of : (FormKind → Bool) → ℕ → List Form → List (Option Enable) → ℕ
count_of test k (y ∷ ys) (Some e ∷ es) =
    (if is_of k e.origin && test y.kind then 1 else 0) + count_of test k ys es
count_of test k (y ∷ ys) (None ∷ es) = count_of test k ys es
count_of test k _ _ = 0

-- a form in the one at place i of process k, or that one itself, passes a test
abbrev pub has_at : (FormKind → Bool) → ℕ → ℕ → List Form → List (Option Enable) → Bool
has_at test k i (y ∷ ys) (Some e ∷ es) = (is_at k i e.origin && test y.kind) || has_at test k i ys es
has_at test k i (y ∷ ys) (None ∷ es) = has_at test k i ys es
has_at test k i _ _ = false

-- how many of the first n places of process k have a `cond` and a move
abbrev pub parted_of : ℕ → ℕ → List Form → List (Option Enable) → ℕ
parted_of k zero ys es = 0
parted_of k (suc n) ys es =
    (if has_at is_cond k n ys es && has_at is_transfer k n ys es then 1 else 0) + parted_of k n ys es

-- the places to which calls in forms return: the last form has none behind it
abbrev pub returns_of : Program → List ℕ → ℕ
returns_of p (f ∷ g ∷ fs) = (if nat_lt 0 (calls_in p f) then 1 else 0) + returns_of p (g ∷ fs)
returns_of p _ = 0

-- what the guards of branches cost, where the form has an enable
abbrev pub guards_of : List Form → List (Option Enable) → ℕ
guards_of (y ∷ ys) (Some e ∷ es) = kind_guards y.kind + guards_of ys es
  where
    kind_guards : FormKind → ℕ
    kind_guards (Cond bs) = branches_bill (length bs)
    kind_guards _ = 0
guards_of (y ∷ ys) (None ∷ es) = guards_of ys es
guards_of _ _ = 0

-- the tally of process k
abbrev pub tally_of : Program → List (Option Enable) → ℕ → Process → Tally
tally_of p enables k q = record {
  forms = length q.forms;
  depth = q.depth;
  weighed = sum_by (calls_in p) q.forms;
  places = returns_of p q.forms;
  goes = count_of is_go k p.forms enables;
  calls = count_of is_call k p.forms enables;
  backs = count_of is_return k p.forms enables;
  parted = parted_of k (length q.forms) p.forms enables;
}

-- those of processes from number k on
abbrev pub tallies_of : Program → List (Option Enable) → ℕ → List Process → List Tally
tallies_of p enables k [] = []
tallies_of p enables k (q ∷ qs) = tally_of p enables k q ∷ tallies_of p enables (suc k) qs
