-- What a further step lays.
use Rattle.std.proofs.Common.{
  ◌≡◌,
  ◌∙◌,
  ℕ,
  zero,
  suc,
  ◌+◌,
  ◌-◌,
  ◌<◌,
  List,
  [],
  ◌∷◌,
  ◌++◌,
  Bool,
  true,
  false,
  Option,
  Some,
  None,
  Result,
  Ok,
  Err,
  IfOk,
  refl,
  sym,
  ap,
  subst,
  arith,
  length,
  map,
  take,
  append_assoc,
  add-one,
}
use Rattle.std.specs.Prelude.{if◌then◌else◌, nat_lt, slice_index, slice_index_or}
use Rattle.std.specs.List.{count_by}
use Rattle.std.specs.Option.{option_map_or}
use Rattle.std.proofs.Math.Seq.{take-suc}
use Rattle.std.proofs.lemmas.List.{append-nil, map-append}
use Rattle.std.proofs.lemmas.List.Sums.{count_by_more_no, count_by_more_yes}
use Rattle.std.proofs.lemmas.Option.{get_or_from_slice_get, slice_get-get_or}
use Rattle.mp_program.specs.declared.program.What.{What}
use Rattle.mp_program.specs.declared.program.What.TheVariants.{
  Power,
  Ground,
  Phia,
  Phib,
  Phic,
  Constant,
  Register,
  Flag,
  Port,
  Signal,
}
use Rattle.mp_program.specs.declared.program.Way.TheVariants.{Input, Output, Internal}
use Rattle.mp_program.specs.declared.program.Def.{Def}
use Rattle.mp_program.specs.declared.program.Process.{Process}
use Rattle.mp_program.specs.declared.program.Program.{Program}
use Rattle.mp_program.specs.Names.{is_input, is_output, pad_number}
use Rattle.mp_program.specs.Sound.{IsSound}
use Rattle.mp_program.specs.Weight.{calls_in}
use Rattle.mp_base.specs.Entries.{IsAt}
use Rattle.mp_base.proofs.Entries.{within}
use Rattle.rtl_form.specs.declared.rtl.Cell.{Cell}
use Rattle.process_plan.specs.declared.role.Role.{Role}
use Rattle.process_plan.specs.declared.role.Role.TheVariants.{Placed, Stacked}
use Rattle.process_plan.specs.Roles.{AreCells, def_cell, output_number, stored_bit}
use Rattle.process_layout.specs.declared.laid.Laid.{Laid}
use Rattle.process_layout.specs.Holding.{HoldCells, KeepCells}
use Rattle.process_layout.specs.Laying.{
  cell_at,
  cell_for,
  cell_or_bit,
  entry_roles,
  numbered_cell,
  own_role,
  place_roles,
  process_roles,
  processes_roles,
  returns_to,
  value_roles,
}
use Rattle.process_layout.proofs.Roles.{cell_got, no_entries}
use Rattle.process_layout.proofs.Whole.{are_cells}

-- ---- cells

-- one more cell, that of its role
pub cell_held : (ds : List Def) (cells : List Cell) (roles : List Role) (x : Cell) (r : Role)
    → cells ≡ map (cell_for ds) roles → x ≡ cell_for ds r → cells ++ x ∷ [] ≡ map (cell_for ds) (roles ++ r ∷ [])
cell_held ds cells roles x r held is =
    ap (λ zs. zs ++ x ∷ []) held ∙ ap (λ z. map (cell_for ds) roles ++ z ∷ []) is
    ∙ sym (map-append (cell_for ds) roles (r ∷ []))

-- what is laid in a step, behind what was laid before
pub then_laid : (all more before now last : List Role) → before ≡ all ++ more → now ≡ before ++ last
    → now ≡ all ++ (more ++ last)
then_laid all more before now last one two = two ∙ ap (λ rs. rs ++ last) one ∙ append_assoc all more last

-- ---- definitions

numbered : (ds : List Def) (d : ℕ) (w : What) → numbered_cell (pad_number ds d) (output_number ds d) w ≡ def_cell ds d w
numbered ds d Power = refl
numbered ds d Ground = refl
numbered ds d Phia = refl
numbered ds d Phib = refl
numbered ds d Phic = refl
numbered ds d (Constant n) = refl
numbered ds d Register = refl
numbered ds d Flag = refl
numbered ds d (Port Input) = refl
numbered ds d (Port Output) = refl
numbered ds d (Port Internal) = refl
numbered ds d (Signal Input) = refl
numbered ds d (Signal Output) = refl
numbered ds d (Signal Internal) = refl

-- the cell that is found is that of the definition
pub cell_found : (ds : List Def) (d : ℕ) (y : Def) (w : What) (o : Option Cell) (inputs outputs : ℕ) → IsAt ds d y
    → w ≡ y.what → o ≡ numbered_cell inputs outputs w → inputs ≡ pad_number ds d → outputs ≡ output_number ds d
    → o ≡ cell_at ds d
cell_found ds d y w o inputs outputs at same is first second =
    is ∙ ap (λ n. numbered_cell n outputs w) first ∙ ap (λ n. numbered_cell (pad_number ds d) n w) second
    ∙ ap (numbered_cell (pad_number ds d) (output_number ds d)) same ∙ numbered ds d y.what ∙ sym (cell_got ds d y at)

pub values_more : (ds : List Def) (d : ℕ) (before now : List Role) (o : Option Cell) → before ≡ value_roles ds d
    → now ≡ before ++ own_role d o → o ≡ cell_at ds d → now ≡ value_roles ds (d + 1)
values_more ds d before now o one two is =
    two ∙ ap (λ rs. rs ++ own_role d o) one ∙ ap (λ p. value_roles ds d ++ own_role d p) is
    ∙ ap (value_roles ds) (sym (add-one d))

pub own_held : (ds : List Def) (d : ℕ) (cells now : List Cell) (roles after : List Role) (o : Option Cell)
    → cells ≡ map (cell_for ds) roles → now ≡ cells ++ map (λ (r : Role). cell_or_bit o) (own_role d o)
    → after ≡ roles ++ own_role d o → o ≡ cell_at ds d → now ≡ map (cell_for ds) after
own_held ds d cells now roles after o held is all there =
    is ∙ ap (λ zs. zs ++ map (λ (r : Role). cell_or_bit o) (own_role d o)) held
    ∙ ap (λ zs. map (cell_for ds) roles ++ zs) (own o there)
    ∙ sym (map-append (cell_for ds) roles (own_role d o)) ∙ sym (ap (map (cell_for ds)) all)
  where
    own : (p : Option Cell) → p ≡ cell_at ds d
        → map (λ (r : Role). cell_or_bit p) (own_role d p) ≡ map (cell_for ds) (own_role d p)
    own (Some x) e = ap (λ z. cell_or_bit z ∷ []) e
    own None e = refl

counted_more : (test : Def → Bool) (ds : List Def) (d : ℕ) (y : Def) → IsAt ds d y
    → count_by test (take (d + 1) ds) ≡ count_by test (take d ds) + (if test y then 1 else 0)
counted_more test ds d y at = pick (test y) refl
  where
    pick : (b : Bool) → test y ≡ b
        → count_by test (take (d + 1) ds) ≡ count_by test (take d ds) + (if b then 1 else 0)
    pick true e = count_by_more_yes test ds d y (within ds d at) (ap test (get_or_from_slice_get ds d y y at) ∙ e)
    pick false e =
        let same = count_by_more_no test ds d y (within ds d at) (ap test (get_or_from_slice_get ds d y y at) ∙ e) in
        omega (arith, same)

pub inputs_more : (ds : List Def) (d : ℕ) (y : Def) → IsAt ds d y
    → pad_number ds (d + 1) ≡ pad_number ds d + (if is_input y.what then 1 else 0)
inputs_more ds d y at = counted_more (λ (x : Def). is_input x.what) ds d y at

pub outputs_more : (ds : List Def) (d : ℕ) (y : Def) → IsAt ds d y
    → output_number ds (d + 1) ≡ output_number ds d + (if is_output y.what then 1 else 0)
outputs_more ds d y at = counted_more (λ (x : Def). is_output x.what) ds d y at

-- ---- places and stacks

before_place : (i : ℕ) → suc i - 1 ≡ i
before_place i = omega arith

pub place_more : (k i : ℕ) → 0 < i → place_roles k (i + 1 - 1) ≡ place_roles k (i - 1) ++ Placed k i ∷ []
place_more k zero pos = absurd (omega (arith, pos))
place_more k (suc i) pos =
    let whole : suc i + 1 - 1 ≡ suc i = omega arith in
    ap (place_roles k) whole ∙ ap (λ n. place_roles k n ++ Placed k (suc i) ∷ []) (sym (before_place i))

pub return_more : (calling : ℕ → Bool) (forms : List ℕ) (i : ℕ) → 0 < i
    → returns_to calling forms (i + 1 - 1)
    ≡ returns_to calling forms (i - 1) ++ (if calling (slice_index forms (i - 1)) then i ∷ [] else [])
return_more calling forms zero pos = absurd (omega (arith, pos))
return_more calling forms (suc i) pos =
    let whole : suc i + 1 - 1 ≡ suc i = omega arith in
    ap (returns_to calling forms) whole
    ∙ ap (λ n. returns_to calling forms n ++ (if calling (slice_index forms n) then suc i ∷ [] else []))
    (sym (before_place i))

pub level_more : (k : ℕ) (js : List ℕ) (l : ℕ) → entry_roles k js (l + 1) ≡ entry_roles k js l ++ map (Stacked k l) js
level_more k js l = ap (entry_roles k js) (add-one l)

-- an entry of each of the first places
pub entry_more : (k l : ℕ) (js : List ℕ) (i : ℕ) → i < length js
    → map (Stacked k l) (take (i + 1) js) ≡ map (Stacked k l) (take i js) ++ Stacked k l (slice_index js i) ∷ []
entry_more k l js i lt =
    ap (λ n. map (Stacked k l) (take n js)) (add-one i) ∙ ap (map (Stacked k l)) (take-suc js i 0 lt)
    ∙ map-append (Stacked k l) (take i js) (slice_index js i ∷ [])

-- what stands in a stack whose entries can be no place
pub nothing_laid : (before : List Role) (k n : ℕ) (js : List ℕ) → length js ≡ 0
    → before ≡ before ++ entry_roles k js n
nothing_laid before k n [] none = sym (ap (λ rs. before ++ rs) (no_entries k n) ∙ append-nil before)
nothing_laid before k n (j ∷ js) none = absurd (omega (arith, none))

-- one more stored bit
pub bit_kept : (before laid now : Laid) (r : Role) → ((ds : List Def) → stored_bit ≡ cell_for ds r)
    → KeepCells before laid → now.cells ≡ laid.cells ++ stored_bit ∷ [] → now.roles ≡ laid.roles ++ r ∷ []
    → KeepCells before now
bit_kept before laid now r bit kept is all = λ ds held.
    is ∙ cell_held ds laid.cells laid.roles stored_bit r (kept ds held) (bit ds) ∙ sym (ap (map (cell_for ds)) all)

pub process_more : (calling : ℕ → Bool) (qs : List Process) (k : ℕ) (q : Process) → IsAt qs k q
    → processes_roles calling qs (k + 1) ≡ processes_roles calling qs k ++ process_roles calling k q
process_more calling qs k q at =
    ap (processes_roles calling qs) (add-one k)
    ∙ ap (λ o. processes_roles calling qs k ++ option_map_or (process_roles calling k) o []) at

-- the next process
pub process_next : (calling : ℕ → Bool) (qs : List Process) (k : ℕ) (q : Process) (before laid now : List Role)
    → IsAt qs k q → laid ≡ before ++ processes_roles calling qs k → now ≡ laid ++ process_roles calling k q
    → now ≡ before ++ processes_roles calling qs (k + 1)
process_next calling qs k q before laid now at one two =
    then_laid before (processes_roles calling qs k) laid now (process_roles calling k q) one two
    ∙ ap (λ rs. before ++ rs) (sym (process_more calling qs k q at))

-- the places and the stack of a process
pub process_laid : (calling : ℕ → Bool) (k : ℕ) (q : Process) (forms js : List ℕ) (count : ℕ)
    (before laid now : List Role) → forms ≡ q.forms → count ≡ length forms
    → js ≡ returns_to calling forms (length forms - 1) → laid ≡ before ++ place_roles k (count - 1)
    → now ≡ laid ++ entry_roles k js q.depth → now ≡ before ++ process_roles calling k q
process_laid calling k q forms js count before laid now same size places one two =
    let whole : count - 1 ≡ length q.forms - 1 = ap (λ n. n - 1) (size ∙ ap length same) in
    let returns : js ≡ returns_to calling q.forms (length q.forms - 1) =
    places ∙ ap (λ fs. returns_to calling fs (length fs - 1)) same in
    then_laid before (place_roles k (count - 1)) laid now (entry_roles k js q.depth) one two
    ∙ ap (λ n. before ++ (place_roles k n ++ entry_roles k js q.depth)) whole
    ∙ ap (λ is. before ++ (place_roles k (length q.forms - 1) ++ entry_roles k is q.depth)) returns

-- one more place, where the form before it has a call
pub return_step : (calling : ℕ → Bool) (forms : List ℕ) (i : ℕ) (b : Bool) (places now : List ℕ) → 0 < i
    → places ≡ returns_to calling forms (i - 1) → b ≡ calling (slice_index forms (i - 1))
    → now ≡ places ++ (if b then i ∷ [] else []) → now ≡ returns_to calling forms (i + 1 - 1)
return_step calling forms i b places now pos before told is =
    is ∙ ap (λ js. js ++ (if b then i ∷ [] else [])) before
    ∙ ap (λ c. returns_to calling forms (i - 1) ++ (if c then i ∷ [] else [])) told
    ∙ sym (return_more calling forms i pos)

-- the next definition
module _ (ds : List Def) (i : ℕ) (r : Def) (lt : i < length ds) where
  abbrev pub this : Def
  this = slice_index_or ds i r

  pub is_this : IsAt ds i this
  is_this = slice_get-get_or ds i r lt

  pub inputs_next : (n m : ℕ) (b : Bool) → n ≡ pad_number ds i → m ≡ (if b then 1 else 0) → b ≡ is_input this.what
      → n + m ≡ pad_number ds (i + 1)
  inputs_next n m b before one told =
      ap (λ k. k + m) before ∙ ap (λ k. pad_number ds i + k) (one ∙ ap (λ c. if c then 1 else 0) told)
      ∙ sym (inputs_more ds i this is_this)

  pub outputs_next : (n m : ℕ) (b : Bool) → n ≡ output_number ds i → m ≡ (if b then 1 else 0)
      → b ≡ is_output this.what → n + m ≡ output_number ds (i + 1)
  outputs_next n m b before one told =
      ap (λ k. k + m) before ∙ ap (λ k. output_number ds i + k) (one ∙ ap (λ c. if c then 1 else 0) told)
      ∙ sym (outputs_more ds i this is_this)

-- ---- results

pub ok_both : {X E : Type 0} (r : Result X E) (P Q S : X → Type 0) → ((x : X) → P x → Q x → S x) → IfOk r P
    → IfOk r Q → IfOk r S
ok_both (Ok x) P Q S so p q = so x p q
ok_both (Err e) P Q S so p q = tt

-- ---- the whole

pub laid_cells : (p : Program) → IsSound p → (calling read : List Bool) (defs : List Def) (qs : List Process)
    → ((f : ℕ) → f < length p.forms → slice_index_or calling f false ≡ nat_lt 0 (calls_in p f)) → read ≡ calling
    → defs ≡ p.defs → qs ≡ p.processes → (laid now : Laid) → laid.roles ≡ value_roles defs (length defs)
    → HoldCells defs laid
    → now.roles ≡ laid.roles ++ processes_roles (λ f. slice_index_or read f false) qs (length qs)
    → KeepCells laid now → AreCells p now.roles now.cells
laid_cells p sound calling read defs qs told same first second laid now values held processes kept =
    are_cells p sound (λ f. slice_index_or calling f false) told now.roles now.cells
    (processes ∙ ap (λ rs. rs ++ processes_roles (λ f. slice_index_or read f false) qs (length qs)) values
    ∙ ap (λ ds. value_roles ds (length ds) ++ processes_roles (λ f. slice_index_or read f false) qs (length qs)) first
    ∙ ap (λ xs. value_roles p.defs (length p.defs)
    ++ processes_roles (λ f. slice_index_or read f false) xs (length xs)) second
    ∙ ap (λ cs. value_roles p.defs (length p.defs)
    ++ processes_roles (λ f. slice_index_or cs f false) p.processes (length p.processes)) same)
    (kept p.defs (subst (λ ds. HoldCells ds laid) first held))
