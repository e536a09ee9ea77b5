-- In every solution of a path what is joined has one value: each input is joined once, so the search finds what joins
-- it.
use Rattle.std.proofs.Common.{◌≡◌, ℕ, ◌<◌, ◌≤◌, ◌+◌, zero, suc, List, [], ◌∷◌, ◌++◌, Option, Some, None, Bool, true}
use Rattle.std.proofs.Common.{false, cond, eqb, map, refl, sym, ◌∙◌, ap, subst, arith}
use Rattle.std.specs.Prelude.{Contains, slice_get, ◌==◌}
use Rattle.std.specs.Int.{bit_at}
use Rattle.std.proofs.lemmas.Bool.{eq-eqb, lt-ltb, false≢true}
use Rattle.std.proofs.lemmas.List.Elements.{All-contains, Contains-append_left, Contains-append_right}
use Rattle.mp_base.specs.declared.value.Trit.{Trit}
use Rattle.nor_net.specs.declared.net.NetId.{NetId}
use Rattle.nor_net.specs.declared.net.Part.{Part}
use Rattle.nor_net.specs.declared.net.Part.TheVariants.{Input, Gate, Latch}
use Rattle.nor_net.specs.Elements.{Spot, Element, Given, Nor, Joined, Low, Nets, spot, nets_of, part_element}
use Rattle.nor_net.specs.Settled.{gives, Obeys}
use Rattle.nor_net.specs.Machine.{Solves}
use Rattle.nor_net.specs.Laws.{bit}
use Rattle.organelles.specs.declared.slices.Chain.{Chain}
use Rattle.organelles.specs.declared.slices.Chain.TheVariants.{Up, Down}
use Rattle.organelles.specs.declared.slices.Programmed.{Programmed}
use Rattle.std.specs.Option.{option_or}
use Rattle.organelles.specs.Slices.{first_some, chain_element, program_element, slice_input}
use Rattle.path_form.specs.declared.path.Cast.{Cast}
use Rattle.path_form.specs.declared.path.Lift.{Lift}
use Rattle.path_form.specs.declared.path.DataPath.{DataPath}
use Rattle.path_form.specs.Nets.{cast_element, control_part, slice_part}
use Rattle.path_form.specs.Shape.{is_input, times, chain_to, entries_of}
use Rattle.path_form.specs.Showing.{path_nets}
use Rattle.path_form.specs.Laws.{ControlObeys, LiftsJoin, CastsJoin, ProgramsGive}

-- ---- counting

pub times_append : (n : ℕ) (xs ys : List NetId) → times n (xs ++ ys) ≡ times n xs + times n ys
times_append n [] ys = omega arith
times_append n (x ∷ xs) ys =
    let r = times_append n xs ys in
    ap (λ t. cond (eqb x.0 n) 1 0 + t) r ∙ (let e : cond (eqb x.0 n) 1 0 + (times n xs + times n ys)
    ≡ (cond (eqb x.0 n) 1 0 + times n xs) + times n ys = omega arith in e)

in_map : {A : Type 0} (f : A → NetId) (xs : List A) (x : A) → Contains xs x → Contains (map f xs) (f x)
in_map f [] x c = absurd (omega (arith, c.1))
in_map f (y ∷ ys) x (zero, l, e) = (0, omega arith, ap f e)
in_map f (y ∷ ys) x (suc k, l, e) =
    let r = in_map f ys x (k, omega arith, e) in (suc r.0, (let m = r.1 in omega (arith, m)), r.2)

pub there : (n : ℕ) (ids : List NetId) (id : NetId) → Contains ids id → id.0 ≡ n → 0 < times n ids
there n [] id c e = absurd (omega (arith, c.1))
there n (x ∷ xs) id (zero, l, is) e =
    subst (λ b. 0 < cond b 1 0 + times n xs) (sym (eq-eqb x.0 n (ap (λ (i : NetId). i.0) is ∙ e)))
    (let h : 0 < 1 + times n xs = omega arith in h)
there n (x ∷ xs) id (suc k, l, is) e = more (cond (eqb x.0 n) 1 0) (there n xs id (k, omega arith, is) e)
  where
    more : (a : ℕ) → 0 < times n xs → 0 < a + times n xs
    more a h = omega arith

module _ {A : Type 0} (f : A → NetId) (g : A → Element) (n : ℕ) where
  abbrev test : A → Option Element
  test x = cond (eqb (f x).0 n) (Some (g x)) None

  -- none is found where none is counted
  pub absent : (xs : List A) → times n (map f xs) ≡ 0 → first_some test xs ≡ None
  absent [] e = refl
  absent (x ∷ xs) e = by_test (eqb (f x).0 n) e (λ q. absent xs q)
    where
      by_test : (b : Bool) → cond b 1 0 + times n (map f xs) ≡ 0
          → (times n (map f xs) ≡ 0 → first_some test xs ≡ None)
          → option_or (cond b (Some (g x)) None) (first_some test xs) ≡ None
      by_test true e again = absurd (omega arith)
      by_test false e again = again (omega arith)

  -- the one that is counted is found
  found : (xs : List A) (x : A) → Contains xs x → (f x).0 ≡ n → times n (map f xs) ≤ 1
      → first_some test xs ≡ Some (g x)
  found [] x c e l = absurd (omega (arith, c.1))
  found (y ∷ ys) x (zero, m, is) e l =
      ap (λ b. option_or (cond b (Some (g y)) None) (first_some test ys))
      (eq-eqb (f y).0 n (ap (λ z. (f z).0) is ∙ e)) ∙ ap (λ z. Some (g z)) is
  found (y ∷ ys) x (suc k, m, is) e l =
      by_test (eqb (f y).0 n) l (there n (map f ys) (f x) (in_map f ys x (k, omega arith, is)) e)
      (λ q. found ys x (k, omega arith, is) e q)
    where
      by_test : (b : Bool) → cond b 1 0 + times n (map f ys) ≤ 1 → 0 < times n (map f ys)
          → (times n (map f ys) ≤ 1 → first_some test ys ≡ Some (g x))
          → option_or (cond b (Some (g y)) None) (first_some test ys) ≡ Some (g x)
      by_test true q w again = absurd (omega arith)
      by_test false q w again = again (omega arith)

pub no_chain : (w k n : ℕ) (cs : List Chain) → times n (map chain_to cs) ≡ 0
    → first_some (chain_element w k n) cs ≡ None
no_chain w k n [] e = refl
no_chain w k n (c ∷ cs) e = by_chain c e (λ q. no_chain w k n cs q)
  where
    by_test : (b : Bool) (y : Element) → cond b 1 0 + times n (map chain_to cs) ≡ 0
        → (times n (map chain_to cs) ≡ 0 → first_some (chain_element w k n) cs ≡ None)
        → option_or (cond b (Some y) None) (first_some (chain_element w k n) cs) ≡ None
    by_test true y e again = absurd (omega arith)
    by_test false y e again = again (omega arith)

    by_chain : (c : Chain) → cond (eqb (chain_to c).0 n) 1 0 + times n (map chain_to cs) ≡ 0
        → (times n (map chain_to cs) ≡ 0 → first_some (chain_element w k n) cs ≡ None)
        → option_or (chain_element w k n c) (first_some (chain_element w k n) cs) ≡ None
    by_chain (Up from to) e again = by_test (eqb to.0 n) (cond (eqb k 0) Low (Joined (spot k from))) e again
    by_chain (Down from to) e again =
        by_test (eqb to.0 n) (cond (eqb (suc k) w) Low (Joined (spot (suc (suc k)) from))) e again

pub is_one_input : (o : Option Part) → is_input o ≡ true → o ≡ Some Input
is_one_input None e = absurd (false≢true e)
is_one_input (Some Input) e = refl
is_one_input (Some (Gate inputs)) e = absurd (false≢true e)
is_one_input (Some (Latch p s)) e = absurd (false≢true e)

module _ (p : DataPath) (v : Spot → Trit) (solves : Solves (path_nets p) v) where
  solved : (n : Spot) (e : Element) → path_nets p n ≡ Some e → v n ≡ gives solves.0 v n e
  solved n e is = solves.2 n e (ap (λ (f : Nets). f n) solves.1 ∙ is)

  abbrev words : List NetId
  words = entries_of true (p.pads).inputs p.inputs

  abbrev tos : List NetId
  tos = map chain_to p.slices.chains

  abbrev cast_ends : List NetId
  cast_ends = map (λ (c : Cast). c.slice) p.casts

  abbrev program_ends : List NetId
  program_ends = map (λ (g : Programmed). g.net) p.slices.programs

  -- a net of the slice that is an input is counted once
  pub counts : (n : ℕ) → is_input (slice_get p.slices.net n) ≡ true
      → times n words + (times n tos + (times n cast_ends + times n program_ends)) ≡ 1
  counts n e =
      sym (times_append n words (tos ++ (cast_ends ++ program_ends))
      ∙ ap (λ t. times n words + t) (times_append n tos (cast_ends ++ program_ends)
      ∙ ap (λ t. times n tos + t) (times_append n cast_ends program_ends)))
      ∙ p.whole.slice_inputs.1 n e

  in_slices : (id : NetId) → Contains (words ++ (tos ++ (cast_ends ++ program_ends))) id
      → is_input (slice_get p.slices.net id.0) ≡ true
  in_slices id c = All-contains (λ (id : NetId). is_input (slice_get p.slices.net id.0) ≡ true)
      (words ++ (tos ++ (cast_ends ++ program_ends))) id p.whole.slice_inputs.0 c

  slice_at : (k n : ℕ) → k < p.width → is_input (slice_get p.slices.net n) ≡ true → (e : Element)
      → option_or (slice_input p.width p.slices k n) (option_or (first_some (cast_element n) p.casts) (Some Given))
      ≡ Some e
      → v (record { band = suc k; net = n }) ≡ gives solves.0 v (record { band = suc k; net = n }) e
  slice_at k n l i e q =
      solved (record { band = suc k; net = n }) e
      (ap (λ b. cond b (slice_part p.width p.slices p.casts k n (slice_get p.slices.net n)) None) (lt-ltb k p.width l)
      ∙ ap (slice_part p.width p.slices p.casts k n) (is_one_input (slice_get p.slices.net n) i) ∙ q)

  cast_joins : (c : Cast) (k : ℕ) → Contains p.casts c → k < p.width → v (spot (suc k) c.slice) ≡ v (spot 0 c.control)
  cast_joins c k in' l =
      let n = c.slice.0 in
      let has = in_map (λ (c : Cast). c.slice) p.casts c in' in
      let i = in_slices c.slice (Contains-append_right words (tos ++ (cast_ends ++ program_ends)) c.slice
      (Contains-append_right tos (cast_ends ++ program_ends) c.slice
      (Contains-append_left cast_ends program_ends c.slice has))) in
      let one = counts c.slice.0 i in
      let some = there c.slice.0 cast_ends c.slice has refl in
      let chain = no_chain p.width k c.slice.0 p.slices.chains (omega (arith, one, some)) in
      let program = absent (λ (g : Programmed). g.net) (λ (g : Programmed).
      cond (bit_at g.bits k == 1) (Nor []) Low) c.slice.0 p.slices.programs (omega (arith, one, some)) in
      let cast = found (λ (c : Cast). c.slice) (λ (c : Cast). Joined (spot 0 c.control)) c.slice.0 p.casts c in' refl
      (omega (arith, one)) in
      slice_at k c.slice.0 l i (Joined (spot 0 c.control))
      (ap (λ o. option_or (option_or o (first_some (program_element k c.slice.0) p.slices.programs))
      (option_or (first_some (cast_element c.slice.0) p.casts) (Some Given))) chain
      ∙ ap (λ o. option_or o (option_or (first_some (cast_element c.slice.0) p.casts) (Some Given))) program
      ∙ ap (λ o. option_or o (Some Given)) cast)

  program_gives : (g : Programmed) (k : ℕ) → Contains p.slices.programs g → k < p.width
      → v (spot (suc k) g.net) ≡ bit (bit_at g.bits k == 1)
  program_gives g k in' l =
      let has = in_map (λ (g : Programmed). g.net) p.slices.programs g in' in
      let i = in_slices g.net (Contains-append_right words (tos ++ (cast_ends ++ program_ends)) g.net
      (Contains-append_right tos (cast_ends ++ program_ends) g.net
      (Contains-append_right cast_ends program_ends g.net has))) in
      let one = counts g.net.0 i in
      let some = there g.net.0 program_ends g.net has refl in
      let chain = no_chain p.width k g.net.0 p.slices.chains (omega (arith, one, some)) in
      let program = found (λ (g : Programmed). g.net) (λ (g : Programmed).
      cond (bit_at g.bits k == 1) (Nor []) Low) g.net.0 p.slices.programs g in' refl (omega (arith, one)) in
      let q =
      ap (λ o. option_or (option_or o (first_some (program_element k g.net.0) p.slices.programs))
      (option_or (first_some (cast_element g.net.0) p.casts) (Some Given))) chain
      ∙ ap (λ o. option_or o (option_or (first_some (cast_element g.net.0) p.casts) (Some Given))) program in
      slice_at k g.net.0 l i (cond (bit_at g.bits k == 1) (Nor []) Low) q ∙ by_bit (bit_at g.bits k == 1)
    where
      by_bit : (b : Bool) → gives solves.0 v (spot (suc k) g.net) (cond b (Nor []) Low) ≡ bit b
      by_bit true = refl
      by_bit false = refl

  lift_joins : (l : Lift) → Contains p.lifts l → v (spot 0 l.control) ≡ v (spot (suc l.slice) l.from)
  lift_joins l in' =
      let ends = map (λ (l : Lift). l.control) p.lifts in
      let bits = entries_of false (p.pads).inputs p.inputs in
      let has = in_map (λ (l : Lift). l.control) p.lifts l in' in
      let i = All-contains (λ (id : NetId). is_input (slice_get p.control id.0) ≡ true)
      (bits ++ ends) l.control p.whole.control_inputs.0 (Contains-append_right bits ends l.control has) in
      let one = sym (times_append l.control.0 bits ends) ∙ p.whole.control_inputs.1 l.control.0 i in
      let lift = found (λ (l : Lift). l.control) (λ (l : Lift).
      Joined (spot (suc l.slice) l.from)) l.control.0 p.lifts l in' refl (omega (arith, one)) in
      solved (spot 0 l.control) (Joined (spot (suc l.slice) l.from))
      (ap (control_part p.lifts l.control.0) (is_one_input (slice_get p.control l.control.0) i)
      ∙ ap (λ o. option_or o (Some Given)) lift)

  control : (n : ℕ) → Obeys v (record { band = 0; net = n }) (nets_of p.control (record { band = 0; net = n }))
  control n = by_part (slice_get p.control n) refl
    where
      by_part : (o : Option Part) → slice_get p.control n ≡ o
          → Obeys v (record { band = 0; net = n }) (part_element 0 o)
      by_part None e = tt
      by_part (Some Input) e = tt
      by_part (Some (Gate inputs)) e =
          solved (record { band = 0; net = n }) (Nor (map (spot 0) inputs)) (ap (control_part p.lifts n) e)
      by_part (Some (Latch phase None)) e = tt
      by_part (Some (Latch phase (Some m))) e = tt

pub control_obeys : ControlObeys
control_obeys p v solves n = control p v solves n

pub lifts_join : LiftsJoin
lifts_join p v l solves in' = lift_joins p v solves l in'

pub casts_join : CastsJoin
casts_join p v c k solves in' l = cast_joins p v solves c k in' l

pub programs_give : ProgramsGive
programs_give p v g k solves in' l = program_gives p v solves g k in' l
