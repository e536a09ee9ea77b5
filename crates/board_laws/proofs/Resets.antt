-- A program that stores anything is reset in clock 0.
use Rattle.std.proofs.Common.{◌≡◌, ◌∙◌, ℕ, zero, suc, ◌+◌, ◌<◌, List, [], ◌∷◌, Bool, true, false, cond, eqb, Option}
use Rattle.std.proofs.Common.{Some, None, length, map, take, codes, refl, sym, ap, ap₂, subst, inl, inr, arith}
use Rattle.std.proofs.Common.{true≢false}
use Rattle.std.specs.Prelude.{
  ◌⊎◌,
  All,
  ◌&&◌,
  ◌||◌,
  not,
  nat_lt,
  filter,
  count_by,
  slice_get,
  slice_index,
  slice_index_or,
}
use Rattle.std.specs.List.{list_any, position, position_or_len}
use Rattle.std.specs.Option.{option_map, option_map_or}
use Rattle.std.specs.Str.{bytes_eq}
use Rattle.std.proofs.lemmas.Bool.{and_parts, cases_Bool, eq-eqb, eqb-true, ltb-true}
use Rattle.std.proofs.lemmas.Option.{get_or_from_slice_get, slice_get-map, slice_get_within}
use Rattle.std.proofs.lemmas.List.Folds.{find_at}
use Rattle.std.proofs.lemmas.List.Sums.{fails_before_first, passes_at_first, sum_by-cons}
use Rattle.std.proofs.lemmas.List.Quantifiers.{position-Some}
use Rattle.mp_base.specs.declared.refusal.Place.{Place}
use Rattle.mp_base.specs.declared.value.Trit.{Trit}
use Rattle.mp_base.specs.declared.pad.Pad.{Pad}
use Rattle.mp_program.specs.declared.program.Def.{Def}
use Rattle.mp_program.specs.declared.program.Process.{Process}
use Rattle.mp_program.specs.declared.program.Program.{Program}
use Rattle.mp_program.specs.Names.{is_input, is_input_signal, is_reset, is_stored, pad_number}
use Rattle.mp_program.specs.Pads.{Face as PadFace, face, pad_width, input_pads}
use Rattle.mp_program.specs.Step.{resets}
use Rattle.mp_program.specs.Trace.{IsSettled, stores}
use Rattle.mp_program.proofs.FormKinds.{input_signal}
use Rattle.mp_rules.specs.Rules.{E34}
use Rattle.mp_rules.specs.Breaking.{IsUnbroken}
use Rattle.board.specs.declared.link.Link.{Link}
use Rattle.board.specs.Face.{Face}
use Rattle.board.specs.Loop as loop
use Rattle.board.specs.Loop.{Wired, Exchange, given_by, inputs_at, inputs_from, inputs_with, is_settled, link_to, made}
use Rattle.board.specs.Boarding.{IsWire}
use Rattle.board_laws.specs.Laws.{IsBoardOf}

-- ---- a reset is there

keeps_34 : (p : Program) → IsUnbroken p → (at : Place) → E34 p at → ⊥
keeps_34 p unbroken at e =
    unbroken 34 at (inr (inr (inr (inr (inr (inr (inr (inr (inr (inr (inr (inr (inr (inr (inl (refl, e))))))))))))))))

-- one of a list passes, or none does
one_or_none : {X : Type 0} (t : X → Bool) (xs : List X)
    → ((k : ℕ) × (x : X) × (slice_get xs k ≡ Some x) × (t x ≡ true)) ⊎ (list_any t xs ≡ false)
one_or_none t [] = inr refl
one_or_none {X} t (x ∷ xs) = by (t x) refl (one_or_none t xs)
  where
    by : (b : Bool) → t x ≡ b
        → ((k : ℕ) × (y : X) × (slice_get xs k ≡ Some y) × (t y ≡ true)) ⊎ (list_any t xs ≡ false)
        → ((k : ℕ) × (y : X) × (slice_get (x ∷ xs) k ≡ Some y) × (t y ≡ true)) ⊎ (list_any t (x ∷ xs) ≡ false)
    by true e rest = inl (0, x, refl, e)
    by false e (inl found) = inl (suc found.0, found.1, found.2, found.3)
    by false e (inr none) = inr (ap (λ b. b || list_any t xs) e ∙ none)

-- the first that passes
first_passes : {X : Type 0} (t : X → Bool) (xs : List X) (d : ℕ) (x : X) → position t xs ≡ Some d
    → slice_get xs d ≡ Some x → t x ≡ true
first_passes t xs d x e at = ap t (sym (get_or_from_slice_get xs d x x at)) ∙ (position-Some t xs d x e).1

some_or_all : {X : Type 0} (t : X → Bool) (xs : List X)
    → ((d : ℕ) × (x : X) × (position t xs ≡ Some d) × (slice_get xs d ≡ Some x) × (t x ≡ true))
    ⊎ All (λ x. t x ≡ false) xs
some_or_all {X} t xs = by (position t xs) refl
  where
    there : (xs : List X) (d : ℕ) → d < length xs → (x : X) × (slice_get xs d ≡ Some x)
    there [] d lt = absurd (omega (arith, lt))
    there (x ∷ xs) zero lt = (x, refl)
    there (x ∷ xs) (suc d) lt = there xs d (omega (arith, lt))

    inside : (b : Bool) (n m d : ℕ) → nat_lt n m ≡ b → cond b (Some n) None ≡ Some d → (n < m) × (n ≡ d)
    inside true n m d e h = (ltb-true n m e, let f : Some n ≡ Some d = h in cc)
    inside false n m d e h = absurd (let f : None ≡ Some d = h in cc)

    outside : (b : Bool) (n m : ℕ) → nat_lt n m ≡ b → cond b (Some n) None ≡ None → nat_lt n m ≡ false
    outside true n m e h = absurd (let f : Some n ≡ None = h in cc)
    outside false n m e h = e

    not_less : (n m k : ℕ) → nat_lt n m ≡ false → k < m → k < n
    not_less n m k e lt = grind (arith, e)

    by : (o : Option ℕ) → position t xs ≡ o
        → ((d : ℕ) × (x : X) × (position t xs ≡ Some d) × (slice_get xs d ≡ Some x) × (t x ≡ true))
        ⊎ All (λ x. t x ≡ false) xs
    by None e = inr (λ k d lt.
        fails_before_first t xs k d
        (not_less (position_or_len t xs) (length xs) k
        (outside (nat_lt (position_or_len t xs) (length xs)) (position_or_len t xs) (length xs) refl e) lt))
    by (Some d) e =
        let at = inside (nat_lt (position_or_len t xs) (length xs)) (position_or_len t xs) (length xs) d refl e in
        let x = there xs d (omega (arith, at.0, at.1)) in
        inl (d, x.0, e, x.1, first_passes t xs d x.0 e x.1)

module _ (p : Program) (unbroken : IsUnbroken p) (some : stores p ≡ true) where
  no_reset : All (λ (d : Def). is_reset d ≡ false) p.defs → ⊥
  no_reset none = elim (one_or_none (λ (x : Def). is_stored x.what) p.defs) [
    | inl at ↦
        keeps_34 p unbroken (at.1).place (none, inl (at.0, at.1, at.2, at.3, refl))
    | inr not ↦ process p.processes refl (ap (λ b. b || nat_lt 0 (length p.processes)) (sym not) ∙ some)
  ]
    where
      process : (qs : List Process) → p.processes ≡ qs → nat_lt 0 (length p.processes) ≡ true → ⊥
      process [] e h =
          let lt = ltb-true 0 (length p.processes) h in
          let n : length p.processes ≡ 0 = ap length e in omega (arith, lt, n)
      process (q ∷ qs) e h =
          keeps_34 p unbroken q.place (none, inr (0, q, ap (λ (xs : List Process). slice_get xs 0) e, refl))

  pub reset_there : (d : ℕ) × (x : Def) × (position is_reset p.defs ≡ Some d) × (slice_get p.defs d ≡ Some x)
      × (is_reset x ≡ true)
  reset_there = elim (some_or_all is_reset p.defs) [ inl at ↦ at | inr none ↦ absurd (no_reset none) ]

-- ---- its pad

-- one that passes stands behind those that pass before it
filter_at : {X : Type 0} (t : X → Bool) (xs : List X) (d : ℕ) (x : X) → slice_get xs d ≡ Some x → t x ≡ true
    → slice_get (filter t xs) (count_by t (take d xs)) ≡ Some x
filter_at t [] d x at is = absurd (let e : None ≡ Some x = at in cc)
filter_at {X} t (y ∷ ys) zero x at is =
    let same : y ≡ x = (let e : Some y ≡ Some x = at in cc) in
    first (t y) (ap t same ∙ is) ∙ at
  where
    first : (b : Bool) → b ≡ true → slice_get (cond b (y ∷ filter t ys) (filter t ys)) 0 ≡ Some y
    first true e = refl
    first false e = absurd (true≢false (sym e))
filter_at {X} t (y ∷ ys) (suc d) x at is =
    ap (slice_get (filter t (y ∷ ys))) (sum_by-cons (λ z. cond (t z) 1 0) y (take d ys))
    ∙ later (t y) (filter_at t ys d x at is)
  where
    n : ℕ
    n = count_by t (take d ys)

    later : (b : Bool) → slice_get (filter t ys) n ≡ Some x
        → slice_get (cond b (y ∷ filter t ys) (filter t ys)) (cond b 1 0 + n) ≡ Some x
    later true h = ap (slice_get (y ∷ filter t ys)) (let e : 1 + n ≡ suc n = omega arith in e) ∙ h
    later false h = ap (slice_get (filter t ys)) (let e : 0 + n ≡ n = omega arith in e) ∙ h

pad_there : (pads : List Pad) (fs : List PadFace) (i : ℕ) (f : PadFace) → map face pads ≡ fs → slice_get fs i ≡ Some f
    → (pad : Pad) × (slice_get pads i ≡ Some pad) × (pad.name ≡ f.0)
pad_there pads fs i f same at =
    of (slice_get pads i) refl (sym (slice_get-map face pads i) ∙ ap (λ (xs : List PadFace). slice_get xs i) same ∙ at)
  where
    of : (o : Option Pad) → slice_get pads i ≡ o → option_map face o ≡ Some f
        → (pad : Pad) × (slice_get pads i ≡ Some pad) × (pad.name ≡ f.0)
    of None e h = absurd (let x : None ≡ Some f = h in cc)
    of (Some pad) e h =
        let x : Some (face pad) ≡ Some f = h in
        let y : face pad ≡ f = cc in
        (pad, e, ap (λ (g : PadFace). g.0) y)

-- ---- what it is given

given_at : (links : List Link) (faces : List Face) (clock a i n : ℕ) (pads : List Pad) (pad : Pad) → n ≡ a + i
    → slice_get pads i ≡ Some pad
    → slice_index (inputs_from links faces clock a pads) i ≡ given_by (link_to links n) faces clock pad
given_at links faces clock a i n [] pad is at = absurd (let e : None ≡ Some pad = at in cc)
given_at links faces clock a zero n (q ∷ pads) pad is at =
    let same : q ≡ pad = (let e : Some q ≡ Some pad = at in cc) in
    ap₂ (λ m r. given_by (link_to links m) faces clock r) (let e : a ≡ n = omega (arith, is) in e) same
given_at links faces clock a (suc i) n (q ∷ pads) pad is at =
    given_at links faces clock (suc a) i n pads pad (omega (arith, is)) at

no_link : (w : Wired) (i : ℕ) (pad : Pad) → All (IsWire w.pads) w.links → slice_get (w.pads).inputs i ≡ Some pad
    → loop.is_reset pad ≡ true → link_to w.links i ≡ None
no_link w i pad wires at is = of (link_to w.links i) refl
  where
    it : Link → Bool
    it l = eqb l.driven i

    of : (o : Option Link) → link_to w.links i ≡ o → link_to w.links i ≡ None
    of None e = e
    of (Some l) e =
        let n = position_or_len it w.links in
        let there : slice_get w.links n ≡ Some l = sym (find_at it w.links) ∙ e in
        let inside = slice_get_within w.links n l there in
        let same = get_or_from_slice_get w.links n l l there in
        let driven : l.driven ≡ i = eqb-true l.driven i (ap it (sym same) ∙ passes_at_first it w.links l inside) in
        let wire = subst (IsWire w.pads) same (wires n l inside) in
        let both : Some wire.input ≡ Some pad = sym wire.driven ∙ ap (slice_get (w.pads).inputs) driven ∙ at in
        let input : wire.input ≡ pad = cc in
        absurd (true≢false (sym is ∙ ap loop.is_reset (sym input) ∙ wire.no_reset))

module _ (p : Program) (w : Wired) (unbroken : IsUnbroken p) (board : IsBoardOf p w) where
  resets_first : stores p ≡ true → (faces : List Face) → resets p.defs (inputs_at w 0 faces) ≡ true
  resets_first some faces =
      let r = reset_there p unbroken some in
      let d = r.0 in
      let x = r.1 in
      let parts = and_parts (bytes_eq x.name (codes "reset")) (is_input_signal x.what) r.4 in
      let i = pad_number p.defs d in
      let at = filter_at (λ (y : Def). is_input y.what) p.defs d x r.3 (input_signal x.what parts.1) in
      let f : PadFace = (x.name, pad_width p.width x.what) in
      let faced : slice_get (input_pads p) i ≡ Some f =
      slice_get-map (λ (y : Def). let g : PadFace = (y.name, pad_width p.width y.what) in g)
      (filter (λ (y : Def). is_input y.what) p.defs) i
      ∙ ap (option_map (λ (y : Def). let g : PadFace = (y.name, pad_width p.width y.what) in g)) at in
      let pad = pad_there (w.pads).inputs (input_pads p) i f (board.are_pads).inputs faced in
      let is : loop.is_reset pad.0 ≡ true = ap (λ n. bytes_eq n (codes "reset")) pad.2 ∙ parts.0 in
      let given : slice_index (inputs_at w 0 faces) i ≡ 1 =
      given_at w.links faces 0 0 i i (w.pads).inputs pad.0 (omega arith) pad.1
      ∙ ap (λ o. given_by o faces 0 pad.0) (no_link w i pad.0 (board.wires).each pad.1 is)
      ∙ ap (λ b. cond (b && true) 1 0) is in
      ap (λ o. option_map_or (λ e. eqb (slice_index (inputs_at w 0 faces) (pad_number p.defs e)) 1) o false) r.2
      ∙ eq-eqb _ 1 given

  later : (k : ℕ) → (not true || (nat_lt 0 k && list_any loop.is_reset (w.pads).inputs)) ≡ true → 0 < k
  later k h = ltb-true 0 k (and_parts (nat_lt 0 k) (list_any loop.is_reset (w.pads).inputs) h).0

  -- a clock that is settled for the board is so for the program, also with swaps
  pub settles : (swaps : List Exchange) (faces : List Face) (shown : List (List (List Trit))) (k : ℕ) → k < length shown
      → is_settled w k ≡ true → IsSettled p (inputs_with swaps w 0 faces shown) k
  settles swaps faces shown k lt is = elim (cases_Bool (stores p)) [
    | inr none ↦ inl none
    | inl some ↦
        let stores_it : w.stores ≡ true = board.stores ∙ some in
        let late = later k (ap (λ b. not b || (nat_lt 0 k && list_any loop.is_reset (w.pads).inputs)) (sym stores_it)
        ∙ is) in
        inr (0, late, first shown lt (resets_first some now))
  ]
    where
      now : List Face
      now = made w.links swaps 0 faces

      first : (os : List (List (List Trit))) → k < length os → resets p.defs (inputs_at w 0 now) ≡ true
          → resets p.defs (slice_index_or (inputs_with swaps w 0 faces os) 0 []) ≡ true
      first [] less h = absurd (omega (arith, less))
      first (o ∷ os) less h = h
