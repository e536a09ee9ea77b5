-- Each input of a slice is given by one thing: a pad, a chain, a cast or a program. So there are few of these.
use Rattle.std.proofs.Common.{◌≡◌, ◌⊎◌, inl, inr, ℕ, zero, suc, ◌+◌, ◌<◌, ◌≤◌, ◌==◌, Some, Bool}
use Rattle.std.proofs.Common.{true}
use Rattle.std.proofs.Common.{false, List, [], ◌∷◌, ◌++◌, length, map, refl, sym, ◌∙◌, ap, subst, arith}
use Rattle.std.specs.Prelude.{◌||◌, ◌^◌, All, slice_get, if◌then◌else◌}
use Rattle.std.specs.List.{list_any}
use Rattle.std.proofs.lemmas.Bool.{cases_Bool, cases_lt, cases_eq}
use Rattle.std.proofs.lemmas.List.Elements.{All-contains}
use Rattle.std.proofs.lemmas.Option.{slice_get_within}
use Rattle.mp_base.proofs.Lists.{length_map, any_map}
use Rattle.mp_base.proofs.Members.{Member, member_contains, map_member, member_map, member_append, append_left}
use Rattle.mp_base.proofs.Members.{append_right}
use Rattle.mp_base.proofs.Numbers.{at_most_times}
use Rattle.nor_net.specs.declared.net.NetId.{NetId}
use Rattle.nor_net.specs.declared.net.Part.{Part}
use Rattle.nor_net.specs.declared.net.Part.TheVariants.{Input}
use Rattle.organelles.specs.declared.slices.Chain as chain
use Rattle.organelles.specs.declared.slices.Chain.TheVariants.{Up, Down}
use Rattle.organelles.specs.declared.slices.Programmed as programmed
use Rattle.path_form.specs.declared.path.Cast as cast
use Rattle.path_form.specs.declared.path.Lift as lift
use Rattle.path_form.specs.declared.path.DataPath.{DataPath}
use Rattle.path_form.specs.Shape.{is_input, times, AreInputs, entries_of, chain_to, chain_from, control_ends}
use Rattle.path_form.proofs.Joining.{times_append, is_one_input}
use Rattle.array_form.proofs.Listing.{same_from, same_to}
use Rattle.slice_form.specs.Path.{Path, Carry, Cast, Lift, Programmed}
use Rattle.slice_form.specs.Whole.{path_of, carry_of, cast_of, lift_of, pad_entries, programmed_of}

-- ---- how often a number is among these
one_here : (n : ℕ) (x : NetId) (xs : List NetId) → (x.0 == n) ≡ true → times n (x ∷ xs) ≡ 1 + times n xs
one_here n x xs e = ap (λ t. (if t then 1 else 0) + times n xs) e

none_here : (n : ℕ) (x : NetId) (xs : List NetId) → (x.0 == n) ≡ false → times n (x ∷ xs) ≡ times n xs
none_here n x xs e =
    let z : 0 + times n xs ≡ times n xs = omega arith in ap (λ t. (if t then 1 else 0) + times n xs) e ∙ z

any_times : (n : ℕ) (xs : List NetId) → list_any (λ (x : NetId). x.0 == n) xs ≡ true → 1 ≤ times n xs
any_times n [] h = absurd (cc h)
any_times n (x ∷ xs) h = go (x.0 == n) refl (any_times n xs)
  where
    go : (t : Bool) → (x.0 == n) ≡ t → (list_any (λ (x : NetId). x.0 == n) xs ≡ true → 1 ≤ times n xs)
        → 1 ≤ times n (x ∷ xs)
    go true e i = let s = one_here n x xs e in omega (arith, s)
    go false e i =
        let r : list_any (λ (x : NetId). x.0 == n) xs ≡ true =
        sym (ap (λ t. t || list_any (λ (x : NetId). x.0 == n) xs) e) ∙ h in
        let k = i r in let s = none_here n x xs e in omega (arith, s, k)

times_any : (n : ℕ) (xs : List NetId) → 1 ≤ times n xs → list_any (λ (x : NetId). x.0 == n) xs ≡ true
times_any n [] h = absurd (omega arith)
times_any n (x ∷ xs) h = go (x.0 == n) refl (times_any n xs)
  where
    go : (t : Bool) → (x.0 == n) ≡ t → (1 ≤ times n xs → list_any (λ (x : NetId). x.0 == n) xs ≡ true)
        → list_any (λ (x : NetId). x.0 == n) (x ∷ xs) ≡ true
    go true e i = ap (λ t. t || list_any (λ (x : NetId). x.0 == n) xs) e
    go false e i =
        let s = none_here n x xs e in
        ap (λ t. t || list_any (λ (x : NetId). x.0 == n) xs) e ∙ i (omega (arith, s, h))

-- the one that is that number
found : (k : ℕ) (ids : List NetId) → list_any (λ (x : NetId). x.0 == k) ids ≡ true
    → (x : NetId) × Member ids x × (x.0 ≡ k)
found k [] h = absurd (cc h)
found k (x ∷ xs) h = elim (cases_Bool (x.0 == k)) [
  | inl q ↦ (x, inl refl, same_from x.0 k q)
  | inr q ↦ (
      let w = found k xs (sym (ap (λ t. t || list_any (λ (x : NetId). x.0 == k) xs) q) ∙ h) in
      (w.0, inr w.1, w.2))
]

any_alike : {A : Type 0} (f g : A → Bool) (xs : List A) → ((x : A) → f x ≡ g x) → list_any f xs ≡ list_any g xs
any_alike f g [] h = refl
any_alike f g (x ∷ xs) h = (λ i. h x i || list_any f xs) ∙ ap (λ b. g x || b) (any_alike f g xs h)

get_map : {A B : Type 0} (f : A → B) (xs : List A) (i : ℕ) (b : B) → slice_get (map f xs) i ≡ Some b
    → (x : A) × Member xs x × (f x ≡ b)
get_map f [] i b h = absurd (cc h)
get_map f (y ∷ ys) zero b h = (y, inl refl, cc h)
get_map f (y ∷ ys) (suc i) b h = let w = get_map f ys i b h in (w.0, inr w.1, w.2)

-- ---- numbers below a bound, each at most once, are at most as many
all_times : ℕ → List NetId → ℕ
all_times zero xs = 0
all_times (suc n) xs = times n xs + all_times n xs

none_at : (n : ℕ) → all_times n [] ≡ 0
unfolding all_times
none_at zero = refl
none_at (suc n) = let i = none_at n in omega arith

past_all : (n : ℕ) (x : NetId) (xs : List NetId) → n ≤ x.0 → all_times n (x ∷ xs) ≡ all_times n xs
unfolding all_times
past_all zero x xs h = refl
past_all (suc n) x xs h =
    let i = past_all n x xs (omega (arith, h)) in
    let e : (x.0 == n) ≡ false = elim (cases_Bool (x.0 == n)) [
      | inl q ↦ (let s = same_from x.0 n q in absurd (omega (arith, s, h)))
      | inr q ↦ q
    ] in
    let s = none_here n x xs e in omega (arith, i, s)

one_all : (n : ℕ) (x : NetId) (xs : List NetId) → x.0 < n → all_times n (x ∷ xs) ≡ 1 + all_times n xs
unfolding all_times
one_all zero x xs h = absurd (omega arith)
one_all (suc n) x xs h = at_last n x xs h (one_all n x xs)
  where
    at_last : (n : ℕ) (x : NetId) (xs : List NetId) → x.0 < suc n
        → (x.0 < n → all_times n (x ∷ xs) ≡ 1 + all_times n xs)
        → times n (x ∷ xs) + all_times n (x ∷ xs) ≡ 1 + (times n xs + all_times n xs)
    at_last n x xs h i = elim (cases_eq x.0 n) [
      | inl e ↦ (
          let p = past_all n x xs (omega (arith, e)) in
          let s = one_here n x xs (same_to x.0 n e) in omega (arith, p, s))
      | inr ne ↦ (
          let k = i (omega (arith, h, ne)) in
          let e : (x.0 == n) ≡ false = elim (cases_Bool (x.0 == n)) [
            | inl q ↦ absurd (ne (same_from x.0 n q))
            | inr q ↦ q
          ] in
          let s = none_here n x xs e in omega (arith, k, s))
    ]

all_long : (n : ℕ) (xs : List NetId) → ((x : NetId) → Member xs x → x.0 < n) → all_times n xs ≡ length xs
all_long n [] h = none_at n
all_long n (x ∷ xs) h =
    one_all n x xs (h x (inl refl)) ∙ ap (λ z. 1 + z) (all_long n xs (λ y m. h y (inr m)))
    ∙ (let e : 1 + length xs ≡ suc (length xs) = omega arith in e)

all_few : (n : ℕ) (xs : List NetId) → ((k : ℕ) → times k xs ≤ 1) → all_times n xs ≤ n
unfolding all_times
all_few zero xs h = omega arith
all_few (suc n) xs h = let i = all_few n xs h in let o = h n in omega arith

pub few_among : (n : ℕ) (xs : List NetId) → ((x : NetId) → Member xs x → x.0 < n) → ((k : ℕ) → times k xs ≤ 1)
    → length xs ≤ n
few_among n xs low once = let l = all_long n xs low in let f = all_few n xs once in omega arith

inputs_few : (net : List Part) (ids : List NetId) → AreInputs net ids → length ids ≤ length net
inputs_few net ids are =
    let l = all_long (length net) ids (λ x m. slice_get_within net x.0 Input (is_one_input (slice_get net x.0)
    (All-contains (λ (id : NetId). is_input (slice_get net id.0) ≡ true) ids x are.0 (member_contains ids x m)))) in
    let f = all_few (length net) ids (λ k. go k (is_input (slice_get net k)) refl) in omega arith
  where
    go : (k : ℕ) (t : Bool) → is_input (slice_get net k) ≡ t → times k ids ≤ 1
    go k true e = let o = are.1 k e in omega arith
    go k false e = elim (cases_lt 0 (times k ids)) [
      | inl lt ↦ (
          let w = times_any k ids (omega arith) in
          let u = found k ids w in
          let i = All-contains (λ (id : NetId). is_input (slice_get net id.0) ≡ true) ids u.0 are.0
          (member_contains ids u.0 u.1) in
          absurd (cc (sym i ∙ (ap (λ z. is_input (slice_get net z)) u.2 ∙ e))))
      | inr le ↦ omega arith
    ]

-- What gives a slice its inputs, by the number of the net.
abbrev pub is_word : Path → ℕ → Bool
is_word p n = list_any (λ w. w == n) p.words

abbrev pub is_end : Path → ℕ → Bool
is_end p n = list_any (λ (c : Carry). c.to == n) p.chains

abbrev pub is_cast : Path → ℕ → Bool
is_cast p n = list_any (λ (c : Cast). c.slice == n) p.casts

abbrev pub is_program : Path → ℕ → Bool
is_program p n = list_any (λ (g : Programmed). g.net == n) p.programs

pub record HasEnds (p : Path) : Type 0 where
  pub casts : (i : ℕ) (c : Cast) → slice_get p.casts i ≡ Some c → slice_get p.slice c.slice ≡ Some Input
  pub lifts : (i : ℕ) (l : Lift) → slice_get p.lifts i ≡ Some l → (l.start < length p.slice) × (l.slice < p.width)
  pub chains : (i : ℕ) (c : Carry) → slice_get p.chains i ≡ Some c → (c.start < length p.slice)
      × (slice_get p.slice c.to ≡ Some Input)
  pub programs : (i : ℕ) (g : Programmed) → slice_get p.programs i ≡ Some g → slice_get p.slice g.net ≡ Some Input
  pub words : (n : ℕ) → is_word p n ≡ true → slice_get p.slice n ≡ Some Input
  pub west : (n : ℕ) → Member p.west_words n → n < length p.slice
  -- one of these gives each input its value, and where a pad does so no other does
  pub given : (n : ℕ) → slice_get p.slice n ≡ Some Input
      → (is_word p n ≡ true) ⊎ ((is_end p n ≡ true) ⊎ ((is_cast p n ≡ true) ⊎ (is_program p n ≡ true)))
  pub alone : (n : ℕ) → is_word p n ≡ true
      → (is_end p n ≡ true → ⊥) × (is_cast p n ≡ true → ⊥) × (is_program p n ≡ true → ⊥)
  pub few : length p.casts + length p.lifts < 2 ^ 25

module _ (p : DataPath) where
  abbrev net : List Part
  net = p.slices.net

  abbrev words_of : List NetId
  words_of = entries_of true (p.pads).inputs p.inputs

  abbrev ends_of : List NetId
  ends_of = map chain_to p.slices.chains

  abbrev casts_of : List NetId
  casts_of = map (λ (c : cast.Cast). c.slice) p.casts

  abbrev programs_of : List NetId
  programs_of = map (λ (g : programmed.Programmed). g.net) p.slices.programs

  abbrev all_ends : List NetId
  all_ends = words_of ++ (ends_of ++ (casts_of ++ programs_of))

  are_inputs : AreInputs net all_ends
  are_inputs = p.whole.slice_inputs

  input_at : (x : NetId) → Member all_ends x → slice_get net x.0 ≡ Some Input
  input_at x m = is_one_input (slice_get net x.0)
      (All-contains (λ (id : NetId). is_input (slice_get net id.0) ≡ true) all_ends x are_inputs.0
      (member_contains all_ends x m))

  word_same : (n : ℕ) → is_word (path_of p) n ≡ list_any (λ (x : NetId). x.0 == n) words_of
  word_same n = any_map (λ (id : NetId). id.0) (λ w. w == n) words_of

  end_same : (n : ℕ) → is_end (path_of p) n ≡ list_any (λ (x : NetId). x.0 == n) ends_of
  end_same n =
      any_map carry_of (λ (c : Carry). c.to == n) p.slices.chains
      ∙ (any_alike (λ c. (carry_of c).to == n) (λ c. (chain_to c).0 == n) p.slices.chains each
      ∙ sym (any_map chain_to (λ (x : NetId). x.0 == n) p.slices.chains))
    where
      each : (c : chain.Chain) → ((carry_of c).to == n) ≡ ((chain_to c).0 == n)
      each (Up from to) = refl
      each (Down from to) = refl

  cast_same : (n : ℕ) → is_cast (path_of p) n ≡ list_any (λ (x : NetId). x.0 == n) casts_of
  cast_same n = any_map cast_of (λ (c : Cast). c.slice == n) p.casts
      ∙ sym (any_map (λ (c : cast.Cast). c.slice) (λ (x : NetId). x.0 == n) p.casts)

  program_same : (n : ℕ) → is_program (path_of p) n ≡ list_any (λ (x : NetId). x.0 == n) programs_of
  program_same n = any_map (programmed_of p.width) (λ (g : Programmed). g.net == n) p.slices.programs
      ∙ sym (any_map (λ (g : programmed.Programmed). g.net) (λ (x : NetId). x.0 == n) p.slices.programs)

  sum_is : (n : ℕ) → slice_get net n ≡ Some Input
      → times n words_of + (times n ends_of + (times n casts_of + times n programs_of)) ≡ 1
  sum_is n h =
      sym (times_append n words_of (ends_of ++ (casts_of ++ programs_of))
      ∙ ap (λ z. times n words_of + z) (times_append n ends_of (casts_of ++ programs_of)
      ∙ ap (λ z. times n ends_of + z) (times_append n casts_of programs_of)))
      ∙ are_inputs.1 n (ap is_input h)

  word_input : (n : ℕ) → is_word (path_of p) n ≡ true → slice_get net n ≡ Some Input
  word_input n e =
      let w = found n words_of (sym (word_same n) ∙ e) in
      subst (λ z. slice_get net z ≡ Some Input) w.2
      (input_at w.0 (append_left words_of (ends_of ++ (casts_of ++ programs_of)) w.0 w.1))

  given_by : (n : ℕ) → slice_get net n ≡ Some Input
      → (is_word (path_of p) n ≡ true) ⊎ ((is_end (path_of p) n ≡ true)
      ⊎ ((is_cast (path_of p) n ≡ true) ⊎ (is_program (path_of p) n ≡ true)))
  given_by n h =
      let s = sum_is n h in
      elim (cases_lt 0 (times n words_of)) [
        | inl lt ↦ inl (word_same n ∙ times_any n words_of (omega arith))
        | inr z ↦ elim (cases_lt 0 (times n ends_of)) [
          | inl lt ↦ inr (inl (end_same n ∙ times_any n ends_of (omega arith)))
          | inr y ↦ elim (cases_lt 0 (times n casts_of)) [
            | inl lt ↦ inr (inr (inl (cast_same n ∙ times_any n casts_of (omega arith))))
            | inr x ↦ inr (inr (inr (program_same n ∙ times_any n programs_of (omega arith))))
          ]
        ]
      ]

  alone_at : (n : ℕ) → is_word (path_of p) n ≡ true
      → (is_end (path_of p) n ≡ true → ⊥) × (is_cast (path_of p) n ≡ true → ⊥)
      × (is_program (path_of p) n ≡ true → ⊥)
  alone_at n e =
      let s = sum_is n (word_input n e) in
      let w = any_times n words_of (sym (word_same n) ∙ e) in (
        (λ h. let a = any_times n ends_of (sym (end_same n) ∙ h) in absurd (omega arith)),
        (λ h. let a = any_times n casts_of (sym (cast_same n) ∙ h) in absurd (omega arith)),
        (λ h. let a = any_times n programs_of (sym (program_same n) ∙ h) in absurd (omega arith)),
      )

  to_is : (c : chain.Chain) → (chain_to c).0 ≡ (carry_of c).to
  to_is (Up from to) = refl
  to_is (Down from to) = refl

  from_is : (c : chain.Chain) → (chain_from c).0 ≡ (carry_of c).start
  from_is (Up from to) = refl
  from_is (Down from to) = refl

  append_long : {A : Type 0} (xs ys : List A) → length (xs ++ ys) ≡ length xs + length ys
  append_long [] ys = omega arith
  append_long (x ∷ xs) ys = let i = append_long xs ys in omega arith

  casts_few : length p.casts ≤ length net
  casts_few =
      let f = inputs_few net all_ends are_inputs in
      let a = append_long words_of (ends_of ++ (casts_of ++ programs_of)) in
      let b = append_long ends_of (casts_of ++ programs_of) in
      let d = append_long casts_of programs_of in
      let m = length_map (λ (c : cast.Cast). c.slice) p.casts in omega arith

  lifts_few : length p.lifts ≤ length p.control
  lifts_few =
      let signals : List NetId = entries_of false (p.pads).inputs p.inputs in
      let f = inputs_few p.control (control_ends signals p.lifts) p.whole.control_inputs in
      let a = append_long signals (map (λ (l : lift.Lift). l.control) p.lifts) in
      let m = length_map (λ (l : lift.Lift). l.control) p.lifts in omega arith

  few_nets : (length net < 2 ^ 24) × (length p.control < 2 ^ 24)
  few_nets =
      let f = p.whole.few_nets in
      let g = at_most_times p.width (length net + length p.slices.chains + length p.slices.programs) p.whole.width.0 in
      (omega arith, omega arith)

  west_within : (n : ℕ) → Member (path_of p).west_words n → n < length net
  west_within n m =
      let w = member_map (λ (id : NetId). id.0) (pad_entries true p) n m in
      let low : (ids : List NetId) → All (λ (id : NetId). id.0 < length net) ids → Member ids w.0 → w.0.0 < length net =
      λ ids all k. All-contains (λ (id : NetId). id.0 < length net) ids w.0 all (member_contains ids w.0 k) in
      subst (λ z. z < length net) w.2
      (elim (member_append (entries_of true (p.pads).inputs p.inputs) (entries_of true (p.pads).outputs p.outputs) w.0
      w.1) [
        | inl k ↦ low (entries_of true (p.pads).inputs p.inputs) p.whole.entries_fit.0.2 k
        | inr k ↦ low (entries_of true (p.pads).outputs p.outputs) p.whole.entries_fit.1.2 k
      ])

  pub has_ends : HasEnds (path_of p)
  has_ends = record {
    casts = λ i c h. let w = get_map cast_of p.casts i c h in
        subst (λ z. slice_get net z ≡ Some Input) (ap (λ z. z.slice) w.2)
        (input_at w.0.slice (append_right words_of (ends_of ++ (casts_of ++ programs_of)) w.0.slice
        (append_right ends_of (casts_of ++ programs_of) w.0.slice
        (append_left casts_of programs_of w.0.slice (map_member (λ (c : cast.Cast). c.slice) p.casts w.0 w.1)))));
    lifts = λ i l h. let w = get_map lift_of p.lifts i l h in
        let b = All-contains (λ (l : lift.Lift). (l.slice < p.width) × (l.from.0 < length net)) p.lifts w.0
        p.whole.lifts_in (member_contains p.lifts w.0 w.1) in (
          subst (λ z. z < length net) (ap (λ z. z.start) w.2) b.1,
          subst (λ z. z < p.width) (ap (λ z. z.slice) w.2) b.0,
        );
    chains = λ i c h. let w = get_map carry_of p.slices.chains i c h in
        let b = All-contains (λ c. ((chain_from c).0 < length net) × ((chain_to c).0 < length net)) p.slices.chains w.0
        p.whole.chains_in (member_contains p.slices.chains w.0 w.1) in (
          subst (λ z. z < length net) (from_is w.0 ∙ ap (λ z. z.start) w.2) b.0,
          subst (λ z. slice_get net z ≡ Some Input) (to_is w.0 ∙ ap (λ z. z.to) w.2)
              (input_at (chain_to w.0) (append_right words_of (ends_of ++ (casts_of ++ programs_of)) (chain_to w.0)
              (append_left ends_of (casts_of ++ programs_of) (chain_to w.0)
              (map_member chain_to p.slices.chains w.0 w.1)))),
        );
    programs = λ i g h. let w = get_map (programmed_of p.width) p.slices.programs i g h in
        subst (λ z. slice_get net z ≡ Some Input) (ap (λ z. z.net) w.2)
        (input_at w.0.net (append_right words_of (ends_of ++ (casts_of ++ programs_of)) w.0.net
        (append_right ends_of (casts_of ++ programs_of) w.0.net
        (append_right casts_of programs_of w.0.net
        (map_member (λ (g : programmed.Programmed). g.net) p.slices.programs w.0 w.1)))));
    words = word_input;
    west = west_within;
    given = given_by;
    alone = alone_at;
    few = (
        let a = casts_few in let b = lifts_few in let f = few_nets.0 in let g = few_nets.1 in
        let m = length_map cast_of p.casts in let n = length_map lift_of p.lifts in omega arith);
  }
