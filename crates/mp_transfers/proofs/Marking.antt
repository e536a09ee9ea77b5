-- The marks of the forms of a process.
use Rattle.std.proofs.Common.{◌≡◌, ◌≢◌, inl, inr, ◌∙◌, ℕ, ◌+◌, ◌<◌, ◌≤◌, List, [], ◌∷◌, ◌++◌, length, get_or, take, sym}
use Rattle.std.proofs.Common.{ap, subst, arith, slice_set}
use Rattle.std.specs.Prelude.{Contains, slice_index, max}
use Rattle.std.proofs.lemmas.List.{get_or-set_same, get_or-set_other, length-set, take_more, take_all, append-nil}
use Rattle.std.specs.List.{flat_map}
use Rattle.std.proofs.lemmas.List.Concat.{flat_map-append}
use Rattle.std.proofs.lemmas.List.Elements.{Contains-append_left, Contains-append_right, Contains-append_cases}
use Rattle.std.proofs.lemmas.List.Elements.{Contains-push, Contains-push_cases}
use Rattle.std.proofs.lemmas.Bool.{cases_lt, cases_eq}
use Rattle.mp_program.specs.declared.program.Branch.{Branch}
use Rattle.mp_program.specs.declared.program.Form.{Form}
use Rattle.mp_program.specs.declared.program.Program.{Program}
use Rattle.mp_program.specs.Weight.{inner}
use Rattle.mp_program.specs.Sound.{IsSound}
use Rattle.mp_base.specs.Entries.{IsAt}
use Rattle.mp_rules.specs.Standing.{Under, itself, deeper}
use Rattle.mp_base.proofs.Entries.{one_entry, within, value}
use Rattle.mp_rules.proofs.Sequences.{under_more}
use Rattle.mp_transfers.specs.Marks.{IsMarking, IsBelowAll, AreMarked}
use Rattle.mp_transfers.proofs.Inside.{inner_behind, under_behind}

-- one more form
pub marking_push : (forms : List ℕ) (number end : ℕ) (old new : List ℕ) (next f : ℕ)
    → IsMarking forms number end old new next → f < length new
    → IsMarking (forms ++ f ∷ []) number end old (slice_set new f number) (max next (f + 1))
marking_push forms number end old new next f m lt = record {
  size = length-set new f number ∙ m.size;
  set = λ g c. elim (cases_eq g f) [
    | inl e ↦ here g e
    | inr ne ↦ get_or-set_other new f g number 0 ne
        ∙ m.set g (elim (Contains-push_cases forms f g c) [ inl there ↦ there | inr e ↦ absurd (ne (sym e)) ])
  ];
  kept = λ g. elim (cases_eq g f) [
    | inl e ↦
        inr ((let P : ℕ → Type 0 = Contains (forms ++ f ∷ []) in subst P (sym e) (Contains-push forms f)), here g e)
    | inr ne ↦ elim (m.kept g) [
      | inl same ↦ inl (get_or-set_other new f g number 0 ne ∙ same)
      | inr both ↦ inr (Contains-append_left forms (f ∷ []) g both.0, get_or-set_other new f g number 0 ne ∙ both.1)
    ]
  ];
  behind = λ g c. elim (Contains-push_cases forms f g c) [
    | inl there ↦ (let l : g < next = m.behind g there in omega (arith, l))
    | inr e ↦ omega (arith, e)
  ];
  grows = let l : end ≤ next = m.grows in omega (arith, l);
  within = λ le. let l : next ≤ length old = m.within le in let s : length new ≡ length old = m.size in
      omega (arith, l, s, lt);
}
  where
    here : (g : ℕ) → g ≡ f → get_or (slice_set new f number) g 0 ≡ number
    here g e = ap (λ x. get_or (slice_set new f number) x 0) e ∙ get_or-set_same new f number 0 lt

-- one list of forms after another
pub marking_append : (fs gs : List ℕ) (number end : ℕ) (old mid new : List ℕ) (middle next : ℕ)
    → IsMarking fs number end old mid middle → IsMarking gs number middle mid new next
    → IsMarking (fs ++ gs) number end old new next
marking_append fs gs number end old mid new middle next m n = record {
  size = n.size ∙ m.size;
  set = λ f c. elim (Contains-append_cases fs gs f c) [
    | inl l ↦ (elim (n.kept f) [ inl same ↦ same ∙ m.set f l | inr both ↦ both.1 ])
    | inr r ↦ n.set f r
  ];
  kept = λ f. elim (n.kept f) [
    | inl same ↦ elim (m.kept f) [
      | inl was ↦ inl (same ∙ was)
      | inr both ↦ inr (Contains-append_left fs gs f both.0, same ∙ both.1)
    ]
    | inr both ↦ inr (Contains-append_right fs gs f both.0, both.1)
  ];
  behind = λ f c. elim (Contains-append_cases fs gs f c) [
    | inl l ↦ (let b : f < middle = m.behind f l in let g : middle ≤ next = n.grows in omega (arith, b, g))
    | inr r ↦ n.behind f r
  ];
  grows = let g : middle ≤ next = n.grows in let h : end ≤ middle = m.grows in omega (arith, g, h);
  within = λ le. let s : length mid ≡ length old = m.size in let l : middle ≤ length old = m.within le in
      let k : next ≤ length mid = n.within (omega (arith, s, l)) in omega (arith, s, k);
}

-- what is known once the forms in those before f have their marks
pub record Marking (p : Program) (roots : List ℕ) (number : ℕ) (marks : List ℕ) (f end : ℕ) : Type 0 where
  pub size : length marks ≡ length p.forms
  pub greatest : (g : ℕ) → slice_index marks g ≤ number
  pub sound : (g : ℕ) → slice_index marks g ≡ number → (r : ℕ) × Contains roots r × Under p r g
  pub tops : (r : ℕ) → Contains roots r → slice_index marks r ≡ number
  pub complete : (a g : ℕ) (y : Form) → a < f → IsAt p.forms a y → slice_index marks a ≡ number
      → Contains (inner y.kind) g → slice_index marks g ≡ number
  pub behind : (g : ℕ) → slice_index marks g ≡ number → g < end
  pub inside : end ≤ length p.forms

-- the start: the top-level forms alone
pub marking_start : (p : Program) (roots : List ℕ) (number : ℕ) (old new : List ℕ) (from end : ℕ)
    → length old ≡ length p.forms → ((f : ℕ) → slice_index old f < number) → IsBelowAll roots from
    → IsMarking roots number 0 old new end → Marking p roots number new from end
marking_start p roots number old new from end size fresh below m = record {
  size = m.size ∙ size;
  greatest = λ g. elim (m.kept g) [
    | inl same ↦ (let l : slice_index old g < number = fresh g in omega (arith, same, l))
    | inr both ↦ (let e : slice_index new g ≡ number = both.1 in omega (arith, e))
  ];
  sound = λ g is. (g, top g is, itself);
  tops = m.set;
  complete = λ a g y lt is_y is c. absurd (let l : from ≤ a = below a (top a is) in omega (arith, lt, l));
  behind = λ g is. m.behind g (top g is);
  inside = let l : end ≤ length old = m.within (omega arith) in omega (arith, l, size);
}
  where
    top : (g : ℕ) → slice_index new g ≡ number → Contains roots g
    top g is = elim (m.kept g) [
      | inl same ↦ absurd (let l : slice_index old g < number = fresh g in omega (arith, same, l, is))
      | inr both ↦ both.0
    ]

-- a form without the mark
pub marking_skip : (p : Program) (roots : List ℕ) (number : ℕ) (marks : List ℕ) (f end : ℕ)
    → Marking p roots number marks f end → slice_index marks f ≢ number → Marking p roots number marks (f + 1) end
marking_skip p roots number marks f end m ne = record {
  size = m.size;
  greatest = m.greatest;
  sound = m.sound;
  tops = m.tops;
  complete = λ a g y lt is_y is c. elim (cases_lt a f) [
    | inl l ↦ m.complete a g y l is_y is c
    | inr ge ↦ absurd (let e : a ≡ f = omega (arith, lt, ge) in ne (ap (slice_index marks) (sym e) ∙ is))
  ];
  behind = m.behind;
  inside = m.inside;
}

-- a form with the mark, whose forms have got it
pub marking_more : (p : Program) (roots : List ℕ) (number : ℕ) (old new : List ℕ) (f end next : ℕ) (y : Form)
    → IsSound p → Marking p roots number old f end → IsAt p.forms f y → slice_index old f ≡ number
    → IsMarking (inner y.kind) number end old new next → Marking p roots number new (f + 1) next
marking_more p roots number old new f end next y s m is_y has n = record {
  size = n.size ∙ m.size;
  greatest = λ g. elim (n.kept g) [
    | inl same ↦ (let l : slice_index old g ≤ number = m.greatest g in omega (arith, same, l))
    | inr both ↦ (let e : slice_index new g ≡ number = both.1 in omega (arith, e))
  ];
  sound = λ g is. elim (n.kept g) [
    | inl same ↦ m.sound g (sym same ∙ is)
    | inr both ↦ (let (r, c, u) = m.sound f has in (r, c, under_more p r f g y u is_y both.0))
  ];
  tops = λ r c. still r (m.tops r c);
  complete = λ a g z lt is_z is c. elim (cases_lt a f) [
    | inl l ↦ still g (m.complete a g z l is_z (was a l is) c)
    | inr ge ↦ last a g z (omega (arith, lt, ge)) is_z c
  ];
  behind = λ g is. elim (n.kept g) [
    | inl same ↦ (let l : g < end = m.behind g (sym same ∙ is) in let k : end ≤ next = n.grows in omega (arith, l, k))
    | inr both ↦ n.behind g both.0
  ];
  inside = let l : end ≤ length p.forms = m.inside in let e : length old ≡ length p.forms = m.size in
      let k : next ≤ length old = n.within (omega (arith, l, e)) in omega (arith, k, e);
}
  where
    still : (g : ℕ) → slice_index old g ≡ number → slice_index new g ≡ number
    still g is = elim (n.kept g) [ inl same ↦ same ∙ is | inr both ↦ both.1 ]

    was : (a : ℕ) → a < f → slice_index new a ≡ number → slice_index old a ≡ number
    was a lt is = elim (n.kept a) [
      | inl same ↦ sym same ∙ is
      | inr both ↦ absurd (let l : f < a = (inner_behind p s f y a is_y both.0).0 in omega (arith, lt, l))
    ]

    last : (a g : ℕ) (z : Form) → a ≡ f → IsAt p.forms a z → Contains (inner z.kind) g → slice_index new g ≡ number
    last a g z e is_z c =
        let P : ℕ → Type 0 = λ j. IsAt p.forms j z in
        let Q : Form → Type 0 = λ x. Contains (inner x.kind) g in
        n.set g (subst Q (one_entry p.forms f z y (subst P e is_z) is_y) c)

-- all forms that stand in the process
pub marking_all : (p : Program) (roots : List ℕ) (number : ℕ) (marks : List ℕ) (f from end : ℕ) → IsSound p
    → Marking p roots number marks f end → IsBelowAll roots from → end ≤ f
    → AreMarked p roots number marks (record { from = from; end = end })
marking_all p roots number marks f from end s m below all = record {
  size = m.size;
  greatest = m.greatest;
  sound = m.sound;
  complete = λ r g c u. down r g (m.tops r c) u;
  spanned =
      λ g is. (
        (let (r, c, u) = m.sound g is in let l : r ≤ g = under_behind p s r g u in
            let k : from ≤ r = below r c in omega (arith, l, k)),
        m.behind g is,
      );
  inside = m.inside;
}
  where
    down : (a g : ℕ) → slice_index marks a ≡ number → Under p a g → slice_index marks g ≡ number
    down a g is itself = is
    down a g is (deeper {g = h} y is_y c u) =
        down h g (m.complete a h y (let l : a < end = m.behind a is in omega (arith, l, all)) is_y is c) u

-- the forms of one more branch, and of all
pub bodies_more : (bs : List Branch) (i : ℕ) (b : Branch) → IsAt bs i b
    → flat_map (λ (x : Branch). x.body) (take (i + 1) bs) ≡ flat_map (λ (x : Branch). x.body) (take i bs) ++ b.body
bodies_more bs i b at =
    ap (flat_map (λ (x : Branch). x.body)) (take_more bs i b (within bs i at))
    ∙ flat_map-append (λ (x : Branch). x.body) (take i bs) (get_or bs i b ∷ [])
    ∙ ap (λ xs. flat_map (λ (x : Branch). x.body) (take i bs) ++ xs)
    (append-nil ((get_or bs i b).body) ∙ ap (λ (x : Branch). x.body) (sym (value bs i at)))

pub bodies_all : (bs : List Branch) (i : ℕ) → length bs ≤ i
    → flat_map (λ (x : Branch). x.body) (take i bs) ≡ flat_map (λ (x : Branch). x.body) bs
bodies_all bs i le = ap (flat_map (λ (x : Branch). x.body)) (take_all i bs le)
