-- The pads of a program have names that fit.
use Rattle.std.proofs.Common.{◌≡◌, ◌≢◌, ◌⊎◌, inl, inr, ℕ, suc, ◌<◌, ◌≤◌, List, [], ◌∷◌, ◌++◌, refl, sym, ◌∙◌, ap, subst}
use Rattle.std.proofs.Common.{arith, length, get_or, Bool, true, false}
use Rattle.std.specs.Prelude.{map, filter, not, ◌&&◌, ◌||◌, ◌==◌}
use Rattle.std.specs.List.{All, AllPairs, list_all, list_any}
use Rattle.std.specs.Str.{bytes_eq}
use Rattle.std.proofs.lemmas.List.{map-append, get_or-map, length-map}
use Rattle.std.proofs.lemmas.Option.{get_or_from_slice_get, slice_get-get_or}
use Rattle.std.proofs.lemmas.Bool.{leb-true, false≢true, true≢false}
use Rattle.std.proofs.lemmas.List.Elements.{All-append, All-filter, filter_passes}
use Rattle.std.proofs.lemmas.List.Kept.{AllPairs-cons, AllPairs-filter}
use Rattle.std.proofs.lemmas.List.Sums.{AllPass-from_list_all}
use Rattle.std.proofs.lemmas.Simd.{map-map}
use Rattle.mp_base.specs.declared.refusal.Place.{Place}
use Rattle.mp_base.specs.declared.pad.Pad.{Pad}
use Rattle.mp_base.specs.PadNames.{ArePadNames, is_pad_name, names_of, supplies}
use Rattle.mp_base.specs.Token.{is_token, is_digit}
use Rattle.mp_base.proofs.Tests.{and_left, and_right}
use Rattle.mp_program.specs.declared.program.Way.TheVariants.{Input}
use Rattle.mp_program.specs.declared.program.What.{What}
use Rattle.mp_program.specs.declared.program.What.TheVariants.{Power, Port, Signal}
use Rattle.mp_program.specs.declared.program.Def.{Def}
use Rattle.mp_program.specs.declared.program.Program.{Program}
use Rattle.mp_program.specs.Names.{index_of, is_input, is_output, is_supply}
use Rattle.mp_program.specs.Fits.{is_symbol, def_fits}
use Rattle.mp_program.specs.Pads.{Face, face, pad_width}
use Rattle.mp_program.proofs.FormKinds.{defs_fit}
use Rattle.mp_base.specs.Entries.{IsAt}
use Rattle.mp_base.proofs.Entries.{within, same_at, get_from_contains, contains_from_get}
use Rattle.mp_rules.specs.Naming.{OwnNames, is_reserved, namings, def_naming}
use Rattle.mp_rules.specs.Rules.{E20}
use Rattle.mp_limits.proofs.Namings.{def_named}

-- the pads of definitions of a kind
abbrev pub faces : (What → Bool) → ℕ → List Def → List Face
faces f w defs = map (λ (x : Def). (x.name, pad_width w x.what)) (filter (λ (x : Def). f x.what) defs)

-- the word length is at most 64
pub width_fits : (p : Program) → p.width ≤ 64
width_fits p =
    leb-true p.width 64
    (and_right _ _ (and_left _ _ (and_left _ _ (and_left _ _ (and_left _ _ (and_left _ _ (and_left _ _ p.fits)))))))

or_false : (a b : Bool) → (a || b) ≡ false → b ≡ false
or_false true b h = absurd (true≢false h)
or_false false b h = h

-- a symbol that isn't reserved may name a pad
symbol_names : (x : List ℕ) → is_symbol x ≡ true → is_reserved x ≡ false → is_pad_name x ≡ true
symbol_names [] h free = absurd (false≢true h)
symbol_names (c ∷ cs) h free =
    let run : list_all is_token (c ∷ cs) ≡ true =
    and_left (list_all is_token (c ∷ cs)) (not (list_all is_digit (c ∷ cs))) h in
    let none : list_any (λ w. bytes_eq (c ∷ cs) w) supplies ≡ false =
    or_false (bytes_eq (c ∷ cs) (102 ∷ [])) _ (or_false (bytes_eq (c ∷ cs) (116 ∷ [])) _ free) in
    rw (run, none) refl

fit_symbol : (d : Def) → def_fits d ≡ true → is_supply d.what ≡ false → is_symbol d.name ≡ true
fit_symbol d h other = by_tests (is_supply d.what) (length d.name == 0) (is_symbol d.name) h other
  where
    by_tests : (s e n : Bool) → ((s && e) || (not s && n)) ≡ true → s ≡ false → n ≡ true
    by_tests true e n h other = absurd (true≢false other)
    by_tests false e n h other = h

-- an input, or an output
abbrev IsPad : What → Type 0
IsPad w = (is_input w ≡ true) ⊎ (is_output w ≡ true)

no_supply : (w : What) → IsPad w → is_supply w ≡ false
no_supply (Port way) h = refl
no_supply (Signal way) h = refl
no_supply _ (inl h) = absurd (false≢true h)
no_supply _ (inr h) = absurd (false≢true h)

not_both : (w : What) → is_input w ≡ true → is_output w ≡ true → ⊥
not_both (Port Input) i o = false≢true o
not_both (Signal Input) i o = false≢true o
not_both _ i o = false≢true i

-- what is known of names, where no name is repeated
record Names (p : Program) : Type 0 where
  own : OwnNames p
  kept : (at : Place) → E20 p at → ⊥

-- a pad has a name that fits
named : (p : Program) → Names p → (i : ℕ) (x : Def) → IsAt p.defs i x → IsPad x.what → is_pad_name x.name ≡ true
named p s i x at kind =
    let P : Def → Type 0 = λ v. def_fits v ≡ true in
    let other : is_supply x.what ≡ false = no_supply x.what kind in
    symbol_names x.name
    (fit_symbol x (subst P (get_or_from_slice_get p.defs i x x at)
    (AllPass-from_list_all def_fits p.defs (defs_fit p) i x (within p.defs i at))) other)
    (free (is_reserved x.name) refl other)
  where
    free : (b : Bool) → is_reserved x.name ≡ b → is_supply x.what ≡ false → is_reserved x.name ≡ false
    free false e other = e
    free true e other =
        let c = def_named p x (contains_from_get p.defs i x at) (ap not other) in
        let (k, there) = get_from_contains (namings p) (def_naming x) c in
        absurd (s.kept x.place (inl (k, def_naming x, there, refl, inl e)))

-- two pads at different indices have different names
apart : (p : Program) → Names p → (i j : ℕ) (x y : Def) → IsAt p.defs i x → IsAt p.defs j y → IsPad x.what
    → IsPad y.what → i ≢ j → x.name ≢ y.name
apart p s i j x y at_i at_j kx ky ne same =
    ne (sym (s.own i x at_i (no_supply x.what kx)) ∙ ap (index_of p.defs) same ∙ s.own j y at_j (no_supply y.what ky))

-- ---- lists of pads

spare : Def
spare = record { place = record { offset = 0; line = 0; column = 0 }; name = []; what = Power; pins = [] }

pairs_append : {X : Type 0} (R : X → X → Type 0) (xs ys : List X) → AllPairs R xs → AllPairs R ys
    → All (λ x. All (R x) ys) xs → AllPairs R (xs ++ ys)
pairs_append R [] ys hx hy across = hy
pairs_append R (x ∷ xs) ys hx hy across =
    AllPairs-cons R x (xs ++ ys)
    (All-append (R x) xs ys (λ k d lt. hx 0 (suc k) d (omega arith) (omega (arith, lt))) (across 0 x (omega arith)))
    (pairs_append R xs ys (λ i j d ij jl. hx (suc i) (suc j) d (omega (arith, ij)) (omega (arith, jl))) hy
    (λ k d lt. across (suc k) d (omega (arith, lt))))

names_from : (kind : What → Bool) (w : ℕ) (defs : List Def) (pads : List Pad) → map face pads ≡ faces kind w defs
    → map (λ (p : Pad). p.name) pads ≡ map (λ (x : Def). x.name) (filter (λ (x : Def). kind x.what) defs)
names_from kind w defs pads same =
    sym (map-map (λ (n : Face). n.0) face pads) ∙ ap (map (λ (n : Face). n.0)) same
    ∙ map-map (λ (n : Face). n.0) (λ (x : Def). (x.name, pad_width w x.what)) (filter (λ (x : Def). kind x.what) defs)

-- a definition stands among these
abbrev IsIn : List Def → Def → Type 0
IsIn defs x = (i : ℕ) × IsAt defs i x

all_in : (kind : What → Bool) (defs : List Def) → All (IsIn defs) (filter (λ (x : Def). kind x.what) defs)
all_in kind defs =
    All-filter (λ (x : Def). kind x.what) (IsIn defs) defs
    (λ k d lt. (k, slice_get-get_or defs k d lt))

-- both pads have different names
abbrev Differ : Def → Def → Type 0
Differ x y = x.name ≢ y.name

abbrev name_of : Def → List ℕ
name_of x = x.name

-- names of pads are read in a list of definitions
are_names : (xs : List Def) → All (λ x. is_pad_name x.name ≡ true) xs → AllPairs Differ xs
    → ArePadNames (map name_of xs)
are_names xs fit differ = record {
  each = λ i il. let lt : i < length xs = omega (arith, il, length-map xs name_of) in
      let P : List ℕ → Type 0 = λ n. is_pad_name n ≡ true in
      subst P (sym (get_or-map name_of xs i spare [] lt)) (fit i spare lt);
  differ = λ i j ij jl same. let lt : j < length xs = omega (arith, jl, length-map xs name_of) in
      differ i j spare ij lt
      (sym (get_or-map name_of xs i spare [] (omega (arith, ij, lt))) ∙ same ∙ get_or-map name_of xs j spare [] lt);
}

abbrev of_kind : (What → Bool) → List Def → List Def
of_kind kind defs = filter (λ (x : Def). kind x.what) defs

fit_names : (p : Program) → Names p → (kind : What → Bool) → ((w : What) → kind w ≡ true → IsPad w)
    → All (λ x. is_pad_name x.name ≡ true) (of_kind kind p.defs)
fit_names p s kind pad k d lt =
    let (i, at) = all_in kind p.defs k d lt in
    named p s i (get_or (of_kind kind p.defs) k d) at
    (pad (get_or (of_kind kind p.defs) k d).what (filter_passes (λ (x : Def). kind x.what) p.defs k d lt))

-- the pads of one kind have different names
differing : (p : Program) → Names p → (kind : What → Bool) → ((w : What) → kind w ≡ true → IsPad w)
    → AllPairs Differ (of_kind kind p.defs)
differing p s kind pad i j d ij jl =
    AllPairs-filter (λ (x y : Def). kind x.what ≡ true → kind y.what ≡ true → Differ x y)
    (λ (x : Def). kind x.what) p.defs
    (λ a b e ab bl ka kb. apart p s a b (get_or p.defs a e) (get_or p.defs b e)
    (slice_get-get_or p.defs a e (omega (arith, ab, bl))) (slice_get-get_or p.defs b e bl)
    (pad (get_or p.defs a e).what ka) (pad (get_or p.defs b e).what kb) (λ same. omega (arith, same, ab)))
    i j d ij jl (filter_passes (λ (x : Def). kind x.what) p.defs i d (omega (arith, ij, jl)))
    (filter_passes (λ (x : Def). kind x.what) p.defs j d jl)

-- the pads of a program have names that fit
pub pad_names : (p : Program) → OwnNames p → ((at : Place) → E20 p at → ⊥) → (inputs outputs : List Pad)
    → map face inputs ≡ faces is_input p.width p.defs
    → map face outputs ≡ faces is_output p.width p.defs
    → ArePadNames (names_of inputs outputs (λ (pad : Pad). pad.name))
pad_names p own kept inputs outputs in_faces out_faces =
    let s : Names p = record { own = own; kept = kept } in
    let e : map (λ (pad : Pad). pad.name) (inputs ++ outputs)
    ≡ map name_of (of_kind is_input p.defs ++ of_kind is_output p.defs) =
    map-append (λ (pad : Pad). pad.name) inputs outputs
    ∙ ap (λ xs. xs ++ map (λ (pad : Pad). pad.name) outputs) (names_from is_input p.width p.defs inputs in_faces)
    ∙ ap (λ xs. map name_of (of_kind is_input p.defs) ++ xs) (names_from is_output p.width p.defs outputs out_faces)
    ∙ sym (map-append name_of (of_kind is_input p.defs) (of_kind is_output p.defs)) in
    subst ArePadNames (sym e) (are_names (of_kind is_input p.defs ++ of_kind is_output p.defs)
    (All-append (λ x. is_pad_name x.name ≡ true) (of_kind is_input p.defs) (of_kind is_output p.defs)
    (fit_names p s is_input (λ w h. inl h)) (fit_names p s is_output (λ w h. inr h)))
    (pairs_append Differ (of_kind is_input p.defs) (of_kind is_output p.defs) (differing p s is_input (λ w h. inl h))
    (differing p s is_output (λ w h. inr h)) (across s)))
  where
    across : Names p → All (λ x. All (Differ x) (of_kind is_output p.defs)) (of_kind is_input p.defs)
    across s k d kl m e ml =
        let (i, at_i) = all_in is_input p.defs k d kl in
        let (j, at_j) = all_in is_output p.defs m e ml in
        let input = filter_passes (λ (x : Def). is_input x.what) p.defs k d kl in
        let output = filter_passes (λ (x : Def). is_output x.what) p.defs m e ml in
        let x = get_or (of_kind is_input p.defs) k d in
        let y = get_or (of_kind is_output p.defs) m e in
        apart p s i j x y at_i at_j (inl input) (inr output) (λ same. not_both x.what input
        (let P : Def → Type 0 = λ z. is_output z.what ≡ true in
        subst P (sym (same_at p.defs i j x y same at_i at_j)) output))
