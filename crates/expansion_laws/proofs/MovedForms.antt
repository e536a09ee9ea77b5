-- Forms whose guards and values have other indices: they fit, and what stands in them is as it was.
use Rattle.std.proofs.Common.{◌≡◌, ◌∙◌, ℕ, suc, ◌<◌, List, [], ◌∷◌, ◌++◌, true, refl, ap, map}
use Rattle.std.specs.Prelude.{◌&&◌, nat_lt}
use Rattle.std.specs.List.{list_all, flat_map, AllByRecursion}
use Rattle.std.proofs.lemmas.Bool.{and_from, and_parts, lt-ltb}
use Rattle.mp_program.specs.Fits.{is_symbol, all_behind, form_fits, forms_fit}
use Rattle.mp_program.specs.Tree.{exprs_in, inner, form_places, form_heights, tallest}
use Rattle.mp_program.specs.declared.program.Branch.{Branch}
use Rattle.mp_program.specs.declared.program.FormKind.{FormKind}
use Rattle.mp_program.specs.declared.program.FormKind.TheVariants.{Set, Cond, Par, Go, Call, Return}
use Rattle.mp_program.specs.declared.program.Form.{Form}
use Rattle.mp_program.specs.declared.program.Process.{Process}
use Rattle.mp_written.specs.Expansion.{moved, moved_branch, moved_form, form_exprs}
use Rattle.mp_written.proofs.Tables.{table_same, table_mapped}

-- ---- they fit

-- the new index is that of an expression, for each of these
abbrev pub AreMoved : (ℕ → ℕ) → ℕ → List ℕ → Type 0
AreMoved go n vs = AllByRecursion (λ v. go v < n) vs

front : (go : ℕ → ℕ) (n : ℕ) (us vs : List ℕ) → AreMoved go n (us ++ vs) → AreMoved go n us
front go n [] vs h = tt
front go n (u ∷ us) vs h = (h.0, front go n us vs h.1)

rest : (go : ℕ → ℕ) (n : ℕ) (us vs : List ℕ) → AreMoved go n (us ++ vs) → AreMoved go n vs
rest go n [] vs h = h
rest go n (u ∷ us) vs h = rest go n us vs h.1

branches_fit : (go : ℕ → ℕ) (e n m i : ℕ) (bs : List Branch)
    → list_all (λ (b : Branch). nat_lt b.guard e && all_behind i m b.body) bs ≡ true
    → AreMoved go n (map (λ (b : Branch). b.guard) bs)
    → list_all (λ (b : Branch). nat_lt b.guard n && all_behind i m b.body) (map (moved_branch go) bs) ≡ true
branches_fit go e n m i [] h moves = refl
branches_fit go e n m i (b ∷ bs) h moves =
    let two = and_parts (nat_lt b.guard e && all_behind i m b.body)
    (list_all (λ (c : Branch). nat_lt c.guard e && all_behind i m c.body) bs) h in
    let body = (and_parts (nat_lt b.guard e) (all_behind i m b.body) two.0).1 in
    and_from (nat_lt (go b.guard) n && all_behind i m b.body)
    (list_all (λ (c : Branch). nat_lt c.guard n && all_behind i m c.body) (map (moved_branch go) bs))
    (and_from (nat_lt (go b.guard) n) (all_behind i m b.body) (lt-ltb (go b.guard) n moves.0) body)
    (branches_fit go e n m i bs two.1 moves.1)

kind_fits : (go : ℕ → ℕ) (e n m i : ℕ) (k : FormKind) → form_fits e m i k ≡ true → AreMoved go n (exprs_in k)
    → form_fits n m i (moved go k) ≡ true
kind_fits go e n m i (Set x at v) h moves =
    and_from (is_symbol x) (nat_lt (go v) n) (and_parts (is_symbol x) (nat_lt v e) h).0 (lt-ltb (go v) n moves.0)
kind_fits go e n m i (Cond bs) h moves = branches_fit go e n m i bs h moves
kind_fits go e n m i (Par fs) h moves = h
kind_fits go e n m i (Go l) h moves = h
kind_fits go e n m i (Call l) h moves = h
kind_fits go e n m i Return h moves = h

pub moved_fit : (go : ℕ → ℕ) (e n m i : ℕ) (ys : List Form) → forms_fit e m i ys ≡ true
    → AreMoved go n (form_exprs ys) → forms_fit n m i (map (moved_form go) ys) ≡ true
moved_fit go e n m i [] h moves = refl
moved_fit go e n m i (y ∷ ys) h moves =
    let two = and_parts (form_fits e m i y.kind) (forms_fit e m (suc i) ys) h in
    and_from (form_fits n m i (moved go y.kind)) (forms_fit n m (suc i) (map (moved_form go) ys))
    (kind_fits go e n m i y.kind two.0 (front go n (exprs_in y.kind) (form_exprs ys) moves))
    (moved_fit go e n m (suc i) ys two.1 (rest go n (exprs_in y.kind) (form_exprs ys) moves))

-- ---- the forms in them

bodies_same : (go : ℕ → ℕ) (bs : List Branch)
    → flat_map (λ (b : Branch). b.body) (map (moved_branch go) bs) ≡ flat_map (λ (b : Branch). b.body) bs
bodies_same go [] = refl
bodies_same go (b ∷ bs) = ap (λ ys. b.body ++ ys) (bodies_same go bs)

pub inner_moved : (go : ℕ → ℕ) (k : FormKind) → inner (moved go k) ≡ inner k
inner_moved go (Set x at v) = refl
inner_moved go (Cond bs) = bodies_same go bs
inner_moved go (Par fs) = refl
inner_moved go (Go l) = refl
inner_moved go (Call l) = refl
inner_moved go Return = refl

all_inner : (go : ℕ → ℕ) (ys : List Form) → flat_map (λ (y : Form). inner y.kind) (map (moved_form go) ys)
    ≡ flat_map (λ (y : Form). inner y.kind) ys
all_inner go [] = refl
all_inner go (y ∷ ys) =
    ap (λ zs. zs ++ flat_map (λ (z : Form). inner z.kind) (map (moved_form go) ys)) (inner_moved go y.kind)
    ∙ ap (λ zs. inner y.kind ++ zs) (all_inner go ys)

pub moved_places : (go : ℕ → ℕ) (ys : List Form) (always : List ℕ) (qs : List Process)
    → form_places (map (moved_form go) ys) always qs ≡ form_places ys always qs
moved_places go ys always qs =
    ap (λ zs. always ++ (flat_map (λ (q : Process). q.forms) qs ++ zs)) (all_inner go ys)

pub moved_heights : (go : ℕ → ℕ) (ys : List Form) → form_heights (map (moved_form go) ys) ≡ form_heights ys
moved_heights go ys =
    table_mapped 0 (λ (y : Form) height. suc (tallest height (inner y.kind))) (moved_form go) 0 ys
    ∙ table_same 0 _ (λ (y : Form) height. suc (tallest height (inner y.kind))) 0 ys
    (λ y height. ap (λ fs. suc (tallest height fs)) (inner_moved go y.kind))
