-- What is written to a definition, by its index and by its name.
use Rattle.std.proofs.Common.{◌≡◌, ℕ, zero, suc, ◌<◌, List, [], ◌∷◌, ◌++◌, Bool, true, false, cond, refl, sym, ◌∙◌, ap}
use Rattle.std.proofs.Common.{subst, length, append_assoc, arith, get_or}
use Rattle.std.specs.Prelude.{◌==◌, filter}
use Rattle.std.specs.List.{flat_map, AllByRecursion}
use Rattle.std.proofs.lemmas.Bool.{eq-eqb, ne_eqb}
use Rattle.std.proofs.lemmas.Slice.Eq.{bytes_eq-Decides}
use Rattle.mp_base.specs.Merge.{join, merged}
use Rattle.mp_base.proofs.Induction.{by_test}
use Rattle.mp_base.proofs.Entries.{own_default}
use Rattle.mp_program.specs.declared.program.Def.{Def}
use Rattle.mp_program.specs.declared.program.Program.{Program}
use Rattle.mp_program.specs.Names.{is_same, index_of}
use Rattle.mp_program.specs.Effects.{Effect, Writes, Goes, Calls, Returns, effects_of, written}
use Rattle.mp_program.specs.Reads.{sets}
use Rattle.mp_program.proofs.Definitions.{named}
use Rattle.form_effects.specs.Written.{written_at}
use Rattle.form_effects.proofs.Gathering.{written_at-append, merged-append}

-- names are the same where their first definitions are
same_index : (ds : List Def) (y n : List ℕ) → index_of ds n < length ds → (index_of ds y == index_of ds n) ≡ is_same y n
same_index ds y n lt =
    by_test (is_same y n)
    (λ h. eq-eqb _ _ (ap (index_of ds) ((bytes_eq-Decides y n).0 h)) ∙ sym h)
    (λ h. ne_eqb _ _ (λ e.
    let z = own_default ds (index_of ds n) lt in
    let there : index_of ds y < length ds = subst (λ k. k < length ds) (sym e) lt in
    let a = named ds n z.0 lt z.1 in
    let b = named ds y z.0 there (z.1 ∙ ap (λ k. get_or ds k z.0) (sym e)) in
    let yes = (bytes_eq-Decides y n).1 (sym b ∙ a) in
    let clash : true ≡ false = sym yes ∙ h in
    cc) ∙ sym h)

pub written_at-name : (ds : List Def) (n : List ℕ) (es : List Effect) → index_of ds n < length ds
    → written_at ds (index_of ds n) es ≡ written n es
written_at-name ds n [] lt = refl
written_at-name ds n (Writes y v ∷ es) lt =
    ap (λ b. cond b (v ∷ written_at ds (index_of ds n) es) (written_at ds (index_of ds n) es)) (same_index ds y n lt)
    ∙ ap (λ vs. cond (is_same y n) (v ∷ vs) vs) (written_at-name ds n es lt)
written_at-name ds n (Goes l ∷ es) lt = written_at-name ds n es lt
written_at-name ds n (Calls l ∷ es) lt = written_at-name ds n es lt
written_at-name ds n (Returns ∷ es) lt = written_at-name ds n es lt

pub all_filter : (P : ℕ → Type 0) (test : ℕ → Bool) (xs : List ℕ) → AllByRecursion P xs
    → AllByRecursion P (filter test xs)
all_filter P test [] h = tt
all_filter P test (x ∷ xs) h = chosen (test x) (all_filter P test xs h.1)
  where
    chosen : (b : Bool) → AllByRecursion P (filter test xs)
        → AllByRecursion P (cond b (x ∷ filter test xs) (filter test xs))
    chosen true k = (h.0, k)
    chosen false k = k

-- a form without a `setq` of n writes nothing to it
abbrev pub Silence : Program → Type 0
Silence p = (env name : List ℕ) (f : ℕ) → f < length p.forms → sets p name f ≡ false
    → written name (effects_of p env f) ≡ []

module _ (p : Program) (env n : List ℕ) (silence : Silence p) (defined : index_of p.defs n < length p.defs) where
  filtered : (fs : List ℕ) → AllByRecursion (λ f. f < length p.forms) fs
      → written_at p.defs (index_of p.defs n) (flat_map (effects_of p env) (filter (sets p n) fs))
      ≡ written_at p.defs (index_of p.defs n) (flat_map (effects_of p env) fs)
  filtered [] fit = refl
  filtered (f ∷ fs) fit =
      chosen (sets p n f) (λ h. silence env n f fit.0 h) (filtered fs fit.1)
      ∙ sym (written_at-append p.defs (index_of p.defs n) (effects_of p env f) (flat_map (effects_of p env) fs))
    where
      chosen : (b : Bool) → (b ≡ false → written n (effects_of p env f) ≡ [])
          → written_at p.defs (index_of p.defs n) (flat_map (effects_of p env) (filter (sets p n) fs))
          ≡ written_at p.defs (index_of p.defs n) (flat_map (effects_of p env) fs)
          → written_at p.defs (index_of p.defs n)
          (flat_map (effects_of p env) (cond b (f ∷ filter (sets p n) fs) (filter (sets p n) fs)))
          ≡ written_at p.defs (index_of p.defs n) (effects_of p env f)
          ++ written_at p.defs (index_of p.defs n) (flat_map (effects_of p env) fs)
      chosen true quiet rest =
          written_at-append p.defs (index_of p.defs n) (effects_of p env f)
          (flat_map (effects_of p env) (filter (sets p n) fs))
          ∙ ap (λ ws. written_at p.defs (index_of p.defs n) (effects_of p env f) ++ ws) rest
      chosen false quiet rest =
          rest ∙ sym (ap (λ ws. ws ++ written_at p.defs (index_of p.defs n) (flat_map (effects_of p env) fs))
          (written_at-name p.defs n (effects_of p env f) defined ∙ quiet refl))

  pub together : (always places setters : List ℕ) → AllByRecursion (λ f. f < length p.forms) always
      → setters ≡ filter (sets p n) always
      → join (merged (written_at p.defs (index_of p.defs n) (flat_map (effects_of p env) setters)))
      (merged (written_at p.defs (index_of p.defs n) (flat_map (effects_of p env) places)))
      ≡ merged (written n (flat_map (effects_of p env) (always ++ places)))
  together always places setters fit are =
      ap (λ fs. join (merged (written_at p.defs (index_of p.defs n) (flat_map (effects_of p env) fs)))
      (merged (written_at p.defs (index_of p.defs n) (flat_map (effects_of p env) places)))) are
      ∙ ap (λ ws. join (merged ws)
      (merged (written_at p.defs (index_of p.defs n) (flat_map (effects_of p env) places)))) (filtered always fit)
      ∙ sym (merged-append (written_at p.defs (index_of p.defs n) (flat_map (effects_of p env) always))
      (written_at p.defs (index_of p.defs n) (flat_map (effects_of p env) places)))
      ∙ ap merged (sym (split always))
      ∙ ap merged (written_at-name p.defs n (flat_map (effects_of p env) (always ++ places)) defined)
    where
      split : (fs : List ℕ) → written_at p.defs (index_of p.defs n) (flat_map (effects_of p env) (fs ++ places))
          ≡ written_at p.defs (index_of p.defs n) (flat_map (effects_of p env) fs)
          ++ written_at p.defs (index_of p.defs n) (flat_map (effects_of p env) places)
      split [] = refl
      split (f ∷ fs) =
          written_at-append p.defs (index_of p.defs n) (effects_of p env f) (flat_map (effects_of p env) (fs ++ places))
          ∙ ap (λ ws. written_at p.defs (index_of p.defs n) (effects_of p env f) ++ ws) (split fs)
          ∙ sym (append_assoc (written_at p.defs (index_of p.defs n) (effects_of p env f)) _ _)
          ∙ ap (λ ws. ws ++ written_at p.defs (index_of p.defs n) (flat_map (effects_of p env) places))
          (sym (written_at-append p.defs (index_of p.defs n) (effects_of p env f) (flat_map (effects_of p env) fs)))

-- where nothing is written to its name, nothing is written to a definition
pub quiet_at : (ds : List Def) (d : ℕ) (x : Def) (es : List Effect) → d < length ds → x ≡ get_or ds d x
    → written x.name es ≡ [] → written_at ds d es ≡ []
quiet_at ds d x [] lt is none = refl
quiet_at ds d x (Goes l ∷ es) lt is none = quiet_at ds d x es lt is none
quiet_at ds d x (Calls l ∷ es) lt is none = quiet_at ds d x es lt is none
quiet_at ds d x (Returns ∷ es) lt is none = quiet_at ds d x es lt is none
quiet_at ds d x (Writes y v ∷ es) lt is none =
    by_test (is_same y x.name)
    (λ h.
    let some : v ∷ written x.name es ≡ [] =
    sym (ap (λ b. cond b (v ∷ written x.name es) (written x.name es)) h) ∙ none in
    cc)
    (λ h.
    let apart : (index_of ds y == d) ≡ false = ne_eqb _ _ (λ e.
    let there : index_of ds y < length ds = subst (λ k. k < length ds) (sym e) lt in
    let same = named ds y x there (is ∙ ap (λ k. get_or ds k x) (sym e)) in
    let yes = (bytes_eq-Decides y x.name).1 (sym same) in
    let clash : true ≡ false = sym yes ∙ h in
    cc) in
    ap (λ b. cond b (v ∷ written_at ds d es) (written_at ds d es)) apart
    ∙ quiet_at ds d x es lt is (sym (ap (λ b. cond b (v ∷ written x.name es) (written x.name es)) h) ∙ none))

-- a mark that stands is in one of the rows
pub marked_inside : (rows : List (List Bool)) (d f : ℕ) → get_or (get_or rows d []) f false ≡ true → d < length rows
marked_inside [] d f h = let clash : false ≡ true = h in cc
marked_inside (r ∷ rows) zero f h = omega arith
marked_inside (r ∷ rows) (suc d) f h = let lt = marked_inside rows d f h in omega (arith, lt)
