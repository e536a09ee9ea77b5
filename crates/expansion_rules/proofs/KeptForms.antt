-- Rules of forms and processes in an expansion: forms have other guards and values, and no other change.
use Rattle.std.proofs.Common.{◌≡◌, ◌∙◌, ℕ, List, [], ◌∷◌, refl, sym, ap, subst, map}
use Rattle.std.specs.Prelude.{Contains}
use Rattle.mp_base.specs.declared.refusal.Place.{Place}
use Rattle.mp_base.specs.Entries.{IsAt}
use Rattle.mp_base.proofs.Entries.{get_map}
use Rattle.mp_program.specs.declared.program.Branch.{Branch}
use Rattle.mp_program.specs.declared.program.FormKind.{FormKind}
use Rattle.mp_program.specs.declared.program.FormKind.TheVariants.{Set, Cond, Par, Go, Call, Return}
use Rattle.mp_program.specs.declared.program.Form.{Form}
use Rattle.mp_program.specs.declared.program.Process.{Process}
use Rattle.mp_program.specs.declared.program.Program as plain
use Rattle.mp_program.specs.Tree.{inner}
use Rattle.mp_rules.specs.declared.limits.TheConstants.{PROCESS_LIMIT}
use Rattle.mp_rules.specs.Standing as plain_standing
use Rattle.mp_rules.specs.Standing.{is_transfer, uses_stack, label_of, sequences}
use Rattle.mp_rules.specs.Rules as plain_rules
use Rattle.mp_written.specs.declared.program.Program.{Program}
use Rattle.mp_written.specs.Expansion.{IsExpansion, moved, moved_branch, moved_form, start}
use Rattle.written_rules.specs.Standing as standing
use Rattle.written_rules.specs.Rules as rules
use Rattle.expansion_laws.proofs.MovedForms.{inner_moved}

transfer_moved : (go : ℕ → ℕ) (k : FormKind) → is_transfer (moved go k) ≡ is_transfer k
transfer_moved go (Set x at v) = refl
transfer_moved go (Cond bs) = refl
transfer_moved go (Par fs) = refl
transfer_moved go (Go l) = refl
transfer_moved go (Call l) = refl
transfer_moved go Return = refl

stack_moved : (go : ℕ → ℕ) (k : FormKind) → uses_stack (moved go k) ≡ uses_stack k
stack_moved go (Set x at v) = refl
stack_moved go (Cond bs) = refl
stack_moved go (Par fs) = refl
stack_moved go (Go l) = refl
stack_moved go (Call l) = refl
stack_moved go Return = refl

label_moved : (go : ℕ → ℕ) (k : FormKind) → label_of (moved go k) ≡ label_of k
label_moved go (Set x at v) = refl
label_moved go (Cond bs) = refl
label_moved go (Par fs) = refl
label_moved go (Go l) = refl
label_moved go (Call l) = refl
label_moved go Return = refl

sequences_moved : (go : ℕ → ℕ) (k : FormKind) → sequences (moved go k) ≡ sequences k
sequences_moved go (Set x at v) = refl
sequences_moved go (Cond bs) = bodies bs
  where
    bodies : (cs : List Branch) → map (λ (b : Branch). b.body) (map (moved_branch go) cs) ≡ map (λ (b : Branch). b.body) cs
    bodies [] = refl
    bodies (b ∷ cs) = ap (λ ys. b.body ∷ ys) (bodies cs)
sequences_moved go (Par fs) = refl
sequences_moved go (Go l) = refl
sequences_moved go (Call l) = refl
sequences_moved go Return = refl

pub set_back : (go : ℕ → ℕ) (k : FormKind) (x : List ℕ) (at : Place) (v : ℕ) → moved go k ≡ Set x at v
    → (u : ℕ) × (k ≡ Set x at u)
set_back go (Set y there u) x at v e =
    let name : y ≡ x = cc in let place : there ≡ at = cc in
    (u, ap (λ n. Set n there u) name ∙ ap (λ a. Set x a u) place)
set_back go (Cond bs) x at v e = absurd (cc)
set_back go (Par fs) x at v e = absurd (cc)
set_back go (Go l) x at v e = absurd (cc)
set_back go (Call l) x at v e = absurd (cc)
set_back go Return x at v e = absurd (cc)

module _ (w : Program) (p : plain.Program) (expands : IsExpansion w p) where
  -- the form as it is written
  pub form_at : (f : ℕ) (y : Form) → IsAt p.forms f y → (z : Form) × IsAt w.forms f z × (moved_form (start w) z ≡ y)
  form_at f y at = get_map (moved_form (start w)) w.forms f y (subst (λ fs. IsAt fs f y) expands.forms at)

  process_at : (k : ℕ) (q : Process) → IsAt p.processes k q → IsAt w.processes k q
  process_at k q at = subst (λ qs. IsAt qs k q) expands.processes at

  under_back : {f g : ℕ} → plain_standing.Under p f g → standing.Under w.forms f g
  under_back plain_standing.itself = standing.itself
  under_back (plain_standing.deeper {f = f} {g = g} y at in_it below) =
      let (z, there, same) = form_at f y at in
      let inside : Contains (inner z.kind) g = subst (λ fs. Contains fs g)
      (sym (ap (λ (u : Form). inner u.kind) same) ∙ inner_moved (start w) z.kind) in_it in
      standing.deeper z there inside (under_back below)

  -- a form that stands in these, as it is written
  stands_back : (fs : List ℕ) (f : ℕ) (y : Form) → plain_standing.StandsIn p fs f y
      → (z : Form) × standing.StandsIn w fs f z × (moved_form (start w) z ≡ y)
  stands_back fs f y (r, c, under, at) = let (z, there, same) = form_at f y at in (z, (r, c, under_back under, there), same)

  later_back : (f b : ℕ) (y : Form) → plain_standing.IsLater p f b y
      → (z : Form) × standing.IsLater w f b z × (moved_form (start w) z ≡ y)
  later_back f b y (c, u, x, fs, i, j, a, g, h, uc, at, s, ag, ah, lt, ua, ub, ax, by, tx, ty) =
      let (u2, at2, same_u) = form_at c u at in
      let (x2, ax2, same_x) = form_at a x ax in
      let (z, bz, same) = form_at b y by in
      let in_them : Contains (sequences u2.kind) fs = subst (λ ls. Contains ls fs)
      (sym (ap (λ (v : Form). sequences v.kind) same_u) ∙ sequences_moved (start w) u2.kind) s in (
        z,
        (
          c,
          u2,
          x2,
          fs,
          i,
          j,
          a,
          g,
          h,
          under_back uc,
          at2,
          in_them,
          ag,
          ah,
          lt,
          under_back ua,
          under_back ub,
          ax2,
          bz,
          sym (transfer_moved (start w) x2.kind) ∙ ap (λ (v : Form). is_transfer v.kind) same_x ∙ tx,
          sym (transfer_moved (start w) z.kind) ∙ ap (λ (v : Form). is_transfer v.kind) same ∙ ty,
        ),
        same,
      )

  placed : (z y : Form) (at : Place) → moved_form (start w) z ≡ y → at ≡ y.place → at ≡ z.place
  placed z y at same place = place ∙ sym (ap (λ (v : Form). v.place) same)

  pub keeps28 : (at : Place) → plain_rules.E28 p at → rules.E28 w at
  keeps28 at (k, q, f, y, l, is, stands, label, unknown, place) =
      let (z, there, same) = stands_back q.forms f y stands in (
        k,
        q,
        f,
        z,
        l,
        process_at k q is,
        there,
        sym (label_moved (start w) z.kind) ∙ ap (λ (v : Form). label_of v.kind) same ∙ label,
        unknown,
        placed z y at same place,
      )

  pub keeps29 : (at : Place) → plain_rules.E29 p at → rules.E29 w at
  keeps29 at (k, q, i, j, a, b, is, ai, bj, lt, same, place) = (k, q, i, j, a, b, process_at k q is, ai, bj, lt, same, place)

  pub keeps30 : (at : Place) → plain_rules.E30 p at → rules.E30 w at
  keeps30 at (f, y, stands, transfer, place) =
      let (z, there, same) = stands_back p.always f y stands in (
        f,
        z,
        subst (λ fs. standing.StandsIn w fs f z) expands.always there,
        sym (transfer_moved (start w) z.kind) ∙ ap (λ (v : Form). is_transfer v.kind) same ∙ transfer,
        placed z y at same place,
      )

  pub keeps31 : (at : Place) → plain_rules.E31 p at → rules.E31 w at
  keeps31 at (k, q, f, y, is, none, stands, stack, place) =
      let (z, there, same) = stands_back q.forms f y stands in (
        k,
        q,
        f,
        z,
        process_at k q is,
        none,
        there,
        sym (stack_moved (start w) z.kind) ∙ ap (λ (v : Form). uses_stack v.kind) same ∙ stack,
        placed z y at same place,
      )

  pub keeps32 : (at : Place) → plain_rules.E32 p at → rules.E32 w at
  keeps32 at (k, q, r, f, y, is, c, later, place) =
      let (z, there, same) = later_back r f y later in
      (k, q, r, f, z, process_at k q is, c, there, placed z y at same place)

  pub keeps36 : (at : Place) → plain_rules.E36 p at → rules.E36 w at
  keeps36 at (k, q, is, none, place) = (k, q, process_at k q is, none, place)

  pub keeps41 : (at : Place) → plain_rules.E41 p at → rules.E41 w at
  keeps41 at (q, is, place) = (q, process_at PROCESS_LIMIT q is, place)

  pub keeps42 : (at : Place) → plain_rules.E42 p at → rules.E42 w at
  keeps42 at (k, q, f, y, is, many, form, place) =
      let (z, there, same) = form_at f y form in
      (k, q, f, z, process_at k q is, many, there, placed z y at same place)

  pub keeps43 : (at : Place) → plain_rules.E43 p at → rules.E43 w at
  keeps43 at (k, q, is, deep, place) = (k, q, process_at k q is, deep, place)

  -- the target of a `setq`
  pub target_at : (f : ℕ) (y : Form) (x : List ℕ) (at : Place) (v : ℕ) → IsAt p.forms f y → y.kind ≡ Set x at v
      → (z : Form) × (u : ℕ) × IsAt w.forms f z × (z.kind ≡ Set x at u)
  target_at f y x at v form set =
      let (z, there, same) = form_at f y form in
      let (u, as_was) = set_back (start w) z.kind x at v (ap (λ (q : Form). q.kind) same ∙ set) in
      (z, u, there, as_was)
