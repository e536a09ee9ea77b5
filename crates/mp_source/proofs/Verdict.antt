-- A text spells one program at most, and has one verdict.
use Rattle.std.proofs.Common.{◌≡◌, ◌⊎◌, ℕ, List, ◌∷◌, refl, sym, ◌∙◌, ap, subst, inl, inr, Option, Some, None, arith}
use Rattle.std.specs.Prelude.{slice_index}
use Rattle.mp_base.specs.declared.refusal.Place.{Place}
use Rattle.mp_base.specs.declared.refusal.Broken.{Broken}
use Rattle.form_reader.specs.declared.forms.Forms.{Forms}
use Rattle.form_reader.specs.Text.{place_at}
use Rattle.form_reader.specs.Sound.{node, kind_at, items_of}
use Rattle.form_reader.specs.Spelling.{Spells}
use Rattle.form_reader.specs.Rules.{Breaks as BreaksText, IsFirst as IsFirstOfText}
use Rattle.mp_shapes.specs.Standing.{E10}
use Rattle.mp_program.specs.declared.program.Program as plain
use Rattle.mp_written.specs.declared.program.Program.{Program}
use Rattle.mp_written.specs.Expansion.{IsExpansion}
use Rattle.mp_syntax.specs.Shape.{IsShape, E11, IsFirst as IsFirstOfForms}
use Rattle.written_rules.specs.Breaking.{IsFirst as IsFirstOfProgram}
use Rattle.mp_source.specs.Source.{IsSpelled, IsSource, IsFirstRule, broken_rule, OfSource}

-- the laws of the crates below
pub record Laws : Type 0 where
  pub one_spelling : (text : List ℕ) (f g : Forms) → Spells text f → Spells text g → f ≡ g
  pub one_program : (f : Forms) (p q : Program) → IsShape f p → IsShape f q → p ≡ q
  pub clean : (text : List ℕ) (f : Forms) (k o : ℕ) → Spells text f → BreaksText text k o → ⊥
  pub shaped : (f : Forms) (p : Program) (at : Place) → IsShape f p → E10 f at ⊎ E11 f at → ⊥
  pub first_of_text : (text : List ℕ) (k o l q : ℕ) → IsFirstOfText text k o → IsFirstOfText text l q
      → (k ≡ l) × (o ≡ q)
  pub first_of_program : (p : Program) (k l : ℕ) (at there : Place) → IsFirstOfProgram p k at
      → IsFirstOfProgram p l there → (k ≡ l) × (at.offset ≡ there.offset)

one_written : ((text : List ℕ) (f g : Forms) → Spells text f → Spells text g → f ≡ g)
    → ((f : Forms) (p q : Program) → IsShape f p → IsShape f q → p ≡ q)
    → (text : List ℕ) (p q : Program) → IsSpelled text p → IsSpelled text q → p ≡ q
one_written spelling program text p q a b =
    program b.forms p q (subst (λ f. IsShape f p) (spelling text a.forms b.forms a.spelled b.spelled) a.shape) b.shape

pub one_source : ((text : List ℕ) (f g : Forms) → Spells text f → Spells text g → f ≡ g)
    → ((f : Forms) (p q : Program) → IsShape f p → IsShape f q → p ≡ q)
    → ((w : Program) (p q : plain.Program) → IsExpansion w p → IsExpansion w q → p ≡ q)
    → (text : List ℕ) (p q : plain.Program) → IsSource text p → IsSource text q → p ≡ q
one_source spelling program expansion text p q a b =
    let same = one_written spelling program text a.written b.written a.spells b.spells in
    expansion b.written p q (subst (λ w. IsExpansion w p) same a.expansion) b.expansion

-- the rule that forms break first is broken
of_forms : (f : Forms) (k : ℕ) (at : Place) → IsFirstOfForms f k at → E10 f at ⊎ E11 f at
of_forms f k at (inl (_, (broken, _))) = inl broken
of_forms f k at (inr (_, broken, _)) = inr broken

one_width : (f : Forms) (at there : Place) → E11 f at → E11 f there → at ≡ there
one_width f at there (r, n, v, rs, roots, shape, width, kind, wrong, is)
    (s, m, w, ss, others, shape2, width2, kind2, wrong2, is2) =
    let e : r ∷ rs ≡ s ∷ ss = sym roots ∙ others in
    let same : r ≡ s = cc in
    is ∙ ap (λ k. (node f k).place) (width ∙ ap (λ z. slice_index (items_of (kind_at f z)) 2) same ∙ sym width2)
    ∙ sym is2

first_of_forms : (f : Forms) (k l : ℕ) (at there : Place) → IsFirstOfForms f k at → IsFirstOfForms f l there
    → (k ≡ l) × (at.offset ≡ there.offset)
first_of_forms f k l at there (inl (is_k, (here, least))) (inl (is_l, (other, first))) =
    let low = least there other in
    let high = first at here in
    (is_k ∙ sym is_l, omega (arith, low, high))
first_of_forms f k l at there (inl (_, (here, _))) (inr (_, _, none)) = absurd (none at here)
first_of_forms f k l at there (inr (_, _, none)) (inl (_, (other, _))) = absurd (none there other)
first_of_forms f k l at there (inr (is_k, here, _)) (inr (is_l, other, _)) =
    (is_k ∙ sym is_l, ap Place.offset (one_width f at there here other))

-- rules of texts that spell something, and of forms of a shape, are broken by none
no_text : Laws → (text : List ℕ) (f : Forms) (k : ℕ) (at : Place) → Spells text f → IsFirstOfText text k at.offset → ⊥
no_text laws text f k at spells first = laws.clean text f k at.offset spells first.broken

no_forms : Laws → (text : List ℕ) (f g : Forms) (p : Program) (k : ℕ) (at : Place) → Spells text f → Spells text g
    → IsShape g p → IsFirstOfForms f k at → ⊥
no_forms laws text f g p k at spells other shape first =
    laws.shaped f p at (subst (λ h. IsShape h p) (laws.one_spelling text g f other spells) shape)
    (of_forms f k at first)

same_rule : Laws → (text : List ℕ) (k l : ℕ) (at there : Place) → IsFirstRule text k at → IsFirstRule text l there
    → (k ≡ l) × (at.offset ≡ there.offset)
same_rule laws text k l at there a b = both a.first b.first
  where
    Ways : ℕ → Place → Type 0
    Ways n spot = IsFirstOfText text n spot.offset ⊎ ((f : Forms) × Spells text f × IsFirstOfForms f n spot)
        ⊎ ((p : Program) × IsSpelled text p × IsFirstOfProgram p n spot)

    both : Ways k at → Ways l there → (k ≡ l) × (at.offset ≡ there.offset)
    both (inl x) (inl y) = laws.first_of_text text k at.offset l there.offset x y
    both (inl x) (inr (inl (f, spells, y))) = absurd (no_text laws text f k at spells x)
    both (inl x) (inr (inr (p, spells, y))) = absurd (no_text laws text spells.forms k at spells.spelled x)
    both (inr (inl (f, spells, x))) (inl y) = absurd (no_text laws text f l there spells y)
    both (inr (inl (f, spells, x))) (inr (inl (g, other, y))) =
        first_of_forms g k l at there (subst (λ h. IsFirstOfForms h k at) (laws.one_spelling text f g spells other) x) y
    both (inr (inl (f, spells, x))) (inr (inr (p, other, y))) =
        absurd (no_forms laws text f other.forms p k at spells other.spelled other.shape x)
    both (inr (inr (p, spells, x))) (inl y) = absurd (no_text laws text spells.forms l there spells.spelled y)
    both (inr (inr (p, spells, x))) (inr (inl (f, other, y))) =
        absurd (no_forms laws text f spells.forms p l there other spells.spelled spells.shape y)
    both (inr (inr (p, spells, x))) (inr (inr (q, other, y))) =
        laws.first_of_program q k l at there
        (subst (λ r. IsFirstOfProgram r k at) (one_written laws.one_spelling laws.one_program text p q spells other) x) y

none_first : Laws → (text : List ℕ) (p : plain.Program) (k : ℕ) (at : Place) → IsSource text p → IsFirstRule text k at → ⊥
none_first laws text p k at source rule = by rule.first
  where
    by : IsFirstOfText text k at.offset ⊎ ((f : Forms) × Spells text f × IsFirstOfForms f k at)
        ⊎ ((q : Program) × IsSpelled text q × IsFirstOfProgram q k at) → ⊥
    by (inl x) = no_text laws text source.spells.forms k at source.spells.spelled x
    by (inr (inl (f, spells, x))) =
        no_forms laws text f source.spells.forms source.written k at spells source.spells.spelled source.spells.shape x
    by (inr (inr (q, spells, x))) =
        source.kept k at
        (subst (λ r. IsFirstOfProgram r k at)
        (one_written laws.one_spelling laws.one_program text q source.written spells source.spells) x).broken

pub one_verdict : Laws → (text : List ℕ) (a b : Option Broken) → OfSource text a → OfSource text b → a ≡ b
one_verdict laws text None None x y = refl
one_verdict laws text None (Some b) x y = absurd (none_first laws text x.0 y.0 y.1 x.1 y.2)
one_verdict laws text (Some a) None x y = absurd (none_first laws text y.0 x.0 x.1 y.1 x.2)
one_verdict laws text (Some a) (Some b) x y =
    let same = same_rule laws text x.0 y.0 x.1 y.1 x.2 y.2 in
    let place : x.1 ≡ y.1 = x.2.place ∙ ap (place_at text) same.1 ∙ sym y.2.place in
    ap Some (x.3 ∙ ap (λ k. broken_rule k x.1) same.0 ∙ ap (broken_rule y.0) place ∙ sym y.3)
