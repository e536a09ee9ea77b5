-- The beginning, and marks that are set.
use Rattle.std.proofs.Common.{◌≡◌, ℕ, zero, suc, ◌<◌, ◌≤◌, ◌⊎◌, inl, inr, List, [], ◌∷◌, ◌++◌, Option, Some, None}
use Rattle.std.proofs.Common.{length, refl, sym, ◌∙◌, ap, subst, arith}
use Rattle.std.specs.Prelude.{Contains, replicate, slice_get}
use Rattle.std.proofs.lemmas.Option.{none-some, same_Some}
use Rattle.std.proofs.lemmas.List.Elements.{All-contains, All-nil, Contains-append_left, Contains-push_cases}
use Rattle.std.proofs.lemmas.List.{length-replicate}
use Rattle.mp_base.proofs.Contents.{nothing_in}
use Rattle.nor_net.specs.declared.net.NetId.{NetId}
use Rattle.nor_net.specs.declared.net.Part.{Part}
use Rattle.nor_net.specs.declared.net.Part.TheVariants.{Latch}
use Rattle.organelles.specs.declared.slices.Chain.{Chain}
use Rattle.organelles.specs.declared.slices.Chain.TheVariants.{Up, Down}
use Rattle.organelles.specs.declared.slices.Programmed.{Programmed}
use Rattle.organelles.specs.Computing.{ChainIn}
use Rattle.rtl_form.specs.declared.rtl.Rtl.{Rtl}
use Rattle.control_nor.specs.declared.names.Names.{Names}
use Rattle.path_form.specs.declared.path.Cast.{Cast}
use Rattle.path_form.specs.declared.path.Lift.{Lift}
use Rattle.path_form.specs.Shape.{times}
use Rattle.path_order.specs.declared.order.Mark.{Mark}
use Rattle.path_order.specs.Order.{start}
use Rattle.path_order.specs.Marked.{RiseTo}
use Rattle.datapath_making.specs.declared.making.Guard.{Guard}
use Rattle.datapath_making.specs.declared.making.Making.{Making}
use Rattle.datapath_making.specs.Marking.{last_from, last_mark}
use Rattle.datapath_making.specs.Steps.{begun}
use Rattle.datapath_making.specs.WellMade.{IsWellMade, present}

-- ---- nothing was made yet

none_there : {Y : Type 0} (n k : ℕ) (y : Y) → slice_get (replicate n None) k ≡ Some (Some y) → ⊥
none_there {Y} zero k y e = none-some (Some y) e
none_there {Y} (suc n) zero y e = none-some y (same_Some None (Some y) e)
none_there {Y} (suc n) (suc k) y e = none_there n k y e

none_present : (n : ℕ) → present (replicate n None) ≡ []
none_present zero = refl
none_present (suc n) = none_present n

pub begun_well : (r : Rtl) (control : List Part) (names : Names) (reset : Option NetId)
    → length names.exprs ≡ length r.exprs → IsWellMade (begun r control names reset)
begun_well r control names reset count = record {
  entered = record {
    once = λ n. ap (λ (ps : List NetId). times n (ps ++ [])) (none_present (length (r.pads).inputs));
    latches = λ n phase source e. absurd (none-some (Latch phase (Some source)) e);
  };
  joined = record {
    chains_in = All-nil (ChainIn 0);
    ends_differ = λ k d l. absurd (omega (arith, l));
    casts_in = λ k d l. absurd (omega (arith, l));
    lifts_in = λ k d l. absurd (omega (arith, l));
    lifts_apart = λ n. omega arith;
  };
  named = record {
    words_in = λ e id s. absurd (none_there (length r.exprs) e id s);
    cells_in = λ c id s. absurd (none_there (length r.cells) c id s);
    cells_made = λ c id s. absurd (none_there (length r.cells) c id s);
    cells_apart = λ c d id s t. absurd (none_there (length r.cells) c id s);
  };
  cast = record {
    count = length-replicate (length r.exprs) None ∙ sym count;
    guards = λ e g s. absurd (none_there (length r.exprs) e g s);
    clear = λ id e. absurd (none-some id e);
  };
  marks = record {
    rise = refl;
    slices_in = omega arith;
    control_in = omega arith;
    ups = λ from to h. absurd (nothing_in (Up from to) h);
    downs = λ from to h. absurd (nothing_in (Down from to) h);
    casts = λ c h. absurd (nothing_in c h);
    lifts = λ l h. absurd (nothing_in l h);
  };
}

abbrev pub count_none : ℕ → List (Option NetId)
count_none n = replicate n None

abbrev pub no_guards : ℕ → List (Option Guard)
no_guards n = replicate n None

-- the fields of what is begun, one after another
module _ (r : Rtl) (control : List Part) (names' : Names) (reset : Option NetId) where
  abbrev with_fields : List Part → List Chain → List Programmed → List Cast → List Lift → List (Option NetId)
      → List (Option NetId) → List (Option NetId) → List (Option Guard) → List Mark → Making
  with_fields net chains programs casts lifts cells words pads guards marks = record {
    width = r.width;
    control = control;
    names = names';
    reset = reset;
    slices = record { net = net; chains = chains; programs = programs };
    casts = casts;
    lifts = lifts;
    cell_words = cells;
    words = words;
    pads = pads;
    guards = guards;
    clear = None;
    marks = marks;
  }

  pub begun_is : (net : List Part) (chains : List Chain) (programs : List Programmed) (casts : List Cast) (lifts :
      List Lift) (cells : List (Option NetId)) (words : List (Option NetId)) (pads : List (Option NetId)) (guards :
      List (Option Guard)) (marks : List Mark)
      → net ≡ []
      → chains ≡ []
      → programs ≡ []
      → casts ≡ []
      → lifts ≡ []
      → cells ≡ replicate (length r.cells) None
      → words ≡ replicate (length r.exprs) None
      → pads ≡ replicate (length (r.pads).inputs) None
      → guards ≡ replicate (length r.exprs) None
      → marks ≡ []
      → with_fields net chains programs casts lifts cells words pads guards marks ≡ begun r control names' reset
  begun_is net chains programs casts lifts cells words pads guards marks e0 e1 e2 e3 e4 e5 e6 e7 e8 e9 =
      ap (λ x. with_fields x chains programs casts lifts cells words pads guards marks) e0
      ∙ (ap (λ x. with_fields [] x programs casts lifts cells words pads guards marks) e1
      ∙ (ap (λ x. with_fields [] [] x casts lifts cells words pads guards marks) e2
      ∙ (ap (λ x. with_fields [] [] [] x lifts cells words pads guards marks) e3
      ∙ (ap (λ x. with_fields [] [] [] [] x cells words pads guards marks) e4
      ∙ (ap (λ x. with_fields [] [] [] [] [] x words pads guards marks) e5
      ∙ (ap (λ x. with_fields [] [] [] [] [] (replicate (length r.cells) None) x pads guards marks) e6
      ∙ (ap (λ x. with_fields [] [] [] [] [] (replicate (length r.cells) None) (replicate (length r.exprs) None) x
      guards marks) e7
      ∙ (ap (λ x. with_fields [] [] [] [] [] (replicate (length r.cells) None) (replicate (length r.exprs) None)
      (replicate (length (r.pads).inputs) None) x marks) e8
      ∙ (ap (λ x. with_fields [] [] [] [] [] (replicate (length r.cells) None) (replicate (length r.exprs) None)
      (replicate (length (r.pads).inputs) None) (replicate (length r.exprs) None) x) e9)))))))))

-- ---- one more mark

pub last_push : (from k : Mark) (marks : List Mark) → last_from from (marks ++ k ∷ []) ≡ k
last_push from k [] = refl
last_push from k (to ∷ marks) = last_push to k marks

rise_push : (from k : Mark) (marks : List Mark) → RiseTo (last_from from marks) from marks
    → (last_from from marks).slices ≤ k.slices → (last_from from marks).control ≤ k.control
    → RiseTo k from (marks ++ k ∷ [])
rise_push from k [] h s c = (s, c, refl)
rise_push from k (to ∷ marks) h s c = (h.0, h.1, rise_push to k marks h.2 s c)

module _ (m : Making) (control : ℕ) (marks : List Mark) (well : IsWellMade m)
    (rises : (last_mark m).control ≤ control) (within : control ≤ length m.control)
    (is_marks : marks
    ≡ m.marks ++ (let k : Mark = record { slices = length m.slices.net; control = control } in k) ∷ []) where
  abbrev mark_after : Making
  mark_after = record m { marks = marks }

  abbrev the_mark : Mark
  the_mark = record { slices = length m.slices.net; control = control }

  last_now : last_from start marks ≡ the_mark
  last_now = ap (last_from start) is_marks ∙ last_push start the_mark m.marks

  rise_now : RiseTo (last_from start marks) start marks
  rise_now =
      subst (λ (ks : List Mark). RiseTo (last_from start ks) start ks) (sym is_marks)
      (subst (λ (k : Mark). RiseTo k start (m.marks ++ the_mark ∷ [])) (sym (last_push start the_mark m.marks))
      (rise_push start the_mark m.marks well.marks.rise well.marks.slices_in rises))

  cases : (k : Mark) → Contains marks k → Contains m.marks k ⊎ (the_mark ≡ k)
  cases k h = Contains-push_cases m.marks the_mark k (subst (λ (ks : List Mark). Contains ks k) is_marks h)

  was : (k : Mark) → Contains m.marks k → Contains marks k
  was k h = subst (λ (ks : List Mark). Contains ks k) (sym is_marks)
      (Contains-append_left m.marks (the_mark ∷ []) k h)

  up_in : (from to : NetId) → Contains m.slices.chains (Up from to) → (k : Mark)
      → Contains m.marks k ⊎ (the_mark ≡ k) → to.0 < k.slices → from.0 < k.slices
  up_in from to h k (inl i) l = well.marks.ups from to h k i l
  up_in from to h k (inr e) l =
      let f : (from.0 < length m.slices.net) × (to.0 < length m.slices.net) =
      All-contains (ChainIn (length m.slices.net)) m.slices.chains (Up from to) well.joined.chains_in h in
      let x = f.0 in let s = ap (λ (q : Mark). q.slices) e in omega (arith, x, s)

  lift_in : (l : Lift) → Contains m.lifts l → (k : Mark) → Contains m.marks k ⊎ (the_mark ≡ k)
      → l.control.0 < k.control → l.from.0 < k.slices
  lift_in l h k (inl i) b = well.marks.lifts l h k i b
  lift_in l h k (inr e) b =
      let f = All-contains (λ (l : Lift). (l.slice < m.width) × (l.from.0 < length m.slices.net)) m.lifts l
      well.joined.lifts_in h in
      let x = f.1 in let s = ap (λ (q : Mark). q.slices) e in omega (arith, x, s)

  pub mark_well : IsWellMade mark_after
  mark_well = record {
    entered = well.entered;
    joined = well.joined;
    named = well.named;
    cast = record { count = well.cast.count; guards = well.cast.guards; clear = well.cast.clear };
    marks = record {
      rise = rise_now;
      slices_in = let e = ap (λ (q : Mark). q.slices) last_now in omega (arith, e);
      control_in = let e = ap (λ (q : Mark). q.control) last_now in omega (arith, e, within);
      ups = λ from to h k i l. up_in from to h k (cases k i) l;
      downs = λ from to h. let d = well.marks.downs from to h in (d.0, was d.0 d.1, d.2, d.3);
      casts = λ c h. let d = well.marks.casts c h in (d.0, was d.0 d.1, d.2, d.3);
      lifts = λ l h k i b. lift_in l h k (cases k i) b;
    };
  }
