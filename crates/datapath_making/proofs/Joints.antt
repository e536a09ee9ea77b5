-- What joins nets, and the marks, of a path that was added to.
use Rattle.std.proofs.Common.{◌≡◌, ℕ, zero, suc, ◌<◌, ◌≤◌, ◌+◌, ◌⊎◌, inl, inr, List, [], ◌∷◌, length, map, refl, sym}
use Rattle.std.proofs.Common.{ap, subst, arith}
use Rattle.std.specs.Prelude.{◌≢◌, All, Contains}
use Rattle.std.proofs.lemmas.List.Elements.{All-append, All-weaker, All-contains, Contains-append_cases}
use Rattle.nor_net.specs.declared.net.NetId.{NetId}
use Rattle.organelles.specs.declared.slices.Chain.{Chain}
use Rattle.organelles.specs.declared.slices.Chain.TheVariants.{Up, Down}
use Rattle.organelles.specs.Computing.{ChainIn}
use Rattle.path_form.specs.declared.path.Cast.{Cast}
use Rattle.path_form.specs.declared.path.Lift.{Lift}
use Rattle.path_form.specs.Shape.{AreApart, chain_from, chain_to}
use Rattle.path_order.specs.declared.order.Mark.{Mark}
use Rattle.path_order.specs.Order.{start}
use Rattle.path_order.specs.Marked.{RiseTo}
use Rattle.datapath_making.specs.declared.making.Making.{Making}
use Rattle.datapath_making.specs.Additions.{Addition, CastFits, ChainFits, Fits, Adds, LiftFits}
use Rattle.datapath_making.specs.Marking.{AreMarks, last_from, last_mark}
use Rattle.datapath_making.specs.WellMade.{AreJoined}
use Rattle.datapath_making.proofs.Entering.{length_added}

-- ---- marks that rise

rise_below : (end from : Mark) (marks : List Mark) → RiseTo end from marks
    → (from.slices ≤ end.slices) × (from.control ≤ end.control)
rise_below end from [] e =
    let s = ap (λ (k : Mark). k.slices) e in let c = ap (λ (k : Mark). k.control) e in
    (omega (arith, s), omega (arith, c))
rise_below end from (to ∷ marks) h =
    let r = rise_below end to marks h.2 in
    let s = h.0 in let c = h.1 in let t = r.0 in let d = r.1 in
    (omega (arith, s, t), omega (arith, c, d))

-- each mark lies at or before the last
pub mark_below : (end from : Mark) (marks : List Mark) → RiseTo end from marks → (k : Mark) → Contains marks k
    → (k.slices ≤ end.slices) × (k.control ≤ end.control)
mark_below end from [] e k (i, l, q) = absurd (omega (arith, l))
mark_below end from (to ∷ marks) h k (zero, l, q) =
    let r = rise_below end to marks h.2 in
    let s = ap (λ (k : Mark). k.slices) q in let c = ap (λ (k : Mark). k.control) q in
    let t = r.0 in let d = r.1 in
    (omega (arith, s, t), omega (arith, c, d))
mark_below end from (to ∷ marks) h k (suc i, l, q) =
    mark_below end to marks h.2 k (i, omega (arith, l), q)

last_is : (from : Mark) (marks : List Mark)
    → (last_from from marks ≡ from) ⊎ Contains marks (last_from from marks)
last_is from [] = inl refl
last_is from (to ∷ marks) = by_rest (last_is to marks)
  where
    by_rest : (last_from to marks ≡ to) ⊎ Contains marks (last_from to marks)
        → (last_from to marks ≡ from) ⊎ Contains (to ∷ marks) (last_from to marks)
    by_rest (inl e) = inr (0, omega arith, sym e)
    by_rest (inr h) = inr (suc h.0, (let l = h.1 in omega (arith, l)), h.2)

-- where something lies before the last mark, that is a mark
pub last_in : (m : Making) → (0 < (last_mark m).slices) ⊎ (0 < (last_mark m).control)
    → Contains m.marks (last_mark m)
last_in m some = by_case (last_is start m.marks) some
  where
    by_case : (last_mark m ≡ start) ⊎ Contains m.marks (last_mark m)
        → (0 < (last_mark m).slices) ⊎ (0 < (last_mark m).control) → Contains m.marks (last_mark m)
    by_case (inr h) some = h
    by_case (inl e) (inl l) = absurd (let s = ap (λ (k : Mark). k.slices) e in omega (arith, s, l))
    by_case (inl e) (inr l) = absurd (let s = ap (λ (k : Mark). k.control) e in omega (arith, s, l))

chain_in_later : (m n : ℕ) (c : Chain) → m ≤ n → ChainIn m c → ChainIn n c
chain_in_later m n (Up from to) l h = let x = h.0 in let y = h.1 in (omega (arith, l, x), omega (arith, l, y))
chain_in_later m n (Down from to) l h = let x = h.0 in let y = h.1 in (omega (arith, l, x), omega (arith, l, y))

module _ (a : Addition) (fresh : List NetId) (old new : Making) (is : Adds a old new) (fits : Fits a fresh old)
  where
    longer : length old.slices.net ≤ length new.slices.net
    longer = let e = length_added a old new is in omega (arith, e)

    abbrev Differ : Chain → Type 0
    Differ c = (chain_from c).0 ≢ (chain_to c).0

    abbrev In : Cast → Type 0
    In c = c.control.0 < length new.control

    abbrev Within : Lift → Type 0
    Within l = (l.slice < new.width) × (l.from.0 < length new.slices.net)

    pub joined_on : AreMarks old → AreJoined old.width (length old.control) old.slices old.casts old.lifts
        → AreJoined new.width (length new.control) new.slices new.casts new.lifts
    joined_on marks h = record {
      chains_in = subst (All (ChainIn (length new.slices.net))) (sym is.chains)
          (All-append (ChainIn (length new.slices.net)) old.slices.chains a.chains
          (All-weaker (ChainIn (length old.slices.net)) (ChainIn (length new.slices.net))
          (λ c. chain_in_later (length old.slices.net) (length new.slices.net) c longer) old.slices.chains
          h.chains_in)
          (All-weaker (ChainFits old (length old.slices.net + length a.parts)) (ChainIn (length new.slices.net))
          (λ c f. chain_in_later (length old.slices.net + length a.parts) (length new.slices.net) c
          (let e = length_added a old new is in omega (arith, e)) f.within) a.chains fits.chains));
      ends_differ = subst (All Differ) (sym is.chains)
          (All-append Differ old.slices.chains a.chains h.ends_differ
          (All-weaker (ChainFits old (length old.slices.net + length a.parts)) Differ (λ c f. f.differs) a.chains
          fits.chains));
      casts_in = subst (All In) (sym is.casts)
          (All-append In old.casts a.casts
          (All-weaker (λ (c : Cast). c.control.0 < length old.control) In
          (λ c l. let e = ap length is.control in omega (arith, e, l)) old.casts h.casts_in)
          (All-weaker (CastFits old) In
          (λ c f. let e = ap length is.control in let l = f.reached in let k = marks.control_in in
          omega (arith, e, l, k)) a.casts fits.casts));
      lifts_in = subst (All Within) (sym is.lifts)
          (All-append Within old.lifts a.lifts
          (All-weaker (λ (l : Lift). (l.slice < old.width) × (l.from.0 < length old.slices.net)) Within
          (λ l f. let w = is.width in let x = f.0 in let y = f.1 in
          (omega (arith, w, x), omega (arith, longer, y))) old.lifts h.lifts_in)
          (All-weaker (LiftFits old (length old.slices.net + length a.parts)) Within
          (λ l f. let w = is.width in let x = f.slice in let y = f.from in let e = length_added a old new is in
          (omega (arith, w, x), omega (arith, e, y))) a.lifts fits.lifts));
      lifts_apart = subst (λ (ls : List Lift). AreApart (map (λ (l : Lift). l.control) ls)) (sym is.lifts)
          fits.lifts_apart;
    }

    pub same_last : last_mark new ≡ last_mark old
    same_last = ap (last_from start) is.marks

    -- a chain of the new path is one of the old, or was added
    module _ (marks : AreMarks old) where
      mark_in : (k : Mark) → Contains new.marks k → Contains old.marks k
      mark_in k h = subst (λ (ks : List Mark). Contains ks k) is.marks h

      low : (k : Mark) → Contains new.marks k → (k.slices ≤ length old.slices.net)
          × (k.control ≤ (last_mark old).control)
      low k h =
          let b = mark_below (last_mark old) start old.marks marks.rise k (mark_in k h) in
          let s = b.0 in let c = b.1 in let i = marks.slices_in in
          (omega (arith, s, i), c)

      was : (k : Mark) → Contains old.marks k → Contains new.marks k
      was k h = subst (λ (ks : List Mark). Contains ks k) (sym is.marks) h

      up_on : (from to : NetId) → Contains old.slices.chains (Up from to) ⊎ Contains a.chains (Up from to)
          → (k : Mark) → Contains new.marks k → to.0 < k.slices → from.0 < k.slices
      up_on from to (inl h) k i l = marks.ups from to h k (mark_in k i) l
      up_on from to (inr h) k i l =
          absurd (let f = (All-contains (ChainFits old (length old.slices.net + length a.parts)) a.chains (Up from to)
          fits.chains h).behind in let b = (low k i).0 in omega (arith, f, b, l))

      down_on : (from to : NetId) → Contains old.slices.chains (Down from to) ⊎ Contains a.chains (Down from to)
          → (k : Mark) × Contains new.marks k × (from.0 < k.slices) × (k.slices ≤ to.0)
      down_on from to (inl h) =
          let d = marks.downs from to h in (d.0, was d.0 d.1, d.2, d.3)
      down_on from to (inr h) =
          let f = All-contains (ChainFits old (length old.slices.net + length a.parts)) a.chains (Down from to)
          fits.chains h in
          let r = f.reached in let b = f.behind in let s = marks.slices_in in
          (last_mark old, was (last_mark old) (last_in old (inl (omega (arith, r)))), r, omega (arith, b, s))

      cast_on : (c : Cast) → Contains old.casts c ⊎ Contains a.casts c
          → (k : Mark) × Contains new.marks k × (c.control.0 < k.control) × (k.slices ≤ c.slice.0)
      cast_on c (inl h) = let d = marks.casts c h in (d.0, was d.0 d.1, d.2, d.3)
      cast_on c (inr h) =
          let f = All-contains (CastFits old) a.casts c fits.casts h in
          let r = f.reached in let b = f.behind in let s = marks.slices_in in
          (last_mark old, was (last_mark old) (last_in old (inr (omega (arith, r)))), r, omega (arith, b, s))

      lift_on : (l : Lift) → Contains old.lifts l ⊎ Contains a.lifts l → (k : Mark) → Contains new.marks k
          → l.control.0 < k.control → l.from.0 < k.slices
      lift_on l (inl h) k i b = marks.lifts l h k (mark_in k i) b
      lift_on l (inr h) k i b =
          absurd (let f = (All-contains (LiftFits old (length old.slices.net + length a.parts)) a.lifts l
          fits.lifts h).ahead in let c = (low k i).1 in omega (arith, f, c, b))

      pub marks_on : AreMarks new
      marks_on = record {
        rise = subst (λ (ks : List Mark). RiseTo (last_from start ks) start ks) (sym is.marks) marks.rise;
        slices_in = let e = ap (λ (k : Mark). k.slices) same_last in let s = marks.slices_in in
            omega (arith, e, s, longer);
        control_in = let e = ap (λ (k : Mark). k.control) same_last in let s = marks.control_in in
            let c = ap length is.control in omega (arith, e, s, c);
        ups = λ from to h. up_on from to (Contains-append_cases old.slices.chains a.chains (Up from to)
            (subst (λ (cs : List Chain). Contains cs (Up from to)) is.chains h));
        downs = λ from to h. down_on from to (Contains-append_cases old.slices.chains a.chains (Down from to)
            (subst (λ (cs : List Chain). Contains cs (Down from to)) is.chains h));
        casts = λ c h. cast_on c (Contains-append_cases old.casts a.casts c
            (subst (λ (cs : List Cast). Contains cs c) is.casts h));
        lifts = λ l h. lift_on l (Contains-append_cases old.lifts a.lifts l
            (subst (λ (ls : List Lift). Contains ls l) is.lifts h));
      }
