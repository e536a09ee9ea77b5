-- What is held stays as it was, whatever is added.
use Rattle.std.proofs.Common.{◌≡◌, ℕ, zero, suc, ◌-◌, ◌≤◌, List, [], ◌∷◌, ◌++◌, refl, sym, ◌∙◌, ap, ap₂, subst, arith}
use Rattle.std.proofs.Common.{length, take, drop, map, All, append-nil, Option, Some, None, Result, Ok, Err}
use Rattle.std.specs.Prelude.{slice_get, OnErr}
use Rattle.std.specs.Option.{IsSomeAnd, option_map_or}
use Rattle.std.proofs.lemmas.List.{drop-append-le, take-append-le, length-append, length-drop, map-append}
use Rattle.std.proofs.lemmas.List.Elements.{All-nil, All-cons, All-head, All-tail, All-append}
use Rattle.cif_form.specs.declared.command.Command.{Command}
use Rattle.cif_form.specs.declared.command.Command.TheVariants as commands
use Rattle.cif_list.specs.declared.arena.Span.{Span}
use Rattle.cif_list.specs.declared.cif.Entry.{Entry}
use Rattle.cif_list.specs.declared.store.Head.{Head}
use Rattle.cif_list.specs.declared.store.Head.TheVariants.{Polygon, Box, Round, Wire, Layer, Start, Finish, Delete}
use Rattle.cif_list.specs.declared.store.Head.TheVariants.{Plain, Call, User, Comment}
use Rattle.cif_list.specs.declared.store.Store.{Store}
use Rattle.cif_list.specs.Entries.{item_of}
use Rattle.cif_list.specs.Growing.{IsGrown, IsPart, part}
use Rattle.cif_list.specs.Storing.{Grows, Holds, IsHeld, command_of}
use Rattle.cif_list.specs.Turning.{wide_turn}

pub on_err : {T E P : Type 0} (r : Result T E) → P → OnErr r P
on_err (Ok x) p = tt
on_err (Err e) p = p

-- ---- lists

pub still : {A : Type 0} (xs : List A) → IsGrown xs xs
still xs = ([], sym (append-nil xs))

part_kept : {A : Type 0} (xs ys : List A) (s : Span) → IsGrown xs ys → IsPart xs s
    → IsPart ys s × (part ys s ≡ part xs s)
part_kept xs ys s (more, e) (forward, within) =
    let l = length-append xs more in
    let n = ap length e in
    let d = length-drop s.from xs in
    let room : s.to - s.from ≤ length (drop s.from xs) = omega arith in
    let low : s.from ≤ length xs = omega arith in (
      (forward, omega arith),
      ap (λ zs. part zs s) e ∙ ap (take (s.to - s.from)) (drop-append-le s.from xs more low)
          ∙ take-append-le (s.to - s.from) (drop s.from xs) more room,
    )

get_kept : {A : Type 0} (xs more : List A) (k : ℕ) (P : A → Type 0) → IsSomeAnd (slice_get xs k) P
    → slice_get (xs ++ more) k ≡ slice_get xs k
get_kept [] more k P h = absurd h
get_kept (x ∷ xs) more zero P h = refl
get_kept (x ∷ xs) more (suc k) P h = get_kept xs more k P h

found_kept : {A : Type 0} (xs ys : List A) (k : ℕ) (P : A → Type 0) → IsGrown xs ys → IsSomeAnd (slice_get xs k) P
    → slice_get ys k ≡ slice_get xs k
found_kept xs ys k P (more, e) h = ap (λ zs. slice_get zs k) e ∙ get_kept xs more k P h

-- ---- commands

-- what was found is held further, and gives the same command
made_kept : {A : Type 0} (o : Option A) (P Q : A → Type 0) (f g : A → Command) → ((a : A) → P a → Q a × (g a ≡ f a))
    → IsSomeAnd o P → IsSomeAnd o Q × (option_map_or g o commands.Finish ≡ option_map_or f o commands.Finish)
made_kept None P Q f g h p = absurd p
made_kept (Some a) P Q f g h p = h a p

found_made : {A : Type 0} (xs ys : List A) (k : ℕ) (P Q : A → Type 0) (f g : A → Command) → IsGrown xs ys
    → ((a : A) → P a → Q a × (g a ≡ f a)) → IsSomeAnd (slice_get xs k) P
    → IsSomeAnd (slice_get ys k) Q
    × (option_map_or g (slice_get ys k) commands.Finish ≡ option_map_or f (slice_get xs k) commands.Finish)
found_made xs ys k P Q f g grown h p =
    let e = found_kept xs ys k P grown p in
    let m = made_kept (slice_get xs k) P Q f g h p in
    (subst (λ o. IsSomeAnd o Q) (sym e) m.0, ap (λ o. option_map_or g o commands.Finish) e ∙ m.1)

abbrev Kept : Store → Store → Head → Type 0
Kept s t h = IsHeld t h × (command_of t h ≡ command_of s h)

head_kept : (s t : Store) (h : Head) → Grows s t → IsHeld s h → Kept s t h
head_kept s t (Polygon r) g h = let k = part_kept s.points.items t.points.items r g.points h in
    (k.0, ap commands.Polygon k.1)
head_kept s t (Box k) g h =
    found_made s.boxes.items t.boxes.items k (λ _. Unit {0}) (λ _. Unit {0}) _
    (λ p. commands.Box p.length p.width p.center p.direction) g.boxes (λ a u. (u, refl)) h
head_kept s t (Round k) g h =
    found_made s.rounds.items t.rounds.items k (λ _. Unit {0}) (λ _. Unit {0}) _
    (λ p. commands.Round p.diameter p.center) g.rounds (λ a u. (u, refl)) h
head_kept s t (Wire k) g h =
    found_made s.wires.items t.wires.items k (λ p. IsPart s.points.items p.path) (λ p. IsPart t.points.items p.path)
    (λ p. commands.Wire p.width (part s.points.items p.path))
    (λ p. commands.Wire p.width (part t.points.items p.path)) g.wires
    (λ p u. let m = part_kept s.points.items t.points.items p.path g.points u in (m.0, ap (commands.Wire p.width) m.1))
    h
head_kept s t (Layer r) g h = let k = part_kept s.texts.items t.texts.items r g.texts h in (k.0, ap commands.Layer k.1)
head_kept s t (Start k) g h =
    found_made s.starts.items t.starts.items k (λ _. Unit {0}) (λ _. Unit {0}) _
    (λ p. commands.Start p.number p.a p.b) g.starts (λ a u. (u, refl)) h
head_kept s t Finish g h = (tt, refl)
head_kept s t (Delete n) g h = (tt, refl)
head_kept s t (Plain n) g h = (tt, refl)
head_kept s t (Call k) g h =
    found_made s.calls.items t.calls.items k (λ p. IsPart s.turns.items p.turns) (λ p. IsPart t.turns.items p.turns)
    (λ p. commands.Call p.number (map wide_turn (part s.turns.items p.turns)))
    (λ p. commands.Call p.number (map wide_turn (part t.turns.items p.turns))) g.calls
    (λ p u. let m = part_kept s.turns.items t.turns.items p.turns g.turns u in
    (m.0, ap (λ ts. commands.Call p.number (map wide_turn ts)) m.1)) h
head_kept s t (User d r) g h = let k = part_kept s.texts.items t.texts.items r g.texts h in
    (k.0, ap (commands.User d) k.1)
head_kept s t (Comment r) g h = let k = part_kept s.texts.items t.texts.items r g.texts h in
    (k.0, ap commands.Comment k.1)

-- ---- all commands

abbrev pub AreHeld : Store → List Entry → Type 0
AreHeld s es = All (λ e. IsHeld s e.head) es

pub entries_kept : (s t : Store) (es : List Entry) → Grows s t → AreHeld s es
    → AreHeld t es × (map (item_of t) es ≡ map (item_of s) es)
entries_kept s t [] g h = (All-nil (λ e. IsHeld t e.head), refl)
entries_kept s t (e ∷ es) g h =
    let first = head_kept s t e.head g (All-head (λ e. IsHeld s e.head) e es h) in
    let others = entries_kept s t es g (All-tail (λ e. IsHeld s e.head) e es h) in (
      All-cons (λ e. IsHeld t e.head) e es first.0 others.0,
      λ i. record { offset = e.offset; command = first.1 i }
          ∷ others.1 i,
    )

pub one_held : (s t : Store) (es new : List Entry) (e : Entry) (c : Command) → Grows s t → AreHeld s es
    → Holds t e.head c → new ≡ es ++ e ∷ []
    → AreHeld t new × (map (item_of t) new ≡ map (item_of s) es ++ record { offset = e.offset; command = c } ∷ [])
one_held s t es new e c g h holds is =
    let k = entries_kept s t es g h in
    let P : Entry → Type 0 = λ e. IsHeld t e.head in
    let item : item_of t e ≡ record { offset = e.offset; command = c } =
    λ i. record { offset = e.offset; command = holds.same i } in (
      subst (AreHeld t) (sym is) (All-append P es (e ∷ []) k.0 (All-cons P e [] holds.held (All-nil P))),
      ap (map (item_of t)) is ∙ map-append (item_of t) es (e ∷ []) ∙ ap₂ (λ xs x. xs ++ x ∷ []) k.1 item,
    )
