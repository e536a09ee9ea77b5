-- States whose commands may each stand where they do.
use Rattle.std.proofs.Common.{◌≡◌, ℕ, ◌+◌, List, [], ◌∷◌, ◌++◌, Bool, true, false, Some, length, map, refl, sym, ◌∙◌}
use Rattle.std.proofs.Common.{ap, subst}
use Rattle.std.specs.Prelude.{All, ℤ}
use Rattle.std.proofs.lemmas.List.Elements.{All-nil, All-cons, All-head, All-tail}
use Rattle.cif_form.specs.declared.command.Command.{Command}
use Rattle.cif_form.specs.declared.command.Command.TheVariants.{Start, Finish, Delete}
use Rattle.cif_form.specs.declared.command.Item.{Item}
use Rattle.cif_form.specs.Scans.{opens, Nests}
use Rattle.cif_form.specs.Expansion.{Definition, Stands, IsInside, item_at}
use Rattle.cif_form.specs.Walk.{Frame, State}

abbrev pub commands_of : List Item → List Command
commands_of items = map (λ (i : Item). i.command) items

abbrev pub AreInside : List Item → Type 0
AreInside items = All (λ (i : Item). IsInside i.command) items

-- what is left in each frame may stand there: the last frame is the top level
abbrev pub FramesNest : List Frame → Type 0
FramesNest [] = Unit {0}
FramesNest (f ∷ []) = Nests false (commands_of f.left)
FramesNest (f ∷ g ∷ fs) = AreInside f.left × FramesNest (g ∷ fs)

pub record IsOrdered (s : State) : Type 0 where
  pub bodies : All (λ (d : Definition). AreInside d.body) s.definitions
  pub frames : FramesNest s.frames

-- how much is left in frames
abbrev pub left_in : List Frame → ℕ
left_in [] = 0
left_in (f ∷ fs) = length f.left + 1 + left_in fs

pub outer_nest : (f : Frame) (fs : List Frame) → FramesNest (f ∷ fs) → FramesNest fs
outer_nest f [] h = tt
outer_nest f (g ∷ fs) h = h.1

pub body_of : (ds : List Definition) (n : ℤ) (d : Definition) → All (λ (d : Definition). AreInside d.body) ds
    → Stands ds n d → AreInside d.body
body_of _ _ _ all (Stands.newest {d = d} {ds = ds} same) = All-head (λ (d : Definition). AreInside d.body) d ds all
body_of _ _ _ all (Stands.older {e = e} {d = d} {ds = ds} {n = n} other h) =
    body_of ds n d (All-tail (λ (d : Definition). AreInside d.body) e ds all) h

-- ---- commands at a place

-- a command may stand there, with these behind it in its frame and these frames around it
abbrev pub IsPlaced : Command → List Item → List Frame → Type 0
IsPlaced c after [] = Nests false (c ∷ commands_of after)
IsPlaced c after (g ∷ fs) = IsInside c × AreInside after × FramesNest (g ∷ fs)

pub placed_of : (f : Frame) (i : Item) (after : List Item) (outer : List Frame) → f.left ≡ i ∷ after
    → FramesNest (f ∷ outer) → IsPlaced i.command after outer
placed_of f i after [] e h = subst (λ is. Nests false (commands_of is)) e h
placed_of f i after (g ∷ fs) e h =
    let all = subst AreInside e h.0 in
    let first = All-head (λ (i : Item). IsInside i.command) i after all in
    (first, All-tail (λ (i : Item). IsInside i.command) i after all, h.1)

inside_opens : (b : Bool) (c : Command) → IsInside c → opens b c ≡ Some b
inside_opens b (Start n x y) h = absurd h
inside_opens b Finish h = absurd h
inside_opens b (Delete n) h = absurd h
inside_opens true c h = refl
inside_opens false c h = refl

pub same_within : {b c : Bool} → Some b ≡ Some c → b ≡ c
same_within e = cc

-- behind a command that may stand in a definition, the rest of its frame may stand there
pub rest_nests : (c : Command) (after : List Item) (outer : List Frame) (f : Frame) → f.left ≡ after → IsInside c
    → IsPlaced c after outer → FramesNest (f ∷ outer)
rest_nests c after [] f e inside (within, is, nests) =
    let same : within ≡ false = same_within (sym is ∙ inside_opens false c inside) in
    subst (λ is. Nests false (commands_of is)) (sym e) (subst (λ b. Nests b (commands_of after)) same nests)
rest_nests c after (g ∷ fs) f e inside (here, all, nests) = (subst AreInside (sym e) all, nests)

-- ---- definitions

-- commands up to a finish, and what follows it
pub record IsBody (items : List Item) : Type 0 where
  pub body : List Item
  pub rest : List Item
  pub finish : ℕ
  pub inside : AreInside body
  pub split : items ≡ body ++ (item_at finish Finish ∷ rest)
  pub nests : Nests false (commands_of rest)

pub body_up_to_finish : (items : List Item) → Nests true (commands_of items) → IsBody items
body_up_to_finish [] h = absurd (let e : true ≡ false = h in cc)
body_up_to_finish (i ∷ is) (within, opened, nests) = by i.command refl opened (λ same.
    body_up_to_finish is (subst (λ b. Nests b (commands_of is)) same nests))
  where
    more : IsInside i.command → IsBody is → IsBody (i ∷ is)
    more inside b = record {
      body = i ∷ b.body;
      rest = b.rest;
      finish = b.finish;
      inside = All-cons (λ (i : Item). IsInside i.command) i b.body inside b.inside;
      split = ap (λ t. i ∷ t) b.split;
      nests = b.nests;
    }

    here : i.command ≡ Finish → opens true Finish ≡ Some within → IsBody (i ∷ is)
    here e opened = record {
      body = [];
      rest = is;
      finish = i.offset;
      inside = All-nil (λ (i : Item). IsInside i.command);
      split = λ k. record { offset = i.offset; command = e k } ∷ is;
      nests = subst (λ b. Nests b (commands_of is)) (sym (same_within opened)) nests;
    }

    by : (c : Command) → i.command ≡ c → opens true c ≡ Some within → (within ≡ true → IsBody is) → IsBody (i ∷ is)
    by (Start n x y) e opened next = absurd (cc)
    by Finish e opened next = here e opened
    by (Delete n) e opened next = absurd (cc)
    by c e opened next = more (subst IsInside (sym e) tt) (next (sym (same_within opened)))
