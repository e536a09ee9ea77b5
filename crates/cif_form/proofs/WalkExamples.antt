-- Small files whose walk breaks a rule, and the first rule that each breaks.
use Rattle.std.proofs.Common.{◌≡◌, ◌<◌, inl, inr, refl, sym, ◌∙◌, ap, subst, arith, List, [], ◌∷◌, Option, Some, None}
use Rattle.std.specs.Prelude.{ℤ, pos, Contains, ◌*ℤ◌, ◌-ℤ◌}
use Rattle.std.proofs.lemmas.Int.{ints}
use Rattle.std.proofs.lemmas.List.Elements.{All-cons, All-nil, Contains-append_left}
use Rattle.mp_base.proofs.Contents.{contains_one, is_only_one, nothing_in}
use Rattle.lam_geom.specs.declared.layer.Layer.{Layer}
use Rattle.lam_geom.specs.declared.layer.Layer.TheVariants.{NM}
use Rattle.cif_form.specs.declared.command.Command.{Command}
use Rattle.cif_form.specs.declared.command.Command.TheVariants.{Start, Finish, Call, Box, Layer as SetLayer}
use Rattle.cif_form.specs.declared.command.Item.{Item}
use Rattle.cif_form.specs.Text.{right}
use Rattle.cif_form.specs.Place.{unit, IsScale, layer_name}
use Rattle.cif_form.specs.Names.{IsSymbolName}
use Rattle.cif_form.specs.Expansion.{Definition, Stands, item_at, IsInside}
use Rattle.cif_form.specs.Walk.{Frame, Visit, DrawRule, draw_rule_number, BreaksBy, Breaks, BreaksNone, FileWalks}
use Rattle.cif_form.specs.Walk.{Walks, top_frame}
use Rattle.cif_form.specs.Walk.DrawRule.{F1, F2, F3, F4, F5, F6, F7, F8, F9, F10}
use Rattle.cif_form.specs.Walk.WalkEnd.{Broken}

-- something of every rule
pub each_rule : (P : DrawRule → Type 0) → P F1 → P F2 → P F3 → P F4 → P F5 → P F6 → P F7 → P F8 → P F9 → P F10
    → (r : DrawRule) → P r
each_rule P a b c d e f g h i j F1 = a
each_rule P a b c d e f g h i j F2 = b
each_rule P a b c d e f g h i j F3 = c
each_rule P a b c d e f g h i j F4 = d
each_rule P a b c d e f g h i j F5 = e
each_rule P a b c d e f g h i j F6 = f
each_rule P a b c d e f g h i j F7 = g
each_rule P a b c d e f g h i j F8 = h
each_rule P a b c d e f g h i j F9 = i
each_rule P a b c d e f g h i j F10 = j

pub never : {A : Type 0} → A → A
never a = a

-- DS 1; C 1; DF; C 1; E
abbrev own_body : List Item
own_body = item_at 6 (Call (pos 1) []) ∷ []

abbrev own_file : List Item
own_file = item_at 0 (Start (pos 1) (pos 1) (pos 1)) ∷ item_at 6 (Call (pos 1) []) ∷ item_at 11 Finish
    ∷ item_at 15 (Call (pos 1) []) ∷ []

abbrev one : Definition
one = record { number = pos 1; scale = unit; name = None; body = own_body }

abbrev inner : List Item → Frame
inner is = record { symbol = Some (pos 1); way = None; scale = unit; layer = None; place = λ r. r; left = is }

no_call_rule : (v : Visit) → v.item.command ≡ Call (pos 1) [] → Stands v.definitions (pos 1) one
    → ((d : Definition) → Stands v.definitions (pos 1) d → d ≡ one)
    → ((f : Frame) → Contains (v.frame ∷ v.outer) f → f.symbol ≡ None) → v.count ≡ 0
    → BreaksNone v
no_call_rule v e s o n c =
    subst (λ c. (q : DrawRule) → ¬ BreaksBy v c q) (sym e)
    (each_rule (λ q. ¬ BreaksBy v (Call (pos 1) []) q) (λ h. h one s)
    (λ h. let e : None ≡ Some (pos 1) = sym (n h.0 h.1) ∙ h.2 in cc) (λ h. nothing_in _ h.1)
    (λ h. elim h [
      | inl k ↦
          k.2 (let e = o k.0 k.1 in subst (λ d. IsScale d.scale) (sym e) (omega (arith, ints), omega (arith, ints)))
      | inr k ↦ nothing_in _ k.1
    ])
    never never (λ h. omega (arith, h)) (λ h. nothing_in _ h.1) never never)

is_one : (ds : List Definition) (d : Definition) → ds ≡ [] → Stands (one ∷ ds) (pos 1) d → d ≡ one
is_one ds d e (Stands.newest h) = refl
is_one ds d e (Stands.older h k) = absurd (h refl)

abbrev own_start : Visit
own_start =
    record {
      definitions = [];
      count = 0;
      names = [];
      frame = top_frame own_file;
      outer = [];
      item = item_at 0 (Start (pos 1) (pos 1) (pos 1));
      after = item_at 6 (Call (pos 1) []) ∷ item_at 11 Finish ∷ item_at 15 (Call (pos 1) []) ∷ [];
    }

abbrev own_call : Visit
own_call =
    record {
      definitions = one ∷ [];
      count = 0;
      names = [];
      frame = top_frame (item_at 15 (Call (pos 1) []) ∷ []);
      outer = [];
      item = item_at 15 (Call (pos 1) []);
      after = [];
    }

abbrev own_last : Visit
own_last =
    record {
      definitions = one ∷ [];
      count = 1;
      names = [];
      frame = inner own_body;
      outer = top_frame [] ∷ [];
      item = item_at 6 (Call (pos 1) []);
      after = [];
    }

pub call_of_itself : FileWalks own_file [] [] (Broken F2 6)
call_of_itself =
    Walks.step
    (record {
      definitions = [];
      count = 0;
      names = [];
      frame = top_frame own_file;
      outer = [];
      item = item_at 0 (Start (pos 1) (pos 1) (pos 1));
      after = item_at 6 (Call (pos 1) []) ∷ item_at 11 Finish ∷ item_at 15 (Call (pos 1) []) ∷ [];
    }) [] [] (record {
      definitions = one ∷ [];
      count = 0;
      names = [];
      frames = top_frame (item_at 15 (Call
          (pos 1) []) ∷ []) ∷ [];
    })
    (record { definitions = refl; count = refl; names = refl; frames = refl; left = refl })
    (each_rule (λ q. ¬ Breaks own_start q) never never never never never never
    (λ h. omega (arith, h)) never never never) (
      None,
      own_body,
      item_at 15 (Call (pos 1) [])
          ∷ [],
      11,
      refl,
      All-cons (λ i. IsInside i.command) (item_at 6 (Call (pos 1) [])) [] tt (All-nil (λ i. IsInside i.command)),
      IsSymbolName.later (λ n. never) IsSymbolName.none,
      refl,
      refl,
      refl,
      refl,
    )
    (Walks.step
    (record {
      definitions = one ∷ [];
      count = 0;
      names = [];
      frame = top_frame (item_at 15 (Call (pos 1) []) ∷ []);
      outer = [];
      item = item_at 15 (Call (pos 1) []);
      after = [];
    }) [] [] (record { definitions = one ∷ []; count = 1; names = []; frames = inner own_body ∷ top_frame [] ∷ [] })
    (record { definitions = refl; count = refl; names = refl; frames = refl; left = refl })
    (no_call_rule own_call refl (Stands.newest refl) (λ d h. is_one [] d refl h)
    (λ f h. ap (λ f. f.symbol) (is_only_one (top_frame (item_at 15 (Call (pos 1) []) ∷ [])) f h)) refl)
    (one, [], Stands.newest refl, refl, refl, refl, refl)
    (Walks.broken
    (record {
      definitions = one ∷ [];
      count = 1;
      names = [];
      frame = inner own_body;
      outer = top_frame [] ∷ [];
      item = item_at 6 (Call (pos 1) []);
      after = [];
    }) F2
    (record { definitions = refl; count = refl; names = refl; frames = refl; left = refl }) (
      (
        inner own_body,
        Contains-append_left (inner own_body ∷ []) (top_frame [] ∷ []) (inner own_body)
            (contains_one (inner own_body)),
        refl,
      ),
      each_rule (λ q. draw_rule_number q < 2 → ¬ Breaks own_last q) (λ k h. h one (Stands.newest refl))
          (λ k. absurd (omega (arith, k))) (λ k. absurd (omega (arith, k))) (λ k. absurd (omega (arith, k)))
          (λ k. absurd (omega (arith, k))) (λ k. absurd (omega (arith, k))) (λ k. absurd (omega (arith, k)))
          (λ k. absurd (omega (arith, k))) (λ k. absurd (omega (arith, k))) (λ k. absurd (omega (arith, k))),
    )))

-- DS 1 1 3; L NM; B 2 2 0 0; DF; C 1; E
abbrev square : Command
square = Box (pos 2) (pos 2) (record { x = pos 0; y = pos 0 }) right

abbrev third_body : List Item
third_body = item_at 10 (SetLayer (layer_name NM)) ∷ item_at 16 square ∷ []

abbrev third : Definition
third = record { number = pos 1; scale = record { a = pos 1; b = pos 3 }; name = None; body = third_body }

abbrev third_frame : Option Layer → List Item → Frame
third_frame l is =
    record {
      symbol = Some (pos 1);
      way = None;
      scale = record { a = pos 1; b = pos 3 };
      layer = l;
      place = λ r. r;
      left = is;
    }

abbrev third_file : List Item
third_file = item_at 0 (Start (pos 1) (pos 1) (pos 3)) ∷ item_at 10 (SetLayer (layer_name NM)) ∷ item_at 16 square
    ∷ item_at 27 Finish ∷ item_at 31 (Call (pos 1) []) ∷ []

abbrev third_start : Visit
third_start =
    record {
      definitions = [];
      count = 0;
      names = [];
      frame = top_frame third_file;
      outer = [];
      item = item_at 0 (Start (pos 1) (pos 1) (pos 3));
      after = item_at 10 (SetLayer (layer_name NM)) ∷ item_at 16 square ∷ item_at 27 Finish
          ∷ item_at 31 (Call (pos 1) []) ∷ [];
    }

abbrev third_call : Visit
third_call =
    record {
      definitions = third ∷ [];
      count = 0;
      names = [];
      frame = top_frame (item_at 31 (Call (pos 1) []) ∷ []);
      outer = [];
      item = item_at 31 (Call (pos 1) []);
      after = [];
    }

abbrev third_layer : Visit
third_layer =
    record {
      definitions = third ∷ [];
      count = 1;
      names = [];
      frame = third_frame None third_body;
      outer = top_frame [] ∷ [];
      item = item_at 10 (SetLayer (layer_name NM));
      after = item_at 16 square ∷ [];
    }

abbrev third_last : Visit
third_last =
    record {
      definitions = third ∷ [];
      count = 2;
      names = [];
      frame = third_frame (Some NM) (item_at 16 square ∷ []);
      outer = top_frame [] ∷ [];
      item = item_at 16 square;
      after = [];
    }

only_third : (d : Definition) → Stands (third ∷ []) (pos 1) d → d ≡ third
only_third d (Stands.newest h) = refl
only_third d (Stands.older h k) = absurd (h refl)

no_third : (z : ℤ) → pos 3 *ℤ z ≡ pos 1 *ℤ (pos 2 *ℤ pos 0 -ℤ pos 2) → ⊥
no_third z h = omega (arith, ints, h)

pub third_of_a_unit : FileWalks third_file [] [] (Broken F4 16)
third_of_a_unit =
    Walks.step third_start [] []
    (record {
      definitions = third ∷ [];
      count = 0;
      names = [];
      frames = top_frame (item_at 31 (Call
          (pos 1) []) ∷ []) ∷ [];
    })
    (record { definitions = refl; count = refl; names = refl; frames = refl; left = refl })
    (each_rule (λ q. ¬ Breaks third_start q) never never never never never never
    (λ h. omega (arith, h)) never never never) (
      None,
      third_body,
      item_at 31 (Call (pos 1) [])
          ∷ [],
      27,
      refl,
      All-cons (λ i. IsInside i.command) (item_at 10 (SetLayer (layer_name NM))) (item_at 16 square ∷ []) tt
          (All-cons (λ i. IsInside i.command) (item_at 16 square) [] tt (All-nil (λ i. IsInside i.command))),
      IsSymbolName.later (λ n. never) (IsSymbolName.later (λ n. never) IsSymbolName.none),
      refl,
      refl,
      refl,
      refl,
    )
    (Walks.step third_call [] []
    (record {
      definitions = third ∷ [];
      count = 1;
      names = [];
      frames = third_frame None third_body ∷ top_frame [] ∷
          [];
    })
    (record { definitions = refl; count = refl; names = refl; frames = refl; left = refl })
    (each_rule (λ q. ¬ Breaks third_call q) (λ h. h third (Stands.newest refl))
    (λ h. let e : None ≡ Some (pos 1) =
    sym (ap (λ f. f.symbol) (is_only_one (top_frame (item_at 31 (Call (pos 1) []) ∷ [])) h.0 h.1)) ∙ h.2 in cc)
    (λ h. nothing_in _ h.1)
    (λ h. elim h [
      | inl k ↦ k.2 (subst (λ d. IsScale d.scale) (sym (only_third k.0 k.1)) (omega (arith, ints), omega (arith, ints)))
      | inr k ↦ nothing_in _ k.1
    ])
    never never (λ h. omega (arith, h)) (λ h. nothing_in _ h.1) never never)
    (third, [], Stands.newest refl, refl, refl, refl, refl)
    (Walks.step third_layer [] []
    (record {
      definitions = third ∷ [];
      count = 2;
      names = [];
      frames = third_frame (Some NM) (item_at 16 square ∷ []) ∷ top_frame [] ∷ [];
    })
    (record { definitions = refl; count = refl; names = refl; frames = refl; left = refl })
    (each_rule (λ q. ¬ Breaks third_layer q) never never never never never never (λ h. omega (arith, h)) never never
    (λ h. h NM refl))
    (NM, refl, refl, refl, refl)
    (Walks.broken third_last F4 (record {
      definitions = refl;
      count = refl;
      names = refl;
      frames = refl;
      left = refl;
    }) (
      (λ rs h. elim h.2 [ inl k ↦ no_third h.0.x0 k.2.left.1 | inr k ↦ k.1 refl ]),
      each_rule (λ q. draw_rule_number q < 4 → ¬ Breaks third_last q) (λ k. never) (λ k. never)
          (λ k h. h (inl (refl, (λ e. omega (arith, ints)))))
          (λ k. absurd (omega (arith, k))) (λ k. absurd (omega (arith, k))) (λ k. absurd (omega (arith, k)))
          (λ k. absurd (omega (arith, k))) (λ k. absurd (omega (arith, k))) (λ k. absurd (omega (arith, k)))
          (λ k. absurd (omega (arith, k))),
    ))))
