-- Pieces, as cells are told to the right.
use Rattle.std.proofs.Common.{◌≡◌, ◌≢◌, ℕ, ◌+◌, ◌<◌, ◌≤◌, inl, inr, List, [], ◌∷◌, ◌++◌, sym, ◌∙◌, subst, arith}
use Rattle.std.specs.Prelude.{Result, Ok, IfOk}
use Rattle.std.proofs.lemmas.Bool.{cases_lt, lt-ltb, le-ltb}
use Rattle.std.proofs.lemmas.Result.{IfOk-weaker}
use Rattle.std.proofs.lemmas.List.Elements.{All-push, Contains-push, Contains-append_left}
use Rattle.std.proofs.lemmas.List.Quantifiers.{all_pairs_push}
use Rattle.mp_base.specs.declared.refusal.NoMemory.{NoMemory}
use Rattle.mask_runs.specs.declared.run.Run.{Run}
use Rattle.cover_tree.specs.declared.part.Part.{Part}
use Rattle.cover_tree.specs.Changes.{AreChanges}
use Rattle.cover_tree.specs.Changing.{IsTelling, AreLike, Tells, Keeps, Turns, with_last}

module _ (before after : ℕ → ℕ) (pieces : List Run) (last : Run) (end : ℕ)
    (b : IsTelling before after pieces last end) where
  closed_empty : last.right ≤ last.left → AreChanges before after end pieces
  closed_empty e = let o = b.order in let w = b.within in record {
    wide = b.complete.wide;
    within = λ k d h. let x = b.complete.within k d h in omega arith;
    each = b.complete.each;
    other = b.complete.other;
    all = λ c h n. elim (cases_lt c last.left) [
      | inl m ↦ b.complete.all c m n
      | inr m ↦ absurd (n (b.rest c (omega arith) h))
    ];
    ascending = b.complete.ascending;
  }

  closed_some : last.left < last.right → AreChanges before after end (pieces ++ last ∷ [])
  closed_some e = let w = b.within in record {
    wide = All-push (λ p. p.left < p.right) pieces last b.complete.wide e;
    within = All-push (λ p. p.right ≤ end) pieces last (λ k d h. let x = b.complete.within k d h in omega arith) w;
    each = All-push (λ p. (c : ℕ) → p.left ≤ c → c < p.right → after c ≡ p.colour) pieces last b.complete.each b.each;
    other = All-push (λ p. (c : ℕ) → p.left ≤ c → c < p.right → before c ≢ p.colour) pieces last b.complete.other
        b.other;
    all = λ c h n. elim (cases_lt c last.left) [
      | inl m ↦ let q = b.complete.all c m n in record {
        piece = q.piece;
        listed = Contains-append_left pieces (last ∷ []) q.piece q.listed;
        from = q.from;
        to = q.to;
      }
      | inr m ↦ elim (cases_lt c last.right) [
        | inl k ↦ record { piece = last; listed = Contains-push pieces last; from = m; to = k }
        | inr k ↦ absurd (n (b.rest c k h))
      ]
    ];
    ascending = all_pairs_push (λ p q. p.right ≤ q.left) pieces last b.complete.ascending b.complete.within;
  }

  pub closed : AreChanges before after end (with_last pieces last)
  closed = elim (cases_lt last.left last.right) [
    | inl h ↦ rw (lt-ltb last.left last.right h) (closed_some h)
    | inr h ↦ rw (le-ltb last.left last.right h) (closed_empty h)
  ]

-- a part that keeps its colours, and one that turns to a colour
module _ (before after : ℕ → ℕ) (pieces : List Run) (last : Run) (p : Part)
    (b : IsTelling before after pieces last p.base) where
  keeps_on : Keeps before after p → IsTelling before after pieces last (p.base + p.width)
  keeps_on k = let w = b.within in record {
    complete = b.complete;
    order = b.order;
    within = omega arith;
    each = b.each;
    other = b.other;
    rest = λ c i j. elim (cases_lt c p.base) [
      | inl m ↦ b.rest c i m
      | inr m ↦ k.each c (record { from = m; to = j })
    ];
  }

  lengthens : (colour : ℕ) → last.right ≡ p.base → last.colour ≡ colour → Turns before after p colour
      → IsTelling before after pieces (record { left = last.left; right = p.base + p.width; colour = last.colour })
      (p.base + p.width)
  lengthens colour e f t = let o = b.order in record {
    complete = b.complete;
    order = omega arith;
    within = omega arith;
    each = λ c i j. elim (cases_lt c last.right) [
      | inl m ↦ b.each c i m
      | inr m ↦ t.now c (record { from = omega arith; to = j }) ∙ sym f
    ];
    other = λ c i j. elim (cases_lt c last.right) [
      | inl m ↦ b.other c i m
      | inr m ↦ λ g. t.other c (record { from = omega arith; to = j }) (g ∙ f)
    ];
    rest = λ c i j. absurd (omega arith);
  }

  begins : (colour : ℕ) → Turns before after p colour
      → IsTelling before after (with_last pieces last)
      (record { left = p.base; right = p.base + p.width; colour = colour }) (p.base + p.width)
  begins colour t = record {
    complete = closed before after pieces last p.base b;
    order = omega arith;
    within = omega arith;
    each = λ c i j. t.now c (record { from = i; to = j });
    other = λ c i j. t.other c (record { from = i; to = j });
    rest = λ c i j. absurd (omega arith);
  }

-- two rows that are alike where the part's cells keep their colours, or turn
module _ (before after was is : ℕ → ℕ) (p : Part) (a : AreLike before after was is p.base (p.base + p.width)) where
  keeps_like : Keeps was is p → Keeps before after p
  keeps_like k = record {
    each = λ c i. a.told c i.from i.to ∙ k.each c i ∙ sym (a.now c i.from i.to);
  }

  turns_like : (colour : ℕ) → Turns was is p colour → Turns before after p colour
  turns_like colour t = record {
    now = λ c i. a.now c i.from i.to ∙ t.now c i;
    other = λ c i e. t.other c i (sym (a.told c i.from i.to) ∙ e);
  }

pub stays : (was is : ℕ → ℕ) (pieces : List Run) (last : Result Run NoMemory) (p : Part) → Keeps was is p
    → Tells was is pieces pieces last last p.base (p.base + p.width)
stays was is pieces last p k = record {
  told = λ before after a b.
      IfOk-weaker last _ _ (λ l c. keeps_on before after pieces l p c (keeps_like before after was is p a k)) b;
}

pub begins_next : (was is : ℕ → ℕ) (pieces : List Run) (last : Run) (p : Part) (colour : ℕ) → Turns was is p colour
    → Tells was is pieces (with_last pieces last) (Ok last)
    (Ok (record { left = p.base; right = p.base + p.width; colour = colour })) p.base (p.base + p.width)
begins_next was is pieces last p colour t = record {
  told = λ before after a b. begins before after pieces last p b colour (turns_like before after was is p a colour t);
}

pub in_turn : (was is : ℕ → ℕ) (old mid now : List Run) (last middle next : Result Run NoMemory) (from half end : ℕ)
    → from ≤ half → half ≤ end
    → Tells was is old mid last middle from half → Tells was is mid now middle next half end
    → Tells was is old now last next from end
in_turn was is old mid now last middle next from half end h k p q = record {
  told = λ before after a b.
      q.told before after
      (record { told = λ c i j. a.told c (omega arith) j; now = λ c i j. a.now c (omega arith) j })
      (p.told before after
      (record { told = λ c i j. a.told c i (omega arith); now = λ c i j. a.now c i (omega arith) }) b);
}

pub alike : (was is f g : ℕ → ℕ) (old now : List Run) (last next : Result Run NoMemory) (from end : ℕ)
    → ((c : ℕ) → from ≤ c → c < end → f c ≡ was c) → ((c : ℕ) → from ≤ c → c < end → g c ≡ is c)
    → Tells was is old now last next from end → Tells f g old now last next from end
alike was is f g old now last next from end d e p = record {
  told = λ before after a b. p.told before after
      (record { told = λ c i j. a.told c i j ∙ d c i j; now = λ c i j. a.now c i j ∙ e c i j }) b;
}

-- at first nothing is told
abbrev pub blank : Run
blank = record { left = 0; right = 0; colour = 0 }

none_told : (before after : ℕ → ℕ) → IsTelling before after [] blank 0
none_told before after = record {
  complete = record {
    wide = λ k d h. absurd (omega arith);
    within = λ k d h. absurd (omega arith);
    each = λ k d h. absurd (omega arith);
    other = λ k d h. absurd (omega arith);
    all = λ c h. absurd (omega arith);
    ascending = λ i j d k l. absurd (omega arith);
  };
  order = omega arith;
  within = omega arith;
  each = λ c i j. absurd (omega arith);
  other = λ c i j. absurd (omega arith);
  rest = λ c i j. absurd (omega arith);
}

-- and at last all cells are
pub all_told : (was is before after : ℕ → ℕ) (now : List Run) (last : Result Run NoMemory) (cells : ℕ)
    → Tells was is [] now (Ok blank) last 0 (0 + cells) → ((c : ℕ) → c < cells → before c ≡ was c)
    → ((c : ℕ) → c < cells → after c ≡ is c) → IfOk last (λ l. AreChanges before after cells (with_last now l))
all_told was is before after now last cells t d e =
    let same : 0 + cells ≡ cells = omega arith in
    let b : IfOk last (λ n. IsTelling before after now n (0 + cells)) =
    t.told before after (record { told = λ c i j. d c (omega arith); now = λ c i j. e c (omega arith) })
    (none_told before after) in
    let f : IfOk last (λ n. IsTelling before after now n cells) =
    subst (λ end. IfOk last (λ n. IsTelling before after now n end)) same b in
    IfOk-weaker last _ _ (λ l x. closed before after now l cells x) f
