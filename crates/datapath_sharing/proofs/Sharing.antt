-- What is noted of operators and numbers while a path grows.
use Rattle.std.proofs.Common.{◌≡◌, ℕ, ◌-◌, inl, inr, List, Option, Some, None, false, length, refl, sym, ◌∙◌, ap, subst}
use Rattle.std.proofs.Common.{arith}
use Rattle.std.specs.Prelude.{◌≢◌, Contains, slice_get, slice_index_or}
use Rattle.std.proofs.lemmas.Option.{none-some, same_Some}
use Rattle.std.proofs.lemmas.List.Elements.{Contains-append_left}
use Rattle.std.proofs.lemmas.Bool.{cases_eq}
use Rattle.mp_base.specs.declared.op.Op.{Op}
use Rattle.mp_base.proofs.Entries.{get_set_other}
use Rattle.nor_net.specs.declared.net.NetId.{NetId}
use Rattle.organelles.specs.declared.slices.SliceNet.{SliceNet}
use Rattle.rtl_form.specs.declared.rtl.RtlExpr.{RtlExpr}
use Rattle.rtl_form.specs.declared.rtl.RtlExpr.TheVariants.{Number, Truth, Cell, Apply}
use Rattle.control_nor.specs.declared.names.Names.{Names}
use Rattle.control_nor.specs.Lowering.{Stands}
use Rattle.path_form.specs.declared.path.Lift.{Lift}
use Rattle.path_values.specs.Allocated.{Placed}
use Rattle.datapath_making.specs.declared.making.Making.{Making}
use Rattle.datapath_making.specs.Growing.{Grows}
use Rattle.datapath_making.specs.Steps.{IsFree, read_cell}
use Rattle.datapath_making.proofs.Keeping.{placed_lasts}
use Rattle.datapath_making.proofs.Lists.{one_stands}
use Rattle.datapath_sharing.specs.declared.built.Built.{Built}
use Rattle.datapath_sharing.specs.Sharing.{AreBuilt, IsBuilt, IsExprNoted, IsNoted, IsProgrammed, KeepsNoted, Stays}
use Rattle.datapath_sharing.specs.Sharing.{key_of, number_in, operator_in, same_key}
use Rattle.datapath_sharing.proofs.Keys.{key_means, true_or_false}

-- ---- what stands in the slices lasts

module _ (old new : Making) (g : Grows old new) where
  built_lasts : (op : Op) (first last id : NetId) → IsBuilt old.slices op first last id
      → IsBuilt new.slices op first last id
  built_lasts op first last id h = record {
    words = h.words;
    args = h.args;
    placed = placed_lasts old new g old.names h.words h.words (λ e i s. s) op h.args id h.placed;
    is_first = h.is_first;
    is_last = h.is_last;
    within = let l = g.longer in let w = h.within in omega (arith, l, w);
  }

  programmed_lasts : (n : ℕ) (id : NetId) → IsProgrammed old.slices n id → IsProgrammed new.slices n id
  programmed_lasts n id h = (
    h.0,
    subst (λ gs. Contains gs h.0) (sym g.programs.1)
        (Contains-append_left old.slices.programs g.programs.0 h.0 h.1),
    h.2,
    h.3,
    (let l = g.longer in let w = h.4 in omega (arith, l, w)),
  )

  pub all_last : (b : Built) → AreBuilt b old.slices → AreBuilt b new.slices
  all_last b h = record {
    operators = λ op first last id e. built_lasts op first last id (h.operators op first last id e);
    numbers = λ n id e. programmed_lasts n id (h.numbers n id e);
  }

-- an operator that stands on the nets of these arguments
pub placed_again : (s : SliceNet) (op : Op) (first last id : NetId) (words : List (Option NetId)) (args : List ℕ)
    → IsBuilt s op first last id → Stands words (slice_index_or args 0 0) first
    → Stands words (slice_index_or args (length args - 1) 0) last → Placed s words op args id
placed_again s op first last id words args h is_first is_last = record {
  kind = h.placed.kind;
  is_kind = h.placed.is_kind;
  a = h.placed.a;
  b = h.placed.b;
  before = h.placed.before;
  a_in = h.placed.a_in;
  b_in = h.placed.b_in;
  chains_in = h.placed.chains_in;
  grown = h.placed.grown;
  is_result = h.placed.is_result;
  is_a = subst (Stands words (slice_index_or args 0 0))
      (one_stands h.words (slice_index_or h.args 0 0) first h.placed.a h.is_first h.placed.is_a) is_first;
  is_b = subst (Stands words (slice_index_or args (length args - 1) 0))
      (one_stands h.words (slice_index_or h.args (length h.args - 1) 0) last h.placed.b h.is_last h.placed.is_b)
      is_last;
}

-- ---- notes

pub keeps_same : (b : Built) → KeepsNoted b b
keeps_same b = record { operators = λ op first last id e. e; numbers = λ n id e. e }

-- a note of an operator that had none
module _ (b c : Built) (op : Op) (first last net : NetId)
    (here : operator_in c op first last ≡ Some net)
    (others : (q : Op) (x y : NetId) → same_key (key_of op first last) (key_of q x y) ≡ false
    → operator_in c q x y ≡ operator_in b q x y)
    (numbers : (n : ℕ) → number_in c n ≡ number_in b n) where
  pub operator_keeps : operator_in b op first last ≡ None → KeepsNoted b c
  operator_keeps absent = record {
    operators = λ q x y id e.
        true_or_false (same_key (key_of op first last) (key_of q x y)) (operator_in c q x y ≡ Some id)
        (λ same. let k = key_means op q first last x y same in
        absurd (none-some id (sym absent ∙ (ap (λ o. operator_in b o first last) k.0
        ∙ (ap (λ i. operator_in b q i last) k.1 ∙ (ap (λ i. operator_in b q x i) k.2 ∙ e))))))
        (λ other. others q x y other ∙ e);
    numbers = λ n id e. numbers n ∙ e;
  }

  pub operator_built : (s : SliceNet) → AreBuilt b s → IsBuilt s op first last net → AreBuilt c s
  operator_built s h made = record {
    operators = λ q x y id e.
        true_or_false (same_key (key_of op first last) (key_of q x y)) (IsBuilt s q x y id)
        (λ same.
        let k = key_means op q first last x y same in
        let at : operator_in c q x y ≡ Some net =
        sym (ap (λ o. operator_in c o first last) k.0 ∙ (ap (λ i. operator_in c q i last) k.1
        ∙ ap (λ i. operator_in c q x i) k.2)) ∙ here in
        subst (IsBuilt s q x y) (same_Some net id (sym at ∙ e))
        (subst (λ i. IsBuilt s q x i net) k.2 (subst (λ i. IsBuilt s q i last net) k.1
        (subst (λ o. IsBuilt s o first last net) k.0 made))))
        (λ other. h.operators q x y id (sym (others q x y other) ∙ e));
    numbers = λ n id e. h.numbers n id (sym (numbers n) ∙ e);
  }

-- a note of a number that had none
module _ (b c : Built) (bits : ℕ) (net : NetId) (here : number_in c bits ≡ Some net)
    (others : (n : ℕ) → n ≢ bits → number_in c n ≡ number_in b n)
    (operators : (q : Op) (x y : NetId) → operator_in c q x y ≡ operator_in b q x y) where
  pub number_keeps : number_in b bits ≡ None → KeepsNoted b c
  number_keeps absent = record {
    operators = λ q x y id e. operators q x y ∙ e;
    numbers = λ n id e.
        elim (cases_eq n bits) [
          | inl same ↦ absurd (none-some id (sym absent ∙ (ap (number_in b) (sym same) ∙ e)))
          | inr ne ↦ others n ne ∙ e
        ];
  }

  pub number_built : (s : SliceNet) → AreBuilt b s → IsProgrammed s bits net → AreBuilt c s
  number_built s h made = record {
    operators = λ q x y id e. h.operators q x y id (sym (operators q x y) ∙ e);
    numbers = λ n id e.
        elim (cases_eq n bits) [
          | inl same ↦ subst (IsProgrammed s n) (same_Some net id (sym here ∙ (ap (number_in c) (sym same) ∙ e)))
              (subst (λ i. IsProgrammed s i net) (sym same) made)
          | inr ne ↦ h.numbers n id (sym (others n ne) ∙ e)
        ];
  }

-- ---- expressions that are noted

module _ (names : Names) (b c : Built) (words words_now : List (Option NetId)) (lifts lifts_now : List Lift)
    (keeps : KeepsNoted b c) (stay : (e : ℕ) (id : NetId) → Stands words e id → Stands words_now e id)
    (more : (l : Lift) → Contains lifts l → Contains lifts_now l) where
  noted_still : (op : Op) (args : List ℕ) (id : NetId) → IsNoted b words op args id → IsNoted c words_now op args id
  noted_still op args id h =
      (h.0, h.1, stay _ h.0 h.2, stay _ h.1 h.3, keeps.operators op h.0 h.1 id h.4)

  pub expr_still : (e : ℕ) (x : RtlExpr) → IsExprNoted names b words lifts e x
      → IsExprNoted names c words_now lifts_now e x
  expr_still e (Number n) h = (h.0, stay e h.0 h.1, keeps.numbers n h.0 h.2)
  expr_still e (Truth value) h = h
  expr_still e (Cell k) h = h
  expr_still e (Apply op index args) h = record {
    word = λ gives. let p = h.word gives in (p.0, stay e p.0 p.1, noted_still op args p.0 p.2);
    test = λ takes gives ne. let p = h.test takes gives ne in
        (p.0, more p.0 p.1, p.2, noted_still op args p.0.from p.3);
  }

-- ---- what stays

pub stays_same : (old new : Making) → new.names ≡ old.names → new.words ≡ old.words → new.lifts ≡ old.lifts
    → Stays old new
stays_same old new names words lifts = record {
  names = names;
  words = λ e id s. subst (λ ws. Stands ws e id) (sym words) s;
  lifts = λ l c. subst (λ ls. Contains ls l) (sym lifts) c;
}

pub read_stays : (e c : ℕ) (m : Making) → IsFree m.words e → Stays m (read_cell e c m)
read_stays e c m free = record {
  names = refl;
  words = λ d o s. get_set_other m.words e (slice_index_or m.cell_words c None) d
      (λ q. none-some o (same_Some None (Some o) (sym free ∙ (ap (slice_get m.words) (sym q) ∙ s)))) ∙ s;
  lifts = λ l k. k;
}
