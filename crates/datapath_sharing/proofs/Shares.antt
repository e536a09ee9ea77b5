-- What a step makes of an expression that may share its nets.
use Rattle.std.proofs.Common.{◌≡◌, ℕ, ◌<◌, ◌≤◌, ◌-◌, ◌+◌, List, [], ◌∷◌, ◌++◌, Option, Some, None, true, false, Result}
use Rattle.std.proofs.Common.{Ok, Err, length, length-append, refl, sym, ◌∙◌, ap, subst, arith}
use Rattle.std.specs.Prelude.{◌≢◌, Contains, OnOk, slice_get, slice_index_or}
use Rattle.std.proofs.lemmas.Bool.{false≢true, true≢false}
use Rattle.std.proofs.lemmas.Option.{same_Some}
use Rattle.std.proofs.lemmas.List.Elements.{All-contains, Contains-append_left, Contains-push}
use Rattle.mp_base.specs.declared.op.Op.{Op}
use Rattle.mp_base.specs.declared.op.Op.TheVariants as ops
use Rattle.nor_net.specs.declared.net.NetId.{NetId}
use Rattle.organelles.specs.declared.slices.SliceNet.{SliceNet}
use Rattle.rtl_form.specs.Cost.{op_cost}
use Rattle.rtl_form.specs.declared.rtl.RtlExpr.TheVariants.{Number, Apply}
use Rattle.rtl_form.specs.Operands.{gives_word, takes_words}
use Rattle.control_nor.specs.Lowering.{Stands}
use Rattle.path_form.specs.declared.path.Lift.{Lift}
use Rattle.path_form.specs.Shape.{is_fed}
use Rattle.path_values.specs.Allocated.{Placed}
use Rattle.datapath_making.specs.declared.making.Making.{Making}
use Rattle.datapath_making.specs.Growing.{Appends}
use Rattle.datapath_making.specs.Steps.{IsFree, IsNumberMade, IsOperatorMade, IsStep, IsTestMade}
use Rattle.datapath_making.proofs.Keeping.{nothing_more}
use Rattle.datapath_making.proofs.Lists.{get_by, set_keeps, set_stands}
use Rattle.datapath_making.proofs.Lists.{one_stands}
use Rattle.datapath_sharing.specs.declared.built.Built.{Built}
use Rattle.datapath_sharing.specs.Sharing.{AreBuilt, IsLiftMade, IsNoted, IsShared, Stays, key_of, number_in}
use Rattle.datapath_sharing.specs.Sharing.{operator_in, same_key, with_word}
use Rattle.datapath_sharing.proofs.Sharing.{all_last, keeps_same, number_built, number_keeps, operator_built}
use Rattle.datapath_sharing.proofs.Sharing.{operator_keeps, placed_again}

-- ---- steps that cost less

pub step_within : (c x most more : ℕ) (old new : Making) → c ≤ most → x ≤ more → IsStep c x old new
    → IsStep most more old new
step_within c x most more old new l n h = record {
  grows = h.grows;
  spends = record {
    nets = let s = h.spends.nets in omega (arith, s, l);
    inputs = let s = h.spends.inputs in omega (arith, s, l);
    columns = let s = h.spends.columns in omega (arith, s, l);
    crossings = let s = h.spends.crossings in omega (arith, s, n);
  };
  marks = h.marks;
  made = h.made;
}

pub tests_cost : (op : Op) (n : ℕ) → takes_words op ≡ true → gives_word op ≡ false → 1 ≤ op_cost op n
tests_cost ops.Bit n takes gives = omega arith
tests_cost ops.Zero n takes gives = omega arith
tests_cost ops.Equal n takes gives = omega arith
tests_cost ops.Less n takes gives = omega arith
tests_cost ops.And n takes gives = absurd (false≢true takes)
tests_cost ops.Or n takes gives = absurd (false≢true takes)
tests_cost ops.Nor n takes gives = absurd (false≢true takes)
tests_cost ops.Nand n takes gives = absurd (false≢true takes)
tests_cost ops.Xor n takes gives = absurd (false≢true takes)
tests_cost ops.Not n takes gives = absurd (false≢true takes)
tests_cost op n takes gives = omega arith

appends_none : (old : Making) → Appends old.slices.net old.slices.net
appends_none old = nothing_more (λ q. is_fed q ≡ true) old.slices.net

-- ---- what holds at each answer

pub anyway : {T E : Type 0} (P : Type 0) (o : Result T E) → P → OnOk o P
anyway P (Ok t) h = h
anyway P (Err e) h = tt

pub done_three : {T E : Type 0} (P Q R S : Type 0) (o : Result T E) → (P → Q → R → S) → OnOk o P → OnOk o Q → OnOk o R
    → OnOk o S
done_three P Q R S (Ok t) f h k l = f h k l
done_three P Q R S (Err e) f h k l = h

-- ---- what stays

set_stays : (e : ℕ) (old new : Making) (id : NetId) → IsFree old.words e → new.names ≡ old.names
    → new.words ≡ (with_word e id old).words → new.lifts ≡ old.lifts → Stays old new
set_stays e old new id free names words lifts = record {
  names = names;
  words = λ d o s. subst (λ ws. Stands ws d o) (sym words) (set_keeps old.words e id d o free s);
  lifts = λ l c. subst (λ ls. Contains ls l) (sym lifts) c;
}

word_stays : (e : ℕ) (id : NetId) (old : Making) → IsFree old.words e → Stays old (with_word e id old)
word_stays e id old free = set_stays e old (with_word e id old) id free refl refl refl

pub lift_stays : (old new : Making) (lift : Lift) → new.names ≡ old.names → new.words ≡ old.words
    → new.lifts ≡ old.lifts ++ lift ∷ [] → Stays old new
lift_stays old new lift names words lifts = record {
  names = names;
  words = λ d o s. subst (λ ws. Stands ws d o) (sym words) s;
  lifts = λ l c. subst (λ ls. Contains ls l) (sym lifts) (Contains-append_left old.lifts (lift ∷ []) l c);
}

-- what stands last is what was pushed
last_pushed : (xs ys : List Lift) (x y : Lift) → ys ≡ xs ++ x ∷ [] → slice_get ys (length ys - 1) ≡ Some y → x ≡ y
last_pushed xs ys x y e at = same_Some x y (sym here ∙ (ap (slice_get ys) place ∙ at))
  where
    here : slice_get ys (length xs) ≡ Some x
    here = ap (λ zs. slice_get zs (length xs)) e ∙ get_by xs (x ∷ []) (length xs) 0 (omega arith)

    place : length xs ≡ length ys - 1
    place = let n : length ys ≡ length xs + 1 = ap length e ∙ length-append xs (x ∷ []) in omega (arith, n)

-- the word that was made
pub number_stands : (e bits : ℕ) (old new : Making) (made : IsNumberMade e bits old new) → IsFree old.words e
    → Stands new.words e made.program.net
number_stands e bits old new made free =
    subst (λ ws. Stands ws e made.program.net) (sym made.words) (set_stands old.words e made.program.net free)

pub operator_stands : (e : ℕ) (op : Op) (args : List ℕ) (old new : Making) (made : IsOperatorMade e op args old new)
    → IsFree old.words e → Stands new.words e made.id
operator_stands e op args old new made free =
    subst (λ ws. Stands ws e made.id) (sym made.words) (set_stands old.words e made.id free)

-- the lifts after a test are not none
pub some_lifts : (e : ℕ) (op : Op) (args : List ℕ) (old new : Making) → IsTestMade e op args old new
    → 0 < length new.lifts
some_lifts e op args old new made =
    let n : length new.lifts ≡ length old.lifts + 1 =
    ap length made.lifts ∙ length-append old.lifts (made.lift ∷ []) in
    omega (arith, n)

-- ---- numbers

module _ (e bits : ℕ) (b : Built) (old : Making) (word : NetId) (h : AreBuilt b old.slices)
    (is : number_in b bits ≡ Some word) (free : IsFree old.words e) where
  pub number_again : IsNumberMade e bits old (with_word e word old)
  number_again =
      let p = h.numbers bits word is in
      record {
        program = p.0;
        is_program = p.1;
        bits = p.2;
        words = ap (λ i. (with_word e i old).words) (sym p.3);
        cells = refl;
        pads = refl;
        lifts = refl;
        appends = appends_none old;
      }

  pub number_shared : IsShared e (Number bits) b b old (with_word e word old)
  number_shared = record {
    stays = word_stays e word old free;
    built = h;
    keeps = keeps_same b;
    noted = (word, set_stands old.words e word free, is);
  }

module _ (e bits : ℕ) (b c : Built) (old new : Making) (word : NetId) (h : AreBuilt b old.slices)
    (step : IsStep 1 0 old new) (made : IsNumberMade e bits old new) (stands : Stands new.words e word)
    (absent : number_in b bits ≡ None) (free : IsFree old.words e)
    (here : number_in c bits ≡ Some word)
    (others : (n : ℕ) → n ≢ bits → number_in c n ≡ number_in b n)
    (operators : (q : Op) (x y : NetId) → operator_in c q x y ≡ operator_in b q x y) where
  program_is : made.program.net ≡ word
  program_is =
      one_stands new.words e made.program.net word (number_stands e bits old new made free) stands

  pub number_noted : IsShared e (Number bits) b c old new
  number_noted = record {
    stays = set_stays e old new made.program.net free step.grows.names made.words made.lifts;
    built = number_built b c bits word here others operators new.slices (all_last old new step.grows b h)
        (made.program, made.is_program, made.bits, program_is, step.made.named.words_in e word stands);
    keeps = number_keeps b c bits word here others operators absent;
    noted = (word, stands, here);
  }

-- ---- operators

module _ (e : ℕ) (op : Op) (index : ℕ) (args : List ℕ) (b : Built) (old : Making) (first last : NetId)
    (h : AreBuilt b old.slices) (is_first : Stands old.words (slice_index_or args 0 0) first)
    (is_last : Stands old.words (slice_index_or args (length args - 1) 0) last) where
  -- ---- words

  module _ (gives : gives_word op ≡ true) (free : IsFree old.words e) where
    noted_on : (words : List (Option NetId)) (made id : NetId) (c : Built) → words ≡ (with_word e made old).words
        → operator_in c op first last ≡ Some id → IsNoted c words op args id
    noted_on words made id c ws is = (
      first,
      last,
      subst (λ xs. Stands xs (slice_index_or args 0 0) first) (sym ws)
          (set_keeps old.words e made (slice_index_or args 0 0) first free is_first),
      subst (λ xs. Stands xs (slice_index_or args (length args - 1) 0) last) (sym ws)
          (set_keeps old.words e made (slice_index_or args (length args - 1) 0) last free is_last),
      is,
    )

    module _ (word : NetId) (is : operator_in b op first last ≡ Some word) where
      pub word_again : IsOperatorMade e op args old (with_word e word old)
      word_again = record {
        id = word;
        placed = placed_again old.slices op first last word old.words args (h.operators op first last word is) is_first
            is_last;
        words = refl;
        cells = refl;
        pads = refl;
        lifts = refl;
        appends = appends_none old;
      }

      pub word_shared : IsShared e (Apply op index args) b b old (with_word e word old)
      word_shared = record {
        stays = word_stays e word old free;
        built = h;
        keeps = keeps_same b;
        noted = record {
          word = λ g. (
            word,
            set_stands old.words e word free,
            noted_on (with_word e word old).words word word b refl is,
          );
          test = λ t g ne. absurd (true≢false (sym gives ∙ g));
        };
      }

    module _ (c : Built) (new : Making) (word : NetId) (cost : ℕ) (step : IsStep cost 0 old new)
        (made : IsOperatorMade e op args old new) (stands : Stands new.words e word)
        (absent : operator_in b op first last ≡ None) (here : operator_in c op first last ≡ Some word)
        (others : (q : Op) (x y : NetId) → same_key (key_of op first last) (key_of q x y) ≡ false
        → operator_in c q x y ≡ operator_in b q x y)
        (numbers : (n : ℕ) → number_in c n ≡ number_in b n) where
      made_is : made.id ≡ word
      made_is =
          one_stands new.words e made.id word (operator_stands e op args old new made free) stands

      pub word_noted : IsShared e (Apply op index args) b c old new
      word_noted = record {
        stays = set_stays e old new made.id free step.grows.names made.words made.lifts;
        built = operator_built b c op first last word here others numbers new.slices
            (all_last old new step.grows b h) (record {
              words = old.words;
              args = args;
              placed = subst (Placed new.slices old.words op args) made_is made.placed;
              is_first = is_first;
              is_last = is_last;
              within = step.made.named.words_in e word stands;
            });
        keeps = operator_keeps b c op first last word here others numbers absent;
        noted = record {
          word = λ g. (word, stands, noted_on new.words made.id word c made.words here);
          test = λ t g ne. absurd (true≢false (sym gives ∙ g));
        };
      }

  -- ---- tests

  module _ (gives : gives_word op ≡ false) (new : Making) (names : new.names ≡ old.names)
      (words : new.words ≡ old.words) where
    tested_on : (id : NetId) (c : Built) → operator_in c op first last ≡ Some id → IsNoted c new.words op args id
    tested_on id c is = (
      first,
      last,
      subst (λ xs. Stands xs (slice_index_or args 0 0) first) (sym words) is_first,
      subst (λ xs. Stands xs (slice_index_or args (length args - 1) 0) last) (sym words) is_last,
      is,
    )

    module _ (from : NetId) (is : operator_in b op first last ≡ Some from) (lifted : IsLiftMade e from old new) where
      pub answer_again : IsTestMade e op args old new
      answer_again = record {
        lift = lifted.lift;
        is_entry = lifted.is_entry;
        is_top = lifted.is_top;
        placed = subst (λ s. Placed s old.words op args lifted.lift.from) (sym lifted.slices)
            (subst (Placed old.slices old.words op args) (sym lifted.is_from)
            (placed_again old.slices op first last from old.words args (h.operators op first last from is) is_first
            is_last));
        lifts = lifted.lifts;
        words = lifted.words;
        cells = lifted.cells;
        pads = lifted.pads;
        appends = subst (λ (s : SliceNet). Appends old.slices.net s.net) (sym lifted.slices)
            (appends_none old);
      }

      pub answer_shared : IsShared e (Apply op index args) b b old new
      answer_shared = record {
        stays = lift_stays old new lifted.lift names words lifted.lifts;
        built = subst (AreBuilt b) (sym lifted.slices) h;
        keeps = keeps_same b;
        noted = record {
          word = λ g. absurd (true≢false (sym g ∙ gives));
          test = λ t g ne. (
            lifted.lift,
            subst (λ ls. Contains ls lifted.lift) (sym lifted.lifts) (Contains-push old.lifts lifted.lift),
            lifted.is_entry,
            subst (IsNoted b new.words op args) (sym lifted.is_from) (tested_on from b is),
          );
        };
      }

    module _ (c : Built) (last_one : Lift) (cost : ℕ) (step : IsStep cost 1 old new)
        (made : IsTestMade e op args old new)
        (at : slice_get new.lifts (length new.lifts - 1) ≡ Some last_one)
        (absent : operator_in b op first last ≡ None) (here : operator_in c op first last ≡ Some last_one.from)
        (others : (q : Op) (x y : NetId) → same_key (key_of op first last) (key_of q x y) ≡ false
        → operator_in c q x y ≡ operator_in b q x y)
        (numbers : (n : ℕ) → number_in c n ≡ number_in b n) where
      from_is : made.lift.from ≡ last_one.from
      from_is = ap (λ (l : Lift). l.from) (last_pushed old.lifts new.lifts made.lift last_one made.lifts at)

      is_lifted : Contains new.lifts made.lift
      is_lifted = subst (λ ls. Contains ls made.lift) (sym made.lifts) (Contains-push old.lifts made.lift)

      lift_within : (l : Lift) → Contains new.lifts l → l.from.0 < length new.slices.net
      lift_within l k =
          (All-contains (λ (k : Lift). (k.slice < new.width) × (k.from.0 < length new.slices.net)) new.lifts
          l step.made.joined.lifts_in k).1

      pub answer_noted : IsShared e (Apply op index args) b c old new
      answer_noted = record {
        stays = lift_stays old new made.lift names words made.lifts;
        built = operator_built b c op first last last_one.from here others numbers new.slices
            (all_last old new step.grows b h) (record {
              words = old.words;
              args = args;
              placed = subst (Placed new.slices old.words op args) from_is made.placed;
              is_first = is_first;
              is_last = is_last;
              within = let l = lift_within made.lift is_lifted in let e = ap (λ (i : NetId). i.0) from_is in
                  omega (arith, l, e);
            });
        keeps = operator_keeps b c op first last last_one.from here others numbers absent;
        noted = record {
          word = λ g. absurd (true≢false (sym g ∙ gives));
          test = λ t g ne. (
            made.lift,
            is_lifted,
            made.is_entry,
            subst (IsNoted c new.words op args) (sym from_is) (tested_on last_one.from c here),
          );
        };
      }

-- ---- where nothing is shared

-- an operator of bits, and a bit of a word
pub plain_shared : (e : ℕ) (op : Op) (index : ℕ) (args : List ℕ) (b : Built) (old new : Making)
    → AreBuilt b old.slices → Stays old new → new.slices ≡ old.slices → gives_word op ≡ false
    → (takes_words op ≡ true → (op ≡ ops.Bit → ⊥) → ⊥)
    → IsShared e (Apply op index args) b b old new
plain_shared e op index args b old new h stays slices gives never = record {
  stays = stays;
  built = subst (AreBuilt b) (sym slices) h;
  keeps = keeps_same b;
  noted = record {
    word = λ g. absurd (true≢false (sym g ∙ gives));
    test = λ t g ne. absurd (never t ne);
  };
}
