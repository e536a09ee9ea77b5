-- A text that is written in pieces: what was written, what waits, and what is to come.
use Rattle.std.proofs.Common.{ℕ, ◌≡◌, ◌+◌, ◌<◌, refl, sym, ◌∙◌, ap, subst, arith, List, [], ◌∷◌, ◌++◌, length, take}
use Rattle.std.proofs.Common.{drop}
use Rattle.std.proofs.Common.{append_assoc, length-append, Option, Result, Ok, Err}
use Rattle.std.proofs.lemmas.List.{append-nil, length-drop, take-append-drop}
use Rattle.std.proofs.Math.Seq.{take-append_seam}
use Rattle.std.specs.Prelude.{codes}
use Rattle.outside.specs.Outside.{WhereTold, Gains}
use Rattle.outside.specs.Piece.{TakesAll}
use Rattle.outside.proofs.Told.{gains_twice, gains_nothing}
use Rattle.outside.proofs.Written.{gained, gained_then}
use Rattle.cif_form.specs.declared.command.Command.{Command}
use Rattle.cif_form.specs.Writing.{text_of}
use Rattle.cif_writer.specs.Texts.{file_text}
use Rattle.cif_emit.specs.Stream.{PutsOff}

-- a first part was written, then comes what waits, and then what is left
pub record IsAhead (before now : Option (List ℕ)) (text waiting left : List ℕ) : Type 0 where
  pub front : List ℕ
  pub split : text ≡ front ++ (waiting ++ left)
  pub written : WhereTold (Gains front) before now

-- the text of commands has at least its end
some_text : (cs : List Command) → 0 < length (file_text cs)
some_text [] = omega arith
some_text (c ∷ cs) =
    let a = some_text cs in
    omega (arith, length-append (text_of c) (codes ";\n" ++ file_text cs), length-append (codes ";\n") (file_text cs))

module _ (a b : Option (List ℕ)) (text waiting : List ℕ) where
  -- a command's text waits behind the others
  pub command_waits : (c : Command) (cs left : List Command) (new : List ℕ) → left ≡ c ∷ cs
      → new ≡ waiting ++ (text_of c ++ codes ";\n") → IsAhead a b text waiting (file_text left)
      → IsAhead a b text new (file_text cs)
  command_waits c cs left new e w p = record {
    front = p.front;
    split = p.split ∙ ap (λ t. p.front ++ t) (ap (λ ds. waiting ++ file_text ds) e
        ∙ ap (λ t. waiting ++ t) (sym (append_assoc (text_of c) (codes ";\n") (file_text cs)))
        ∙ sym (append_assoc waiting (text_of c ++ codes ";\n") (file_text cs))
        ∙ ap (λ t. t ++ file_text cs) (sym w));
    written = p.written;
  }

  -- a piece of what waits was written
  pub piece_written : {T E : Type 0} (u : T) (now : Option (List ℕ)) (new left : List ℕ) → IsAhead a b text waiting left
      → PutsOff {T = T} {E = E} b now waiting new (Ok u) → IsAhead a now text new left
  piece_written u now new left p q = record {
    front = p.front ++ q.front;
    split = p.split ∙ ap (λ t. p.front ++ (t ++ left)) (q.split ∙ ap (λ t. q.front ++ t) q.waits)
        ∙ ap (λ t. p.front ++ t) (append_assoc q.front new left)
        ∙ sym (append_assoc p.front q.front (new ++ left));
    written = gains_twice p.front q.front a b now p.written q.written;
  }

  -- where memory is wanting, some is left
  pub stopped : {T E : Type 0} (e : E) (new : List ℕ) (cs : List Command) (result : Result T E) → result ≡ Err e
      → IsAhead a b text waiting (file_text cs) → PutsOff {T = T} {E = E} a b text new result
  stopped {T} {E} e new cs result is p =
      let some = some_text cs in
      let P : Result T E → Type 0 = λ r. PutsOff {T = T} {E = E} a b text new r in
      subst P (sym is) (record {
        front = p.front;
        rest = waiting ++ file_text cs;
        split = p.split;
        written = p.written;
        waits = tt;
        cut = omega (arith, length-append waiting (file_text cs));
      })

  -- a piece was cut short
  pub piece_cut : {S T D E : Type 0} (d : D) (e : E) (now : Option (List ℕ)) (new last left : List ℕ)
      (result : Result T E) → result ≡ Err e → IsAhead a b text waiting left
      → PutsOff {T = S} {E = D} b now waiting new (Err d) → PutsOff {T = T} {E = E} a now text last result
  piece_cut {S} {T} {D} {E} d e now new last left result is p q =
      let P : Result T E → Type 0 = λ r. PutsOff {T = T} {E = E} a now text last r in
      subst P (sym is) (record {
        front = p.front ++ q.front;
        rest = q.rest ++ left;
        split = p.split ∙ ap (λ t. p.front ++ (t ++ left)) q.split
            ∙ ap (λ t. p.front ++ t) (append_assoc q.front q.rest left)
            ∙ sym (append_assoc p.front q.front (q.rest ++ left));
        written = gains_twice p.front q.front a b now p.written q.written;
        waits = tt;
        cut = omega (arith, length-append q.rest left, q.cut);
      })

  -- all the rest waits
  pub all_waits : {T E : Type 0} (u : T) (new : List ℕ) (cs : List Command) → cs ≡ [] → new ≡ waiting ++ codes "E\n"
      → IsAhead a b text waiting (file_text cs) → PutsOff {T = T} {E = E} a b text new (Ok u)
  all_waits u new cs e w p = record {
    front = p.front;
    rest = new;
    split = p.split ∙ ap (λ t. p.front ++ t) (ap (λ ds. waiting ++ file_text ds) e ∙ sym w);
    written = p.written;
    waits = refl;
    cut = tt;
  }

-- nothing was written yet
pub none_written : (a : Option (List ℕ)) (text waiting : List ℕ) → waiting ≡ [] → IsAhead a a text waiting text
none_written a text waiting e = record {
  front = [];
  split = ap (λ w. w ++ text) (sym e);
  written = gains_nothing a;
}

-- ---- a piece

module _ {T E : Type 0} where
  -- too little waits
  pub still_waits : (u : T) (a : Option (List ℕ)) (waiting : List ℕ)
      → PutsOff {T = T} {E = E} a a waiting waiting (Ok u)
  still_waits u a waiting = record {
    front = [];
    rest = waiting;
    split = refl;
    written = gains_nothing a;
    waits = refl;
    cut = tt;
  }

  pub all_written : {S D : Type 0} (v : S) (u : T) (a b : Option (List ℕ)) (waiting new : List ℕ)
      → TakesAll {T = S} {E = D} Gains a b waiting (Ok v) → new ≡ [] → PutsOff {T = T} {E = E} a b waiting new (Ok u)
  all_written v u a b waiting new taken none = record {
    front = waiting;
    rest = [];
    split = sym (append-nil waiting);
    written = gained v a b waiting taken;
    waits = sym none;
    cut = tt;
  }

  pub part_written : {S D : Type 0} (d : D) (e : E) (a b : Option (List ℕ)) (piece waiting new : List ℕ)
      (result : Result T E) → piece ≡ waiting → result ≡ Err e → TakesAll {T = S} {E = D} Gains a b piece (Err d)
      → PutsOff a b waiting new result
  part_written d e a b piece waiting new result same is taken =
      let P : Result T E → Type 0 = λ r. PutsOff a b waiting new r in
      subst P (sym is) (record {
        front = take taken.count piece;
        rest = drop taken.count piece;
        split = sym same ∙ sym (take-append-drop taken.count piece);
        written = taken.taken;
        waits = tt;
        cut = omega (arith, length-drop taken.count piece, taken.cut);
      })

-- ---- the whole text

module _ {T E : Type 0} (a b : Option (List ℕ)) (text whole : List ℕ) (same : text ≡ whole) where
  pub written_part : {S D : Type 0} (d : D) (e : E) (waiting : List ℕ) (result : Result T E) → result ≡ Err e
      → PutsOff {T = S} {E = D} a b text waiting (Err d) → TakesAll {T = T} {E = E} Gains a b whole result
  written_part d e waiting result is p =
      let all : whole ≡ p.front ++ p.rest = sym same ∙ p.split in
      let long : length whole ≡ length p.front + length p.rest = ap length all ∙ length-append p.front p.rest in
      let P : List ℕ → Type 0 = λ t. WhereTold (Gains t) a b in
      let Q : Result T E → Type 0 = λ r. TakesAll {T = T} {E = E} Gains a b whole r in
      subst Q (sym is) (record {
        count = length p.front;
        within = omega arith;
        all = tt;
        cut = omega (arith, p.cut);
        taken = subst P (sym (ap (take (length p.front)) all ∙ take-append_seam p.front p.rest)) p.written;
      })

  module _ {S D : Type 0} (v : S) (c : Option (List ℕ)) (piece waiting : List ℕ) (is_piece : piece ≡ waiting)
      (p : PutsOff {T = S} {E = D} a b text waiting (Ok v)) where
    behind : (result : Result T E) → TakesAll {T = T} {E = E} Gains b c piece result
        → TakesAll {T = T} {E = E} Gains a c whole result
    behind result taken =
        let all : whole ≡ p.front ++ piece = sym same ∙ p.split ∙ ap (λ t. p.front ++ t) (p.waits ∙ sym is_piece) in
        let P : List ℕ → Type 0 = λ t. TakesAll {T = T} {E = E} Gains a c t result in
        subst P (sym all) (gained_then a b c p.front piece result p.written taken)

    -- what waited at the end was written behind all that was
    pub written_whole : {R C : Type 0} (u : R) (w : T) → TakesAll {T = R} {E = C} Gains b c piece (Ok u)
        → TakesAll {T = T} {E = E} Gains a c whole (Ok w)
    written_whole u w t =
        behind (Ok w) (record { count = t.count; within = t.within; all = t.all; cut = tt; taken = t.taken })

    -- or it was cut short
    pub written_short : {R C : Type 0} (d : C) (e : E) (result : Result T E) → result ≡ Err e
        → TakesAll {T = R} {E = C} Gains b c piece (Err d) → TakesAll {T = T} {E = E} Gains a c whole result
    written_short d e result is t =
        let Q : Result T E → Type 0 = λ r. TakesAll {T = T} {E = E} Gains b c piece r in
        behind result (subst Q (sym is) (record {
          count = t.count;
          within = t.within;
          all = tt;
          cut = t.cut;
          taken = t.taken;
        }))

-- where memory was wanting before the first command, nothing was taken
pub nothing_taken : {T E : Type 0} (e : E) (a : Option (List ℕ)) (cs : List Command) (result : Result T E)
    → result ≡ Err e → TakesAll {T = T} {E = E} Gains a a (file_text cs) result
nothing_taken {T} {E} e a cs result is =
    let text = file_text cs in
    let none = stopped a a text [] {T = T} {E = E} e [] cs (Err e) refl (none_written a text [] refl) in
    written_part a a text text refl e e [] result is none
