-- A line as the code reads it, and what it does to the sketch. Assumes nothing.
use Rattle.std.specs.Prelude.{◌≡◌, refl, List, Bool, true, false, ◌&&◌, ℕ, ◌+◌, ◌*◌, ◌≤◌, ◌<◌, eqb, ℤ, pos, length, get_or, drop, set}
use Rattle.std.proofs.Common.{sym, ap, ◌∙◌, arith, get_or-set_same, get_or-set_other}
use Rattle.std.proofs.Math.Option.{Option, none, some}
use Rattle.std.proofs.Math.Decide.{ℕ_discrete, dec_lt}
use Rattle.std.proofs.Math.Seq.{set_out}
use borrow.Author.Tests.{eq-eqb, ne_eqb, lt-ltb, le-ltb}
use Rattle.whole.specs.Range.{in_range, InRange}
use Rattle.plan.specs.Limits.{most_cells, farthest}
use Rattle.listing.specs.Printed.{Bytes, sheet_word}
use Rattle.drawing_spec.specs.Words.{words, first, others, natural, integer}
use Rattle.drawing_spec.specs.Said.{hash, Line, passed, unread, gives, wrong, Sketch, begins, passes, numbered, by_words, line_said, goes, stops, with_cell, step}
use Rattle.drawing_spec.specs.declared.Fault.{Fault}
use Rattle.drawing_spec.specs.declared.Fault.TheVariants.{NoNumber, NoCell, Twice, Far}
use Rattle.drawing.specs.Steps.{beyond, capped, number_told, Cut, IntegerTold, NumberedTold, part, CornerTold, LineTold, Next, Held, sketch, stepped, Steps, Turned}
use Rattle.drawing.proofs.Laws.Numbers.{capped_low, capped_high}
use Rattle.whole.proofs.Laws.Range.{says_within}
use Rattle.whole.proofs.Laws.Says.{holds}
use Rattle.std.specs.Prelude.{Option as Option', Some, None, Result, Ok, Err, IsErrAnd, ⊤}
use Rattle.drawing.specs.declared.Span.{Span}
use Rattle.drawing.specs.declared.Corner.{Corner}

-- ---- lines that are passed over
module _ (f : Bool) (w : Bytes) where
  pub passes-empty : length w ≡ 0 → true ≡ passes f w
  unfolding passes
  passes-empty h = rw (eq-eqb (length w) 0 h)

  pub passes-hash : ¬ (length w ≡ 0) → get_or w 0 0 ≡ hash → true ≡ passes f w
  unfolding passes
  passes-hash n h = rw (ne_eqb (length w) 0 n, eq-eqb (get_or w 0 0) hash h)

  pub passes-later : ¬ (length w ≡ 0) → ¬ (get_or w 0 0 ≡ hash) → f ≡ false → false ≡ passes f w
  unfolding passes
  passes-later n h e = rw (ne_eqb (length w) 0 n, ne_eqb (get_or w 0 0) hash h, e)

  pub passes-sheet : (r : Bool) → ¬ (length w ≡ 0) → ¬ (get_or w 0 0 ≡ hash) → f ≡ true → r ≡ begins sheet_word w → r ≡ passes f w
  unfolding passes
  passes-sheet r n h e q = rw (ne_eqb (length w) 0 n, ne_eqb (get_or w 0 0) hash h, e) q

-- ---- three words
three-cell : (o : Option ℕ) (u v : Option ℤ) → None ≡ number_told o → NumberedTold (numbered o u v) None
unfolding numbered number_told
three-cell none u v e = tt
three-cell (some k) u v e = cc

three-x : (o : Option ℕ) (u v : Option ℤ) → IntegerTold u None → NumberedTold (numbered o u v) None
unfolding numbered
three-x none u v e = tt
three-x (some c) none v e = tt
three-x (some c) (some k) v e = absurd e

three-y : (o : Option ℕ) (u v : Option ℤ) → IntegerTold v None → NumberedTold (numbered o u v) None
unfolding numbered
three-y none u v e = tt
three-y (some c) none v e = tt
three-y (some c) (some a) none e = tt
three-y (some c) (some a) (some k) e = absurd e

three-all : (c : ℕ) (x y : ℤ) (o : Option ℕ) (u v : Option ℤ) → Some c ≡ number_told o → IntegerTold u (Some x) → IntegerTold v (Some y) → NumberedTold (numbered o u v) (Some (record { cell = c; x = x; y = y }))
unfolding numbered number_told
three-all c x y none u v a b d = cc
three-all c x y (some k) none v a b d = absurd b
three-all c x y (some k) (some z) none a b d = absurd d
three-all c x y (some k) (some z) (some w) a b d = record { cell = cc; x_cut = b; y_cut = d }

-- the words as the code finds them
module _ (line : Bytes) (a : Span) where
  pub corner-cell : None ≡ number_told (natural (part line a)) → CornerTold line a None
  corner-cell e = three-cell _ _ _ e

  module _ (b : Span) (nb : Next line a.end b) where
    x_word : (r : Option' ℤ) → IntegerTold (integer (part line b)) r → IntegerTold (integer (first (words (drop a.end line)))) r
    x_word r h = rw nb.word h

    pub corner-x : IntegerTold (integer (part line b)) None → CornerTold line a None
    corner-x e = three-x _ _ _ (x_word None e)

    module _ (d : Span) (nd : Next line b.end d) where
      y_word : (r : Option' ℤ) → IntegerTold (integer (part line d)) r → IntegerTold (integer (first (others (words (drop a.end line))))) r
      y_word r h = let q : first (others (words (drop a.end line))) ≡ part line d = ap first nb.rest ∙ nd.word in rw q h

      pub corner-y : IntegerTold (integer (part line d)) None → CornerTold line a None
      corner-y e = three-y _ _ _ (y_word None e)

      pub corner-all : (c : ℕ) (x y : ℤ) → Some c ≡ number_told (natural (part line a)) → IntegerTold (integer (part line b)) (Some x) → IntegerTold (integer (part line d)) (Some y)
          → CornerTold line a (Some (record { cell = c; x = x; y = y }))
      corner-all c x y p q r = three-all c x y _ _ _ p (x_word (Some x) q) (y_word (Some y) r)

-- ---- a line
module _ (line : Bytes) (k : ℕ) (a : Span) (na : Next line 0 a) where
  pub line_pass : passes (eqb k 1) (part line a) ≡ true → LineTold k (line_said k line) (Ok None)
  unfolding line_said by_words
  line_pass p = let q : passes (eqb k 1) (first (words line)) ≡ true = ap (passes (eqb k 1)) na.word ∙ p in rw q refl

  line-numbers : passes (eqb k 1) (part line a) ≡ false
      → line_said k line ≡ numbered (natural (part line a)) (integer (first (words (drop a.end line)))) (integer (first (others (words (drop a.end line)))))
  unfolding line_said by_words
  line-numbers p =
      let q : passes (eqb k 1) (first (words line)) ≡ false = ap (passes (eqb k 1)) na.word ∙ p in
      rw q (ap (λ (w : Bytes). numbered (natural w) (integer (first (others (words line)))) (integer (first (others (others (words line)))))) na.word
      ∙ ap (λ (ws : List Bytes). numbered (natural (part line a)) (integer (first ws)) (integer (first (others ws)))) na.rest)

  told-none : (l : Line) → NumberedTold l None → LineTold k l (Err (NoNumber k))
  told-none passed h = absurd h
  told-none unread h = refl
  told-none (gives c x y) h = absurd h

  told-some : (l : Line) (r : Corner) → NumberedTold l (Some r) → LineTold k l (Ok (Some r))
  told-some passed r h = absurd h
  told-some unread r h = absurd h
  told-some (gives c x y) r h = h

  pub line-unread : passes (eqb k 1) (part line a) ≡ false → CornerTold line a None → LineTold k (line_said k line) (Err (NoNumber k))
  line-unread p h = rw (line-numbers p) (told-none _ h)

  pub line-gives : passes (eqb k 1) (part line a) ≡ false → (r : Corner) → CornerTold line a (Some r) → LineTold k (line_said k line) (Ok (Some r))
  line-gives p r h = rw (line-numbers p) (told-some _ r h)

-- ---- what a line does to the sketch
held_set : (ps : List ℤ) (i : ℕ) (z : ℤ) → Held ps → InRange farthest z → Held (set ps i z)
held_set ps i z h k j = go (ℕ_discrete j i) (dec_lt i (length ps))
  where
    go : Dec (j ≡ i) → Dec (i < length ps) → InRange farthest (get_or (set ps i z) j (pos 0))
    go (yes e) (yes l) = rw (e, get_or-set_same ps i z (pos 0) l) k
    go (yes e) (no l) = rw (set_out ps i z (omega arith)) (h j)
    go (no n) d = rw (get_or-set_other ps i j z (pos 0) n) (h j)

pub held_corner : (ps : List ℤ) (c : ℕ) (x y : ℤ) → Held ps → InRange farthest x → InRange farthest y → Held (set (set ps (2 * c) x) (2 * c + 1) y)
held_corner ps c x y h a b = held_set (set ps (2 * c) x) (2 * c + 1) y (held_set ps (2 * c) x h a) b

-- a number of a cell, as the code has it
cell_small : (n c m : ℕ) → n ≤ most_cells → m ≡ capped c → m < n → c ≡ m
cell_small n c m few e h = elim (dec_lt farthest c) [ yes l ↦ absurd (omega (arith, capped_high c l)) | no l ↦ sym (e ∙ capped_low c (omega arith)) ]

cell-large : (n c m : ℕ) → n ≤ most_cells → m ≡ capped c → n ≤ m → n ≤ c
cell-large n c m few e h = elim (dec_lt farthest c) [ yes l ↦ omega arith | no l ↦ omega (arith, capped_low c (omega arith)) ]

both_in : (a b : Bool) → a ≡ true → b ≡ true → a && b ≡ true
both_in a b p q = rw (p, q)

first_out : (a b : Bool) → a ≡ false → a && b ≡ false
first_out a b p = rw p

second_out : (a b : Bool) → b ≡ false → a && b ≡ false
second_out true b p = p
second_out false b p = refl

module _ (n k : ℕ) (g : List ℕ) (ps : List ℤ) (c : ℕ) (x y : ℤ) where
  step-beyond : n ≤ c → step n k (sketch g ps) (gives c x y) ≡ stops (wrong (NoCell k))
  unfolding step
  step-beyond h = rw (le-ltb c n h)

  step_twice : c < n → ¬ (get_or g c 0 ≡ 0) → step n k (sketch g ps) (gives c x y) ≡ stops (wrong (Twice k c))
  unfolding step
  step_twice h d = rw (lt-ltb c n h, ne_eqb (get_or g c 0) 0 d)

  step-far : c < n → get_or g c 0 ≡ 0 → in_range farthest x && in_range farthest y ≡ false → step n k (sketch g ps) (gives c x y) ≡ stops (wrong (Far k))
  unfolding step
  step-far h d e = rw (lt-ltb c n h, eq-eqb (get_or g c 0) 0 d, e)

  step-near : c < n → get_or g c 0 ≡ 0 → in_range farthest x && in_range farthest y ≡ true → step n k (sketch g ps) (gives c x y) ≡ goes (sketch (set g c 1) (set (set ps (2 * c) x) (2 * c + 1) y))
  unfolding step with_cell
  step-near h d e = rw (lt-ltb c n h, eq-eqb (get_or g c 0) 0 d, e)

step-passed : (n k : ℕ) (g : List ℕ) (ps : List ℤ) → step n k (sketch g ps) passed ≡ goes (sketch g ps)
unfolding step
step-passed n k g ps = refl

step-unread : (n k : ℕ) (g : List ℕ) (ps : List ℤ) → step n k (sketch g ps) unread ≡ stops (wrong (NoNumber k))
unfolding step
step-unread n k g ps = refl

pub stepped_ok : (s : Sketch) (u : ⊤) → stepped s (Ok u) ≡ goes s
unfolding stepped
stepped_ok s u = refl

pub stepped-err : (s : Sketch) (f : Fault) → stepped s (Err f) ≡ stops (wrong f)
unfolding stepped
stepped-err s f = refl

-- ---- a corner is noted, or not
module _ (n k : ℕ) (t : Corner) (g : List ℕ) (ps : List ℤ) (few : n ≤ most_cells) (h : Held ps) where
  pub steps-beyond : n ≤ t.cell → Steps n k t g ps g ps (Err (NoCell k))
  steps-beyond l = record { is = λ c x y p. step-beyond n k g ps c x y (cell-large n c t.cell few p.cell l) ∙ sym (stepped-err (sketch g ps) (NoCell k)); held = h }

  module _ (i : t.cell < n) where
    pub steps_twice : ¬ (get_or g t.cell 0 ≡ 0) → Steps n k t g ps g ps (Err (Twice k t.cell))
    steps_twice d = record {
      is = λ c x y p.
          let e = cell_small n c t.cell few p.cell i in
          rw e (step_twice n k g ps t.cell x y i d) ∙ sym (stepped-err (sketch g ps) (Twice k t.cell));
      held = h;
    }

    module _ (d : get_or g t.cell 0 ≡ 0) where
      steps-far : ((x y : ℤ) → Cut x t.x → Cut y t.y → in_range farthest x && in_range farthest y ≡ false) → Steps n k t g ps g ps (Err (Far k))
      steps-far q = record {
        is = λ c x y p.
            let e = cell_small n c t.cell few p.cell i in
            rw e (step-far n k g ps t.cell x y i d (q x y p.x_cut p.y_cut)) ∙ sym (stepped-err (sketch g ps) (Far k));
        held = h;
      }

      -- x and y as the machine reads them back
      module _ (u v : ℤ) (x_back : InRange beyond t.x → u ≡ t.x) (y_back : InRange beyond t.y → v ≡ t.y) where
        x_same : (x : ℤ) → Cut x t.x → in_range farthest u ≡ in_range farthest x
        x_same x a = ap (in_range farthest) (x_back a.small) ∙ a.same

        y_same : (y : ℤ) → Cut y t.y → in_range farthest v ≡ in_range farthest y
        y_same y b = ap (in_range farthest) (y_back b.small) ∙ b.same

        pub steps-x : in_range farthest u ≡ false → Steps n k t g ps g ps (Err (Far k))
        steps-x q = steps-far (λ x y a b. first_out (in_range farthest x) (in_range farthest y) (sym (x_same x a) ∙ q))

        pub steps-y : in_range farthest v ≡ false → Steps n k t g ps g ps (Err (Far k))
        steps-y q = steps-far (λ x y a b. second_out (in_range farthest x) (in_range farthest y) (sym (y_same y b) ∙ q))

        pub steps-near : in_range farthest u ≡ true → in_range farthest v ≡ true → (g' : List ℕ) (ps' : List ℤ) → g' ≡ set g t.cell 1 → ps' ≡ set (set ps (2 * t.cell) u) (2 * t.cell + 1) v
            → (r : ⊤) → Steps n k t g ps g' ps' (Ok r)
        steps-near q r g' ps' f w o = record {
          is = λ c x y p.
              let e = cell_small n c t.cell few p.cell i in
              let a : in_range farthest x ≡ true = sym (x_same x p.x_cut) ∙ q in
              let b : in_range farthest y ≡ true = sym (y_same y p.y_cut) ∙ r in
              let m : u ≡ x = x_back p.x_cut.small ∙ p.x_cut.near a in
              let l : v ≡ y = y_back p.y_cut.small ∙ p.y_cut.near b in
              let z : step n k (sketch g ps) (gives c x y) ≡ goes (sketch g' ps') = rw (f, w, m, l, e) (step-near n k g ps t.cell x y i d (both_in (in_range farthest x) (in_range farthest y) a b)) in
              z ∙ sym (stepped_ok (sketch g' ps') o);
          held = rw w (held_corner ps t.cell u v h (holds (says_within farthest u) q) (holds (says_within farthest v) r));
        }

-- ---- a line is noted, or not
-- what `?` hands on
pub that_fault : (y : Result ⊤ Fault) (f : Fault) → IsErrAnd y (λ d. d ≡ f) → y ≡ Err f
that_fault (Ok u) f p = absurd p
that_fault (Err d) f p = ap Err p

module _ (n k : ℕ) (line : Bytes) (g : List ℕ) (ps : List ℤ) where
  pub turned-none : Held ps → (r : Result (Option' Corner) Fault) → LineTold k (line_said k line) r → r ≡ Ok None → (u : ⊤) → Turned n k line g ps g ps (Ok u)
  turned-none h r t e u = record { is = go (line_said k line) (rw e at t) ∙ sym (stepped_ok (sketch g ps) u); held = h }
    where
      go : (l : Line) → LineTold k l (Ok None) → step n k (sketch g ps) l ≡ goes (sketch g ps)
      go passed q = step-passed n k g ps
      go unread q = cc
      go (gives c x y) q = absurd q

  pub turned-fault : Held ps → (f : Fault) → LineTold k (line_said k line) (Err f) → (y : Result ⊤ Fault) → IsErrAnd y (λ d. d ≡ f) → Turned n k line g ps g ps y
  turned-fault h f t y p = record { is = go (line_said k line) t ∙ ap (stepped (sketch g ps)) (sym (that_fault y f p)); held = h }
    where
      go : (l : Line) → LineTold k l (Err f) → step n k (sketch g ps) l ≡ stepped (sketch g ps) (Err f)
      go passed q = cc
      go unread q = let e : f ≡ NoNumber k = cc in step-unread n k g ps ∙ ap (λ x. stops (wrong x)) (sym e) ∙ sym (stepped-err (sketch g ps) f)
      go (gives c x y) q = absurd q
