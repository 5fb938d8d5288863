-- A cell's line, as the code reads it. Assumes nothing.
use Rattle.std.specs.Prelude.{◌≡◌, List, [], ◌∷◌, Bool, true, false, ◌&&◌, cond, ℕ, suc, ◌+◌, ◌-◌, ◌≤◌, eqb, ltb, length, drop, Some, None, IfSome, Result, Ok, Err, IsErrAnd}
use Rattle.std.specs.Option.{unwrap_or}
use Rattle.std.proofs.Math.Path.{refl}
use Rattle.std.proofs.Common.{sym, ◌∙◌, arith, length-drop, eq-eqb, ne_eqb}
use Rattle.std.proofs.Math.Option.{Option, none, some}
use Rattle.std.proofs.Math.ListN.{take}
use Rattle.std.proofs.Math.Seq.{length-take-le}
use Rattle.plan.specs.Questions.{lower}
use Rattle.plan.specs.Limits.{no_parent}
use Rattle.listing.specs.Printed.{Bytes}
use Rattle.outline_spec.specs.Outline.{width_word, depth_word, rank_word, under_word, last_less, nearest, level_under, border, natural}
use Rattle.outline_spec.specs.declared.Fault.{Fault}
use Rattle.outline_spec.specs.declared.Fault.TheVariants.{Misplaced}
use Rattle.outline_spec.specs.Understood.{Line, wrong, cell, or_usual, optional, labelled, placed, told, fields_read, most_pair, most_byte}
use Rattle.compose_fields.specs.Steps.{given_of, went, Options, text_in, label_in, Labels}
use Rattle.compose_line.specs.Steps.{told_at, item_in, told_in, Tells}
use Rattle.compose_fields.specs.declared.Optional.{Optional}
use Rattle.compose_fields.specs.declared.Part.{Part}
use Rattle.compose_line.specs.declared.Told.{Told}

-- a fault ends the line
pub tells_wrong : (line : Bytes) (x : Line) (f : Fault) → x ≡ wrong f → Tells line x (Err f)
unfolding told_in
tells_wrong line x f e = record { says = sym e; upward = tt; inside = tt; low = tt; brief = tt }

-- in the arm of `?`
pub tells_err : (line : Bytes) (x : Line) (f : Fault) (r : Result Told Fault) → x ≡ wrong f → IsErrAnd r (λ d. d ≡ f) → Tells line x r
tells_err line x f (Ok t) e p = absurd p
tells_err line x f (Err d) e p = rw p (tells_wrong line x f e)

-- a cell that is placed, or not
tells_at : (line : Bytes) (seen : List ℕ) (t : Told) → t.level ≤ 255 → length line ≤ 255 → t.start ≤ t.end → t.end ≤ length line
    → Tells line (placed (length seen) seen t.level (item_in line t)) (told_at seen t)
unfolding placed told_at told_in item_in
tells_at line seen t o m h g = go (lower (length seen) t.parent && eqb t.level (level_under seen t.parent))
  where
    go : (y : Bool) → Tells line (cond y (cell t.level (item_in line t)) (wrong Misplaced)) (cond y (Ok t) (Err Misplaced))
    go true = record { says = refl; upward = h; inside = g; low = o; brief = omega arith }
    go false = record { says = refl; upward = tt; inside = tt; low = tt; brief = tt }

-- what is left out has its usual value
pub usual_is : (o : Optional) (u : ℕ) → unwrap_or o.value u ≡ or_usual u (given_of o)
unfolding or_usual given_of
usual_is o u = go o.value
  where
    go : (v : Rattle.std.specs.Prelude.Option ℕ) → unwrap_or v u ≡ or_usual u (elim v [ Some w ↦ some w | None ↦ none ])
    go (Some w) = refl
    go None = refl

pub usual_within : (o : Rattle.std.specs.Prelude.Option ℕ) (u k m : ℕ) → u ≤ m → k ≤ m → IfSome o (λ v. v ≤ k) → unwrap_or o u ≤ m
usual_within (Some v) u k m h l g = omega arith
usual_within None u k m h l g = h

last_small : (l c best : ℕ) (ms : List ℕ) → best ≤ 65535 → c + length ms ≤ 65535 → last_less l c best ms ≤ 65535
unfolding last_less
last_small l c best [] h g = h
last_small l c best (m ∷ ms) h g = last_small l (suc c) (cond (ltb m l) c best) ms (go (ltb m l)) (omega arith)
  where
    go : (y : Bool) → cond y c best ≤ 65535
    go true = omega arith
    go false = h

pub nearest_small : (l : ℕ) (seen : List ℕ) → length seen ≤ 256 → nearest l seen ≤ 65535
unfolding nearest
nearest_small l seen h = last_small l 0 no_parent seen (omega arith) (omega arith)

-- ---- one field after another
module _ (seen : List ℕ) (l k : ℕ) (line : Bytes) (at : ℕ) where
  abbrev x : Line
  x = fields_read (length seen) seen l k (drop at line)

  abbrev after_width : Option ℕ → Bytes → Line
  after_width w = optional depth_word most_byte (λ d. optional rank_word most_byte (λ q. optional under_word most_byte (λ u. labelled (told (length seen) seen l k w d q u))))

  pub fields_1 : (f : Fault) → Options width_word most_pair line at (Err f) → x ≡ wrong f
  unfolding fields_read went
  fields_1 f o = o.follows after_width

  module _ (w : Optional) (ow : Options width_word most_pair line at (Ok w)) where
    abbrev after_depth : Option ℕ → Bytes → Line
    after_depth d = optional rank_word most_byte (λ q. optional under_word most_byte (λ u. labelled (told (length seen) seen l k (given_of w) d q u)))

    first-is : x ≡ after_width (given_of w) (drop w.next line)
    unfolding fields_read went
    first-is = ow.follows after_width

    pub fields_2 : (f : Fault) → Options depth_word most_byte line w.next (Err f) → x ≡ wrong f
    unfolding went
    fields_2 f o = first-is ∙ o.follows after_depth

    module _ (d : Optional) (od : Options depth_word most_byte line w.next (Ok d)) where
      abbrev after_rank : Option ℕ → Bytes → Line
      after_rank q = optional under_word most_byte (λ u. labelled (told (length seen) seen l k (given_of w) (given_of d) q u))

      second_is : x ≡ after_depth (given_of d) (drop d.next line)
      unfolding went
      second_is = first-is ∙ od.follows after_depth

      pub fields_3 : (f : Fault) → Options rank_word most_byte line d.next (Err f) → x ≡ wrong f
      unfolding went
      fields_3 f o = second_is ∙ o.follows after_rank

      module _ (q : Optional) (oq : Options rank_word most_byte line d.next (Ok q)) where
        abbrev after_under : Option ℕ → Bytes → Line
        after_under u = labelled (told (length seen) seen l k (given_of w) (given_of d) (given_of q) u)

        third-is : x ≡ after_rank (given_of q) (drop q.next line)
        unfolding went
        third-is = second_is ∙ oq.follows after_rank

        pub fields_4 : (f : Fault) → Options under_word most_byte line q.next (Err f) → x ≡ wrong f
        unfolding went
        fields_4 f o = third-is ∙ o.follows after_under

        module _ (u : Optional) (ou : Options under_word most_byte line q.next (Ok u)) where
          abbrev after_label : Bytes → Line
          after_label = told (length seen) seen l k (given_of w) (given_of d) (given_of q) (given_of u)

          fourth-is : x ≡ after_under (given_of u) (drop u.next line)
          unfolding went
          fourth-is = third-is ∙ ou.follows after_under

          pub fields_5 : (f : Fault) → Labels line u.next (Err f) → x ≡ wrong f
          unfolding label_in
          fields_5 f o = fourth-is ∙ o.follows after_label

          module _ (t : Part) (ot : Labels line u.next (Ok t)) where
            fifth_is : x ≡ after_label (text_in line t)
            unfolding label_in
            fifth_is = fourth-is ∙ ot.follows after_label

            text-long : length (text_in line t) ≡ t.end - t.start
            unfolding text_in
            text-long = length-take-le (t.end - t.start) (drop t.start line) (rw (length-drop t.start line) (omega (arith, ot.upward, ot.inside)))

            -- the cell
            pub fields_0 : l ≤ 255 → length line ≤ 255 → (parent width depth rank : ℕ) (r : Result Told Fault) → parent ≡ or_usual (nearest l seen) (given_of u) → width ≡ or_usual (t.end - t.start + border k) (given_of w)
                → depth ≡ or_usual 1 (given_of d) → rank ≡ or_usual 0 (given_of q) → r ≡ told_at seen (record { level = l; parent = parent; kind = k; width = width; depth = depth; rank = rank; start = t.start; end = t.end }) → Tells line x r
            unfolding told natural text_in item_in
            fields_0 o oo p' w' d' q' r a b e f g =
                let m : told (length seen) seen l k (given_of w) (given_of d) (given_of q) (given_of u) (text_in line t)
                ≡ placed (length seen) seen l (record { cell = record { parent = p'; kind = k; width = w'; depth = d'; rank = q' }; text = take (t.end - t.start) (drop t.start line) }) = rw (text-long, a, b, e, f) refl
                in
                rw (g, fifth_is ∙ m) (tells_at line seen (record { level = l; parent = p'; kind = k; width = w'; depth = d'; rank = q'; start = t.start; end = t.end }) o oo ot.upward ot.inside)

-- ---- a cell in its place, as the code tests it
pub lower-first : (c p : ℕ) → c ≡ 0 → eqb p 65535 ≡ lower c p
unfolding lower
lower-first c p e = rw e refl

pub told_high : (seen : List ℕ) (t : Told) → lower (length seen) t.parent ≡ false → Err Misplaced ≡ told_at seen t
unfolding told_at
told_high seen t a = rw a refl

pub told_aside : (seen : List ℕ) (t : Told) → lower (length seen) t.parent ≡ true → ¬ (t.level ≡ level_under seen t.parent) → Err Misplaced ≡ told_at seen t
unfolding told_at
told_aside seen t a n = rw (a, ne_eqb t.level (level_under seen t.parent) n) refl

pub told-placed : (seen : List ℕ) (t : Told) → lower (length seen) t.parent ≡ true → t.level ≡ level_under seen t.parent → Ok t ≡ told_at seen t
unfolding told_at
told-placed seen t a m = rw (a, eq-eqb t.level (level_under seen t.parent) m) refl
