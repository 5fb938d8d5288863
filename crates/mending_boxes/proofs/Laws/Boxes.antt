-- Which boxes are mended, and to what: laws of specs/Boxes.antt. Assumes nothing.
use Rattle.std.specs.Prelude.{◌≡◌, refl, Bool, true, false, ◌&&◌, ◌||◌, not, cond, ℕ, zero, suc, ◌+◌, ◌≤◌, ◌<◌, T, eqb, leb}
use Rattle.std.proofs.Common.{arith, leb→le}
use Rattle.whole.specs.Says.{Says}
use Rattle.whole.proofs.Laws.Says.{both, says_le, says_lt, says_eq, is_true, is_false, holds, itself}
use Rattle.plan.specs.Limits.{most_label}
use Rattle.plan.specs.Forms.{widest}
use Rattle.plan.specs.Kinds.{about, known, bordered}
use Rattle.plan.specs.Questions.{asked}
use Rattle.plan.proofs.Laws.Questions.{both-none, asked_yes}
use Rattle.plan.specs.Steps.{cell_refusal}
use Rattle.plan.proofs.Laws.Steps.{cell-passed, sized-deep}
use Rattle.plan.specs.declared.Record.{Record}
use Rattle.plan.specs.declared.forms.Form.{Form}
use Rattle.std.specs.Prelude.{Option}
use Rattle.plan.specs.declared.kinds.Kind.{Kind}
use Rattle.std.specs.Prelude.{Some, None}
use Rattle.planfile_spec.specs.FileSteps.{inside, record_refusal}
use Rattle.mending_boxes.specs.Boxes.{least_width, mendable, cramped, shallow, narrow, flat, new_width, new_depth, changed}

-- a border is at most 4
pub least_small : (k n : ℕ) → least_width k n ≤ n + 4
unfolding least_width about
least_small zero n = omega arith
least_small (suc zero) n = omega arith
least_small (suc (suc zero)) n = omega arith
least_small (suc (suc (suc zero))) n = omega arith
least_small (suc (suc (suc (suc zero)))) n = omega arith
least_small (suc (suc (suc (suc (suc zero))))) n = omega arith
least_small (suc (suc (suc (suc (suc (suc k)))))) n = omega arith

-- question 10 answered yes
pub least_held : (k n w : ℕ) → T (bordered k n w) → least_width k n ≤ w
unfolding least_width bordered
least_held k n w h = go (about k) h
  where
    go : (l : Option Kind) → T (elim l [ Some r ↦ leb (n + r.border) w | None ↦ false ]) → elim l [ Some r ↦ n + r.border | None ↦ 0 ] ≤ w
    go (Some r) h = leb→le _ w h
    go None h = absurd h

pub says_cramped : (k n w : ℕ) → Says (cramped k n w) (T (mendable k n) × (w < least_width k n))
unfolding cramped
says_cramped k n w = both (itself (mendable k n)) (says_lt w (least_width k n))

pub says_shallow : (k n d : ℕ) → Says (shallow k n d) (T (mendable k n) × (d ≡ 0))
unfolding shallow
says_shallow k n d = both (itself (mendable k n)) (says_eq d 0)

pub mendable_short : (k n : ℕ) → T (mendable k n) → n ≤ most_label
unfolding mendable
mendable_short k n h = ((both (itself (known k)) (says_le n most_label)).read h).1

-- ---- a record that needs no mending
pub record Sound (r : Record) : Type 0 where
  pub wide : narrow r ≡ false
  pub deep : flat r ≡ false

pub sound_unchanged : (r : Record) → Sound r → changed r ≡ false
unfolding changed
sound_unchanged r s = rw (s.wide, s.deep)

-- one that 6 to 10 pass
pub passed-sound : (form : Form) (begin c : ℕ) (r : Record)
    → (record_refusal form begin c r.parent r.kind r.width r.depth r.label_length r.label_start).number ≡ 0 → Sound r
unfolding record_refusal
passed-sound form begin c r e =
    let (a, b) = both-none (cell_refusal (widest form) c r.parent r.kind r.width r.depth) _ e in
    let (x, y) = both-none (asked 9 (inside begin r.label_length r.label_start) c) _ b in
    let deep = sized-deep (widest form) r.width r.depth (cell-passed (widest form) c _ _ _ _ a).is_sized in
    let held = least_held r.kind r.label_length r.width (asked_yes 9 (bordered r.kind r.label_length r.width) c y) in
    record {
      wide = is_false (says_cramped r.kind r.label_length r.width) (λ p. omega (arith, p.1));
      deep = is_false (says_shallow r.kind r.label_length r.depth) (λ p. omega (arith, p.1));
    }

-- ---- a record after mending: all else as it was
abbrev pub mended_record : Record → Record
mended_record r =
    record { parent = r.parent; kind = r.kind; width = new_width r; depth = new_depth r; rank = r.rank; label_length = r.label_length; label_start = r.label_start }

wide_enough : (k n w : ℕ) → cramped k n (cond (cramped k n w) (least_width k n) w) ≡ false
wide_enough k n w = go (cramped k n w) refl
  where
    go : (b : Bool) → cramped k n w ≡ b → cramped k n (cond b (least_width k n) w) ≡ false
    go true e = is_false (says_cramped k n (least_width k n)) (λ p. omega (arith, p.1))
    go false e = e

deep-enough : (k n d : ℕ) → shallow k n (cond (shallow k n d) 1 d) ≡ false
deep-enough k n d = go (shallow k n d) refl
  where
    go : (b : Bool) → shallow k n d ≡ b → shallow k n (cond b 1 d) ≡ false
    go true e = is_false (says_shallow k n 1) (λ p. omega (arith, p.1))
    go false e = e

-- it needs no more
pub mended-sound : (r : Record) → Sound (mended_record r)
unfolding new_width new_depth
mended-sound r = record { wide = wide_enough r.kind r.label_length r.width; deep = deep-enough r.kind r.label_length r.depth }

-- ---- a cell is altered exactly where its width or its depth is another then
width-differs : (k n w : ℕ) → eqb (cond (cramped k n w) (least_width k n) w) w ≡ not (cramped k n w)
width-differs k n w = go (cramped k n w) refl
  where
    go : (b : Bool) → cramped k n w ≡ b → eqb (cond b (least_width k n) w) w ≡ not b
    go true e = let p = holds (says_cramped k n w) e in is_false (says_eq (least_width k n) w) (λ q. omega (arith, p.1))
    go false e = is_true (says_eq w w) refl

depth_differs : (k n d : ℕ) → eqb (cond (shallow k n d) 1 d) d ≡ not (shallow k n d)
depth_differs k n d = go (shallow k n d) refl
  where
    go : (b : Bool) → shallow k n d ≡ b → eqb (cond b 1 d) d ≡ not b
    go true e = let p = holds (says_shallow k n d) e in is_false (says_eq 1 d) (λ q. omega (arith, p.1))
    go false e = is_true (says_eq d d) refl

pub changed-differs : (r : Record) → not (eqb (new_width r) r.width && eqb (new_depth r) r.depth) ≡ changed r
unfolding new_width new_depth changed
changed-differs r = rw (width-differs r.kind r.label_length r.width, depth_differs r.kind r.label_length r.depth) (de_morgan (narrow r) (flat r))
  where
    de_morgan : (a b : Bool) → not (not a && not b) ≡ a || b
    de_morgan true b = refl
    de_morgan false true = refl
    de_morgan false false = refl
