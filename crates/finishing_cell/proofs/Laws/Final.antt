-- The marks of a finished cell are final. Lengths, and the number of steps. Assumes nothing.
use Rattle.std.specs.Prelude.{◌≡◌, ◌≢◌, Bool, true, false, cond, length, get_or, set, T, ltb, pos}
use Rattle.std.proofs.Math.Path.{refl, ap, sym, subst}
use Rattle.std.proofs.Common.{◌∙◌, arith, length-set, length-append, length-drop, take-append-drop}
use mathlib.Core.List.{List, [], ◌∷◌, ◌++◌}
use Prim.Native.Nat.{ℕ, zero, suc, ◌+◌, ◌-◌, ◌*◌, ◌≤◌, ◌<◌, max, min}
use Rattle.std.proofs.Math.ListN.{take, drop, length-replicate, length-take, get_or-append}
use Rattle.std.proofs.Math.Seq.{get_or-set_same, get_or-take, set-set, set-get_or, take-length}
use Rattle.contours.specs.Sheet.{sheet}
use Rattle.joining.specs.Joining.{Memory, memory_of, mark, noted, height, joined_rows, completed, settled, settled_at, settled_apart}
use Rattle.joining_cells.proofs.Laws.Marks.{length-four, mark-other, noted_else}
use Rattle.least.proofs.Laws.Measures.{sheet-left, sheet-right}
use Rattle.links.proofs.Laws.Linked.{zeros_get}
use Rattle.plan.specs.Limits.{scratch_size, second_size}
use Rattle.plan.specs.Lists.{index}
use Rattle.plan.specs.Plan.{Table, Sound, box_width, box_depth, parent, children, place, level, row}
use Rattle.plan.proofs.Laws.Lists.{mem-here, mem_there}
use Rattle.plan.proofs.Laws.Paths.{row_suc}
use Rattle.rows.specs.Rows.{row_size, upto_rows, beyond_rows}
use Rattle.rows.proofs.Laws.Rows.{box_to-length, put_to-length, box-beside}
use Rattle.rules.specs.Placement.{left_extent, right_extent}
use Rattle.walk.specs.Machine.{Chart, stretch, root_closed}
use Rattle.walk.specs.Walked.{Suits}
use Rattle.plan.specs.Lists as lists
use Rattle.finishing_order.specs.Postorder.{postorder}
use Rattle.finishing_cell.specs.Made.{finishes, work, cleared, worked, made}
use Rattle.finishing_guard.specs.Guard.{count_at}
use Rattle.finishing_order.proofs.Laws.Members.{Stays, ordered_later, order_ordered, order_is, order_length, mem-left}
use Rattle.finishing_cell.proofs.Laws.Passed.{work-append}
use Rattle.finishing_cell.proofs.Laws.Whole.{ended}

-- ---- one cell: what it leaves
module _ (t : Table) (al : ℕ) (m : Memory) (at f c d w p apt x i : ℕ) (l : i < 4) (nc : x ≢ c) (nf : x ≢ f) where
  completed_else : mark (completed m at c d w).marks x i ≡ mark m.marks x i
  unfolding completed
  completed_else = mark-other m.marks c _ _ _ _ x i l nc

  settled_else : (m : Memory) (hs : ℕ) → mark (settled m at f c hs p apt al).marks x i ≡ mark m.marks x i
  unfolding settled
  settled_else m hs = go p
    where
      go : (q : ℕ) → mark (settled_at m at f c hs q apt al).marks x i ≡ mark m.marks x i
      go zero = mark-other m.marks f _ _ _ _ x i l nf
      go (suc q) = mark-other (noted m.marks c _) f _ _ _ _ x i l nf ∙ noted_else m.marks c _ x i (omega arith)

finishes_else : (t : Table) (al c : ℕ) (m : Memory) (x i : ℕ) → i < 4 → Stays t x c → mark (finishes t al c m).marks x i ≡ mark m.marks x i
unfolding finishes root_closed
finishes_else t al zero m x i l s = completed_else t al m 0 0 0 (box_depth t 0) (box_width t 0) 0 0 x i l (λ e. s.0 (sym e)) (λ e. s.0 (sym e))
finishes_else t al (suc p) m x i l s =
    let f = parent t (suc p) in
    let c = suc p in
    let nc : x ≢ c = (λ e. s.0 (sym e)) in
    let nf : x ≢ f = (λ e. s.1 (omega arith) (sym e)) in
    let v = memory_of (stretch m.rows (row t c) (joined_rows m.marks f c (box_depth t c))) m.marks in
    settled_else t al v (2 * level t f) f c (box_depth t c) (box_width t c) (index c (children t f)) (place t f (length (children t f))) x i l nc nf _ _ ∙ completed_else t al v (2 * level t f + 2) f c (box_depth t c) (box_width t c) 0 0 x i l nc nf

work_else : (t : Table) (al : ℕ) (l : List ℕ) (m : Memory) (x i : ℕ) → i < 4 → ((c : ℕ) → T (lists.mem c l) → Stays t x c) → mark (work t al l m).marks x i ≡ mark m.marks x i
unfolding work
work_else t al [] m x i lt h = refl
work_else t al (c ∷ l) m x i lt h = work_else t al l (finishes t al c m) x i lt (λ d k. h d (mem_there d c l k)) ∙ finishes_else t al c m x i lt (h c (mem-here c c l refl))

-- ---- lengths
completed-long : (m : Memory) (at c d w : ℕ) → (length (completed m at c d w).rows ≡ length m.rows) × (length (completed m at c d w).marks ≡ length m.marks)
unfolding completed
completed-long m at c d w = (box_to-length m.rows at w (d + 1), length-four m.marks c _ _ _ _)

settled-long : (m : Memory) (at f c hs p apt al : ℕ) → (length (settled m at f c hs p apt al).rows ≡ length m.rows) × (length (settled m at f c hs p apt al).marks ≡ length m.marks)
unfolding settled
settled-long m at f c hs zero apt al = (put_to-length m.rows at _ _ hs, length-four m.marks f _ _ _ _)
settled-long m at f c hs (suc p) apt al = (go (ltb apt (suc p)), length-four (noted m.marks c _) f _ _ _ _ ∙ length-set m.marks _ _)
  where
    g : ℕ
    g = settled_apart m at f c hs al

    go : (z : Bool) → length (cond z (beyond_rows m.rows at (mark m.marks f 2 + g) hs) (upto_rows m.rows at (mark m.marks f 0) g (max (mark m.marks f 0) hs))) ≡ length m.rows
    go true = put_to-length m.rows at _ _ hs
    go false = put_to-length m.rows at _ _ (max (mark m.marks f 0) hs)

pub record Long (m : Memory) : Type 0 where
  pub rows : length m.rows ≡ scratch_size
  pub marks : length m.marks ≡ second_size

-- a stretch of as many numbers in the place of another
around : (a n l : ℕ) {p q r u v w : ℕ} → q ≡ u + v → p ≡ min a l → w ≡ min n r → r ≡ l - a → v ≡ l - (a + n) → u ≡ w → p + q ≡ l
around a n l e₁ e₂ e₃ e₄ e₅ e₆ = omega arith

finishes-long : (t : Table) (al c : ℕ) (m : Memory) → Long m → Long (finishes t al c m)
unfolding finishes root_closed
finishes-long t al zero m h =
    let e = completed-long m 0 0 (box_depth t 0) (box_width t 0) in
    record { rows = box_to-length _ 0 0 _ ∙ e.0 ∙ h.rows; marks = e.1 ∙ h.marks }
finishes-long t al (suc p) m h =
    let f = parent t (suc p) in
    let c = suc p in
    let a = row_size * row t c in
    let n = row_size * joined_rows m.marks f c (box_depth t c) in
    let v = memory_of (take n (drop a m.rows)) m.marks in
    let at = 2 * level t f in
    let u = completed v (at + 2) c (box_depth t c) (box_width t c) in
    let e₁ = completed-long v (at + 2) c (box_depth t c) (box_width t c) in
    let e₂ = settled-long u at f c (height m.marks c (box_depth t c)) (index c (children t f)) (place t f (length (children t f))) al in
    record {
      rows = length-append (take a m.rows) _ ∙ around a n (length m.rows) (length-append (settled u at f c (height m.marks c (box_depth t c)) (index c (children t f)) (place t f (length (children t f))) al).rows (drop (a + n) m.rows)) (length-take a m.rows) (length-take n (drop a m.rows)) (length-drop a m.rows) (length-drop (a + n) m.rows) (e₂.0 ∙ e₁.0) ∙ h.rows;
      marks = e₂.1 ∙ e₁.1 ∙ h.marks;
    }

work-long : (t : Table) (al : ℕ) (l : List ℕ) (m : Memory) → Long m → Long (work t al l m)
unfolding work
work-long t al [] m h = h
work-long t al (c ∷ l) m h = work-long t al l (finishes t al c m) (finishes-long t al c m h)

pub worked-long : (t : Table) (al k : ℕ) → Long (worked t al k)
unfolding worked cleared
worked-long t al k = work-long t al (take k (postorder t)) _ (record { rows = length-replicate {A = ℕ} scratch_size 0; marks = length-replicate {A = ℕ} (second_size) 0 })

-- ---- the place of the number of steps is not used
module _ (t : Table) (sound : Sound t) (al : ℕ) where
  finishes-count : (c : ℕ) (m : Memory) → Long m → get_or (finishes t al c m).rows count_at 0 ≡ get_or m.rows count_at 0
  unfolding finishes root_closed completed
  finishes-count zero m h = box-beside _ 0 0 _ (omega arith) 0 63 (omega arith) (omega arith) (omega arith) ∙ box-beside m.rows 0 (box_width t 0) (box_depth t 0 + 1) (omega arith) 0 63 (omega arith) (omega arith) (omega arith)
  finishes-count (suc p) m h =
      let a = row_size * row t (suc p) in
      let far : count_at < a = omega (arith, row_suc t sound p) in
      get_or-append (take a m.rows) _ 0 count_at (omega (arith, length-take a m.rows, h.rows)) ∙ get_or-take a m.rows count_at 0 far

  work-count : (l : List ℕ) (m : Memory) → Long m → get_or (work t al l m).rows count_at 0 ≡ get_or m.rows count_at 0
  unfolding work
  work-count [] m h = refl
  work-count (c ∷ l) m h = work-count l (finishes t al c m) (finishes-long t al c m h) ∙ finishes-count c m h

  pub worked-count : (k : ℕ) → get_or (worked t al k).rows count_at 0 ≡ 0
  unfolding worked cleared
  worked-count k = work-count (take k (postorder t)) _ (record { rows = length-replicate {A = ℕ} scratch_size 0; marks = length-replicate {A = ℕ} (second_size) 0 }) ∙ zeros_get scratch_size count_at

  -- the number of steps is read, and taken out again
  pub count-read : (k : ℕ) → get_or (made t al k).rows count_at 0 ≡ k
  unfolding made
  count-read k = get_or-set_same (worked t al k).rows count_at k 0 (omega (arith, (worked-long t al k).rows))

  pub count_out : (k : ℕ) → set (made t al k).rows count_at 0 ≡ (worked t al k).rows
  unfolding made
  count_out k = set-set (worked t al k).rows count_at k 0 ∙ ap (set (worked t al k).rows count_at) (sym (worked-count k)) ∙ set-get_or (worked t al k).rows count_at 0

-- ---- the marks of a finished cell are those of the complete sheet
module _ (t : Table) (b : Chart) (su : Suits t b) where
  abbrev al : ℕ
  al = b.allowance

  pub final : (k x i : ℕ) → k ≤ length t → i < 4 → T (lists.mem x (take k (postorder t))) → mark (made t al k).marks x i ≡ mark (worked t al (length t)).marks x i
  unfolding made worked
  final k x i l lt m =
      let o = postorder t in
      let all : take (length t) o ≡ take k o ++ drop k o = whole ∙ sym (take-append-drop k o) in
      rw (all, work-append t al (take k o) (drop k o) cleared)
      (sym (work_else t al (drop k o) (work t al (take k o) cleared) x i lt (λ c n. ordered_later t o (order_ordered t su.fit.sound) k x m c n)))
    where
      whole : take (length t) (postorder t) ≡ postorder t
      whole = subst (λ (n : ℕ). take n (postorder t) ≡ postorder t) (order_length t su.fit.sound su.fit.some_cell) (take-length (postorder t))

  take-mem : (x k : ℕ) (l : List ℕ) → T (lists.mem x (take k l)) → T (lists.mem x l)
  take-mem x k l h = subst (λ (z : List ℕ). T (lists.mem x z)) (take-append-drop k l) (mem-left x (take k l) (drop k l) h)

  -- THE REACH of a finished cell: that of the complete sheet
  pub record Reaches (ms : List ℕ) (x : ℕ) : Type 0 where
    pub left : pos (mark ms x 1) ≡ left_extent t (sheet t al) x
    pub right : pos (mark ms x 2) ≡ right_extent t (sheet t al) x

  pub reaches : (k x : ℕ) → k ≤ length t → T (lists.mem x (take k (postorder t))) → Reaches (made t al k).marks x
  reaches k x l m =
      let i = order_is t su.fit.sound su.fit.some_cell x (take-mem x k (postorder t) m) in
      let r = (ended t b su).marked x i in
      record {
        left = ap pos (final k x 1 l (omega arith) m ∙ r.left_of) ∙ sym (sheet-left t su.fit.sound al x i);
        right = ap pos (final k x 2 l (omega arith) m ∙ r.right_of) ∙ sym (sheet-right t su.fit.sound al x i);
      }
